-- The answers that a machine of snapshots meets, and what is told of them.
use Rattle.std.proofs.Common.{◌≡◌, ℕ, ◌<◌, ◌≤◌, Bool, true, false, List, [], ◌∷◌, ◌++◌, length, length-append, arith, refl, sym, ap, subst, inl, inr, Option, Some, None}
use Rattle.std.specs.Prelude.{◌⊎◌, codes}
use Rattle.board_model.specs.declared.answer.Answer.TheVariants as answer
use Rattle.board_model.specs.declared.answer.Reply.TheVariants as reply
use Rattle.board_model.specs.LineGrammar.{is_name}
use Rattle.script_model.specs.ScriptAnswers.{IsScriptAnswer, ScriptAnswer, is_refused, of_boards}
use Rattle.script_model.specs.ScriptGrammar.{IsScriptLine, SpellsLine, script_spell}
use Rattle.script_model.specs.ScriptSession.{IsRight, Session}
use Rattle.script_model.specs.LawsOfComposition.{Pair, state_met}
use Rattle.script_moments.specs.Moments.{Moment}
use Rattle.script_moments.specs.LawsOfTurns.{StepsOn}
use Rattle.script_feed.specs.KeptOf.{KeepsIfAny}
use Rattle.script_feed.proofs.GivenLemmas.{named_at, short_name}
use Rattle.script_exchanges.specs.DrivenParties.{Got, party_text}
use Rattle.script_exchanges.specs.Exchanges.{said}
use Rattle.script_snapshots.specs.Takings.{Outcome, Taking, ended, goes_on, moment_of, next_handle, next_line, next_of, snapshot_text, whole}
use Rattle.script_snapshots.specs.SnapshotExchanges.{kept_of, said_of}
use Rattle.script_snapshots.proofs.TakingLemmas.{FitsTaking, IsSound, fits}
use Rattle.script_shots.specs.declared.shot.Progress.TheVariants.{GoesOn, Refused, Whole}
use Rattle.script_shots.specs.declared.shot.Shot.{Shot}
use Rattle.script_shots.specs.Shots.{Fits, FitsGet, IsGetting, IsGoingOn, IsProgress, Keeps, SaysWhole}

-- ---- a right answer fits

steps_fit : (party : List ℕ) (m : Moment) → StepsOn party m → IsScriptAnswer m.pair.1 → IsGoingOn m.pair.1 ⊎ IsGetting m.pair.1
steps_fit party m (inl g) ok =
    let e : m.pair.1 ≡ of_boards (answer.Step g.0 None) = ap (λ (p : Pair). p.1) g.1 in
    inl (g.0, subst IsScriptAnswer e ok, e)
steps_fit party m (inr g) ok =
    let got : Got = record { type = g.0; words = g.1; generation = g.2 } in
    let e : m.pair.1 ≡ of_boards (answer.Step g.3.0 (Some (reply.Got g.0 g.1 g.2))) = ap (λ (p : Pair). p.1) g.3.1 in
    inr (g.3.0, got, subst IsScriptAnswer e ok, e)

get_fits : (fed : Session) (party : List ℕ) (x : Taking) (a : ScriptAnswer) (o : Option (Moment × List Moment)) → FitsTaking fed party x a o → IsScriptAnswer a → FitsGet o a
get_fits fed party x a None f ok = tt
get_fits fed party x a (Some get) f ok = steps_fit party (moment_of fed party x a) f ok

pub right_fits : (fed : Session) (party : List ℕ) (x : Taking) (a : ScriptAnswer) → IsSound fed party x → IsRight (state_met fed) (next_line party x) a → Fits x a
right_fits fed party x a h right = at (is_refused a) refl
  where
    at : (b : Bool) → is_refused a ≡ b → Fits x a
    at true e = inl e
    at false e = inr (e, get_fits fed party x a x.shot.begun (fits fed party x a h right) right.answer)

-- ---- the next line is one of the grammar

next_is_line : (party handle : List ℕ) (o : Option (Moment × List Moment)) → is_name party ≡ true → is_name handle ≡ true → IsScriptLine (next_of party handle o)
next_is_line party handle None p h = (p, (h, tt))
next_is_line party handle (Some get) p h = p

next_is_short : (party handle : List ℕ) (o : Option (Moment × List Moment)) → length party ≤ 16 → length handle ≤ 16 → length (script_spell (next_of party handle o)) ≤ 4096
next_is_short party handle None p h = omega (arith, length-append (codes "begin") (32 ∷ (party ++ 32 ∷ (codes "get" ++ 32 ∷ handle))), length-append party (32 ∷ (codes "get" ++ 32 ∷ handle)), length-append (codes "get") (32 ∷ handle))
next_is_short party handle (Some get) p h = omega (arith, length-append (codes "step") (32 ∷ party))

pub next_spelled : (c : Shot) (party : List ℕ) (x : Taking) (line : List ℕ) → Keeps c x → length x.shot.gets < length x.handles → is_name party ≡ true → line ≡ script_spell (next_line party x) → SpellsLine line (next_line party x)
next_spelled c party x line k room named e =
    let handle : is_name (next_handle x) ≡ true = named_at x.handles (length x.shot.gets) k.named room in
    record {
      line = next_is_line party (next_handle x) x.shot.begun named handle;
      bytes = e;
      short = subst (λ (l : List ℕ). length l ≤ 4096) (sym e) (next_is_short party (next_handle x) x.shot.begun (short_name party named) (short_name (next_handle x) handle));
    }

-- ---- what became of a snapshot

pub goes_kept : (c : Shot) (o : Outcome) → IsProgress c GoesOn o → KeepsIfAny Keeps (Some c) (kept_of o)
goes_kept c (goes_on y) h = h
goes_kept c ended h = absurd h
goes_kept c (whole y) h = absurd h

pub goes_said : (c : Shot) (party : List ℕ) (o : Outcome) → IsProgress c GoesOn o → said_of party o ≡ []
goes_said c party (goes_on y) h = refl
goes_said c party ended h = absurd h
goes_said c party (whole y) h = absurd h

pub refused_kept : (c : Shot) (o : Outcome) → IsProgress c Refused o → kept_of o ≡ None
refused_kept c (goes_on y) h = absurd h
refused_kept c ended h = refl
refused_kept c (whole y) h = absurd h

pub refused_said : (c : Shot) (party : List ℕ) (o : Outcome) → IsProgress c Refused o → said_of party o ≡ said (party_text (codes "unsnapped") party) ∷ []
refused_said c party (goes_on y) h = absurd h
refused_said c party ended h = refl
refused_said c party (whole y) h = absurd h

pub whole_kept : (c : Shot) (o : Outcome) → IsProgress c Whole o → kept_of o ≡ None
whole_kept c (goes_on y) h = absurd h
whole_kept c ended h = absurd h
whole_kept c (whole y) h = refl

-- the line of a whole snapshot
pub record IsWholeLine (c : Shot) (party : List ℕ) (o : Outcome) : Type 0 where
  pub taking : Taking
  pub says : SaysWhole c taking
  pub said_is : said_of party o ≡ said (snapshot_text party taking) ∷ []

pub whole_said : (c : Shot) (party : List ℕ) (o : Outcome) → IsProgress c Whole o → IsWholeLine c party o
whole_said c party (goes_on y) h = absurd h
whole_said c party ended h = absurd h
whole_said c party (whole y) h = record { taking = y; says = h; said_is = refl }
