-- What is rightly told of a script's lines is clear, so the fed session is found again in the output.
use Rattle.std.proofs.Common.{◌≡◌, ℕ, Bool, true, false, List, [], ◌∷◌, ◌++◌, length, refl, sym, subst, Option, Some, None}
use Rattle.std.specs.Prelude.{◌==◌, if◌then◌else◌, codes, is_some}
use Rattle.std.specs.Str.{bytes_eq}
use Rattle.board_model.specs.AnswerGrammar.{reply_text}
use Rattle.board_model.specs.declared.answer.Reply.TheVariants as reply
use Rattle.board_model.proofs.ListLemmas.{same_bytes}
use Rattle.script_model.specs.declared.line.ScriptLine.{ScriptLine}
use Rattle.script_model.specs.LawsOfComposition.{state_met}
use Rattle.script_model.specs.ScriptAnswers.{ScriptAnswer, is_refused}
use Rattle.script_model.specs.ScriptGrammar.{script_spell}
use Rattle.script_model.specs.ScriptSession.{IsRight, Session}
use Rattle.script_grammar.proofs.SplitLemmas.{IsFree, free_append}
use Rattle.script_moments.specs.Gets.{Get, Round}
use Rattle.script_moments.specs.Moments.{Moment}
use Rattle.script_exchanges.specs.declared.line.Drive.TheVariants.{Snapshots}
use Rattle.script_exchanges.specs.declared.line.DriveLine.{DriveLine}
use Rattle.script_exchanges.specs.declared.line.DriveLine.TheVariants.{Script, Start, Turn}
use Rattle.script_exchanges.specs.DrivenParties.{Got, abandoned_by, got_by, held_back, if_kept, kept_with, let_go, party_text}
use Rattle.script_exchanges.specs.Exchanges.{AreLinesOf, Exchanges, Told, given}
use Rattle.script_snapshots.specs.Takings.{Outcome, Taking, after_get, after_round, ended, get_text, gets_text, goes_on, is_alike, moment_of, next_handle, next_line, snapshot_text, stepped_get, taken, taken_on, whole}
use Rattle.script_snapshots.specs.SnapshotExchanges.{IsExchange, IsLawful, Leads, OfScript, OfTurn, Takings, kept_of, no_takings, said_of, started}
use Rattle.script_snapshots.proofs.TakingLaws.{IsKept, leads_kept, none_kept}
use Rattle.script_written.specs.GivenLines.{AllIsClear, AreClear, IsClear}
use Rattle.script_written.proofs.ClearLemmas.{AreFree, AreFreeLines, IsFreeLine, got_free, index_free, input_free, name_free, names_free, next_free, pair_clear, said_free, says_clear, text_clear}
use Rattle.script_written.proofs.GivenLemmas.{all_found, all_read}
use Rattle.board_snapshot.specs.LawsOfRuns.{FedSessionsAreWritten, OutputsAreReadBack}

-- ---- how a snapshot is told

get_free : (h : List ℕ) (x : Get) → IsFree 10 h → IsFree 10 (get_text h x)
get_free h x free = free_append 10 h (codes " " ++ reply_text (reply.Got x.type x.words x.generation)) free (got_free x.type x.words x.generation)

gets_free : (hs : List (List ℕ)) (xs : Round) → AreFree hs → IsFree 10 (gets_text hs xs)
gets_free [] xs free = refl
gets_free (h ∷ hs) [] free = refl
gets_free (h ∷ hs) (x ∷ xs) free = free_append 10 (get_text h x) (gets_text hs xs) (get_free h x free.0) (gets_free hs xs free.1)

-- ---- the names that snapshots have

record IsNamed (owner : List ℕ) (x : Taking) : Type 0 where
  party : IsFree 10 owner
  handles : AreFree x.handles

-- what becomes of a snapshot has its handles
abbrev HasHandles : List (List ℕ) → Outcome → Type 0
HasHandles hs (goes_on x) = x.handles ≡ hs
HasHandles hs ended = Unit {0}
HasHandles hs (whole x) = x.handles ≡ hs

round_handles : (x : Taking) (gets : Round) (alike : Bool) → HasHandles x.handles (after_round x gets alike)
round_handles x gets true = refl
round_handles x gets false = refl

get_handles : (x : Taking) (gets : Round) → HasHandles x.handles (after_get x gets)
get_handles x gets = at (length gets == length x.handles)
  where
    at : (b : Bool) → HasHandles x.handles (if b then after_round x gets (is_alike x.shot.rounds gets) else goes_on (record x { shot = record { rounds = x.shot.rounds; gets = gets; begun = None } }))
    at true = round_handles x gets (is_alike x.shot.rounds gets)
    at false = refl

stepped_handles : (x : Taking) (get : Moment × List Moment) (m : Moment) (got : Option Got) → HasHandles x.handles (stepped_get x get m got)
stepped_handles x get m None = refl
stepped_handles x get m (Some got) = get_handles x _

on_handles : (fed : Session) (x : Taking) (o : Option (Moment × List Moment)) (m : Moment) (got : Option Got) → HasHandles x.handles (taken_on fed x o m got)
on_handles fed x None m got = refl
on_handles fed x (Some get) m got = stepped_handles x get m got

taken_handles : (fed : Session) (party : List ℕ) (x : Taking) (a : ScriptAnswer) → HasHandles x.handles (taken fed party x a)
taken_handles fed party x a = at (is_refused a)
  where
    at : (b : Bool) → HasHandles x.handles (if b then ended else taken_on fed x x.shot.begun (moment_of fed party x a) (got_by a))
    at true = tt
    at false = on_handles fed x x.shot.begun (moment_of fed party x a) (got_by a)

-- ---- what holds after exchanges

record IsHeld (s : Takings) : Type 0 where
  kept : IsKept s
  named : (party : List ℕ) (x : Taking) → s.of party ≡ Some x → IsNamed party x

some_is : {A : Type 0} (y x : A) → Some y ≡ Some x → y ≡ x
some_is y x e = cc

-- one party's is this, and the others' are as before
kept_named : (of : List ℕ → Option Taking) (q : List ℕ) (o : Option Taking) → ((p : List ℕ) (x : Taking) → of p ≡ Some x → IsNamed p x) → ((x : Taking) → o ≡ Some x → IsFree 10 q × AreFree x.handles) → (p : List ℕ) (x : Taking) → kept_with of q o p ≡ Some x → IsNamed p x
kept_named of q o h k p x = at (bytes_eq p q) refl
  where
    at : (b : Bool) → bytes_eq p q ≡ b → (if b then o else of p) ≡ Some x → IsNamed p x
    at true same e = let n = k x e in record { party = subst (IsFree 10) (sym (same_bytes p q same)) n.0; handles = n.1 }
    at false apart e = h p x e

let_go_named : (of : List ℕ → Option Taking) (o : Option (List ℕ)) (refused : Bool) → ((p : List ℕ) (x : Taking) → of p ≡ Some x → IsNamed p x) → (p : List ℕ) (x : Taking) → let_go of o refused p ≡ Some x → IsNamed p x
let_go_named of None refused h p x e = h p x e
let_go_named of (Some q) true h p x e = h p x e
let_go_named of (Some q) false h p x e = kept_named of q None h (λ y k. absurd cc) p x e

abbrev Names : (List ℕ → Option Taking) → Type 0
Names of = (party : List ℕ) (x : Taking) → of party ≡ Some x → IsNamed party x

script_named : (s t : Takings) (l : ScriptLine) (told : List Told) (o : Option (List ℕ)) → Names s.of → OfScript s l o told t → Names t.of
script_named s t l told None h k = subst (λ (u : Takings). Names u.of) (sym k.after) (let_go_named s.of (abandoned_by l) (is_refused k.answer) h)
script_named s t l told (Some party) h k = subst (λ (u : Takings). Names u.of) (sym k.1) h

start_named : (s : Takings) (party : List ℕ) (handles : List (List ℕ)) (o : Option Taking) → Names s.of → IsFree 10 party → AreFree handles → Names (started s party handles o).of
start_named s party handles (Some x) h p hs = h
start_named s party handles None h p hs = kept_named s.of party _ h (λ x e. (p, subst (λ (y : Taking). AreFree y.handles) (some_is _ x e) hs))

outcome_named : (party : List ℕ) (hs : List (List ℕ)) (o : Outcome) (x : Taking) → HasHandles hs o → AreFree hs → kept_of o ≡ Some x → AreFree x.handles
outcome_named party hs (goes_on y) x h free e = subst (λ (z : Taking). AreFree z.handles) (some_is y x e) (subst AreFree (sym h) free)
outcome_named party hs ended x h free e = absurd cc
outcome_named party hs (whole y) x h free e = absurd cc

turn_named : (s t : Takings) (party : List ℕ) (told : List Told) (o : Option Taking) → Names s.of → s.of party ≡ o → OfTurn s party o told t → Names t.of
turn_named s t party told None h e k = subst (λ (u : Takings). Names u.of) (sym k.1) h
turn_named s t party told (Some y) h e k =
    let n = h party y e in
    subst (λ (u : Takings). Names u.of) (sym k.after)
    (kept_named s.of party (kept_of (taken s.fed party y k.answer)) h
    (λ x f. (n.party, outcome_named party y.handles (taken s.fed party y k.answer) x (taken_handles s.fed party y k.answer) n.handles f)))

exchange_named : (s t : Takings) (l : DriveLine) (told : List Told) → Names s.of → IsExchange s l told t → Names t.of
exchange_named s t (Script l) told h x = script_named s t l told (if_kept s.of (held_back l)) h x.exchanged
exchange_named s t (Start party handles) told h x = subst (λ (u : Takings). Names u.of) (sym x.exchanged.1) (start_named s party handles (s.of party) h (name_free party x.line.0) (names_free handles x.line.1.named))
exchange_named s t (Turn party) told h x = turn_named s t party told (s.of party) h refl x.exchanged

exchange_held : (s t : Takings) (l : DriveLine) (told : List Told) → IsHeld s → IsExchange s l told t → IsHeld t
exchange_held s t l told h x = record {
  kept = leads_kept ((l, told) ∷ []) s t h.kept (t, x, refl);
  named = exchange_named s t l told h.named x;
}

-- ---- what is told is clear

answer_free : (s : Takings) (l : ScriptLine) (a : ScriptAnswer) → IsHeld s → IsFree 10 (script_spell l) → IsRight (state_met s.fed) l a → IsClear (given (l, a))
answer_free s l a h line right = pair_clear s.fed l a h.kept.lawful line right

-- the party for which a line is held back takes a snapshot
held_named : (s : Takings) (o : Option (List ℕ)) (party : List ℕ) → Names s.of → if_kept s.of o ≡ Some party → IsFree 10 party
held_named s None party h e = absurd cc
held_named s (Some q) party h e = at (s.of q) refl e
  where
    at : (r : Option Taking) → s.of q ≡ r → (if is_some r then Some q else None) ≡ Some party → IsFree 10 party
    at None k f = absurd cc
    at (Some x) k f = subst (IsFree 10) (some_is q party f) (h q x k).party

script_clear : (s t : Takings) (l : ScriptLine) (told : List Told) (o : Option (List ℕ)) → IsHeld s → IsFree 10 (script_spell l) → if_kept s.of (held_back l) ≡ o → OfScript s l o told t → AreClear told
script_clear s t l told None h line e k = subst AreClear (sym k.told_is) (answer_free s l k.answer h line k.right, tt)
script_clear s t l told (Some party) h line e k = says_clear (codes "snapping") party told refl refl (held_named s (held_back l) party h.named e) k.0

said_clear : (party : List ℕ) (hs : List (List ℕ)) (o : Outcome) → IsFree 10 party → AreFree hs → HasHandles hs o → AreClear (said_of party o)
said_clear party hs (goes_on x) p free h = tt
said_clear party hs ended p free h = (text_clear (party_text (codes "unsnapped") party) (said_free (codes "unsnapped") party refl p) refl, tt)
said_clear party hs (whole x) p free h =
    (text_clear (snapshot_text party x) (free_append 10 (party_text (codes "snapshot") party) (gets_text x.handles x.shot.gets) (said_free (codes "snapshot") party refl p) (gets_free x.handles x.shot.gets (subst AreFree (sym h) free))) refl, tt)

turn_clear : (s t : Takings) (party : List ℕ) (told : List Told) (o : Option Taking) → IsHeld s → IsFree 10 party → s.of party ≡ o → OfTurn s party o told t → AreClear told
turn_clear s t party told None h p e k = says_clear (codes "unsnapped") party told refl refl p k.0
turn_clear s t party told (Some x) h p e k =
    let n = h.named party x e in
    subst AreClear (sym k.told_is) (
      answer_free s (next_line party x) k.answer h (next_free party (next_handle x) x.shot.begun p (index_free x.handles (length x.shot.gets) n.handles)) k.right,
      said_clear party x.handles (taken s.fed party x k.answer) p n.handles (taken_handles s.fed party x k.answer),
    )

exchange_clear : (s t : Takings) (l : DriveLine) (told : List Told) → IsHeld s → IsFreeLine l → IsExchange s l told t → AreClear told
exchange_clear s t (Script l) told h line x = script_clear s t l told (if_kept s.of (held_back l)) h line refl x.exchanged
exchange_clear s t (Start party handles) told h line x = says_clear (codes "snapping") party told refl refl (name_free party x.line.0) x.exchanged.0
exchange_clear s t (Turn party) told h line x = turn_clear s t party told (s.of party) h (name_free party x.line) refl x.exchanged

-- ---- the whole output

all_clear : (xs : Exchanges) (s t : Takings) → IsHeld s → AreFreeLines xs → Leads s xs t → AllIsClear xs
all_clear [] s t h free k = tt
all_clear (x ∷ xs) s t h free k = (exchange_clear s k.0 x.0 x.1 h free.0 k.1, all_clear xs k.0 t (exchange_held s k.0 x.0 x.1 h k.1) free.1 k.2)

none_held : IsHeld no_takings
none_held = record { kept = none_kept; named = λ party x e. absurd cc }

clear : (input : List ℕ) (xs : Exchanges) → AreLinesOf Snapshots (Some input) xs → IsLawful xs → AllIsClear xs
clear input xs lines lawful = all_clear xs no_takings lawful.0 none_held (input_free Snapshots input xs lines) lawful.1

pub fed_written : FedSessionsAreWritten
fed_written input xs lines lawful = all_found xs (clear input xs lines lawful)

pub read_back : OutputsAreReadBack
read_back input xs lines lawful = all_read xs (clear input xs lines lawful)
