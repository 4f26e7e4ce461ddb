-- What is said behind the turns of a party that is watched are its watcher's reports.
use Rattle.std.proofs.Common.{◌≡◌, ℕ, Bool, true, false, List, [], ◌∷◌, ◌++◌, map, refl, sym, ap, subst, ◌∙◌, append_assoc, inl, inr, Option, Some, None}
use Rattle.std.specs.Prelude.{if◌then◌else◌}
use Rattle.std.specs.List.{flat_map}
use Rattle.std.specs.Str.{bytes_eq}
use Rattle.std.proofs.lemmas.Grind.{flat_map-append}
use Rattle.std.proofs.lemmas.List.{append-nil, map-append}
use Rattle.std.proofs.lemmas.Slice.Eq.{bytes_eq-Decides}
use Rattle.board_model.proofs.ListLemmas.{same_bytes}
use Rattle.script_model.specs.ScriptAnswers.{is_refused}
use Rattle.script_model.specs.declared.line.ScriptLine.{ScriptLine}
use Rattle.script_exchanges.specs.declared.line.DriveLine.{DriveLine}
use Rattle.script_exchanges.specs.declared.line.DriveLine.TheVariants.{Script, Start, Turn}
use Rattle.script_exchanges.specs.DrivenParties.{abandoned_by, held_back, if_kept}
use Rattle.script_exchanges.specs.Exchanges.{Exchange, Exchanges, Told, fed_session}
use Rattle.script_watches.specs.Watchings.{Outcome, Report, Watching, ended, goes_on, new_watching, report_text, reports, taken}
use Rattle.script_watches.specs.WatchExchanges.{IsExchange, Leads, OfScript, OfStart, OfTurn, Watchings, kept_of, no_watchings, said_of}
use Rattle.script_watches.proofs.WatchLaws.{leads_fed, leads_more}
use Rattle.board_watch.specs.LawsOfWatchRuns.{AreReportsWritten, ReportsAreWritten, said_at, said_by, said_in_turns}
use Rattle.board_watch.proofs.OutcomeLemmas.{Becomes, IsNext, kept_so, let_go_so, some_is, stays, taken_next}

-- ---- with one exchange more

said_more : (party : List ℕ) (xs : Exchanges) (x : Exchange) → said_in_turns party (xs ++ x ∷ []) ≡ said_in_turns party xs ++ said_at party x.0 x.1
said_more party xs x =
    flat_map-append (λ (y : Exchange). said_at party y.0 y.1) xs (x ∷ [])
    ∙ ap (λ (ts : List (List ℕ)). said_in_turns party xs ++ ts) (append-nil (said_at party x.0 x.1))

-- a watcher becomes this one, and what it has reported more is said behind the party's turn
goes_past : (p : Exchanges) (party : List ℕ) (x y : Watching) (e : Exchange) (more : List Report) → AreReportsWritten p party x → Becomes x more y → said_at party e.0 e.1 ≡ map (report_text party) more → AreReportsWritten (p ++ e ∷ []) party y
goes_past p party x y e more h b k = record {
  first = h.first;
  told = h.told;
  since = h.since ++ e ∷ [];
  parts =
      ap (λ (xs : Exchanges). xs ++ e ∷ []) h.parts
      ∙ append_assoc h.first ((Start party (x.listener ∷ x.handles), h.told) ∷ h.since) (e ∷ [])
      ∙ ap (λ (l : List ℕ). h.first ++ (Start party (l ∷ x.handles), h.told) ∷ (h.since ++ e ∷ [])) (sym b.listener)
      ∙ ap (λ (hs : List (List ℕ)). h.first ++ (Start party (y.listener ∷ hs), h.told) ∷ (h.since ++ e ∷ [])) (sym b.handles);
  before = b.before ∙ h.before;
  written =
      said_more party h.since e
      ∙ ap (λ (ts : List (List ℕ)). ts ++ said_at party e.0 e.1) h.written
      ∙ ap (λ (ts : List (List ℕ)). map (report_text party) x.reported ++ ts) k
      ∙ sym (map-append (report_text party) x.reported more)
      ∙ ap (map (report_text party)) (sym b.reported);
}

-- ---- of all parties that are watched

abbrev AreWritten : Exchanges → (List ℕ → Option Watching) → Type 0
AreWritten p of = (party : List ℕ) (x : Watching) → of party ≡ Some x → AreReportsWritten p party x

-- nothing is said behind a turn of one that is watched
quiet : (p : Exchanges) (of : List ℕ → Option Watching) (e : Exchange) → AreWritten p of → ((party : List ℕ) (x : Watching) → of party ≡ Some x → said_at party e.0 e.1 ≡ []) → AreWritten (p ++ e ∷ []) of
quiet p of e h k party x f = goes_past p party x x e [] (h party x f) (stays x) (k party x f)

script_written : (p : Exchanges) (s t : Watchings) (l : ScriptLine) (told : List Told) (o : Option (List ℕ)) → AreWritten p s.of → OfScript s l o told t → AreWritten (p ++ (Script l, told) ∷ []) t.of
script_written p s t l told None h k =
    subst (λ (u : Watchings). AreWritten (p ++ (Script l, told) ∷ []) u.of) (sym k.after)
    (let_go_so (AreReportsWritten (p ++ (Script l, told) ∷ [])) s.of (abandoned_by l) (is_refused k.answer) (quiet p s.of (Script l, told) h (λ party x f. refl)))
script_written p s t l told (Some party) h k =
    subst (λ (u : Watchings). AreWritten (p ++ (Script l, told) ∷ []) u.of) (sym k.1) (quiet p s.of (Script l, told) h (λ q x f. refl))

start_written : (p : Exchanges) (s t : Watchings) (party listener : List ℕ) (handles : List (List ℕ)) (told : List Told) (o : Option Watching) → AreWritten p s.of → s.fed ≡ fed_session p → OfStart s party listener handles o told t → AreWritten (p ++ (Start party (listener ∷ handles), told) ∷ []) t.of
start_written p s t party listener handles told (Some x) h fed k =
    subst (λ (u : Watchings). AreWritten (p ++ (Start party (listener ∷ handles), told) ∷ []) u.of) (sym k.1) (quiet p s.of (Start party (listener ∷ handles), told) h (λ q y f. refl))
start_written p s t party listener handles told None h fed (inl k) =
    let e : Exchange = (Start party (listener ∷ handles), told) in
    let new : Watching = new_watching listener handles s.fed k.asked in
    let begun : AreReportsWritten (p ++ e ∷ []) party new = record { first = p; told = told; since = []; parts = refl; before = fed; written = refl } in
    subst (λ (u : Watchings). AreWritten (p ++ e ∷ []) u.of) (sym k.after)
    (kept_so (AreReportsWritten (p ++ e ∷ [])) s.of party (Some new) (λ q x apart f. quiet p s.of e h (λ r y g. refl) q x f) (λ x f. subst (AreReportsWritten (p ++ e ∷ []) party) (some_is new x f) begun))
start_written p s t party listener handles told None h fed (inr k) =
    subst (λ (u : Watchings). AreWritten (p ++ (Start party (listener ∷ handles), told) ∷ []) u.of) (sym k.after) (quiet p s.of (Start party (listener ∷ handles), told) h (λ q y f. refl))

-- ---- turns

-- what is said behind its turn is what it has reported more
record IsSaid (party : List ℕ) (x : Watching) (o : Outcome) (y : Watching) : Type 0 where
  more : List Report
  becomes : Becomes x more y
  said : flat_map said_by (said_of party o) ≡ map (report_text party) more

outcome_said : (party : List ℕ) (x : Watching) (o : Outcome) (y : Watching) → IsNext x o → kept_of o ≡ Some y → IsSaid party x o y
outcome_said party x (goes_on z) y n e = record { more = []; becomes = subst (Becomes x []) (some_is z y e) n; said = refl }
outcome_said party x (reports z r) y n e = record { more = r ∷ []; becomes = subst (Becomes x (r ∷ [])) (some_is z y e) n.0; said = refl }
outcome_said party x ended y n e = absurd cc

-- another party's turn
silent : (q party : List ℕ) (told : List Told) → bytes_eq q party ≡ false → said_at q (Turn party) told ≡ []
silent q party told apart = ap (λ (b : Bool). if b then flat_map said_by told else []) apart

turn_written : (p : Exchanges) (s t : Watchings) (party : List ℕ) (told : List Told) (o : Option Watching) → AreWritten p s.of → s.of party ≡ o → OfTurn s party o told t → AreWritten (p ++ (Turn party, told) ∷ []) t.of
turn_written p s t party told None h e k =
    subst (λ (u : Watchings). AreWritten (p ++ (Turn party, told) ∷ []) u.of) (sym k.1)
    (quiet p s.of (Turn party, told) h (λ q x f. silent q party told (apart q x f (bytes_eq q party) refl)))
  where
    apart : (q : List ℕ) (x : Watching) → s.of q ≡ Some x → (b : Bool) → bytes_eq q party ≡ b → b ≡ false
    apart q x f false same = refl
    apart q x f true same = absurd (let g : s.of q ≡ None = ap s.of (same_bytes q party same) ∙ e in cc)
turn_written p s t party told (Some x) h e k =
    let o : Outcome = taken s.fed party x k.answer in
    let own : said_at party (Turn party) told ≡ flat_map said_by (said_of party o) = ap (λ (b : Bool). if b then flat_map said_by told else []) ((bytes_eq-Decides party party).1 refl) ∙ ap (flat_map said_by) k.told_is in
    subst (λ (u : Watchings). AreWritten (p ++ (Turn party, told) ∷ []) u.of) (sym k.after)
    (kept_so (AreReportsWritten (p ++ (Turn party, told) ∷ [])) s.of party (kept_of o)
    (λ q y apart f. goes_past p q y y (Turn party, told) [] (h q y f) (stays y) (silent q party told apart))
    (λ y f. let i = outcome_said party x o y (taken_next s.fed party x k.answer) f in goes_past p party x y (Turn party, told) i.more (h party x e) i.becomes (own ∙ i.said)))

exchange_written : (p : Exchanges) (s t : Watchings) (l : DriveLine) (told : List Told) → AreWritten p s.of → s.fed ≡ fed_session p → IsExchange s l told t → AreWritten (p ++ (l, told) ∷ []) t.of
exchange_written p s t (Script l) told h fed x = script_written p s t l told (if_kept s.of (held_back l)) h x.exchanged
exchange_written p s t (Start party []) told h fed x = absurd x.exchanged
exchange_written p s t (Start party (listener ∷ handles)) told h fed x = start_written p s t party listener handles told (s.of party) h fed x.exchanged
exchange_written p s t (Turn party) told h fed x = turn_written p s t party told (s.of party) h refl x.exchanged

-- ---- of all exchanges

all_written : (xs p : Exchanges) (s t : Watchings) → Leads no_watchings p s → AreWritten p s.of → Leads s xs t → AreWritten (p ++ xs) t.of
all_written [] p s t l h k = subst (λ (u : Watchings). AreWritten (p ++ []) u.of) (sym k) (subst (λ (q : Exchanges). AreWritten q s.of) (sym (append-nil p)) h)
all_written (x ∷ xs) p s t l h k =
    let one : AreWritten (p ++ x ∷ []) k.0.of = exchange_written p s k.0 x.0 x.1 h (leads_fed p no_watchings s l) k.1 in
    let more : Leads no_watchings (p ++ x ∷ []) k.0 = leads_more p x.0 x.1 no_watchings s k.0 l k.1 in
    subst (λ (q : Exchanges). AreWritten q t.of) (append_assoc p (x ∷ []) xs) (all_written xs (p ++ x ∷ []) k.0 t more one k.2)

pub reports_written : ReportsAreWritten
reports_written xs s k party x e = all_written xs [] no_watchings s refl (λ q y f. absurd cc) k party x e
