-- Refusals that no name has to do with.
use Rattle.std.proofs.Common.{◌≡◌, ℕ, Bool, true, false, cond, List, refl, sym, subst, ◌∙◌, Option, Some, None}
use Rattle.std.specs.Prelude.{not, Ok}
use Rattle.board_model.specs.declared.answer.Answer.TheVariants as answer
use Rattle.board_model.specs.declared.answer.Reason.{Reason}
use Rattle.board_model.specs.declared.answer.Reason.TheVariants as reason
use Rattle.board_model.specs.declared.line.Call.{Call}
use Rattle.board_model.specs.declared.line.Line.TheVariants as line
use Rattle.board_model.specs.LineGrammar.{IsLine}
use Rattle.board_model.specs.Parties.{Party, free, gone, running}
use Rattle.board_model.specs.Requests.{Request, new_name, request_of}
use Rattle.board_model.specs.LawfulSession.{IsRight, State, call_reason, free_reason, is_filled, is_indexed, is_taken, is_typed}
use Rattle.script_boards.specs.declared.machine.Task.{Task}
use Rattle.script_boards.specs.Begins.{IsChecked, IsPastNames, IsTaskFor, finds_all, past_names}
use Rattle.script_boards.proofs.CallChecks.{begin_busy, begin_gone, begin_refused}

abbrev some_reason : Reason → Option Reason
some_reason why = Some why

-- a call that finds what it uses is refused for another reason, if for one
later_reasons : (a b c d : Bool) → cond a (some_reason reason.Taken) (cond b (Some reason.Type) (cond c (Some reason.Index) (cond d (Some reason.Unfilled) None))) ≡ Some reason.Unknown → ⊥
later_reasons true b c d e = absurd cc
later_reasons false true c d e = absurd cc
later_reasons false false true d e = absurd cc
later_reasons false false false true e = absurd cc
later_reasons false false false false e = absurd cc

-- the reason is what is told past names
the_unknown : (why told : Reason) → past_names why ≡ some_reason told → (why ≡ reason.Unknown) × (told ≡ reason.Unknown)
the_unknown reason.Abandoned told e = absurd cc
the_unknown reason.Busy told e = absurd cc
the_unknown reason.Idle told e = absurd cc
the_unknown reason.Unknown told e = (refl, cc)
the_unknown reason.Taken told e = absurd cc
the_unknown reason.Type told e = absurd cc
the_unknown reason.Index told e = absurd cc
the_unknown reason.Unfilled told e = absurd cc
the_unknown reason.NotWaiting told e = absurd cc
the_unknown reason.NoBoard told e = absurd cc

module _ (s : State) (party : List ℕ) (c : Call) where
  abbrev request : Option Request
  request = request_of s.standing s.published party c

  abbrev IsPast : Reason → Type 0
  IsPast why = (finds_all (s.parties party) request ≡ false) × (IsLine (line.Begin party c) → IsRight s (line.Begin party c) (answer.Refused why))

  -- a party that isn't free
  pub past_party : (why : Reason) → some_reason why ≡ free_reason (s.parties party) None → IsPast why
  past_party why e = at (s.parties party) refl
    where
      at : (x : Party) → s.parties party ≡ x → IsPast why
      at free h = absurd (let f : some_reason why ≡ None = e ∙ (rw h refl) in cc)
      at (running r) h =
          let f : some_reason why ≡ Some reason.Busy = e ∙ (rw h refl) in
          let w : why ≡ reason.Busy = cc in
          (rw h refl, λ l. subst (λ (x : Reason). IsRight s (line.Begin party c) (answer.Refused x)) (sym w) (begin_busy s party c r h l))
      at gone h =
          let f : some_reason why ≡ Some reason.Abandoned = e ∙ (rw h refl) in
          let w : why ≡ reason.Abandoned = cc in
          (rw h refl, λ l. subst (λ (x : Reason). IsRight s (line.Begin party c) (answer.Refused x)) (sym w) (begin_gone s party c h l))

  -- something that the call uses isn't held
  unknown : s.parties party ≡ free → call_reason s.standing party c request ≡ Some reason.Unknown → IsPast reason.Unknown
  unknown h u = (rw h (none request u), λ l. begin_refused s party c reason.Unknown h u l)
    where
      none : (q : Option Request) → call_reason s.standing party c q ≡ Some reason.Unknown → finds_all free q ≡ false
      none None u = refl
      none (Some q) u = absurd (later_reasons (is_taken s.standing party (new_name c)) (not (is_typed s.standing q)) (not (is_indexed q)) (not (is_filled q)) u)

  -- all that it uses is held: it begins
  pub past_begun : (t : Task) → s.parties party ≡ free → IsChecked (call_reason s.standing party c request) request (Ok t) → finds_all (s.parties party) request ≡ true
  past_begun t h k = rw h (some request k.1)
    where
      some : (q : Option Request) → IsTaskFor t q → finds_all free q ≡ true
      some (Some q) k = refl
      some None k = absurd k

  -- and where memory was wanted
  pub past_wanted : s.parties party ≡ free → call_reason s.standing party c request ≡ None → finds_all (s.parties party) request ≡ true
  past_wanted h k = rw h (some request k)
    where
      some : (q : Option Request) → call_reason s.standing party c q ≡ None → finds_all free q ≡ true
      some (Some q) k = refl
      some None k = absurd (let u : some_reason reason.Unknown ≡ None = k in cc)

  -- it is refused
  pub past_refused : (why : Reason) → s.parties party ≡ free → call_reason s.standing party c request ≡ Some why → IsPastNames s party c (past_names why)
  past_refused why h k = by (past_names why) refl
    where
      some : (q : Option Request) → call_reason s.standing party c q ≡ Some why → past_names why ≡ None → finds_all free q ≡ true
      some (Some q) k e = refl
      some None k e = absurd (let w : some_reason reason.Unknown ≡ Some why = k in let v : reason.Unknown ≡ why = cc in let u : some_reason reason.Unknown ≡ None = subst (λ (x : Reason). past_names x ≡ None) (sym v) e in cc)

      by : (o : Option Reason) → past_names why ≡ o → IsPastNames s party c o
      by None e = rw h (some request k e)
      by (Some told) e =
          let p = the_unknown why told e in
          rw p.1 (unknown h (k ∙ rw p.0 refl))
