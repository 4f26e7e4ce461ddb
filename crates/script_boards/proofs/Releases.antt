-- Lines that drop a thing.
use Rattle.std.proofs.Common.{◌≡◌, ℕ, Bool, true, false, cond, List, refl, sym, ap, subst, ◌∙◌, Option, Some, None}
use Rattle.board_cell_model.specs.declared.access.Access.TheVariants as access
use Rattle.board_model.specs.declared.answer.Answer.TheVariants as answer
use Rattle.board_model.specs.declared.answer.Reason.{Reason}
use Rattle.board_model.specs.declared.answer.Reason.TheVariants as reason
use Rattle.board_model.specs.declared.answer.Reply.TheVariants as reply
use Rattle.board_model.specs.declared.line.Line.TheVariants as line
use Rattle.board_model.specs.LineGrammar.{IsLine}
use Rattle.board_model.specs.Parties.{Party, free, gone, running}
use Rattle.board_model.specs.Replies.{released_thing}
use Rattle.board_model.specs.Things.{is_held, thing_of}
use Rattle.board_model.specs.LawfulSession.{IsRight, State, after, free_reason, reason_of}
use Rattle.script_boards.specs.declared.machine.BoardMachine.{BoardMachine}
use Rattle.script_boards.specs.declared.machine.Task.{Task}
use Rattle.script_boards.specs.Begins.{holds}
use Rattle.script_boards.specs.Loans.{lent_words}
use Rattle.script_boards.specs.Machine.{IsKeptOf, Represents, kept}
use Rattle.script_boards.specs.Steps.{IsLetGo}
use Rattle.script_boards.proofs.Seats.{of_name, with_at-same}

-- ---- the line

abbrev some_reason : Reason → Option Reason
some_reason why = Some why

module _ {C : Type 0} (m : BoardMachine C) (s : State) (rep : Represents m s) (party name : List ℕ) (l : IsLine (line.Release party name)) where
  -- what the party holds by the machine it holds in the state
  held_is : is_held s.standing party name ≡ holds m party name
  held_is = rw (rep.tables, rep.values party name) refl

  abbrev release_reason : Bool → Option Reason
  release_reason held = free_reason (s.parties party) (cond held None (Some reason.Unknown))

  reason_is : (held : Bool) → holds m party name ≡ held → reason_of s (line.Release party name) ≡ release_reason held
  reason_is held e = ap release_reason (held_is ∙ e)

  -- a refusal that doesn't look at what is held
  free_first : (p : Party) (why : Reason) (o : Option Reason) → Some why ≡ free_reason p None → free_reason p o ≡ Some why
  free_first free why o e = absurd cc
  free_first (running r) why o e = sym e
  free_first gone why o e = sym e

  refused : (why : Reason) → reason_of s (line.Release party name) ≡ Some why → IsRight s (line.Release party name) (answer.Refused why)
  refused why r = record {
    line = l;
    answer = tt;
    reason = rw r refl;
    owed = λ n. absurd (let x : some_reason why ≡ None = sym r ∙ n in cc);
    word = λ _. tt;
    reply = λ _. tt;
  }

  pub release_refused : (why : Reason) → Some why ≡ free_reason (s.parties party) None → IsRight s (line.Release party name) (answer.Refused why)
  release_refused why e = refused why (free_first (s.parties party) why (cond (is_held s.standing party name) None (Some reason.Unknown)) e)

  pub release_unknown : s.parties party ≡ free → holds m party name ≡ false → IsRight s (line.Release party name) (answer.Refused reason.Unknown)
  release_unknown e h = refused reason.Unknown (reason_is false h ∙ rw e refl)

  pub released_right : (new : BoardMachine C) → s.parties party ≡ free → holds m party name ≡ true → IsLetGo m new party name
      → IsRight s (line.Release party name) (answer.Step access.Table (Some reply.Done)) × Represents new (after s (line.Release party name) (answer.Step access.Table (Some reply.Done)))
  released_right new e h is =
      let r : reason_of s (line.Release party name) ≡ None = reason_is true h ∙ rw e refl in (
        record {
          line = l;
          answer = (tt, tt);
          reason = rw r tt;
          owed = λ _. refl;
          word = λ _. tt;
          reply = λ _. tt;
        },
        record {
          tables = ap (λ t. released_thing t party name (thing_of t.things party name)) rep.tables ∙ sym is.domain.tables;
          words = is.domain.words s.memory rep.words;
          parties = λ p. subst (λ (f : List ℕ → Option Task). IsKeptOf (f p) (s.parties p)) (sym is.parties) (rep.parties p);
          loans = λ p n. with_at-same s.standing.loans (lent_words m) party name None rep.loans p n ∙ sym (of_name is.loans p n);
          values = λ p n. with_at-same s.standing.values (kept m) party name None rep.values p n ∙ sym (of_name is.values p n);
        },
      )
