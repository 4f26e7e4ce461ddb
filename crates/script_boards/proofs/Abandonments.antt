-- Lines that abandon a party.
use Rattle.std.proofs.Common.{◌≡◌, ℕ, true, false, List, refl, sym, ap, ◌∙◌, Option, Some, None}
use Rattle.board_model.specs.declared.answer.Answer.TheVariants as answer
use Rattle.board_model.specs.declared.answer.Reason.TheVariants as reason
use Rattle.board_model.specs.declared.line.Line.TheVariants as line
use Rattle.board_model.specs.LineGrammar.{IsLine}
use Rattle.board_model.specs.Parties.{Party, free, gone, running}
use Rattle.board_model.specs.LawfulSession.{IsRight, State, abandon_reason, after}
use Rattle.script_boards.specs.declared.machine.BoardMachine.{BoardMachine}
use Rattle.script_boards.specs.declared.machine.Task.{Task}
use Rattle.script_boards.specs.declared.machine.Task.TheVariants as task
use Rattle.script_parties.specs.Parties.{Parties, words_of_boards}
use Rattle.script_boards.specs.Steps.{HoldsAsBefore, IsPut, was_abandoned}
use Rattle.script_boards.specs.Loans.{lent_words}
use Rattle.script_boards.specs.Machine.{IsKeptOf, Represents, kept, tables_of, task_of}
use Rattle.script_boards.proofs.PartyTasks.{no_call, replaced}

-- ---- what a party's task tells

wrong : {A : Type 0} → true ≡ false → A
wrong e = absurd cc

-- only a party that is gone was abandoned
pub abandoned_is : (o : Option Task) (x : Party) → was_abandoned o ≡ true → IsKeptOf o x → x ≡ gone
abandoned_is o free w h = wrong (sym w ∙ ap was_abandoned h)
abandoned_is o (running r) w h = absurd (no_call h.task r.request r.so_far (sym (ap was_abandoned h.found) ∙ w) h.is)
abandoned_is o gone w h = refl

-- and any other may be
pub may_abandon : (o : Option Task) (x : Party) → was_abandoned o ≡ false → IsKeptOf o x → abandon_reason x ≡ None
may_abandon o free w h = refl
may_abandon o (running r) w h = refl
may_abandon o gone w h = wrong (sym (ap was_abandoned h) ∙ w)

-- ---- the line

pub abandon_again : (s : State) (party : List ℕ) → s.parties party ≡ gone → IsLine (line.Abandon party) → IsRight s (line.Abandon party) (answer.Refused reason.Abandoned)
abandon_again s party e l = record {
  line = l;
  answer = tt;
  reason = rw e refl;
  owed = rw e (λ h. absurd cc);
  word = λ _. tt;
  reply = λ _. tt;
}

module _ {C : Type 0} (m new : BoardMachine C) (s : State) (rep : Represents m s) (party : List ℕ) (l : IsLine (line.Abandon party)) (held : HoldsAsBefore m new) where
  tables : tables_of new ≡ tables_of m
  tables = ap (λ (d : Parties). d.tables) held.domain

  -- a party that isn't gone
  pub party_leaves : was_abandoned (task_of m party) ≡ false → IsPut (task_of m) (task_of new) party (Some task.Gone) → IsRight s (line.Abandon party) answer.Gone × Represents new (after s (line.Abandon party) answer.Gone)
  party_leaves w put = (
    record {
      line = l;
      answer = tt;
      reason = (let e = may_abandon (task_of m party) (s.parties party) w (rep.parties party) in rw e tt);
      owed = λ _. refl;
      word = λ _. tt;
      reply = λ _. tt;
    },
    record {
      tables = rep.tables ∙ sym tables;
      words = ap (λ (d : Parties). d.words) held.domain ∙ rep.words ∙ ap (λ x. words_of_boards s.memory x.boards) (sym tables);
      parties = replaced (task_of m) (task_of new) s.parties rep.parties party (Some task.Gone) put gone refl;
      loans = λ p n. rep.loans p n ∙ sym (λ i. lent_words (record m { loans = held.loans i }) p n);
      values = λ p n. rep.values p n ∙ sym (λ i. kept (record m { values = held.values i }) p n);
    },
  )
