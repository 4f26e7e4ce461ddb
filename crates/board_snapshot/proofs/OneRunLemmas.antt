-- A line is told by its bytes, and what is told of a script's lines is settled by the lines.
use Rattle.std.proofs.Common.{◌≡◌, ℕ, List, [], ◌∷◌, refl, sym, ap, subst, ◌∙◌, Option, Some, None}
use Rattle.script_model.specs.declared.line.ScriptLine.{ScriptLine}
use Rattle.script_model.specs.LawsOfComposition.{state_met}
use Rattle.script_model.specs.ScriptAnswers.{ScriptAnswer, is_refused}
use Rattle.script_model.proofs.AnswerLaws.{one_answer}
use Rattle.script_exchanges.specs.declared.line.Drive.TheVariants.{Snapshots}
use Rattle.script_exchanges.specs.declared.line.DriveLine.{DriveLine}
use Rattle.script_exchanges.specs.declared.line.DriveLine.TheVariants.{Script, Start, Turn}
use Rattle.script_exchanges.specs.DrivenParties.{abandoned_by, held_back, if_kept, kept_with, let_go}
use Rattle.script_exchanges.specs.Exchanges.{Exchanges, SpellsAll, Told, given}
use Rattle.script_snapshots.specs.Takings.{Taking, next_line, taken}
use Rattle.script_snapshots.specs.SnapshotExchanges.{IsExchange, Leads, OfScript, OfTurn, Takings, fed_with, kept_of, no_takings, said_of}
use Rattle.script_written.proofs.OneLineLemmas.{one_drive_line as one_line_of}
use Rattle.board_snapshot.specs.LawsOfRuns.{BytesSpellOneLine, InputsHaveOneRun}

-- ---- lines

pub one_drive_line : BytesSpellOneLine
one_drive_line bytes k l s t = one_line_of Snapshots bytes k l s t

-- ---- what is told of a line

-- what is told and what stands afterwards are the same
record AreOne (told more : List Told) (t u : Takings) : Type 0 where
  told_is : told ≡ more
  after_is : t ≡ u

-- both are these, of an answer that is settled
both_given : (f : ScriptAnswer → List Told) (g : ScriptAnswer → Takings) (a b : ScriptAnswer) (told more : List Told) (t u : Takings) → a ≡ b → told ≡ f a → t ≡ g a → more ≡ f b → u ≡ g b → AreOne told more t u
both_given f g a b told more t u e ta ga tb gb = record {
  told_is = ta ∙ ap f e ∙ sym tb;
  after_is = ga ∙ ap g e ∙ sym gb;
}

both_said : (s t u : Takings) (told more text : List Told) → told ≡ text → t ≡ s → more ≡ text → u ≡ s → AreOne told more t u
both_said s t u told more text a b c d = record { told_is = a ∙ sym c; after_is = b ∙ sym d }

one_script : (s t u : Takings) (l : ScriptLine) (told more : List Told) (o : Option (List ℕ)) → OfScript s l o told t → OfScript s l o more u → AreOne told more t u
one_script s t u l told more None h k =
    both_given (λ a. given (l, a) ∷ []) (λ a. fed_with s l a (let_go s.of (abandoned_by l) (is_refused a))) h.answer k.answer told more t u (one_answer (state_met s.fed) l h.answer k.answer h.right k.right) h.told_is h.after k.told_is k.after
one_script s t u l told more (Some party) h k = both_said s t u told more _ h.0 h.1 k.0 k.1

one_turn : (s t u : Takings) (party : List ℕ) (told more : List Told) (o : Option Taking) → OfTurn s party o told t → OfTurn s party o more u → AreOne told more t u
one_turn s t u party told more None h k = both_said s t u told more _ h.0 h.1 k.0 k.1
one_turn s t u party told more (Some x) h k =
    both_given (λ a. given (next_line party x, a) ∷ said_of party (taken s.fed party x a)) (λ a. fed_with s (next_line party x) a (kept_with s.of party (kept_of (taken s.fed party x a)))) h.answer k.answer told more t u (one_answer (state_met s.fed) (next_line party x) h.answer k.answer h.right k.right) h.told_is h.after k.told_is k.after

one_exchange : (s t u : Takings) (l : DriveLine) (told more : List Told) → IsExchange s l told t → IsExchange s l more u → AreOne told more t u
one_exchange s t u (Script l) told more h k = one_script s t u l told more (if_kept s.of (held_back l)) h.exchanged k.exchanged
one_exchange s t u (Start party things) told more h k = record { told_is = h.exchanged.0 ∙ sym k.exchanged.0; after_is = h.exchanged.1 ∙ sym k.exchanged.1 }
one_exchange s t u (Turn party) told more h k = one_turn s t u party told more (s.of party) h.exchanged k.exchanged

-- ---- whole runs

one_run : (lines : List (List ℕ)) (xs ys : Exchanges) (s t u : Takings) → SpellsAll Snapshots lines xs → SpellsAll Snapshots lines ys → Leads s xs t → Leads s ys u → xs ≡ ys
one_run [] [] [] s t u a b h k = refl
one_run [] [] (y ∷ ys) s t u a b h k = absurd b
one_run [] (x ∷ xs) ys s t u a b h k = absurd a
one_run (bytes ∷ more) [] ys s t u a b h k = absurd a
one_run (bytes ∷ more) (x ∷ xs) [] s t u a b h k = absurd b
one_run (bytes ∷ more) ((l, told) ∷ xs) ((m, tolds) ∷ ys) s t u a b h k =
    let line : m ≡ l = one_drive_line bytes m l b.0 a.0 in
    let same : AreOne told tolds h.0 k.0 = one_exchange s h.0 k.0 l told tolds h.1 (subst (λ (n : DriveLine). IsExchange s n tolds k.0) line k.1) in
    let rest : xs ≡ ys = one_run more xs ys h.0 t u a.1 b.1 h.2 (subst (λ (v : Takings). Leads v ys u) (sym same.after_is) k.2) in
    rw (line, same.told_is, rest) refl

pub one_run_of : InputsHaveOneRun
one_run_of input xs ys a b h k = one_run _ xs ys no_takings h.0 k.0 a b h.1 k.1
