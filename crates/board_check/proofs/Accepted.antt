-- The lines and the output of a run, in turn, are told to be lawful.
use Rattle.std.proofs.Common.{ℕ, ◌<◌, ◌≤◌, ◌^◌, List, length, arith, subst, sym, Option, Some, None}
use Rattle.std.specs.Prelude.{Result}
use Rattle.board_model.specs.Lines.{lines_of}
use Rattle.script_rules.specs.SessionPairs.{AreLawful}
use Rattle.script_lengths.proofs.RunLemmas.{run_lawful}
use Rattle.script_pairs.specs.declared.verdict.Verdict.{Verdict}
use Rattle.script_pairs.specs.declared.verdict.CheckError.{CheckError}
use Rattle.script_pairs.specs.Checks.{Checks}
use Rattle.board_check.specs.Top.{AcceptsRuns, AreOfRun}

run_of_lawful : (bytes : List ℕ) (count : ℕ) → count ≤ 4294967295 → AreOfRun bytes count → AreLawful (lines_of bytes) count
run_of_lawful bytes count few run =
    let short : length (lines_of run.input) < 2 ^ 63 = omega (arith, run.counted, few) in
    subst (λ (n : ℕ). AreLawful (lines_of bytes) n) run.counted (subst (λ (ls : List (List ℕ)). AreLawful ls (length (lines_of run.input))) (sym run.lines) (run_lawful run.input run.output run.run short))

-- the lines and the output of a run are told to be lawful
pub runs_accepted : (bytes : Option (List ℕ)) (answer : Result Verdict CheckError) → Checks 4294967295 bytes answer → AcceptsRuns bytes answer
runs_accepted None answer checks = tt
runs_accepted (Some bytes) answer checks = λ count few run. checks.lawful count few (run_of_lawful bytes count few run)
