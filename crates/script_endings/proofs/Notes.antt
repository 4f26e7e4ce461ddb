-- Notes that were written whole, or in part.
use Rattle.std.proofs.Common.{ℕ, ◌<◌, List, length, take, arith, inl, inr, sym, subst}
use Rattle.std.specs.Prelude.{OnErr, OnOk, Result, Ok, Err}
use Rattle.std.proofs.Math.Seq.{take-length}
use Rattle.board_model.specs.Lines.{HasCause}
use Rattle.script_loop.specs.Runs.{CountStays, Gains, HasFailedOnce, Stream}
use Rattle.script_endings.specs.Endings.{IsNoted}

pub noted : {T E : Type 0} (r : Result T E) (notes : Stream) (text : List ℕ)
    → OnOk r (Gains notes text) → OnErr r ((n : ℕ) × (n < length text) × Gains notes (take n text)) → HasCause notes.faults_before notes.faults_after r
    → OnOk r (CountStays notes) → OnErr r (HasFailedOnce notes) → IsNoted notes text
noted (Ok x) notes text ok err cause told once = record {
  written = length text;
  bytes = subst (Gains notes) (sym (take-length text)) ok;
  cause = λ h. absurd (omega arith);
  later = cause.later;
  once = inl (told, omega arith);
}
noted (Err e) notes text ok err cause told once = record {
  written = err.0;
  bytes = err.2;
  cause = λ h. cause.failed;
  later = cause.later;
  once = inr (once, err.1);
}
