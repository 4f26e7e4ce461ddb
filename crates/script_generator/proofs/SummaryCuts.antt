-- A summary of which a front was written.
use Rattle.std.proofs.Common.{◌≡◌, ℕ, ◌<◌, ◌≤◌, List, length, take, arith, refl, ap, subst, ◌∙◌}
use Rattle.std.specs.Prelude.{Err}
use Rattle.script_loop.specs.declared.error.ScriptError.TheVariants.{WriteFault}
use Rattle.script_loop.specs.Runs.{CountsOn, Gains, HasFailedOnce, Stream}
use Rattle.script_generator.specs.Counting.{IsSummaryOf}
use Rattle.script_generator.specs.Generator.{generated}
use Rattle.script_generator.specs.Summary.{IsGenerated, summary}

pub cut_off : (n : ℕ) (takes : ℕ → Type 0) (sink : Stream) (text bytes : List ℕ) → IsSummaryOf (generated n) text → bytes ≡ text → length bytes ≤ 256 → ((k : ℕ) × (k < length bytes) × Gains sink (take k bytes))
    → HasFailedOnce sink → CountsOn sink → ((room : ℕ) → takes room → length bytes ≤ room → ⊥) → IsGenerated n takes sink (Err WriteFault)
cut_off n takes sink text bytes s same short front once later unfailing =
    let is : bytes ≡ summary s.session = same ∙ s.text_is in
    record {
      ok = tt;
      err = record {
        session = s.session;
        lawful = s.lawful;
        lines = s.lines_are;
        written = front.0;
        cut = omega (arith, ap length is, front.1);
        output = subst (λ (x : List ℕ). Gains sink (take front.0 x)) is front.2;
      };
      write = λ e. once;
      written = λ room takes_it fits e. unfailing room takes_it (omega (arith, ap length is, fits s.session s.lawful s.lines_are));
      written_short = λ room takes_it le e. unfailing room takes_it (omega (arith, short, le));
      write_told = λ other. absurd (other refl);
      write_later = later;
    }
