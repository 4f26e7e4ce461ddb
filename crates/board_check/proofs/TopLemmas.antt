-- Which statuses the answers of a check have, and what they come to.
use Rattle.std.proofs.Common.{◌≡◌, ℕ, ◌<◌, ◌≤◌, List, [], ◌∷◌, length, map, arith, refl, ap, subst, sym, ◌∙◌, inl, inr, Option, Some, None}
use Rattle.std.specs.Prelude.{◌≢◌, IfOk, Result, Ok, Err}
use Rattle.script_rules.specs.declared.rule.Rule.{Rule}
use Rattle.script_rules.specs.declared.rule.Rule.TheVariants as rule
use Rattle.script_rules.specs.RuleNames.{rule_name}
use Rattle.script_loop.specs.declared.error.ScriptError.{ScriptError}
use Rattle.script_loop.specs.declared.error.ScriptError.TheVariants as script_error
use Rattle.script_loop.specs.Runs.{HasFailedOnce, Stream}
use Rattle.script_endings.specs.Endings.{IsNoted, note_of, status_of}
use Rattle.script_endings.proofs.StatusLemmas.{bad_status}
use Rattle.script_pairs.specs.declared.verdict.Verdict.{Verdict}
use Rattle.script_pairs.specs.declared.verdict.Verdict.TheVariants.{Lawful, No}
use Rattle.script_pairs.specs.declared.verdict.CheckError.{CheckError}
use Rattle.script_pairs.specs.declared.verdict.CheckError.TheVariants as error
use Rattle.script_pairs.specs.Checks.{Checks, HasLinesOf, IsReadToEnd}
use Rattle.board_check.specs.Top.{AcceptsRuns, IsBrokenIn, IsEnding, IsJudged, IsLawfulIn, IsRunIn, IsUnjudged, error_in, status_told}

-- the name of a rule is short
pub name_short : (r : Rule) → length (rule_name r) ≤ 6
name_short rule.Line = omega arith
name_short rule.Answer = omega arith
name_short rule.Reason = omega arith
name_short rule.Owed = omega arith
name_short rule.Word = omega arith
name_short rule.Event = omega arith
name_short rule.Reply = omega arith

-- ---- statuses

-- the status of an error is that of the error as a run has it
pub error_of : (e : CheckError) (noted : ScriptError) → noted ≡ error_in e → status_of (Err noted) ≡ status_of (Err (error_in e))
error_of e noted q = ap (λ (w : ScriptError). status_of (Err w)) q

-- an error is noted, and nothing is written
pub unjudged : (e : CheckError) (noted : ScriptError) → noted ≡ error_in e → (status : ℕ) (sink notes : Stream)
    → sink.after ≡ sink.before → status ≡ status_of (Err noted) → IsNoted notes (note_of (Err noted)) → IsUnjudged e status sink notes
unjudged e noted q status sink notes unwritten is note = record {
  unwritten = unwritten;
  is = is ∙ error_of e noted q;
  note = subst (λ (w : ScriptError). IsNoted notes (note_of (Err w))) q note;
}

-- with status 0 the source is lawful
pub lawful_in : (answer : Result Verdict CheckError) (status : ℕ) (source sink notes : Stream)
    → Checks 4294967295 source.before answer → IfOk answer (λ v. IsReadToEnd v source.after) → IsEnding answer status sink notes → status ≡ 0 → IsLawfulIn source sink
lawful_in (Ok (Lawful n)) status source sink notes checks end (inl w) zero = record { pairs = n; few = checks.verdict.0; lawful = checks.verdict.1; end = end; output = w.output }
lawful_in (Ok (No n r)) status source sink notes checks end (inl w) zero = absurd (omega (arith, w.is, zero))
lawful_in (Ok v) status source sink notes checks end (inr c) zero = absurd (omega (arith, c.is, zero))
lawful_in (Err e) status source sink notes checks end h zero = absurd (bad_status (error_in e) 0 (omega arith) (sym h.is ∙ zero))

-- with status 1 a pair breaks a rule
pub broken_in : (answer : Result Verdict CheckError) (status : ℕ) (source sink notes : Stream)
    → Checks 4294967295 source.before answer → IsEnding answer status sink notes → status ≡ 1 → IsBrokenIn source sink
broken_in (Ok (Lawful n)) status source sink notes checks (inl w) one = absurd (omega (arith, w.is, one))
broken_in (Ok (No n r)) status source sink notes checks (inl w) one = record { pair = n; few = checks.verdict.0; rule = r; breaks = checks.verdict.1; output = w.output }
broken_in (Ok v) status source sink notes checks (inr c) one = absurd (omega (arith, c.is, one))
broken_in (Err e) status source sink notes checks h one = absurd (bad_status (error_in e) 1 (omega arith) (sym h.is ∙ one))

-- it is never that of words
pub no_words_status : (answer : Result Verdict CheckError) (status : ℕ) (sink notes : Stream) → IsEnding answer status sink notes → status ≡ 2 → ⊥
no_words_status (Ok (Lawful n)) status sink notes (inl w) two = omega (arith, w.is, two)
no_words_status (Ok (No n r)) status sink notes (inl w) two = omega (arith, w.is, two)
no_words_status (Ok v) status sink notes (inr c) two = omega (arith, c.is, two)
no_words_status (Err e) status sink notes h two = bad_status (error_in e) 2 (omega arith) (sym h.is ∙ two)

-- with status 4 behind a verdict the sink has failed
pub write_failed : (v : Verdict) (status : ℕ) (sink notes : Stream) → IsEnding (Ok v) status sink notes → status ≡ 4 → HasFailedOnce sink
write_failed (Lawful n) status sink notes (inl w) four = absurd (omega (arith, w.is, four))
write_failed (No n r) status sink notes (inl w) four = absurd (omega (arith, w.is, four))
write_failed v status sink notes (inr c) four = c.failed

-- and no error of a check is a write fault
pub no_write_fault : (e : CheckError) → status_of (Err (error_in e)) ≡ 4 → ⊥
no_write_fault error.ReadFault four = omega (arith, four)
no_write_fault error.TooLong four = omega (arith, four)
no_write_fault error.OutOfMemory four = omega (arith, four)

-- a verdict's status is none of a fault
pub verdict_is_not_four : (v : Verdict) → status_told v ≡ 4 → ⊥
verdict_is_not_four (Lawful n) four = omega (arith, four)
verdict_is_not_four (No n r) four = omega (arith, four)

pub verdict_is_not_three : (v : Verdict) (status : ℕ) (sink notes : Stream) → IsEnding (Ok v) status sink notes → status ≡ 3 → ⊥
verdict_is_not_three (Lawful n) status sink notes (inl w) three = omega (arith, w.is, three)
verdict_is_not_three (No n r) status sink notes (inl w) three = omega (arith, w.is, three)
verdict_is_not_three v status sink notes (inr c) three = omega (arith, c.is, three)

-- an error's status is above those of verdicts, and 3 is that of a read fault
pub error_is_above : (e : ScriptError) (status : ℕ) → status ≡ status_of (Err e) → status < 2 → ⊥
error_is_above script_error.ReadFault status is few = omega (arith, is, few)
error_is_above script_error.WriteFault status is few = omega (arith, is, few)
error_is_above (script_error.BadLine line) status is few = omega (arith, is, few)
error_is_above script_error.TooLong status is few = omega (arith, is, few)
error_is_above script_error.OutOfMemory status is few = omega (arith, is, few)

pub three_is_read : (e : CheckError) → status_of (Err (error_in e)) ≡ 3 → e ≡ error.ReadFault
three_is_read error.ReadFault three = refl
three_is_read error.TooLong three = absurd (omega (arith, three))
three_is_read error.OutOfMemory three = absurd (omega (arith, three))

-- what is told of a run: the verdict, or want of memory
pub run_told : (v : Verdict) (bytes : Option (List ℕ)) → AcceptsRuns bytes (Ok v) → IsRunIn bytes → status_told v ≡ 0
run_told v None h run = absurd run
run_told v (Some bytes) h run = ap status_told (h run.0 run.1 run.2)

spent : (e : CheckError) → e ≢ error.TooLong → e ≢ error.ReadFault → status_of (Err (error_in e)) ≡ 7
spent error.ReadFault long fault = absurd (fault refl)
spent error.TooLong long fault = absurd (long refl)
spent error.OutOfMemory long fault = refl

pub run_spent : (e : CheckError) (bytes : Option (List ℕ)) → AcceptsRuns bytes (Err e) → IsRunIn bytes → e ≢ error.ReadFault → status_of (Err (error_in e)) ≡ 7
run_spent e None h run fault = absurd run
run_spent e (Some bytes) h run fault = spent e (h run.0 run.1 run.2) fault

-- what few lines come to: a verdict, or want of memory
pub judged : (v : Verdict) (status : ℕ) → status ≡ status_told v → IsJudged status
judged (Lawful n) status is = inl is
judged (No n r) status is = inr (inl is)

pub few_spent : (e : CheckError) (bytes : Option (List ℕ)) → Checks 4294967295 bytes (Err e) → HasLinesOf 4294967295 bytes → e ≢ error.ReadFault → status_of (Err (error_in e)) ≡ 7
few_spent e bytes h few fault = spent e (λ q. h.few few (ap Err q)) fault

-- texts are those of words
pub some_words : {A : Type 0} (f : A → List ℕ) (ws : List A) → (map f ws ≡ [] → ⊥) → 0 < length ws
some_words f [] h = absurd (h refl)
some_words f (w ∷ ws) h = omega arith
