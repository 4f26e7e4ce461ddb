-- Runs of scripts in memory.
use Rattle.std.proofs.Common.{◌≡◌, ℕ, ◌≤◌, List, [], length, arith, refl, sym, subst, inl, Some}
use Rattle.std.specs.Prelude.{IfErr, IfSome, IsErrAnd, Result, Ok, Err}
use Rattle.script_loop.specs.declared.error.ScriptError.{ScriptError}
use Rattle.script_loop.specs.declared.error.ScriptError.TheVariants.{OutOfMemory}
use Rattle.script_loop.specs.Runs.{Stream}
use Rattle.script_loop.proofs.CompleteLemmas.{gave_up}
use Rattle.script_loop.proofs.RunLemmas.{spent_at_once}
use Rattle.board_script.specs.Whole.{RunsInMemory, RunsScript}

-- the source never fails, and the sink has the room
pub ran_in_memory : (room : ℕ) (script : List ℕ) (reads : Type 0) (takes : ℕ → Type 0) (source sink : Stream) (result : Result (Unit {0}) ScriptError)
    → RunsScript 4294967295 reads takes source sink result → reads → ((n : ℕ) → n ≤ room → takes n) → source.before ≡ Some script → sink.before ≡ Some [] → IfSome sink.after (λ held. length held ≤ room) → RunsInMemory room script result
ran_in_memory room script reads takes source sink result run sure within whole empty fits = record {
  source = source;
  sink = sink;
  whole = whole;
  empty = empty;
  fits = fits;
  run = record {
    runs = run.runs;
    read = λ t. run.read sure;
    written = λ n le. run.written n (within n le);
    complete = λ t n le. run.complete sure n (within n le);
    memory = run.memory;
  };
}

-- bytes in memory that no call touched
abbrev untouched : List ℕ → Stream
untouched bytes = record { before = Some bytes; after = Some bytes; faults_before = 0; faults_after = 0 }

-- memory was refused for the room
pub never_run : (room : ℕ) (script : List ℕ) → RunsInMemory room script (Err OutOfMemory)
never_run room script = record {
  source = untouched script;
  sink = untouched [];
  whole = refl;
  empty = refl;
  fits = omega arith;
  run = record {
    runs = gave_up 4294967295 (untouched script) (untouched []) refl refl (spent_at_once 4294967295 (untouched script) (untouched []) refl);
    read = λ t same. absurd cc;
    written = λ n le fits same. absurd cc;
    complete = λ t n le fits. refl;
    memory = λ refused. inl (record { unread = refl; unwritten = refl });
  };
}

-- what holds of an error holds of the same one, passed on
pub passed_on : {T : Type 0} (result : Result T ScriptError) (e : ScriptError) (P : ScriptError → Type 0) → IsErrAnd result (λ f. f ≡ e) → P e → IfErr result P
passed_on (Ok x) e P h p = tt
passed_on (Err f) e P h p = subst P (sym h) p
