-- What a run comes to; a script of the grammar is neither outside it nor too long.
use Rattle.std.proofs.Common.{◌≡◌, ℕ, suc, List, [], ◌∷◌, ◌++◌, length, arith, refl, ap, subst, Option, Some, None}
use Rattle.std.specs.Prelude.{◌≢◌, IfErr, IsSomeAnd, Result, Ok, Err}
use Rattle.std.specs.Io.KnownBytes.{IsAtEnd}
use Rattle.std.specs.List.{AllByRecursion}
use Rattle.std.proofs.lemmas.List.{length-append}
use Rattle.board_model.specs.Lines.{lines_of}
use Rattle.script_model.specs.declared.line.ScriptLine.{ScriptLine}
use Rattle.script_model.specs.ScriptGrammar.{SpellsLine}
use Rattle.script_model.specs.ScriptSession.{Session}
use Rattle.script_model.specs.ScriptOutput.{FollowedBy, GoesOnAfter, IsScript, LeavesGrammarAfter, SpellsAll}
use Rattle.script_loop.specs.declared.error.ScriptError.{ScriptError}
use Rattle.script_loop.specs.declared.error.ScriptError.TheVariants.{ReadFault, WriteFault, BadLine, TooLong, OutOfMemory}
use Rattle.script_loop.specs.Runs.{CountStays, CountsOn, HasFailed, HasFailedOnce, Stream}
use Rattle.script_loop.specs.Runs.{IsBadAt, IsPast, IsReadCut, IsRunOf, IsSpent, IsWriteCut, Runs}

abbrev IsSpelled : List ℕ → Type 0
IsSpelled bytes = (l : ScriptLine) × SpellsLine bytes l

spelled_behind : (ls more : List (List ℕ)) (b : List ℕ) → AllByRecursion IsSpelled (ls ++ b ∷ more) → IsSpelled b
spelled_behind [] more b h = h.0
spelled_behind (l ∷ ls) more b h = spelled_behind ls more b h.1

spells_length : (ls : List (List ℕ)) (ps : Session) → SpellsAll ls ps → length ls ≡ length ps
spells_length [] [] h = refl
spells_length (l ∷ ls) (q ∷ ps) h = ap suc (spells_length ls ps h.1)
spells_length [] (q ∷ ps) h = absurd h
spells_length (l ∷ ls) [] h = absurd h

pub not_bad : (n limit : ℕ) (source sink : Stream) → IsBadAt n limit source sink → IsSomeAnd source.before (IsScript limit) → ⊥
not_bad n limit source sink b s = outside source.before b.session b.lines s
  where
    outside : (input : Option (List ℕ)) (session : Session) → LeavesGrammarAfter input session → IsSomeAnd input (IsScript limit) → ⊥
    outside None session l s = absurd s
    outside (Some i) session l s =
        let f : FollowedBy i session (l.0 ∷ l.1) = l.2 in
        let w = spelled_behind f.lines l.1 l.0 (subst (AllByRecursion IsSpelled) f.all s.each) in
        l.3 w.0 w.1

pub not_past : (limit : ℕ) (source sink : Stream) → IsPast limit source sink → IsSomeAnd source.before (IsScript limit) → ⊥
not_past limit source sink b s = more source.before b.session b.lines b.full s
  where
    more : (input : Option (List ℕ)) (session : Session) → GoesOnAfter input session → length session ≡ limit → IsSomeAnd input (IsScript limit) → ⊥
    more None session l full s = absurd s
    more (Some i) session l full s =
        let f : FollowedBy i session (l.0 ∷ l.1) = l.2 in
        let all : length (lines_of i) ≡ length (f.lines ++ l.0 ∷ l.1) = ap (λ (x : List (List ℕ)). length x) f.all in
        omega (arith, all, length-append f.lines (l.0 ∷ l.1), spells_length f.lines session f.spelled, full, s.few)

-- ---- runs that end so

-- a count that has risen by one has risen
pub has_failed : (stream : Stream) → HasFailedOnce stream → HasFailed stream
has_failed stream once = omega (arith, once)

module _ (limit : ℕ) (source sink : Stream) where
  pub ran : CountStays source → CountStays sink → IsRunOf limit source sink → IsAtEnd source.after → Runs limit source sink (Ok tt)
  ran reads writes run end = record { ok = run; end = end; err = tt; complete = λ u. tt; read = λ e. absurd cc; write = λ e. absurd cc; read_told = λ n. reads; write_told = λ n. writes; read_later = omega (arith, reads); write_later = omega (arith, writes) }

  pub unread : CountsOn source → CountStays sink → IsReadCut limit source sink → HasFailedOnce source → Runs limit source sink (Err ReadFault)
  unread reads writes cut fault = record { ok = tt; end = tt; err = cut; complete = λ u. absurd (u.read (has_failed source fault)); read = λ e. fault; write = λ e. absurd cc; read_told = λ n. absurd (n refl); write_told = λ n. writes; read_later = reads; write_later = omega (arith, writes) }

  pub unwritten : CountStays source → CountsOn sink → IsWriteCut limit source sink → HasFailedOnce sink → Runs limit source sink (Err WriteFault)
  unwritten reads writes cut fault = record { ok = tt; end = tt; err = cut; complete = λ u. absurd (u.written (has_failed sink fault)); read = λ e. absurd cc; write = λ e. fault; read_told = λ n. reads; write_told = λ n. absurd (n refl); read_later = omega (arith, reads); write_later = writes }

  pub left_grammar : CountStays source → CountStays sink → (n : ℕ) → IsBadAt n limit source sink → Runs limit source sink (Err (BadLine n))
  left_grammar reads writes n bad = record { ok = tt; end = tt; err = bad; complete = λ u. absurd (not_bad n limit source sink bad u.script); read = λ e. absurd cc; write = λ e. absurd cc; read_told = λ n. reads; write_told = λ n. writes; read_later = omega (arith, reads); write_later = omega (arith, writes) }

  pub was_long : CountStays source → CountStays sink → IsPast limit source sink → Runs limit source sink (Err TooLong)
  was_long reads writes past = record { ok = tt; end = tt; err = past; complete = λ u. absurd (not_past limit source sink past u.script); read = λ e. absurd cc; write = λ e. absurd cc; read_told = λ n. reads; write_told = λ n. writes; read_later = omega (arith, reads); write_later = omega (arith, writes) }

  pub gave_up : CountStays source → CountStays sink → IsSpent limit source sink → Runs limit source sink (Err OutOfMemory)
  gave_up reads writes spent = record { ok = tt; end = tt; err = spent; complete = λ u. refl; read = λ e. absurd cc; write = λ e. absurd cc; read_told = λ n. reads; write_told = λ n. writes; read_later = omega (arith, reads); write_later = omega (arith, writes) }

  -- where no fault comes, a script of the grammar is run to its end
  pub complete : (result : Result (Unit {0}) ScriptError) → Runs limit source sink result → result ≢ Err ReadFault → result ≢ Err WriteFault → IsSomeAnd source.before (IsScript limit) → IfErr result (λ e. e ≡ OutOfMemory)
  complete (Ok x) runs read write script = tt
  complete (Err ReadFault) runs read write script = absurd (read refl)
  complete (Err WriteFault) runs read write script = absurd (write refl)
  complete (Err (BadLine n)) runs read write script = absurd (not_bad n limit source sink runs.err script)
  complete (Err TooLong) runs read write script = absurd (not_past limit source sink runs.err script)
  complete (Err OutOfMemory) runs read write script = refl
