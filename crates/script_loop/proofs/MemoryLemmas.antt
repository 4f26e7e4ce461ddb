-- Calls that are listed to fail.
use Rattle.std.proofs.Common.{◌≡◌, ℕ, ◌+◌, ◌<◌, ◌≤◌, ◌^◌, All, inl, inr, true, false, eqb, eq-eqb, List, [], length, get_or, arith, sym, subst, Contains, Some}
use Rattle.std.specs.List.{IsAnyAnswer}
use Rattle.std.proofs.lemmas.Bool.{eqb-true}
use Rattle.std.proofs.lemmas.List.{length-take}
use Rattle.script_loop.specs.declared.memory.MemorySink.{MemorySink}
use Rattle.script_loop.specs.declared.memory.MemorySource.{MemorySource}
use Rattle.script_loop.specs.Memory.{Calls, FailsBehindEnd, IsBehindEnd, IsListed, NoneIsListed, SinkNeverFails, fresh_calls, one_more, sink_calls, sink_holds, sink_most, sink_room, source_calls, source_rest}

pub is_listed : (fails : List ℕ) (call : ℕ) → IsAnyAnswer (λ y b. eqb y call ≡ b) fails true → Contains fails call
is_listed fails call h = (h.0, h.1, eqb-true (get_or fails h.0 call) call (h.2 call))

pub not_listed : (fails : List ℕ) (call : ℕ) → IsAnyAnswer (λ y b. eqb y call ≡ b) fails false → Contains fails call → ⊥
not_listed fails call h k =
    let no : eqb (get_or fails k.0 call) call ≡ false = h k.0 call (omega arith) k.1 in
    let yes : eqb (get_or fails k.0 call) call ≡ true = eq-eqb (get_or fails k.0 call) call k.2 in
    absurd cc

pub all_over : (calls : Calls) → NoneIsListed calls → IsListed calls → ⊥
all_over calls h k = let lt = h k.0 calls.made k.1 in omega (arith, lt, k.2)

pub still_over : (calls : Calls) → calls.made < 2 ^ 64 → NoneIsListed calls → NoneIsListed (one_more calls)
still_over calls few h = λ k d lt. let l = h k d lt in omega (arith, l, few)

-- no call is to fail where the list is empty
pub none_listed : (calls : Calls) (piece : ℕ) → calls ≡ fresh_calls piece [] → NoneIsListed calls
none_listed calls piece e = subst NoneIsListed (sym e) (λ k d lt. absurd (omega (arith, lt)))

pub sink_has_room : (k : MemorySink) (piece room : ℕ) → sink_calls k ≡ fresh_calls piece [] → sink_room k ≡ room → SinkNeverFails k room
sink_has_room k piece room e f = (none_listed (sink_calls k) piece e, omega (arith, f))

-- a sink has the room that one had before
pub room_kept : (k old : MemorySink) (room : ℕ) → Some (sink_most k) ≡ Some (sink_most old) → sink_most old ≡ room → sink_most k ≡ room
room_kept k old room e f = cc

-- what a sink holds fits into the room that one had before
pub holds_within : (k old : MemorySink) (room : ℕ) → Some (sink_most k) ≡ Some (sink_most old) → sink_most old ≡ room → length (sink_holds k) ≤ room
holds_within k old room e f =
    let same : sink_most k ≡ sink_most old = cc in
    omega (arith, length-take k.len k.bytes.items, same, f)

-- ---- calls behind the end

not_now : (s : MemorySource) (number : ℕ) → IsBehindEnd s number → number ≡ s.calls → ⊥
not_now s number (inl made) e = omega (arith, made, e)
not_now s number (inr far) e = omega (arith, far, e)

-- the call that is made now isn't to fail
pub fails_not_now : (s : MemorySource) → FailsBehindEnd s → IsListed (source_calls s) → ⊥
fails_not_now s h k = not_now s _ (h k.0 s.calls k.1) k.2

still_behind : (s new : MemorySource) (number : ℕ) → s.calls ≤ new.calls → new.calls + length (source_rest new) ≤ s.calls + length (source_rest s) → IsBehindEnd s number → IsBehindEnd new number
still_behind s new number made rest (inl before) = inl (omega (arith, before, made))
still_behind s new number made rest (inr far) = inr (omega (arith, far, rest))

-- nor is one before the end once a call gave at least a byte
pub fails_still : (s new : MemorySource) → new.fails.items ≡ s.fails.items → s.calls ≤ new.calls → new.calls + length (source_rest new) ≤ s.calls + length (source_rest s) → FailsBehindEnd s → FailsBehindEnd new
fails_still s new same made rest h = subst (λ (xs : List ℕ). All (IsBehindEnd new) xs) (sym same) (λ k d lt. still_behind s new _ made rest (h k d lt))
