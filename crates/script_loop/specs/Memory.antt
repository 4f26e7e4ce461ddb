-- Sources and sinks in memory: what they have, and how they deal with their calls.
use Rattle.std.specs.Prelude.{◌≡◌, ℕ, ◌+◌, ◌-◌, ◌^◌, ◌<◌, ◌≤◌, ◌==◌, min, if◌then◌else◌, List, length, take, drop, All, Contains, ◌⊎◌, Option, Some}
use Rattle.script_loop.specs.declared.memory.MemorySource.{MemorySource}
use Rattle.script_loop.specs.declared.memory.MemorySink.{MemorySink}

-- ---- bytes

-- the bytes that a source has left
abbrev pub source_rest : MemorySource → List ℕ
source_rest s = drop s.at s.bytes.items

abbrev pub source_left : MemorySource → Option (List ℕ)
source_left s = Some (source_rest s)

-- the bytes that a sink holds
abbrev pub sink_holds : MemorySink → List ℕ
sink_holds k = take k.len k.bytes.items

abbrev pub sink_held : MemorySink → Option (List ℕ)
sink_held k = Some (sink_holds k)

-- how many bytes a sink has room for
abbrev pub sink_room : MemorySink → ℕ
sink_room k = length k.bytes.items - k.len

-- how many bytes a sink can hold
abbrev pub sink_most : MemorySink → ℕ
sink_most k = length k.bytes.items

-- ---- calls

-- how many bytes a call gives or takes at most, how many calls were made, and the numbers of those that fail
pub record Calls : Type 0 where
  pub piece : ℕ
  pub made : ℕ
  pub fails : List ℕ

abbrev pub source_calls : MemorySource → Calls
source_calls s = record { piece = s.piece; made = s.calls; fails = s.fails.items }

abbrev pub sink_calls : MemorySink → Calls
sink_calls k = record { piece = k.piece; made = k.calls; fails = k.fails.items }

-- none was made
abbrev pub fresh_calls : ℕ → List ℕ → Calls
fresh_calls piece fails = record { piece = piece; made = 0; fails = fails }

-- one more was made, as far as a u64 counts
abbrev pub one_more : Calls → Calls
one_more calls = record { piece = calls.piece; made = min (calls.made + 1) (2 ^ 64 - 1); fails = calls.fails }

-- the next one is to fail
abbrev pub IsListed : Calls → Type 0
IsListed calls = Contains calls.fails calls.made

-- those that are to fail were all made
abbrev pub NoneIsListed : Calls → Type 0
NoneIsListed calls = All (λ number. number < calls.made) calls.fails

-- a call that is to fail was made, or comes behind the end: it can be met only by who reads on after that is told
abbrev pub IsBehindEnd : MemorySource → ℕ → Type 0
IsBehindEnd s number = (number < s.calls) ⊎ (s.calls + length (source_rest s) < number)

-- none is to fail before the end
abbrev pub FailsBehindEnd : MemorySource → Type 0
FailsBehindEnd s = All (IsBehindEnd s) s.fails.items

-- as much of what is wanted as there is, and as a piece holds; a piece of 0 is no bound
abbrev pub piece_of : ℕ → ℕ → ℕ → ℕ
piece_of wanted there piece = if piece == 0 then min wanted there else min piece (min wanted there)

-- how many bytes a source gives where so many are wanted
abbrev pub piece_given : MemorySource → ℕ → ℕ
piece_given s wanted = piece_of wanted (length (source_rest s)) s.piece

-- how many of so many bytes a sink takes
abbrev pub piece_taken : MemorySink → ℕ → ℕ
piece_taken k offered = piece_of offered (sink_room k) k.piece

-- a write of these bytes finds no room
abbrev pub FindsNoRoom : MemorySink → List ℕ → Type 0
FindsNoRoom k bytes = (sink_room k ≡ 0) × (0 < length bytes)

-- a write of these bytes fails: its number is listed, or it finds no room
abbrev pub CannotTake : MemorySink → List ℕ → Type 0
CannotTake k bytes = IsListed (sink_calls k) ⊎ FindsNoRoom k bytes

-- no later call fails while no more than so many bytes are written
abbrev pub SinkNeverFails : MemorySink → ℕ → Type 0
SinkNeverFails k n = NoneIsListed (sink_calls k) × (n ≤ sink_room k)
