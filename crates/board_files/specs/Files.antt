-- Files that are written once, and what each call on them answers and leaves.
use Rattle.std.specs.Prelude.{◌≡◌, ◌≢◌, ℕ, ◌+◌, ◌-◌, ◌^◌, ◌<◌, ◌≤◌, List, [], ◌∷◌, ◌++◌, length, take, drop, min, Bool, true, false, not, is_some, Option, Some, None, option_map, Result, Ok, Err, IfSome, IfOk, OnOk, IsSome, IsSomeAnd, All}
use Rattle.board_names.specs.Table.{at, putting, without, name_at, NamesAscend, IsFree}
use Rattle.board_files.specs.declared.files.FilesError.{FilesError}
use Rattle.board_files.specs.declared.files.FilesError.TheVariants.{Failed, OutOfMemory}

-- ---- files

-- a file: whether it is final, and its bytes
pub record File : Type 0 where
  pub is_final : Bool
  pub bytes : List ℕ

-- the held files by their full names, in the order of the names
abbrev pub Held : Type 0
Held = List (List ℕ × File)

-- the held files, and what was held after each change so far
pub record Told : Type 0 where
  pub files : Held
  pub moments : List Held

-- a file that was just made
abbrev pub new_file : File
new_file = record { is_final = false; bytes = [] }

-- a file with these bytes that nobody may write any more
abbrev pub final_file : List ℕ → File
final_file bytes = record { is_final = true; bytes = bytes }

-- a file with more bytes at its end
abbrev pub lengthened : List ℕ → File → File
lengthened more file = record file { bytes = file.bytes ++ more }

-- a file that nobody may write any more
abbrev pub finished : File → File
finished file = record file { is_final = true }

-- ---- changes

-- the files became these: a moment more
abbrev pub moved : Told → Held → Told
moved told files = record { files = files; moments = told.moments ++ files ∷ [] }

abbrev pub created_by : List ℕ → Told → Option File → Told
created_by name told None = moved told (putting told.files name new_file)
created_by name told (Some file) = told

-- after a new file was asked for: it is there, and where it was held nothing changed
abbrev pub created : List ℕ → Told → Told
created name told = created_by name told (at told.files name)

abbrev pub written_by : List ℕ → List ℕ → Told → Option File → Told
written_by name bytes told None = told
written_by name [] told (Some file) = told
written_by name (b ∷ bytes) told (Some file) = moved told (putting told.files name (lengthened (b ∷ bytes) file))

-- after these bytes were added to a file; no bytes change nothing
abbrev pub written : List ℕ → List ℕ → Told → Told
written name bytes told = written_by name bytes told (at told.files name)

abbrev pub finalized_file : List ℕ → Told → File → Bool → Told
finalized_file name told file true = told
finalized_file name told file false = moved told (putting told.files name (finished file))

abbrev pub finalized_by : List ℕ → Told → Option File → Told
finalized_by name told None = told
finalized_by name told (Some file) = finalized_file name told file file.is_final

-- after a file was made final; where it was final nothing changed
abbrev pub finalized : List ℕ → Told → Told
finalized name told = finalized_by name told (at told.files name)

abbrev pub removed_by : List ℕ → Told → Option File → Told
removed_by name told None = told
removed_by name told (Some file) = moved told (without told.files name)

-- after a file was removed; where it wasn't held nothing changed
abbrev pub removed : List ℕ → Told → Told
removed name told = removed_by name told (at told.files name)

-- what a call leaves: the change that its answer tells, and nothing where it answers an error
abbrev pub leaves : {T : Type 0} → Result T FilesError → (T → Told → Told) → Option Told → Option Told
leaves (Ok value) change told = option_map (change value) told
leaves (Err e) change told = told

-- ---- counts

-- how many calls there were, how many faults, and how many writes that took less than they were given
pub record Counts : Type 0 where
  pub calls : ℕ
  pub faults : ℕ
  pub short_writes : ℕ

-- a count after so many more, up to its last value
abbrev pub raised : ℕ → ℕ → ℕ
raised more count = min (count + more) (2 ^ 64 - 1)

-- a count has risen; one that stands at its last value counts as risen
pub record HasRisen (before now : ℕ) : Type 0 where
  pub later : before ≤ now
  pub more : min (before + 1) (2 ^ 64 - 1) ≤ now

-- a fault is counted, and nothing else is
abbrev pub CountsFaults : {T : Type 0} → ℕ → ℕ → Result T FilesError → Type 0
CountsFaults before now (Ok value) = now ≡ before
CountsFaults before now (Err Failed) = HasRisen before now
CountsFaults before now (Err OutOfMemory) = now ≡ before

-- a call that writes nothing counts itself and its fault alone
pub record CountsCall {T : Type 0} (before now : Counts) (result : Result T FilesError) : Type 0 where
  pub calls : now.calls ≡ raised 1 before.calls
  pub faults : CountsFaults before.faults now.faults result
  pub short_writes : now.short_writes ≡ before.short_writes

-- a write of so many bytes is counted where it took less
abbrev pub CountsShort : ℕ → ℕ → ℕ → Result ℕ FilesError → Type 0
CountsShort given before now (Ok taken) = (taken ≤ given) × (taken < given → HasRisen before now) × (taken ≡ given → now ≡ before)
CountsShort given before now (Err e) = now ≡ before

-- a write counts itself, its fault, and that it was short
pub record CountsWrite (given : ℕ) (before now : Counts) (result : Result ℕ FilesError) : Type 0 where
  pub calls : now.calls ≡ raised 1 before.calls
  pub faults : CountsFaults before.faults now.faults result
  pub short_writes : CountsShort given before.short_writes now.short_writes result

-- ---- calls, by what is told of the files

-- whether nothing stands under a name
abbrev pub is_free : Held → List ℕ → Bool
is_free files name = not (is_some (at files name))

-- `create_exclusive`: whether the name was free, and then a new file
pub record Creates (name : List ℕ) (old new : Option Told) (result : Result Bool FilesError) : Type 0 where
  pub answer : IfSome old (λ t. IfOk result (λ made. made ≡ is_free t.files name))
  pub after : new ≡ leaves result (λ made. created name) old

-- `write`: the file is held, and has a front of the bytes at its end
pub record Writes (name bytes : List ℕ) (old new : Option Told) (result : Result ℕ FilesError) : Type 0 where
  pub held : IfSome old (λ t. OnOk result (IsSome (at t.files name)))
  pub after : new ≡ leaves result (λ taken. written name (take taken bytes)) old

-- `set_final`: the file is held, and is final
pub record Finalizes (name : List ℕ) (old new : Option Told) (result : Result (Unit {0}) FilesError) : Type 0 where
  pub held : IfSome old (λ t. OnOk result (IsSome (at t.files name)))
  pub after : new ≡ leaves result (λ u. finalized name) old

-- `is_final`: whether the file is final, where it is held
pub record LooksAt (name : List ℕ) (old new : Option Told) (result : Result (Option Bool) FilesError) : Type 0 where
  pub answer : IfSome old (λ t. IfOk result (λ seen. seen ≡ option_map (λ f. f.is_final) (at t.files name)))
  pub after : new ≡ old

-- `size`: the file is held, and has so many bytes
pub record Measures (name : List ℕ) (old new : Option Told) (result : Result ℕ FilesError) : Type 0 where
  pub answer : IfSome old (λ t. IfOk result (λ size. IsSomeAnd (at t.files name) (λ f. size ≡ length f.bytes)))
  pub after : new ≡ old

-- a buffer's front is filled with a file's first bytes, as many as the shorter of the two has
pub record FillsFront (bytes before now : List ℕ) (count : ℕ) : Type 0 where
  pub count_is : count ≡ min (length before) (length bytes)
  pub filled : now ≡ take count bytes ++ drop count before

-- `read`: the file is held, and the buffer's front is filled from it
pub record ReadsFile (name before now : List ℕ) (old new : Option Told) (result : Result ℕ FilesError) : Type 0 where
  pub bound : IfOk result (λ count. count ≤ length before)
  pub answer : IfSome old (λ t. IfOk result (λ count. IsSomeAnd (at t.files name) (λ f. FillsFront f.bytes before now count)))
  pub after : new ≡ old

-- `remove`: whether the name was held; it is free
pub record Removes (name : List ℕ) (old new : Option Told) (result : Result Bool FilesError) : Type 0 where
  pub answer : IfSome old (λ t. IfOk result (λ had. had ≡ is_some (at t.files name)))
  pub after : new ≡ leaves result (λ had. removed name) old
  pub gone : IfSome new (λ t. OnOk result (IsFree t.files name))

-- files whose names ascend and can be counted by an index
pub record AreListed (files : Held) : Type 0 where
  pub ascend : NamesAscend files
  pub few : length files < 2 ^ 63

-- `name_at`: the name at an index, in the order of the names
pub record TellsName (index : ℕ) (old new : Option Told) (result : Result (Option (List ℕ)) FilesError) : Type 0 where
  pub answer : IfSome old (λ t. IfOk result (λ name. name ≡ name_at t.files index))
  pub listed : IfSome old (λ t. AreListed t.files)
  pub after : new ≡ old

-- ---- moments

-- the moments are those of before, and more, each of which is so
pub record AddsMoments (before now : List Held) (says : Held → Type 0) : Type 0 where
  pub more : List Held
  pub behind : now ≡ before ++ more
  pub each : All says more

-- every other name is as before
abbrev pub SameOthers : List ℕ → Held → Held → Type 0
SameOthers name before now = (other : List ℕ) → other ≢ name → at now other ≡ at before other
