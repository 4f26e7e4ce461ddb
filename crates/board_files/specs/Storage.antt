-- Static storage over files: what its calls answer, what they leave, and what others find at each moment.
use Rattle.std.specs.Prelude.{◌≡◌, ◌≢◌, ◌⊎◌, ℕ, ◌<◌, ◌==◌, List, ◌++◌, length, take, min, Bool, true, false, nat_lt, slice_get, Option, option_map, Some, None, ⊤, Result, Ok, Err, IsOk, IfSome, IsSomeAnd, IsErrOf, option_to_list, if◌then◌else◌}
use Rattle.std.specs.List.{filter}
use Rattle.std.specs.Map.{keys_of}
use Rattle.board_layout.specs.Answer.{with_value}
use Rattle.board_names.specs.Configuration.{full_name}
use Rattle.board_names.specs.Extraction.{Extracts}
use Rattle.board_names.specs.Table.{at, taking}
use Rattle.board_names.specs.declared.configuration.Configuration.{Configuration}
use Rattle.board_names.specs.declared.errors.static_storage.StaticStorageCreateError.{StaticStorageCreateError}
use Rattle.board_names.specs.declared.errors.static_storage.StaticStorageCreateError.TheVariants.{AlreadyExists, Creation}
use Rattle.board_names.specs.declared.errors.static_storage.StaticStorageCreateError.TheVariants as creating
use Rattle.board_names.specs.declared.errors.static_storage.StaticStorageOpenError.{StaticStorageOpenError}
use Rattle.board_names.specs.declared.errors.static_storage.StaticStorageOpenError.TheVariants.{DoesNotExist, InitializationNotYetFinalized}
use Rattle.board_names.specs.declared.errors.static_storage.StaticStorageOpenError.TheVariants as opening
use Rattle.board_names.specs.declared.errors.static_storage.StaticStorageReadError.{StaticStorageReadError}
use Rattle.board_names.specs.declared.errors.static_storage.StaticStorageReadError.TheVariants.{BufferTooSmall, ReadError, StaticStorageWasModified}
use Rattle.board_names.specs.declared.errors.static_storage.StaticStorageReadError.TheVariants as reading
use Rattle.board_names.specs.declared.errors.static_storage.StaticStorageUnlockError.{StaticStorageUnlockError}
use Rattle.board_names.specs.declared.errors.static_storage.StaticStorageUnlockError.TheVariants.{NoSpaceLeft}
use Rattle.board_names.specs.declared.errors.static_storage.StaticStorageUnlockError.TheVariants as unlocking
use Rattle.board_files.specs.Files.{File, Held, Told, Counts, new_file, final_file, written, finalized, HasRisen, SameOthers}
use Rattle.board_files.specs.declared.file_locked.FileLocked.{FileLocked}
use Rattle.board_files.specs.declared.file_storage.FileStorage.{FileStorage}

-- ---- answers

-- the expected answer, a fault, or want of memory
abbrev pub AnswersOr : {T E : Type 0} → Result T E → E → E → Result T E → Type 0
AnswersOr result fault out_of_memory answer = result ≢ Err fault → result ≢ Err out_of_memory → result ≡ answer

-- no other errors are answered than a fault and want of memory
abbrev pub IsOkOr : {T E : Type 0} → Result T E → E → E → Type 0
IsOkOr result fault out_of_memory = result ≢ Err fault → result ≢ Err out_of_memory → IsOk result

-- why `create` is refused
abbrev pub IsCreateRefusal : StaticStorageCreateError → Type 0
IsCreateRefusal AlreadyExists = ⊤
IsCreateRefusal Creation = ⊤
IsCreateRefusal creating.OutOfMemory = ⊤
IsCreateRefusal creating.Write = ⊥
IsCreateRefusal creating.InsufficientPermissions = ⊥
IsCreateRefusal creating.InternalError = ⊥

-- why `unlock` is refused
abbrev pub IsUnlockRefusal : StaticStorageUnlockError → Type 0
IsUnlockRefusal (NoSpaceLeft taken given) = ⊤
IsUnlockRefusal unlocking.InternalError = ⊤
IsUnlockRefusal unlocking.OutOfMemory = ⊤
IsUnlockRefusal unlocking.InsufficientPermissions = ⊥

-- why `open` is refused
abbrev pub IsOpenRefusal : StaticStorageOpenError → Type 0
IsOpenRefusal DoesNotExist = ⊤
IsOpenRefusal InitializationNotYetFinalized = ⊤
IsOpenRefusal opening.Read = ⊤
IsOpenRefusal opening.OutOfMemory = ⊤
IsOpenRefusal opening.InternalError = ⊥

-- why `read` is refused
abbrev pub IsReadRefusal : StaticStorageReadError → Type 0
IsReadRefusal BufferTooSmall = ⊤
IsReadRefusal (StaticStorageWasModified expected found) = ⊤
IsReadRefusal ReadError = ⊤
IsReadRefusal reading.OutOfMemory = ⊤
IsReadRefusal reading.CreationNotComplete = ⊥

-- a fault was counted where it is told, and only there
pub record TellsFault {T E : Type 0} (fault : E) (before now : Counts) (result : Result T E) : Type 0 where
  pub told : IsErrOf result fault → HasRisen before.faults now.faults
  pub quiet : result ≢ Err fault → now.faults ≡ before.faults

-- the files were told and still are, and this is so of them before and after
abbrev pub FromTo : Option Told → Option Told → (Told → Told → Type 0) → Type 0
FromTo old new says = IfSome old (λ t. IsSomeAnd new (λ u. says t u))

-- a storage that was locked
abbrev pub locked_of : List ℕ → FileLocked
locked_of name = record { name = name }

-- a storage of so many bytes
abbrev pub storage_of : List ℕ → ℕ → FileStorage
storage_of name len = record { name = name; len = len }

-- what `create` answers of these files
abbrev pub create_answer : Configuration → List ℕ → Held → Result FileLocked StaticStorageCreateError
create_answer cfg name files = taking (locked_of name) AlreadyExists (at files (full_name cfg name))

-- the length of a file that is final
abbrev pub length_seen : Option File → Result ℕ StaticStorageOpenError
length_seen None = Err DoesNotExist
length_seen (Some file) = if file.is_final then Ok (length file.bytes) else Err InitializationNotYetFinalized

-- what `open` answers of these files
abbrev pub open_answer : Configuration → List ℕ → Held → Result FileStorage StaticStorageOpenError
open_answer cfg name files = with_value (storage_of name) (length_seen (at files (full_name cfg name)))

-- what `read` of a storage of `len` bytes answers, by how many bytes were found
abbrev pub found_answer : ℕ → ℕ → Result (Unit {0}) StaticStorageReadError
found_answer len found = if found == len then Ok tt else Err (StaticStorageWasModified len found)

-- what `read` of a storage of `len` bytes answers, by the length of the buffer and of the file
abbrev pub read_answer : ℕ → ℕ → ℕ → Result (Unit {0}) StaticStorageReadError
read_answer len room size = if nat_lt room len then Err BufferTooSmall else found_answer len (min room size)

-- what `read` of a storage of `len` bytes answers, by the length of the buffer and by what stands under the name
abbrev pub read_of : ℕ → ℕ → Option File → Result (Unit {0}) StaticStorageReadError
read_of len room None = if nat_lt room len then Err BufferTooSmall else Err ReadError
read_of len room (Some file) = read_answer len room (length file.bytes)

-- the full names of the files that are final
abbrev pub final_names : Held → List (List ℕ)
final_names files = keys_of (filter (λ e. e.1.is_final) files)

-- a full name, and whether its file is final
abbrev pub and_final : List ℕ × File → List ℕ × Bool
and_final e = (e.0, e.1.is_final)

-- the full name at an index, and whether its file is final
abbrev pub name_and_final : Held → ℕ → Option (List ℕ × Bool)
name_and_final files index = option_map and_final (slice_get files index)

-- the name that a full name is of is listed behind the others, where the file is final
abbrev pub AddsName : Configuration → List ℕ → Bool → List (List ℕ) → List (List ℕ) → Type 0
AddsName cfg path false before now = now ≡ before
AddsName cfg path true before now = (one : Option (List ℕ)) × Extracts cfg path one × (now ≡ before ++ option_to_list one)

-- ---- what is left

-- the name is held, and its file isn't final
abbrev pub IsOpen : List ℕ → Held → Type 0
IsOpen path files = IsSomeAnd (at files path) (λ f. f.is_final ≡ false)

-- a file was locked: it is empty and isn't final
abbrev pub IsFresh : List ℕ → Held → Type 0
IsFresh path files = at files path ≡ Some new_file

-- the file is final and has these bytes
abbrev pub IsWhole : List ℕ → List ℕ → Held → Type 0
IsWhole path contents files = at files path ≡ Some (final_file contents)

-- the file isn't final and has this many of these bytes
abbrev pub HasFront : List ℕ → List ℕ → ℕ → Held → Type 0
HasFront path contents taken files = at files path ≡ Some (record { is_final = false; bytes = take taken contents })

-- what a refused `unlock` leaves: the front that was taken; else all or nothing of the contents, and no final file
abbrev pub LeftBy : StaticStorageUnlockError → List ℕ → List ℕ → Told → Told → Type 0
LeftBy (NoSpaceLeft taken given) path contents t u = u ≡ written path (take taken contents) t
LeftBy unlocking.InternalError path contents t u = (u ≡ t) ⊎ (u ≡ written path contents t)
LeftBy unlocking.OutOfMemory path contents t u = (u ≡ t) ⊎ (u ≡ written path contents t)
LeftBy unlocking.InsufficientPermissions path contents t u = (u ≡ t) ⊎ (u ≡ written path contents t)

-- what `unlock` leaves: the contents by one write and then a final file, or what its refusal leaves
abbrev pub UnlockLeaves : Result FileStorage StaticStorageUnlockError → List ℕ → List ℕ → Told → Told → Type 0
UnlockLeaves (Ok storage) path contents t u = u ≡ finalized path (written path contents t)
UnlockLeaves (Err e) path contents t u = LeftBy e path contents t u

-- where there was no room for all of the contents, it is told how many bytes the file has, which are fewer; with any other
-- answer no write was short
pub record TellsShort (contents : List ℕ) (before now : Counts) (result : Result FileStorage StaticStorageUnlockError) : Type 0 where
  pub told : (taken given : ℕ) → result ≡ Err (NoSpaceLeft taken given)
      → (given ≡ length contents) × (taken < given) × HasRisen before.short_writes now.short_writes
  pub quiet : ((taken given : ℕ) → result ≢ Err (NoSpaceLeft taken given)) → now.short_writes ≡ before.short_writes

-- ---- moments

-- a moment of `create`: the name is held, isn't final, and every other name is as before
pub record IsLockedMoment (path : List ℕ) (before now : Held) : Type 0 where
  pub part : IsOpen path now
  pub others : SameOthers path before now

-- a moment of `unlock`: the name is held, and isn't final or has exactly these contents; every other name is as before
pub record IsUnlockMoment (path contents : List ℕ) (before now : Held) : Type 0 where
  pub part : IsSomeAnd (at now path) (λ f. f.is_final ≡ true → f.bytes ≡ contents)
  pub others : SameOthers path before now

-- who opens the name finds that it isn't there, that it isn't final, or the whole contents
abbrev pub FindsAllOrNothing : Configuration → List ℕ → List ℕ → Held → Type 0
FindsAllOrNothing cfg name contents files =
    (open_answer cfg name files ≡ Err DoesNotExist)
    ⊎ ((open_answer cfg name files ≡ Err InitializationNotYetFinalized)
    ⊎ ((open_answer cfg name files ≡ Ok (storage_of name (length contents))) × IsWhole (full_name cfg name) contents files))
