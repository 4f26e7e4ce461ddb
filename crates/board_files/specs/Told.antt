-- How the calls of a static storage hand on what files answered.
use Rattle.std.specs.Prelude.{ℕ, List, Bool, true, false, nat_lt, Option, Some, None, Result, Ok, Err, if◌then◌else◌}
use Rattle.board_files.specs.declared.files.FilesError.{FilesError}
use Rattle.board_files.specs.declared.files.FilesError.TheVariants.{Failed, OutOfMemory}
use Rattle.board_files.specs.declared.file_locked.FileLocked.{FileLocked}
use Rattle.board_files.specs.Storage.{locked_of, found_answer}
use Rattle.board_names.specs.declared.errors.static_storage.StaticStorageCreateError.{StaticStorageCreateError}
use Rattle.board_names.specs.declared.errors.static_storage.StaticStorageCreateError.TheVariants as creating
use Rattle.board_names.specs.declared.errors.static_storage.StaticStorageUnlockError.{StaticStorageUnlockError}
use Rattle.board_names.specs.declared.errors.static_storage.StaticStorageUnlockError.TheVariants as unlocking
use Rattle.board_names.specs.declared.errors.static_storage.StaticStorageOpenError.{StaticStorageOpenError}
use Rattle.board_names.specs.declared.errors.static_storage.StaticStorageOpenError.TheVariants as opening
use Rattle.board_names.specs.declared.errors.static_storage.StaticStorageReadError.{StaticStorageReadError}
use Rattle.board_names.specs.declared.errors.static_storage.StaticStorageReadError.TheVariants as reading
use Rattle.board_names.specs.declared.errors.concept.NamedConceptRemoveError.{NamedConceptRemoveError}
use Rattle.board_names.specs.declared.errors.concept.NamedConceptRemoveError.TheVariants as removing
use Rattle.board_names.specs.declared.errors.concept.NamedConceptListError.{NamedConceptListError}
use Rattle.board_names.specs.declared.errors.concept.NamedConceptListError.TheVariants as listing

-- what `create` tells of `create_exclusive`
abbrev pub create_told : List ℕ → Result Bool FilesError → Result FileLocked StaticStorageCreateError
create_told name (Ok true) = Ok (locked_of name)
create_told name (Ok false) = Err creating.AlreadyExists
create_told name (Err Failed) = Err creating.Creation
create_told name (Err OutOfMemory) = Err creating.OutOfMemory

-- what `unlock` tells of its write of so many bytes
abbrev pub write_told : ℕ → Result ℕ FilesError → Result (Unit {0}) StaticStorageUnlockError
write_told given (Ok taken) = if nat_lt taken given then Err (unlocking.NoSpaceLeft taken given) else Ok tt
write_told given (Err Failed) = Err unlocking.InternalError
write_told given (Err OutOfMemory) = Err unlocking.OutOfMemory

-- what `unlock` tells of `set_final`
abbrev pub final_told : Result (Unit {0}) FilesError → Result (Unit {0}) StaticStorageUnlockError
final_told (Ok u) = Ok tt
final_told (Err Failed) = Err unlocking.InternalError
final_told (Err OutOfMemory) = Err unlocking.OutOfMemory

-- what `open` tells of `is_final`
abbrev pub look_told : Result (Option Bool) FilesError → Result (Unit {0}) StaticStorageOpenError
look_told (Ok None) = Err opening.DoesNotExist
look_told (Ok (Some false)) = Err opening.InitializationNotYetFinalized
look_told (Ok (Some true)) = Ok tt
look_told (Err Failed) = Err opening.Read
look_told (Err OutOfMemory) = Err opening.OutOfMemory

-- what `open` tells of `size`
abbrev pub size_told : Result ℕ FilesError → Result ℕ StaticStorageOpenError
size_told (Ok size) = Ok size
size_told (Err Failed) = Err opening.Read
size_told (Err OutOfMemory) = Err opening.OutOfMemory

-- what `read` of a storage of so many bytes tells of `Files::read`
abbrev pub read_told : ℕ → Result ℕ FilesError → Result (Unit {0}) StaticStorageReadError
read_told len (Ok found) = found_answer len found
read_told len (Err Failed) = Err reading.ReadError
read_told len (Err OutOfMemory) = Err reading.OutOfMemory

-- what `remove` tells of `Files::remove`
abbrev pub remove_told : Result Bool FilesError → Result Bool NamedConceptRemoveError
remove_told (Ok had) = Ok had
remove_told (Err Failed) = Err removing.InternalError
remove_told (Err OutOfMemory) = Err removing.OutOfMemory

-- what `list` tells of a call
abbrev pub list_told : {T : Type 0} → Result T FilesError → Result T NamedConceptListError
list_told (Ok value) = Ok value
list_told (Err Failed) = Err listing.InternalError
list_told (Err OutOfMemory) = Err listing.OutOfMemory

-- whether a file is held and final
abbrev pub is_yes : Option Bool → Bool
is_yes None = false
is_yes (Some is_final) = is_final
