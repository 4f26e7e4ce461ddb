-- Static storages, and what their calls answer.
use Rattle.std.specs.Prelude.{ℕ, List, Option, Some, None, Result, Ok, Err, Bool, true, false, option_map}
use Rattle.board_names.specs.Table.{at, putting, taking}
use Rattle.board_store.specs.declared.statics.Stored.{Stored}
use Rattle.board_store.specs.declared.statics.Stored.TheVariants.{Locked, Final}
use Rattle.board_names.specs.declared.errors.static_storage.StaticStorageCreateError.{StaticStorageCreateError}
use Rattle.board_names.specs.declared.errors.static_storage.StaticStorageCreateError.TheVariants.{AlreadyExists}
use Rattle.board_names.specs.declared.errors.static_storage.StaticStorageOpenError.{StaticStorageOpenError}
use Rattle.board_names.specs.declared.errors.static_storage.StaticStorageOpenError.TheVariants.{DoesNotExist, InitializationNotYetFinalized}
use Rattle.board_names.specs.declared.errors.static_storage.StaticStorageUnlockError.{StaticStorageUnlockError}
use Rattle.board_names.specs.declared.errors.static_storage.StaticStorageUnlockError.TheVariants.{InternalError}

-- static storages by full names
abbrev pub Storages : Type 0
Storages = List (List ℕ × Stored)

-- whether a storage is still to be filled
abbrev pub is_locked : Stored → Bool
is_locked Locked = true
is_locked (Final bytes) = false

-- the bytes of a storage that is filled
abbrev pub final_bytes : Option Stored → Option (List ℕ)
final_bytes None = None
final_bytes (Some Locked) = None
final_bytes (Some (Final bytes)) = Some bytes

-- whether a name is locked, where it is held
abbrev pub locked_of : Storages → List ℕ → Option Bool
locked_of storages name = option_map is_locked (at storages name)

-- the bytes of a name, where it has some
abbrev pub bytes_of : Storages → List ℕ → Option (List ℕ)
bytes_of storages name = final_bytes (at storages name)

-- the storages with these bytes under a name
abbrev pub with_bytes : Storages → List ℕ → List ℕ → Storages
with_bytes storages name bytes = putting storages name (Final bytes)

-- what `create_locked` answers, by what stands under the name
abbrev pub create_answer : Option Stored → Result (Unit {0}) StaticStorageCreateError
create_answer = taking tt AlreadyExists

-- what `create` answers, by what stands under the name
abbrev pub whole_answer : List ℕ → Option Stored → Result (List ℕ) StaticStorageCreateError
whole_answer contents = taking contents AlreadyExists

-- what `try_open` answers
abbrev pub open_answer : Option Stored → Result (List ℕ) StaticStorageOpenError
open_answer None = Err DoesNotExist
open_answer (Some Locked) = Err InitializationNotYetFinalized
open_answer (Some (Final bytes)) = Ok bytes

-- what `unlock` answers, by whether the name is locked
abbrev pub unlock_answer : List ℕ → Option Bool → Result (List ℕ) StaticStorageUnlockError
unlock_answer contents None = Err InternalError
unlock_answer contents (Some false) = Err InternalError
unlock_answer contents (Some true) = Ok contents
