-- What clauses see of a builder and of what it makes, and what their calls answer.
use Rattle.std.specs.Prelude.{ℕ, List, Bool, true, false, Option, Some, None, Result, Ok, Err, codes}
use Rattle.board_names.specs.Concept.{Named, Placed, path_of, placed, starting}
use Rattle.board_names.specs.Table.{at, putting, taking}
use Rattle.board_layout.specs.Answer.{with_value}
use Rattle.board_store.specs.Statics.{Storages, locked_of, open_answer, unlock_answer}
use Rattle.board_store.specs.declared.statics.Stored.{Stored}
use Rattle.board_store.specs.declared.statics.Stored.TheVariants.{Locked, Final}
use Rattle.board_names.specs.declared.errors.static_storage.StaticStorageCreateError.{StaticStorageCreateError}
use Rattle.board_names.specs.declared.errors.static_storage.StaticStorageCreateError.TheVariants.{AlreadyExists}
use Rattle.board_names.specs.declared.errors.static_storage.StaticStorageOpenError.{StaticStorageOpenError}
use Rattle.board_names.specs.declared.errors.static_storage.StaticStorageUnlockError.{StaticStorageUnlockError}
use Rattle.board_names.specs.declared.errors.concept.NamedConceptDoesExistError.{NamedConceptDoesExistError}
use Rattle.board_names.specs.declared.errors.concept.NamedConceptDoesExistError.TheVariants.{UnderlyingResourcesBeingSetUp}

-- a builder
pub record BuilderView : Type 0 where
  pub named : Named
  pub owns : Bool

-- a storage that is still to be filled
pub record LockedView : Type 0 where
  pub place : Placed
  pub owns : Bool

-- a storage that has its bytes
pub record StorageView : Type 0 where
  pub place : Placed
  pub owns : Bool
  pub bytes : List ℕ

-- a builder that starts with this name
abbrev pub started_builder : List ℕ → BuilderView
started_builder name = record { named = starting name (codes ".static_storage"); owns = true }

-- the full name of a builder
abbrev pub builder_path : BuilderView → List ℕ
builder_path b = path_of b.named

-- the storages with this under a builder's name
abbrev pub storing : Storages → BuilderView → Stored → Storages
storing storages b stored = putting storages (builder_path b) stored

-- the storage that a builder makes with these bytes
abbrev pub storage_of : BuilderView → List ℕ → StorageView
storage_of b bytes = record { place = placed b.named; owns = b.owns; bytes = bytes }

-- the locked storage that a builder makes
abbrev pub locked_of_builder : BuilderView → LockedView
locked_of_builder b = record { place = placed b.named; owns = b.owns }

-- a locked storage with these bytes
abbrev pub filled : LockedView → List ℕ → StorageView
filled l bytes = record { place = l.place; owns = l.owns; bytes = bytes }

-- what `create` answers over these storages
abbrev pub create_of : BuilderView → List ℕ → Storages → Result StorageView StaticStorageCreateError
create_of b contents storages = taking (storage_of b contents) AlreadyExists (at storages (path_of b.named))

-- the content that `create` keeps
abbrev pub bytes_made : BuilderView → List ℕ → Storages → Result (List ℕ) StaticStorageCreateError
bytes_made b contents storages = taking contents AlreadyExists (at storages (path_of b.named))

-- what `create_locked` answers over these storages
abbrev pub lock_of : BuilderView → Storages → Result LockedView StaticStorageCreateError
lock_of b storages = taking (locked_of_builder b) AlreadyExists (at storages (path_of b.named))

-- the bytes that one look of `open` finds in these storages
abbrev pub look_answer : BuilderView → Storages → Result (List ℕ) StaticStorageOpenError
look_answer b storages = open_answer (at storages (builder_path b))

-- what one look of `open` answers over these storages
abbrev pub open_of : BuilderView → Storages → Result StorageView StaticStorageOpenError
open_of b storages = with_value (storage_of b) (look_answer b storages)

-- what `unlock` answers over these storages
abbrev pub unlock_of : LockedView → List ℕ → Storages → Result StorageView StaticStorageUnlockError
unlock_of l contents storages = with_value (filled l) (unlock_answer contents (locked_of storages l.place.path))

-- what `does_exist_cfg` answers
abbrev pub exists_answer : Option Stored → Result Bool NamedConceptDoesExistError
exists_answer None = Ok false
exists_answer (Some Locked) = Err UnderlyingResourcesBeingSetUp
exists_answer (Some (Final bytes)) = Ok true
