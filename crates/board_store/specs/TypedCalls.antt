-- What typed calls answer, whatever the storages behind their lock have come to.
use Rattle.std.specs.Prelude.{Result, Ok, Err, ⊤}
use Rattle.board_names.specs.declared.errors.static_storage.StaticStorageCreateError.{StaticStorageCreateError}
use Rattle.board_names.specs.declared.errors.static_storage.StaticStorageCreateError.TheVariants as create_error
use Rattle.board_names.specs.declared.errors.static_storage.StaticStorageOpenError.{StaticStorageOpenError}
use Rattle.board_names.specs.declared.errors.static_storage.StaticStorageOpenError.TheVariants as open_error
use Rattle.board_names.specs.declared.errors.static_storage.StaticStorageUnlockError.{StaticStorageUnlockError}
use Rattle.board_names.specs.declared.errors.static_storage.StaticStorageUnlockError.TheVariants as unlock_error

-- a storage is made, or refused for one of two reasons
abbrev pub MayCreate : {T : Type 0} → Result T StaticStorageCreateError → Type 0
MayCreate (Ok storage) = ⊤
MayCreate (Err create_error.AlreadyExists) = ⊤
MayCreate (Err create_error.OutOfMemory) = ⊤
MayCreate (Err _) = ⊥

-- a storage is opened, or refused for one of three reasons
abbrev pub MayOpen : {T : Type 0} → Result T StaticStorageOpenError → Type 0
MayOpen (Ok storage) = ⊤
MayOpen (Err open_error.DoesNotExist) = ⊤
MayOpen (Err open_error.InitializationNotYetFinalized) = ⊤
MayOpen (Err open_error.OutOfMemory) = ⊤
MayOpen (Err _) = ⊥

-- a storage gets its bytes, or is refused them for one of two reasons
abbrev pub MayUnlock : {T : Type 0} → Result T StaticStorageUnlockError → Type 0
MayUnlock (Ok storage) = ⊤
MayUnlock (Err unlock_error.InternalError) = ⊤
MayUnlock (Err unlock_error.OutOfMemory) = ⊤
MayUnlock (Err _) = ⊥
