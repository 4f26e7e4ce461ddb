-- Why the life of a storage over files ends early.
use Rattle.std.specs.Prelude.{◌≡◌, ◌≢◌, ℕ, ◌<◌, Bool, true, false, ⊤, Result, Ok, Err}
use Rattle.board_names.specs.declared.errors.static_storage.StaticStorageCreateError.TheVariants.{Creation}
use Rattle.board_names.specs.declared.errors.static_storage.StaticStorageOpenError.{StaticStorageOpenError}
use Rattle.board_names.specs.declared.errors.static_storage.StaticStorageOpenError.TheVariants as opening
use Rattle.board_names.specs.declared.errors.static_storage.StaticStorageReadError.{StaticStorageReadError}
use Rattle.board_names.specs.declared.errors.static_storage.StaticStorageReadError.TheVariants as reading
use Rattle.board_names.specs.declared.errors.static_storage.StaticStorageUnlockError.TheVariants.{InternalError}
use Rattle.board_files.specs.Files.{Counts, HasRisen}
use Rattle.board_files.specs.Storage.{IsCreateRefusal, IsUnlockRefusal}
use Rattle.board_files.specs.declared.file_storage.FileStorage.{FileStorage}
use Rattle.board_files.specs.declared.laws.LifeError.{LifeError}
use Rattle.board_files.specs.declared.laws.LifeError.TheVariants.{Store, Open, Read}
use Rattle.board_files.specs.declared.laws.StoreError.{StoreError}
use Rattle.board_files.specs.declared.laws.StoreError.TheVariants.{Create, Unlock}

-- why a storage isn't stored
abbrev pub IsStoreRefusal : StoreError → Type 0
IsStoreRefusal (Create e) = IsCreateRefusal e
IsStoreRefusal (Unlock e) = IsUnlockRefusal e

-- a fault was counted where it is told, and only there
pub record TellsStoreFault (before now : Counts) (result : Result FileStorage StoreError) : Type 0 where
  pub create : result ≡ Err (Create Creation) → HasRisen before.faults now.faults
  pub unlock : result ≡ Err (Unlock InternalError) → HasRisen before.faults now.faults
  pub quiet : result ≢ Err (Create Creation) → result ≢ Err (Unlock InternalError) → now.faults ≡ before.faults

-- why a storage that stands isn't opened: a fault, or want of memory
abbrev pub IsMissed : StaticStorageOpenError → Type 0
IsMissed opening.Read = ⊤
IsMissed opening.OutOfMemory = ⊤
IsMissed opening.DoesNotExist = ⊥
IsMissed opening.InitializationNotYetFinalized = ⊥
IsMissed opening.InternalError = ⊥

-- why `len` bytes that stand aren't read into a buffer: it is too short, a fault, or want of memory
abbrev pub IsMisread : ℕ → ℕ → StaticStorageReadError → Type 0
IsMisread len room reading.BufferTooSmall = room < len
IsMisread len room reading.ReadError = ⊤
IsMisread len room reading.OutOfMemory = ⊤
IsMisread len room (reading.StaticStorageWasModified expected found) = ⊥
IsMisread len room reading.CreationNotComplete = ⊥

-- why `len` bytes aren't stored and read back into a buffer
abbrev pub IsLifeRefusal : ℕ → ℕ → LifeError → Type 0
IsLifeRefusal len room (Store e) = IsStoreRefusal e
IsLifeRefusal len room (Open e) = IsMissed e
IsLifeRefusal len room (Read e) = IsMisread len room e

-- what is so once the storage was stored, whether it was read back or not
abbrev pub OnceStored : Result (Unit {0}) LifeError → Type 0 → Type 0
OnceStored (Ok u) P = P
OnceStored (Err (Store e)) P = ⊤
OnceStored (Err (Open e)) P = P
OnceStored (Err (Read e)) P = P

-- a fault of the files is told
abbrev pub is_fault : LifeError → Bool
is_fault (Store (Create Creation)) = true
is_fault (Store (Unlock InternalError)) = true
is_fault (Open opening.Read) = true
is_fault (Read reading.ReadError) = true
is_fault e = false

-- a fault was counted, or none was
abbrev pub HasCounted : Bool → Counts → Counts → Type 0
HasCounted true before now = HasRisen before.faults now.faults
HasCounted false before now = now.faults ≡ before.faults

-- a fault was counted where it is told, and only there
abbrev pub TellsLifeFault : Counts → Counts → Result (Unit {0}) LifeError → Type 0
TellsLifeFault before now (Ok u) = HasCounted false before now
TellsLifeFault before now (Err e) = HasCounted (is_fault e) before now
