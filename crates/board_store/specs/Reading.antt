-- What the reading of a storage's bytes answers and writes.
use Rattle.std.specs.Prelude.{◌≡◌, ◌<◌, ◌↔◌, ◌++◌, ℕ, List, length, drop, Result, IsErrOf, OnOk, OnErr}
use Rattle.board_names.specs.declared.errors.static_storage.StaticStorageReadError.{StaticStorageReadError}
use Rattle.board_names.specs.declared.errors.static_storage.StaticStorageReadError.TheVariants.{BufferTooSmall}

-- bytes are read into the front of a buffer that has room for them, and its rest stays
pub record ReadsInto (bytes old new : List ℕ) (result : Result (Unit {0}) StaticStorageReadError) : Type 0 where
  pub small : IsErrOf result BufferTooSmall ↔ (length old < length bytes)
  pub ok : OnOk result (new ≡ bytes ++ drop (length bytes) old)
  pub err : OnErr result ((new ≡ old) × (length old < length bytes))
