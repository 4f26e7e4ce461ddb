-- What `open`, `read` and `remove` of a static storage over files answer.
use Rattle.std.proofs.Common.{◌≡◌, ℕ, ◌<◌, ◌≤◌, List, ◌++◌, length, take, drop, refl, sym, ap, subst}
use Rattle.std.specs.Prelude.{Bool, true, false, ◌==◌, is_some, Option, Some, None, Result, Ok, Err, IfSome, IsSomeAnd, OnOk, if◌then◌else◌}
use Rattle.std.proofs.lemmas.Bool.{eqb-true, lt-ltb, le-ltb}
use Rattle.board_layout.specs.Answer.{with_value}
use Rattle.board_names.specs.declared.configuration.Configuration.{Configuration}
use Rattle.board_names.specs.Configuration.{full_name}
use Rattle.board_names.specs.Table.{at}
use Rattle.board_names.specs.declared.errors.static_storage.StaticStorageOpenError.{StaticStorageOpenError}
use Rattle.board_names.specs.declared.errors.static_storage.StaticStorageOpenError.TheVariants as opening
use Rattle.board_names.specs.declared.errors.static_storage.StaticStorageReadError.{StaticStorageReadError}
use Rattle.board_names.specs.declared.errors.static_storage.StaticStorageReadError.TheVariants as reading
use Rattle.board_names.specs.declared.errors.concept.NamedConceptRemoveError.TheVariants as removing
use Rattle.board_files.specs.Files.{File, Told, FillsFront, ReadsFile, Removes}
use Rattle.board_files.specs.Storage.{AnswersOr, storage_of, length_seen, open_answer, found_answer, read_of}
use Rattle.board_files.specs.Told.{read_told, remove_told}
use Rattle.board_files.specs.declared.files.FilesError.{FilesError}
use Rattle.board_files.specs.declared.files.FilesError.TheVariants.{Failed, OutOfMemory}
use Rattle.board_files.specs.declared.file_storage.FileStorage.{FileStorage}

-- the answer about the length is the answer about the storage
with-AnswersOr : (name : List ℕ) (seen answer : Result ℕ StaticStorageOpenError) → AnswersOr seen opening.Read opening.OutOfMemory answer →
    AnswersOr (with_value (storage_of name) seen) opening.Read opening.OutOfMemory (with_value (storage_of name) answer)
with-AnswersOr name (Ok len) answer h = λ a b. ap (with_value (storage_of name)) (h (λ is. cc is) (λ is. cc is))
with-AnswersOr name (Err e) answer h = λ a b. ap (with_value (storage_of name))
    (h (λ is. let same : e ≡ opening.Read = cc is in a (ap Err same)) (λ is. let same : e ≡ opening.OutOfMemory = cc is in b (ap Err same)))

pub open-from : (cfg : Configuration) (name path : List ℕ) (old : Option Told) (seen : Result ℕ StaticStorageOpenError) (r : Result FileStorage StaticStorageOpenError) →
    path ≡ full_name cfg name → r ≡ with_value (storage_of name) seen →
    IfSome old (λ t. AnswersOr seen opening.Read opening.OutOfMemory (length_seen (at t.files path))) →
    IfSome old (λ t. AnswersOr r opening.Read opening.OutOfMemory (open_answer cfg name t.files))
open-from cfg name path None seen r is told h = tt
open-from cfg name path (Some t) seen r is told h =
    subst (λ r'. AnswersOr r' opening.Read opening.OutOfMemory (open_answer cfg name t.files)) (sym told)
    (with-AnswersOr name seen (length_seen (at t.files (full_name cfg name)))
    (subst (λ p. AnswersOr seen opening.Read opening.OutOfMemory (length_seen (at t.files p))) is h))

answer_by : (len found : ℕ) (before now : List ℕ) (o : Option File) → len ≤ length before → IsSomeAnd o (λ f. FillsFront f.bytes before now found) →
    found_answer len found ≡ read_of len (length before) o
answer_by len found before now None room h = absurd h
answer_by len found before now (Some f) room h = rw (h.count_is, le-ltb (length before) len room)

-- what was read is answered by the length of the buffer and of the file
pub read-answer : (path : List ℕ) (len : ℕ) (before now : List ℕ) (old new : Option Told) (read : Result ℕ FilesError) → len ≤ length before →
    ReadsFile path before now old new read →
    IfSome old (λ t. AnswersOr (read_told len read) reading.ReadError reading.OutOfMemory (read_of len (length before) (at t.files path)))
read-answer path len before now None new read room h = tt
read-answer path len before now (Some t) new (Err Failed) room h = λ no b. absurd (no refl)
read-answer path len before now (Some t) new (Err OutOfMemory) room h = λ a no. absurd (no refl)
read-answer path len before now (Some t) new (Ok found) room h = λ a b. answer_by len found before now (at t.files path) room h.answer

short_by : (len room : ℕ) (o : Option File) → room < len → Err reading.BufferTooSmall ≡ read_of len room o
short_by len room None short = rw (lt-ltb room len short)
short_by len room (Some f) short = rw (lt-ltb room len short)

-- a buffer that is too short is answered whatever stands under the name
pub read-short : (path : List ℕ) (len room : ℕ) (old : Option Told) → room < len →
    IfSome old (λ t. AnswersOr (Err reading.BufferTooSmall) reading.ReadError reading.OutOfMemory (read_of len room (at t.files path)))
read-short path len room None short = tt
read-short path len room (Some t) short = λ a b. short_by len room (at t.files path) short

filled_by : (len found : ℕ) (before now : List ℕ) (o : Option File) → found ≡ len → IsSomeAnd o (λ f. FillsFront f.bytes before now found) →
    IsSomeAnd o (λ f. now ≡ take len f.bytes ++ drop len before)
filled_by len found before now None same h = h
filled_by len found before now (Some f) same h = subst (λ n. now ≡ take n f.bytes ++ drop n before) same h.filled

-- what was read whole fills the buffer's front
pub read-filled : (path : List ℕ) (len : ℕ) (before now : List ℕ) (old new : Option Told) (read : Result ℕ FilesError) → ReadsFile path before now old new read →
    IfSome old (λ t. OnOk (read_told len read) (IsSomeAnd (at t.files path) (λ f. now ≡ take len f.bytes ++ drop len before)))
read-filled path len before now None new read h = tt
read-filled path len before now (Some t) new (Err Failed) h = tt
read-filled path len before now (Some t) new (Err OutOfMemory) h = tt
read-filled path len before now (Some t) new (Ok found) h =
    elim (found == len) as (λ b. (found == len) ≡ b →
    (let r : Result (Unit {0}) StaticStorageReadError = if b then Ok tt else Err (reading.StaticStorageWasModified len found) in
    OnOk r (IsSomeAnd (at t.files path) (λ f. now ≡ take len f.bytes ++ drop len before)))) [
      | true ↦ λ is. filled_by len found before now (at t.files path) (eqb-true found len is) h.answer
      | false ↦ λ is. tt
    ] refl

-- what `remove` answers
pub remove-answer : (path : List ℕ) (old new : Option Told) (had : Result Bool FilesError) → Removes path old new had →
    IfSome old (λ t. AnswersOr (remove_told had) removing.InternalError removing.OutOfMemory (Ok (is_some (at t.files path))))
remove-answer path None new had h = tt
remove-answer path (Some t) new (Ok b) h = λ fault memory. ap Ok h.answer
remove-answer path (Some t) new (Err Failed) h = λ fault memory. absurd (fault refl)
remove-answer path (Some t) new (Err OutOfMemory) h = λ fault memory. absurd (memory refl)
