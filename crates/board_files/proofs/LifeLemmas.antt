-- What others find wherever the making of a storage is stopped.
use Rattle.std.proofs.Common.{◌≡◌, ℕ, ◌<◌, List, ◌++◌, length, take, drop, min, refl, sym, ◌∙◌, ap, subst, arith, inl, inr, ⊎_elim}
use Rattle.std.specs.Prelude.{◌⊎◌, Bool, true, false, nat_lt, Option, Some, None, Result, Ok, Err, IfSome, IsSomeAnd, OnOk, if◌then◌else◌}
use Rattle.std.proofs.Math.Nat.{min-eq_right}
use Rattle.std.proofs.lemmas.Bool.{ltb-false, eq-eqb}
use Rattle.std.proofs.lemmas.List.{take_all}
use Rattle.std.proofs.lemmas.List.Elements.{All-weaker}
use Rattle.board_layout.specs.Answer.{with_value}
use Rattle.board_names.specs.declared.configuration.Configuration.{Configuration}
use Rattle.board_names.specs.Configuration.{full_name}
use Rattle.board_names.specs.Table.{at, IsFree}
use Rattle.board_names.specs.declared.errors.static_storage.StaticStorageCreateError.TheVariants as creating
use Rattle.board_names.specs.declared.errors.static_storage.StaticStorageUnlockError.TheVariants as unlocking
use Rattle.board_names.specs.declared.errors.static_storage.StaticStorageOpenError.{StaticStorageOpenError}
use Rattle.board_names.specs.declared.errors.static_storage.StaticStorageOpenError.TheVariants.{DoesNotExist, InitializationNotYetFinalized}
use Rattle.board_names.specs.declared.errors.static_storage.StaticStorageOpenError.TheVariants as opening
use Rattle.board_names.specs.declared.errors.static_storage.StaticStorageReadError.{StaticStorageReadError}
use Rattle.board_names.specs.declared.errors.static_storage.StaticStorageReadError.TheVariants as reading
use Rattle.board_files.specs.Files.{Counts, File, HasRisen, Held, Told, final_file, AddsMoments, SameOthers}
use Rattle.board_files.specs.Life.{HasCounted, IsMissed, IsMisread, TellsStoreFault, is_fault}
use Rattle.board_files.specs.declared.laws.LifeError.TheVariants.{Store, Open, Read}
use Rattle.board_files.specs.declared.laws.StoreError.{StoreError}
use Rattle.board_files.specs.declared.laws.StoreError.TheVariants.{Create, Unlock}
use Rattle.board_files.specs.Storage.{AnswersOr, FromTo, TellsFault, storage_of, length_seen, open_answer, found_answer, read_answer, read_of, IsOpen, IsWhole, IsLockedMoment, IsUnlockMoment, FindsAllOrNothing}
use Rattle.board_files.specs.declared.file_storage.FileStorage.{FileStorage}
use Rattle.board_files.proofs.FileLemmas.{from_to, AddsMoments-trans, SameOthers-trans}

-- what is found, by what stands under the name
abbrev FindsBy : List ℕ → List ℕ → Option File → Type 0
FindsBy name contents o =
    (with_value (storage_of name) (length_seen o) ≡ Err DoesNotExist)
    ⊎ ((with_value (storage_of name) (length_seen o) ≡ Err InitializationNotYetFinalized)
    ⊎ ((with_value (storage_of name) (length_seen o) ≡ Ok (storage_of name (length contents))) × (o ≡ Some (final_file contents))))

finds_file : (name contents : List ℕ) (is_final : Bool) (bytes : List ℕ) → (is_final ≡ true → bytes ≡ contents) →
    FindsBy name contents (Some (record { is_final = is_final; bytes = bytes }))
finds_file name contents false bytes h = inr (inl refl)
finds_file name contents true bytes h =
    inr (inr (ap (λ (bs : List ℕ). Ok (storage_of name (length bs))) (h refl), ap (λ (bs : List ℕ). Some (final_file bs)) (h refl)))

finds_unlocked : (name contents : List ℕ) (o : Option File) → IsSomeAnd o (λ f. f.is_final ≡ true → f.bytes ≡ contents) → FindsBy name contents o
finds_unlocked name contents None h = absurd h
finds_unlocked name contents (Some f) h = finds_file name contents f.is_final f.bytes h

open_part : (contents : List ℕ) (o : Option File) → IsSomeAnd o (λ f. f.is_final ≡ false) → IsSomeAnd o (λ f. f.is_final ≡ true → f.bytes ≡ contents)
open_part contents None h = h
open_part contents (Some f) h = λ is. cc (h, is)

AddsMoments-weaker : (before now : List Held) (P Q : Held → Type 0) → ((files : Held) → P files → Q files) → AddsMoments before now P → AddsMoments before now Q
AddsMoments-weaker before now P Q weaker h = record { more = h.more; behind = h.behind; each = All-weaker P Q weaker h.more h.each }

-- what is so of a step, and of the step behind it
two_steps : (P Q R : Told → Told → Type 0) (old mid new : Option Told) → ((t m u : Told) → P t m → Q m u → R t u) → FromTo old mid P → FromTo mid new Q → FromTo old new R
two_steps P Q R None mid new both first second = tt
two_steps P Q R (Some t) None new both first second = absurd first
two_steps P Q R (Some t) (Some m) None both first second = absurd second
two_steps P Q R (Some t) (Some m) (Some u) both first second = both t m u first second

-- a lock and an unlock, one after the other
pub life-stopped : (cfg : Configuration) (name contents : List ℕ) (old mid new : Option Told) →
    FromTo old mid (λ t u. AddsMoments t.moments u.moments (IsLockedMoment (full_name cfg name) t.files)) →
    FromTo mid new (λ t u. AddsMoments t.moments u.moments (IsUnlockMoment (full_name cfg name) contents t.files)) →
    FromTo old new (λ t u. AddsMoments t.moments u.moments (FindsAllOrNothing cfg name contents))
life-stopped cfg name contents old mid new locked unlocked =
    let path = full_name cfg name in
    let finds = FindsAllOrNothing cfg name contents in
    two_steps (λ t m. AddsMoments t.moments m.moments (IsLockedMoment path t.files)) (λ m u. AddsMoments m.moments u.moments (IsUnlockMoment path contents m.files))
    (λ t u. AddsMoments t.moments u.moments finds) old mid new
    (λ t m u first second. AddsMoments-trans t.moments m.moments u.moments finds
    (AddsMoments-weaker t.moments m.moments (IsLockedMoment path t.files) finds
    (λ files moment. finds_unlocked name contents (at files path) (open_part contents (at files path) moment.part)) first)
    (AddsMoments-weaker m.moments u.moments (IsUnlockMoment path contents m.files) finds
    (λ files moment. finds_unlocked name contents (at files path) moment.part) second)) locked unlocked

pub life-others : (path : List ℕ) (old mid new : Option Told) → FromTo old mid (λ t u. SameOthers path t.files u.files) →
    FromTo mid new (λ t u. SameOthers path t.files u.files) → FromTo old new (λ t u. SameOthers path t.files u.files)
life-others path old mid new = two_steps (λ t m. SameOthers path t.files m.files) (λ m u. SameOthers path m.files u.files) (λ t u. SameOthers path t.files u.files)
    old mid new (λ t m u first second. SameOthers-trans path t.files m.files u.files first second)

-- nothing was made
pub life-none : (cfg : Configuration) (name contents : List ℕ) (old new : Option Told) → IfSome old (λ t. IsFree t.files (full_name cfg name)) → new ≡ old →
    FromTo old new (λ t u. FindsAllOrNothing cfg name contents u.files)
life-none cfg name contents None new free same = tt
life-none cfg name contents (Some t) new free same =
    from_to (λ t u. FindsAllOrNothing cfg name contents u.files) t t new same (subst (FindsBy name contents) (sym free) (inl refl))

-- it was made, and isn't final
pub life-open : (cfg : Configuration) (name contents : List ℕ) (old mid new : Option Told) → FromTo old mid (λ t u. SameOthers (full_name cfg name) t.files u.files) →
    FromTo mid new (λ t u. IsOpen (full_name cfg name) u.files) → FromTo old new (λ t u. FindsAllOrNothing cfg name contents u.files)
life-open cfg name contents old mid new =
    let path = full_name cfg name in
    two_steps (λ t m. SameOthers path t.files m.files) (λ m u. IsOpen path u.files) (λ t u. FindsAllOrNothing cfg name contents u.files) old mid new
    (λ t m u first second. finds_unlocked name contents (at u.files path) (open_part contents (at u.files path) second))

finds_whole : (cfg : Configuration) (name contents : List ℕ) (files : Held) → IsWhole (full_name cfg name) contents files → FindsAllOrNothing cfg name contents files
finds_whole cfg name contents files whole = subst (FindsBy name contents) (sym whole) (inr (inr (refl, refl)))

-- it was made, and is whole
pub life-whole : (cfg : Configuration) (name contents : List ℕ) (old mid new : Option Told) → FromTo old mid (λ t u. SameOthers (full_name cfg name) t.files u.files) →
    FromTo mid new (λ t u. IsWhole (full_name cfg name) contents u.files) → FromTo old new (λ t u. FindsAllOrNothing cfg name contents u.files)
life-whole cfg name contents old mid new =
    let path = full_name cfg name in
    two_steps (λ t m. SameOthers path t.files m.files) (λ m u. IsWhole path contents u.files) (λ t u. FindsAllOrNothing cfg name contents u.files) old mid new
    (λ t m u first second. finds_whole cfg name contents u.files second)

-- ---- a storage that stands is opened and read

opened_whole : (cfg : Configuration) (name contents : List ℕ) (files : Held) → IsWhole (full_name cfg name) contents files →
    open_answer cfg name files ≡ Ok (storage_of name (length contents))
opened_whole cfg name contents files whole = ap (λ o. with_value (storage_of name) (length_seen o)) whole

pub life-opened : (cfg : Configuration) (name contents : List ℕ) (old mid : Option Told) (opened : FileStorage) →
    FromTo old mid (λ t u. IsWhole (full_name cfg name) contents u.files) →
    IfSome mid (λ u. AnswersOr (Ok opened) opening.Read opening.OutOfMemory (open_answer cfg name u.files)) → IfSome old (λ t. opened ≡ storage_of name (length contents))
life-opened cfg name contents None mid opened whole answer = tt
life-opened cfg name contents (Some t) None opened whole answer = absurd whole
life-opened cfg name contents (Some t) (Some u) opened whole answer =
    let is : Ok opened ≡ open_answer cfg name u.files = answer (λ no. cc no) (λ no. cc no) in
    cc (is, opened_whole cfg name contents u.files whole)

pub life-missed : (cfg : Configuration) (name contents : List ℕ) (old mid : Option Told) (e : StaticStorageOpenError) →
    FromTo old mid (λ t u. IsWhole (full_name cfg name) contents u.files) →
    IfSome mid (λ u. AnswersOr {T = FileStorage} (Err e) opening.Read opening.OutOfMemory (open_answer cfg name u.files)) → IfSome old (λ t. IsMissed e)
life-missed cfg name contents None mid e whole answer = tt
life-missed cfg name contents (Some t) None e whole answer = absurd whole
life-missed cfg name contents (Some t) (Some u) opening.Read whole answer = tt
life-missed cfg name contents (Some t) (Some u) opening.OutOfMemory whole answer = tt
life-missed cfg name contents (Some t) (Some u) opening.DoesNotExist whole answer =
    let is = answer (λ no. cc no) (λ no. cc no) in cc (is, opened_whole cfg name contents u.files whole)
life-missed cfg name contents (Some t) (Some u) opening.InitializationNotYetFinalized whole answer =
    let is = answer (λ no. cc no) (λ no. cc no) in cc (is, opened_whole cfg name contents u.files whole)
life-missed cfg name contents (Some t) (Some u) opening.InternalError whole answer =
    let is = answer (λ no. cc no) (λ no. cc no) in cc (is, opened_whole cfg name contents u.files whole)

-- what was read into a buffer
abbrev pub ReadInto : Configuration → FileStorage → List ℕ → List ℕ → Result (Unit {0}) StaticStorageReadError → Held → Type 0
ReadInto cfg s before now r files = OnOk r (IsSomeAnd (at files (full_name cfg s.name)) (λ f. now ≡ take s.len f.bytes ++ drop s.len before))

read_whole : (contents before now : List ℕ) (r : Result (Unit {0}) StaticStorageReadError) →
    OnOk r (now ≡ take (length contents) contents ++ drop (length contents) before) → OnOk r (now ≡ contents ++ drop (length contents) before)
read_whole contents before now (Err e) read = tt
read_whole contents before now (Ok u) read =
    read ∙ ap (λ l. l ++ drop (length contents) before) (take_all (length contents) contents (omega arith))

pub life-read : (cfg : Configuration) (name contents before now : List ℕ) (old mid : Option Told) (opened : FileStorage) (r : Result (Unit {0}) StaticStorageReadError) →
    FromTo old mid (λ t u. IsWhole (full_name cfg name) contents u.files) → IfSome old (λ t. opened ≡ storage_of name (length contents)) →
    IfSome mid (λ u. ReadInto cfg opened before now r u.files) → IfSome old (λ t. OnOk r (now ≡ contents ++ drop (length contents) before))
life-read cfg name contents before now None mid opened r whole is read = tt
life-read cfg name contents before now (Some t) None opened r whole is read = absurd whole
life-read cfg name contents before now (Some t) (Some u) opened r whole is read =
    let named : ReadInto cfg (storage_of name (length contents)) before now r u.files = subst (λ s. ReadInto cfg s before now r u.files) is read in
    read_whole contents before now r
    (subst (λ o. OnOk r (IsSomeAnd o (λ f. now ≡ take (length contents) f.bytes ++ drop (length contents) before))) whole named)

-- a buffer with room reads all that stands
room_reads : (len room : ℕ) → (read_answer len room len ≡ Err reading.BufferTooSmall) ⊎ (read_answer len room len ≡ Ok tt)
room_reads len room =
    elim (nat_lt room len) as (λ b. nat_lt room len ≡ b →
    (let r : Result (Unit {0}) StaticStorageReadError = if b then Err reading.BufferTooSmall else found_answer len (min room len) in
    (r ≡ Err reading.BufferTooSmall) ⊎ (r ≡ Ok tt))) [
      | true ↦ λ less. inl refl
      | false ↦ λ less. inr (ap (found_answer len) (min-eq_right (ltb-false room len less)) ∙ found_itself len)
    ] refl
  where
    found_itself : (len : ℕ) → found_answer len len ≡ Ok tt
    found_itself len = rw (eq-eqb len len refl)

misread : (len room : ℕ) (e : StaticStorageReadError) → AnswersOr {T = Unit {0}} (Err e) reading.ReadError reading.OutOfMemory (read_answer len room len) →
    (e ≡ reading.BufferTooSmall → room < len) → IsMisread len room e
misread len room reading.BufferTooSmall answer small = small refl
misread len room reading.ReadError answer small = tt
misread len room reading.OutOfMemory answer small = tt
misread len room (reading.StaticStorageWasModified expected found) answer small =
    let is = answer (λ no. cc no) (λ no. cc no) in
    ⊎_elim (λ (short : read_answer len room len ≡ Err reading.BufferTooSmall). cc (is, short)) (λ (whole : read_answer len room len ≡ Ok tt). cc (is, whole)) (room_reads len room)
misread len room reading.CreationNotComplete answer small =
    let is = answer (λ no. cc no) (λ no. cc no) in
    ⊎_elim (λ (short : read_answer len room len ≡ Err reading.BufferTooSmall). cc (is, short)) (λ (whole : read_answer len room len ≡ Ok tt). cc (is, whole)) (room_reads len room)

-- what is refused where a storage that was opened is read
abbrev pub Misreads : Configuration → FileStorage → ℕ → StaticStorageReadError → Held → Type 0
Misreads cfg s room e files = AnswersOr {T = Unit {0}} (Err e) reading.ReadError reading.OutOfMemory (read_of s.len room (at files (full_name cfg s.name)))

pub life-misread : (cfg : Configuration) (name contents : List ℕ) (room : ℕ) (old mid : Option Told) (opened : FileStorage) (e : StaticStorageReadError) →
    FromTo old mid (λ t u. IsWhole (full_name cfg name) contents u.files) → IfSome old (λ t. opened ≡ storage_of name (length contents)) →
    IfSome mid (λ u. Misreads cfg opened room e u.files) → (e ≡ reading.BufferTooSmall → room < opened.len) → IfSome old (λ t. IsMisread (length contents) room e)
life-misread cfg name contents room None mid opened e whole is read small = tt
life-misread cfg name contents room (Some t) None opened e whole is read small = absurd whole
life-misread cfg name contents room (Some t) (Some u) opened e whole is read small =
    let len = length contents in
    let named : Misreads cfg (storage_of name len) room e u.files = subst (λ s. Misreads cfg s room e u.files) is read in
    misread len room e (subst (λ o. AnswersOr {T = Unit {0}} (Err e) reading.ReadError reading.OutOfMemory (read_of len room o)) whole named)
    (λ short. subst (λ s. room < s.len) is (small short))

-- ---- faults

-- what is so of the files before and after, and less of it
pub from_to_weaker : (P Q : Told → Told → Type 0) (old new : Option Told) → ((t u : Told) → P t u → Q t u) → FromTo old new P → FromTo old new Q
from_to_weaker P Q None new weaker h = tt
from_to_weaker P Q (Some t) None weaker h = h
from_to_weaker P Q (Some t) (Some u) weaker h = weaker t u h

pub unstored_counted : (before now : Counts) (e : StoreError) → TellsStoreFault before now (Err e) → HasCounted (is_fault (Store e)) before now
unstored_counted before now (Create creating.Creation) h = h.create refl
unstored_counted before now (Create creating.AlreadyExists) h = h.quiet (λ no. cc no) (λ no. cc no)
unstored_counted before now (Create creating.OutOfMemory) h = h.quiet (λ no. cc no) (λ no. cc no)
unstored_counted before now (Create creating.Write) h = h.quiet (λ no. cc no) (λ no. cc no)
unstored_counted before now (Create creating.InsufficientPermissions) h = h.quiet (λ no. cc no) (λ no. cc no)
unstored_counted before now (Create creating.InternalError) h = h.quiet (λ no. cc no) (λ no. cc no)
unstored_counted before now (Unlock unlocking.InternalError) h = h.unlock refl
unstored_counted before now (Unlock (unlocking.NoSpaceLeft taken given)) h = h.quiet (λ no. cc no) (λ no. cc no)
unstored_counted before now (Unlock unlocking.OutOfMemory) h = h.quiet (λ no. cc no) (λ no. cc no)
unstored_counted before now (Unlock unlocking.InsufficientPermissions) h = h.quiet (λ no. cc no) (λ no. cc no)

-- no fault was counted while it was stored
pub stored_quiet : (before now : Counts) (s : FileStorage) → TellsStoreFault before now (Ok s) → now.faults ≡ before.faults
stored_quiet before now s h = h.quiet (λ no. cc no) (λ no. cc no)

pub unopened_counted : (before mid now : Counts) (e : StaticStorageOpenError) → mid.faults ≡ before.faults → TellsFault {T = FileStorage} opening.Read mid now (Err e) → HasCounted (is_fault (Open e)) before now
unopened_counted before mid now opening.Read same h = subst (λ (n : ℕ). HasRisen n now.faults) same (h.told refl)
unopened_counted before mid now opening.DoesNotExist same h = h.quiet (λ no. cc no) ∙ same
unopened_counted before mid now opening.InitializationNotYetFinalized same h = h.quiet (λ no. cc no) ∙ same
unopened_counted before mid now opening.OutOfMemory same h = h.quiet (λ no. cc no) ∙ same
unopened_counted before mid now opening.InternalError same h = h.quiet (λ no. cc no) ∙ same

-- nor while it was opened
pub opened_quiet : (before mid now : Counts) (s : FileStorage) → mid.faults ≡ before.faults → TellsFault opening.Read mid now (Ok s) → now.faults ≡ before.faults
opened_quiet before mid now s same h = h.quiet (λ no. cc no) ∙ same

pub unread_counted : (before mid now : Counts) (e : StaticStorageReadError) → mid.faults ≡ before.faults → TellsFault {T = Unit {0}} reading.ReadError mid now (Err e) → HasCounted (is_fault (Read e)) before now
unread_counted before mid now reading.ReadError same h = subst (λ (n : ℕ). HasRisen n now.faults) same (h.told refl)
unread_counted before mid now reading.BufferTooSmall same h = h.quiet (λ no. cc no) ∙ same
unread_counted before mid now (reading.StaticStorageWasModified expected found) same h = h.quiet (λ no. cc no) ∙ same
unread_counted before mid now reading.OutOfMemory same h = h.quiet (λ no. cc no) ∙ same
unread_counted before mid now reading.CreationNotComplete same h = h.quiet (λ no. cc no) ∙ same
