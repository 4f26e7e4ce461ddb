-- What `create` and `unlock` of a static storage over files answer and leave.
use Rattle.std.proofs.Common.{◌≡◌, ◌≢◌, ℕ, ◌<◌, ◌≤◌, List, [], ◌∷◌, ◌++◌, length, take, refl, sym, ◌∙◌, ap, subst, arith, inl, inr, ⊎_elim}
use Rattle.std.specs.Prelude.{Bool, true, false, nat_lt, Option, Some, None, option_map, Result, Ok, Err, IfSome, IsSomeAnd, OnOk, OnErr, if◌then◌else◌}
use Rattle.std.proofs.lemmas.Bool.{ltb-true, lt-ltb, cases_lt}
use Rattle.std.proofs.lemmas.List.{take_all}
use Rattle.board_names.specs.declared.configuration.Configuration.{Configuration}
use Rattle.board_names.specs.Configuration.{full_name}
use Rattle.board_names.specs.Table.{at, putting}
use Rattle.board_names.specs.declared.errors.static_storage.StaticStorageCreateError.{StaticStorageCreateError}
use Rattle.board_names.specs.declared.errors.static_storage.StaticStorageCreateError.TheVariants as creating
use Rattle.board_names.specs.declared.errors.static_storage.StaticStorageUnlockError.{StaticStorageUnlockError}
use Rattle.board_names.specs.declared.errors.static_storage.StaticStorageUnlockError.TheVariants as unlocking
use Rattle.board_names.proofs.TableLemmas.{at-putting}
use Rattle.board_files.specs.Files.{Held, Told, new_file, final_file, lengthened, created, written, finalized, Creates, Writes, Finalizes, CountsShort, AddsMoments, SameOthers}
use Rattle.board_files.specs.Storage.{AnswersOr, FromTo, locked_of, create_answer, LeftBy, UnlockLeaves, IsOpen, IsFresh, IsWhole, HasFront, IsLockedMoment, IsUnlockMoment}
use Rattle.board_files.specs.Told.{create_told, write_told, final_told}
use Rattle.board_files.specs.declared.files.FilesError.{FilesError}
use Rattle.board_files.specs.declared.files.FilesError.TheVariants.{Failed, OutOfMemory}
use Rattle.board_files.specs.declared.file_locked.FileLocked.{FileLocked}
use Rattle.board_files.specs.declared.file_storage.FileStorage.{FileStorage}
use Rattle.board_files.proofs.FileLemmas.{free_from, held_from, from_to, AddsMoments-none, AddsMoments-one, AddsMoments-trans, SameOthers-none, SameOthers-putting, SameOthers-trans, created-free, created-held, written-some, written-none, finalized-open}

-- ---- create

-- what `create` answers, by what stands under the name
pub create-answer : (cfg : Configuration) (name : List ℕ) (old new : Option Told) (made : Result Bool FilesError) → Creates (full_name cfg name) old new made →
    IfSome old (λ t. AnswersOr (create_told name made) creating.Creation creating.OutOfMemory (create_answer cfg name t.files))
create-answer cfg name None new made h = tt
create-answer cfg name (Some t) new (Ok true) h = λ a b. rw (free_from (at t.files (full_name cfg name)) h.answer)
create-answer cfg name (Some t) new (Ok false) h = λ a b. let held = held_from (at t.files (full_name cfg name)) h.answer in rw held.1
create-answer cfg name (Some t) new (Err Failed) h = λ no b. absurd (no refl)
create-answer cfg name (Some t) new (Err OutOfMemory) h = λ a no. absurd (no refl)

-- a fact of the answer, of the files before and of those afterwards holds where it holds in both cases
pub create-cases : (P : Result FileLocked StaticStorageCreateError → Told → Told → Type 0) (name path : List ℕ) (old new : Option Told) (made : Result Bool FilesError) →
    Creates path old new made → ((t : Told) → at t.files path ≡ None → P (Ok (locked_of name)) t (created path t)) →
    ((t : Told) (e : StaticStorageCreateError) → P (Err e) t t) → FromTo old new (P (create_told name made))
create-cases P name path None new made h ok err = tt
create-cases P name path (Some t) new (Ok true) h ok err =
    from_to (P (Ok (locked_of name))) t (created path t) new h.after (ok t (free_from (at t.files path) h.answer))
create-cases P name path (Some t) new (Ok false) h ok err =
    let held = held_from (at t.files path) h.answer in
    from_to (P (Err creating.AlreadyExists)) t t new (h.after ∙ ap Some (created-held path t held.0 held.1)) (err t creating.AlreadyExists)
create-cases P name path (Some t) new (Err Failed) h ok err = from_to (P (Err creating.Creation)) t t new h.after (err t creating.Creation)
create-cases P name path (Some t) new (Err OutOfMemory) h ok err = from_to (P (Err creating.OutOfMemory)) t t new h.after (err t creating.OutOfMemory)

if_some : (o : Option Told) (says : Told → Type 0) → ((t : Told) → says t) → IfSome o says
if_some None says fact = tt
if_some (Some t) says fact = fact t

pub create-locked : (name path : List ℕ) (old new : Option Told) (made : Result Bool FilesError) → Creates path old new made →
    IfSome new (λ u. OnOk (create_told name made) (IsFresh path u.files))
create-locked name path None new (Ok true) h = subst (λ n. IfSome n (λ u. IsFresh path u.files)) (sym h.after) tt
create-locked name path (Some t) new (Ok true) h =
    subst (λ n. IfSome n (λ u. IsFresh path u.files)) (sym (h.after ∙ ap Some (created-free path t (free_from (at t.files path) h.answer)))) (at-putting t.files path new_file)
create-locked name path old new (Ok false) h = if_some new (λ u. Unit {0}) (λ u. tt)
create-locked name path old new (Err Failed) h = if_some new (λ u. Unit {0}) (λ u. tt)
create-locked name path old new (Err OutOfMemory) h = if_some new (λ u. Unit {0}) (λ u. tt)

locked_moment : (path : List ℕ) (files : Held) → IsLockedMoment path files (putting files path new_file)
locked_moment path files = record {
  part = subst (λ o. IsSomeAnd o (λ f. f.is_final ≡ false)) (sym (at-putting files path new_file)) refl;
  others = SameOthers-putting path files new_file;
}

pub create-stop : (name path : List ℕ) (old new : Option Told) (made : Result Bool FilesError) → Creates path old new made →
    FromTo old new (λ t u. AddsMoments t.moments u.moments (IsLockedMoment path t.files))
create-stop name path old new made h = create-cases (λ r t u. AddsMoments t.moments u.moments (IsLockedMoment path t.files)) name path old new made h
    (λ t free. subst (λ u. AddsMoments t.moments u.moments (IsLockedMoment path t.files)) (sym (created-free path t free))
    (AddsMoments-one t.moments (IsLockedMoment path t.files) (putting t.files path new_file) (locked_moment path t.files)))
    (λ t e. AddsMoments-none t.moments (IsLockedMoment path t.files))

pub create-after : (name path : List ℕ) (old new : Option Told) (made : Result Bool FilesError) → Creates path old new made →
    FromTo old new (λ t u. OnOk (create_told name made) (u ≡ created path t))
create-after name path old new made h = create-cases (λ r t u. OnOk r (u ≡ created path t)) name path old new made h (λ t free. refl) (λ t e. tt)

pub create-others : (name path : List ℕ) (old new : Option Told) (made : Result Bool FilesError) → Creates path old new made →
    FromTo old new (λ t u. SameOthers path t.files u.files)
create-others name path old new made h = create-cases (λ r t u. SameOthers path t.files u.files) name path old new made h
    (λ t free. subst (λ u. SameOthers path t.files u.files) (sym (created-free path t free)) (SameOthers-putting path t.files new_file))
    (λ t e. SameOthers-none path t.files)

-- ---- unlock

-- a file that isn't final and has these bytes
abbrev pub HasOnly : List ℕ → List ℕ → Held → Type 0
HasOnly path bytes files = at files path ≡ Some (record { is_final = false; bytes = bytes })

part_of : (path contents bytes : List ℕ) (files : Held) → HasOnly path bytes files → IsSomeAnd (at files path) (λ f. f.is_final ≡ true → f.bytes ≡ contents)
part_of path contents bytes files held = subst (λ o. IsSomeAnd o (λ f. f.is_final ≡ true → f.bytes ≡ contents)) (sym held) (λ no. cc no)

open_of : (path bytes : List ℕ) (files : Held) → HasOnly path bytes files → IsOpen path files
open_of path bytes files held = subst (λ o. IsSomeAnd o (λ f. f.is_final ≡ false)) (sym held) refl

-- what stands after a write of these bytes to a file that was locked
pub record IsWritten (path contents bytes : List ℕ) (t u : Told) : Type 0 where
  pub after : u ≡ written path bytes t
  pub held : HasOnly path bytes u.files
  pub stop : AddsMoments t.moments u.moments (IsUnlockMoment path contents t.files)
  pub others : SameOthers path t.files u.files

written-fresh : (path contents bytes : List ℕ) (t : Told) → IsFresh path t.files → IsWritten path contents bytes t (written path bytes t)
written-fresh path contents [] t fresh =
    subst (IsWritten path contents [] t) (sym (written-none path t new_file fresh)) (record {
      after = sym (written-none path t new_file fresh);
      held = fresh;
      stop = AddsMoments-none t.moments (IsUnlockMoment path contents t.files);
      others = SameOthers-none path t.files;
    })
written-fresh path contents (b ∷ bytes) t fresh =
    let file = lengthened (b ∷ bytes) new_file in
    let held = at-putting t.files path file in
    let moment : IsUnlockMoment path contents t.files (putting t.files path file) = record { part = part_of path contents (b ∷ bytes) (putting t.files path file) held; others = SameOthers-putting path t.files file } in
    subst (IsWritten path contents (b ∷ bytes) t) (sym (written-some path t new_file b bytes fresh)) (record {
      after = sym (written-some path t new_file b bytes fresh);
      held = held;
      stop = AddsMoments-one t.moments (IsUnlockMoment path contents t.files) (putting t.files path file) moment;
      others = SameOthers-putting path t.files file;
    })

-- what stands after the file was made final
pub record IsUnlocked (path contents : List ℕ) (t u : Told) : Type 0 where
  pub after : u ≡ finalized path (written path contents t)
  pub whole : IsWhole path contents u.files
  pub stop : AddsMoments t.moments u.moments (IsUnlockMoment path contents t.files)
  pub others : SameOthers path t.files u.files

final_moment : (path contents : List ℕ) (before mid : Held) → SameOthers path before mid → IsUnlockMoment path contents before (putting mid path (final_file contents))
final_moment path contents before mid others = record {
  part = subst (λ o. IsSomeAnd o (λ f. f.is_final ≡ true → f.bytes ≡ contents)) (sym (at-putting mid path (final_file contents))) (λ is. refl);
  others = SameOthers-trans path before mid (putting mid path (final_file contents)) others (SameOthers-putting path mid (final_file contents));
}

finalized-written : (path contents : List ℕ) (t u : Told) → IsWritten path contents contents t u → IsUnlocked path contents t (finalized path u)
finalized-written path contents t u w =
    let files = putting u.files path (final_file contents) in
    subst (IsUnlocked path contents t) (sym (finalized-open path u contents w.held)) (record {
      after = sym (finalized-open path u contents w.held) ∙ ap (finalized path) w.after;
      whole = at-putting u.files path (final_file contents);
      stop = AddsMoments-trans t.moments u.moments (u.moments ++ files ∷ []) (IsUnlockMoment path contents t.files) w.stop
          (AddsMoments-one u.moments (IsUnlockMoment path contents t.files) files (final_moment path contents t.files u.files w.others));
      others = SameOthers-trans path t.files u.files files w.others (SameOthers-putting path u.files (final_file contents));
    })

-- a write that wasn't whole: why, and what it left
pub write-cases : (P : StaticStorageUnlockError → Told → Told → Type 0) (path contents : List ℕ) (old new : Option Told) (wrote : Result ℕ FilesError) (e : StaticStorageUnlockError) →
    IfSome old (λ t. IsFresh path t.files) → Writes path contents old new wrote → write_told (length contents) wrote ≡ Err e →
    ((t u : Told) (taken : ℕ) → taken < length contents → IsWritten path contents (take taken contents) t u → P (unlocking.NoSpaceLeft taken (length contents)) t u) →
    ((t : Told) (e : StaticStorageUnlockError) → IsFresh path t.files → ((taken given : ℕ) → e ≢ unlocking.NoSpaceLeft taken given) → P e t t) → FromTo old new (P e)
write-cases P path contents None new wrote e fresh h is short stays = tt
write-cases P path contents (Some t) new (Ok taken) e fresh h is short stays =
    elim (nat_lt taken (length contents)) as (λ b. nat_lt taken (length contents) ≡ b →
    (let r : Result (Unit {0}) StaticStorageUnlockError = if b then Err (unlocking.NoSpaceLeft taken (length contents)) else Ok tt in r) ≡ Err e → FromTo (Some t) new (P e)) [
      | true ↦ λ less was.
          let same : unlocking.NoSpaceLeft taken (length contents) ≡ e = cc was in
          from_to (P e) t (written path (take taken contents) t) new h.after
          (subst (λ e'. P e' t (written path (take taken contents) t)) same
          (short t (written path (take taken contents) t) taken (ltb-true taken (length contents) less) (written-fresh path contents (take taken contents) t fresh)))
      | false ↦ λ less was. cc was
    ] refl is
write-cases P path contents (Some t) new (Err Failed) e fresh h is short stays =
    let same : unlocking.InternalError ≡ e = cc is in
    from_to (P e) t t new h.after (subst (λ e'. P e' t t) same (stays t unlocking.InternalError fresh (λ taken given no. cc no)))
write-cases P path contents (Some t) new (Err OutOfMemory) e fresh h is short stays =
    let same : unlocking.OutOfMemory ≡ e = cc is in
    from_to (P e) t t new h.after (subst (λ e'. P e' t t) same (stays t unlocking.OutOfMemory fresh (λ taken given no. cc no)))

-- a whole write leaves the whole contents
pub write-whole : (path contents : List ℕ) (old new : Option Told) (before now : ℕ) (wrote : Result ℕ FilesError) (u : Unit {0}) →
    Writes path contents old new wrote → CountsShort (length contents) before now wrote → write_told (length contents) wrote ≡ Ok u →
    (new ≡ option_map (written path contents) old) × (now ≡ before)
write-whole path contents old new before now (Ok taken) u h counts is =
    elim (nat_lt taken (length contents)) as (λ b. nat_lt taken (length contents) ≡ b →
    (let r : Result (Unit {0}) StaticStorageUnlockError = if b then Err (unlocking.NoSpaceLeft taken (length contents)) else Ok tt in r) ≡ Ok u →
    (new ≡ option_map (written path contents) old) × (now ≡ before)) [
      | true ↦ λ less was. cc was
      | false ↦ λ less was.
          let ge : length contents ≤ taken = ge_from_false taken (length contents) less in
          (h.after ∙ ap (λ bytes. option_map (written path bytes) old) (take_all taken contents ge), counts.2 (omega (arith, counts.0, ge)))
    ] refl is
  where
    no_less : (a b : ℕ) → nat_lt a b ≡ false → a < b → ⊥
    no_less a b less lt = let t : nat_lt a b ≡ true = lt-ltb a b lt in cc (t, less)

    ge_from_false : (a b : ℕ) → nat_lt a b ≡ false → b ≤ a
    ge_from_false a b less = ⊎_elim (λ (lt : a < b). absurd (no_less a b less lt)) (λ (ge : b ≤ a). ge) (cases_lt a b)
write-whole path contents old new before now (Err Failed) u h counts is = cc is
write-whole path contents old new before now (Err OutOfMemory) u h counts is = cc is

-- the file was written, and could not be made final
pub open-cases : (P : Told → Told → Type 0) (path contents : List ℕ) (old mid new : Option Told) (set : Result (Unit {0}) FilesError) (e : FilesError) →
    IfSome old (λ t. IsFresh path t.files) → mid ≡ option_map (written path contents) old → Finalizes path mid new set → set ≡ Err e →
    ((t u : Told) → IsWritten path contents contents t u → P t u) → FromTo old new P
open-cases P path contents None mid new set e fresh wrote h is fact = tt
open-cases P path contents (Some t) mid new (Ok u) e fresh wrote h is fact = cc is
open-cases P path contents (Some t) mid new (Err f) e fresh wrote h is fact =
    from_to P t (written path contents t) new (h.after ∙ wrote) (fact t (written path contents t) (written-fresh path contents contents t fresh))

-- the file was written and made final
pub whole-cases : (P : Told → Told → Type 0) (path contents : List ℕ) (old mid new : Option Told) (set : Result (Unit {0}) FilesError) (u : Unit {0}) →
    IfSome old (λ t. IsFresh path t.files) → mid ≡ option_map (written path contents) old → Finalizes path mid new set → set ≡ Ok u →
    ((t u : Told) → IsUnlocked path contents t u → P t u) → FromTo old new P
whole-cases P path contents None mid new set u fresh wrote h is fact = tt
whole-cases P path contents (Some t) mid new (Err f) u fresh wrote h is fact = cc is
whole-cases P path contents (Some t) mid new (Ok v) u fresh wrote h is fact =
    let w = written path contents t in
    from_to P t (finalized path w) new (h.after ∙ ap (option_map (finalized path)) wrote)
    (fact t (finalized path w) (finalized-written path contents t w (written-fresh path contents contents t fresh)))

-- what was told of `set_final`
pub final-err : (set : Result (Unit {0}) FilesError) (e : StaticStorageUnlockError) → final_told set ≡ Err e → (f : FilesError) × (set ≡ Err f) × ((taken given : ℕ) → e ≢ unlocking.NoSpaceLeft taken given)
final-err (Ok u) e is = cc is
final-err (Err Failed) e is = (Failed, refl, λ taken given no. cc (is, no))
final-err (Err OutOfMemory) e is = (OutOfMemory, refl, λ taken given no. cc (is, no))

pub final-ok : (set : Result (Unit {0}) FilesError) (u : Unit {0}) → final_told set ≡ Ok u → set ≡ Ok tt
final-ok (Ok v) u is = refl
final-ok (Err Failed) u is = cc is
final-ok (Err OutOfMemory) u is = cc is

-- ---- the clauses of `unlock`, exit by exit

abbrev pub Unlocking : Type 0
Unlocking = Result FileStorage StaticStorageUnlockError

abbrev pub refused : StaticStorageUnlockError → Unlocking
refused e = Err e

pub write-front : (path contents : List ℕ) (old new : Option Told) (wrote : Result ℕ FilesError) (e : StaticStorageUnlockError) (r : Unlocking) →
    IfSome old (λ t. IsFresh path t.files) → Writes path contents old new wrote → write_told (length contents) wrote ≡ Err e → r ≡ refused e →
    FromTo old new (λ t u. (taken given : ℕ) → r ≡ refused (unlocking.NoSpaceLeft taken given) → HasFront path contents taken u.files)
write-front path contents old new wrote e r fresh h is same =
    subst (λ r'. FromTo old new (λ t u. (taken given : ℕ) → r' ≡ refused (unlocking.NoSpaceLeft taken given) → HasFront path contents taken u.files)) (sym same)
    (write-cases (λ e' t u. (taken given : ℕ) → refused e' ≡ refused (unlocking.NoSpaceLeft taken given) → HasFront path contents taken u.files) path contents old new wrote e fresh h is
    (λ t u taken less w taken' given' eq. let one : taken ≡ taken' = cc eq in subst (λ n. HasFront path contents n u.files) one w.held)
    (λ t e' fresh no taken given eq. let one : e' ≡ unlocking.NoSpaceLeft taken given = cc eq in absurd (no taken given one)))

left_none : (e : StaticStorageUnlockError) (path contents : List ℕ) (t : Told) → ((taken given : ℕ) → e ≢ unlocking.NoSpaceLeft taken given) → LeftBy e path contents t t
left_none (unlocking.NoSpaceLeft taken given) path contents t other = absurd (other taken given refl)
left_none unlocking.InternalError path contents t other = inl refl
left_none unlocking.OutOfMemory path contents t other = inl refl
left_none unlocking.InsufficientPermissions path contents t other = inl refl

left_all : (e : StaticStorageUnlockError) (path contents : List ℕ) (t u : Told) → ((taken given : ℕ) → e ≢ unlocking.NoSpaceLeft taken given) → u ≡ written path contents t →
    LeftBy e path contents t u
left_all (unlocking.NoSpaceLeft taken given) path contents t u other is = absurd (other taken given refl)
left_all unlocking.InternalError path contents t u other is = inr is
left_all unlocking.OutOfMemory path contents t u other is = inr is
left_all unlocking.InsufficientPermissions path contents t u other is = inr is

pub write-after : (path contents : List ℕ) (old new : Option Told) (wrote : Result ℕ FilesError) (e : StaticStorageUnlockError) (r : Unlocking) →
    IfSome old (λ t. IsFresh path t.files) → Writes path contents old new wrote → write_told (length contents) wrote ≡ Err e → r ≡ refused e →
    FromTo old new (UnlockLeaves r path contents)
write-after path contents old new wrote e r fresh h is same =
    subst (λ r'. FromTo old new (UnlockLeaves r' path contents)) (sym same)
    (write-cases (λ e' t u. LeftBy e' path contents t u) path contents old new wrote e fresh h is
    (λ t u taken less w. w.after) (λ t e' fresh no. left_none e' path contents t no))

pub write-err : (path contents : List ℕ) (old new : Option Told) (wrote : Result ℕ FilesError) (e : StaticStorageUnlockError) (r : Unlocking) →
    IfSome old (λ t. IsFresh path t.files) → Writes path contents old new wrote → write_told (length contents) wrote ≡ Err e → r ≡ refused e →
    FromTo old new (λ t u. OnErr r (IsOpen path u.files))
write-err path contents old new wrote e r fresh h is same =
    subst (λ r'. FromTo old new (λ t u. OnErr r' (IsOpen path u.files))) (sym same)
    (write-cases (λ e' t u. IsOpen path u.files) path contents old new wrote e fresh h is
    (λ t u taken less w. open_of path (take taken contents) u.files w.held) (λ t e' fresh no. open_of path [] t.files fresh))

pub write-stop : (path contents : List ℕ) (old new : Option Told) (wrote : Result ℕ FilesError) (e : StaticStorageUnlockError) →
    IfSome old (λ t. IsFresh path t.files) → Writes path contents old new wrote → write_told (length contents) wrote ≡ Err e →
    FromTo old new (λ t u. AddsMoments t.moments u.moments (IsUnlockMoment path contents t.files))
write-stop path contents old new wrote e fresh h is =
    write-cases (λ e' t u. AddsMoments t.moments u.moments (IsUnlockMoment path contents t.files)) path contents old new wrote e fresh h is
    (λ t u taken less w. w.stop) (λ t e' fresh no. AddsMoments-none t.moments (IsUnlockMoment path contents t.files))

pub write-others : (path contents : List ℕ) (old new : Option Told) (wrote : Result ℕ FilesError) (e : StaticStorageUnlockError) →
    IfSome old (λ t. IsFresh path t.files) → Writes path contents old new wrote → write_told (length contents) wrote ≡ Err e →
    FromTo old new (λ t u. SameOthers path t.files u.files)
write-others path contents old new wrote e fresh h is =
    write-cases (λ e' t u. SameOthers path t.files u.files) path contents old new wrote e fresh h is
    (λ t u taken less w. w.others) (λ t e' fresh no. SameOthers-none path t.files)

pub open-after : (path contents : List ℕ) (old mid new : Option Told) (set : Result (Unit {0}) FilesError) (e : StaticStorageUnlockError) (r : Unlocking) →
    IfSome old (λ t. IsFresh path t.files) → mid ≡ option_map (written path contents) old → Finalizes path mid new set → final_told set ≡ Err e → r ≡ refused e →
    FromTo old new (UnlockLeaves r path contents)
open-after path contents old mid new set e r fresh wrote h is same =
    let failed = final-err set e is in
    subst (λ r'. FromTo old new (UnlockLeaves r' path contents)) (sym same)
    (open-cases (λ t u. LeftBy e path contents t u) path contents old mid new set failed.0 fresh wrote h failed.1 (λ t u w. left_all e path contents t u failed.2 w.after))

pub open-err : (path contents : List ℕ) (old mid new : Option Told) (set : Result (Unit {0}) FilesError) (e : StaticStorageUnlockError) (r : Unlocking) →
    IfSome old (λ t. IsFresh path t.files) → mid ≡ option_map (written path contents) old → Finalizes path mid new set → final_told set ≡ Err e → r ≡ refused e →
    FromTo old new (λ t u. OnErr r (IsOpen path u.files))
open-err path contents old mid new set e r fresh wrote h is same =
    let failed = final-err set e is in
    subst (λ r'. FromTo old new (λ t u. OnErr r' (IsOpen path u.files))) (sym same)
    (open-cases (λ t u. IsOpen path u.files) path contents old mid new set failed.0 fresh wrote h failed.1 (λ t u w. open_of path contents u.files w.held))

pub open-stop : (path contents : List ℕ) (old mid new : Option Told) (set : Result (Unit {0}) FilesError) (e : StaticStorageUnlockError) →
    IfSome old (λ t. IsFresh path t.files) → mid ≡ option_map (written path contents) old → Finalizes path mid new set → final_told set ≡ Err e →
    FromTo old new (λ t u. AddsMoments t.moments u.moments (IsUnlockMoment path contents t.files))
open-stop path contents old mid new set e fresh wrote h is =
    let failed = final-err set e is in
    open-cases (λ t u. AddsMoments t.moments u.moments (IsUnlockMoment path contents t.files)) path contents old mid new set failed.0 fresh wrote h failed.1 (λ t u w. w.stop)

pub open-others : (path contents : List ℕ) (old mid new : Option Told) (set : Result (Unit {0}) FilesError) (e : StaticStorageUnlockError) →
    IfSome old (λ t. IsFresh path t.files) → mid ≡ option_map (written path contents) old → Finalizes path mid new set → final_told set ≡ Err e →
    FromTo old new (λ t u. SameOthers path t.files u.files)
open-others path contents old mid new set e fresh wrote h is =
    let failed = final-err set e is in
    open-cases (λ t u. SameOthers path t.files u.files) path contents old mid new set failed.0 fresh wrote h failed.1 (λ t u w. w.others)

pub whole-whole : (path contents : List ℕ) (old mid new : Option Told) (set : Result (Unit {0}) FilesError) (v : Unit {0}) (r : Unlocking) →
    IfSome old (λ t. IsFresh path t.files) → mid ≡ option_map (written path contents) old → Finalizes path mid new set → final_told set ≡ Ok v →
    FromTo old new (λ t u. OnOk r (IsWhole path contents u.files))
whole-whole path contents old mid new set v r fresh wrote h is =
    whole-cases (λ t u. OnOk r (IsWhole path contents u.files)) path contents old mid new set tt fresh wrote h (final-ok set v is) (λ t u w. on_ok r w.whole)
  where
    on_ok : {P : Type 0} (r : Unlocking) → P → OnOk r P
    on_ok (Ok s) p = p
    on_ok (Err e) p = tt

pub whole-after : (path contents : List ℕ) (old mid new : Option Told) (set : Result (Unit {0}) FilesError) (v : Unit {0}) (s : FileStorage) →
    IfSome old (λ t. IsFresh path t.files) → mid ≡ option_map (written path contents) old → Finalizes path mid new set → final_told set ≡ Ok v →
    FromTo old new (UnlockLeaves (Ok s) path contents)
whole-after path contents old mid new set v s fresh wrote h is =
    whole-cases (λ t u. u ≡ finalized path (written path contents t)) path contents old mid new set tt fresh wrote h (final-ok set v is) (λ t u w. w.after)

pub whole-stop : (path contents : List ℕ) (old mid new : Option Told) (set : Result (Unit {0}) FilesError) (v : Unit {0}) →
    IfSome old (λ t. IsFresh path t.files) → mid ≡ option_map (written path contents) old → Finalizes path mid new set → final_told set ≡ Ok v →
    FromTo old new (λ t u. AddsMoments t.moments u.moments (IsUnlockMoment path contents t.files))
whole-stop path contents old mid new set v fresh wrote h is =
    whole-cases (λ t u. AddsMoments t.moments u.moments (IsUnlockMoment path contents t.files)) path contents old mid new set tt fresh wrote h (final-ok set v is) (λ t u w. w.stop)

pub whole-others : (path contents : List ℕ) (old mid new : Option Told) (set : Result (Unit {0}) FilesError) (v : Unit {0}) →
    IfSome old (λ t. IsFresh path t.files) → mid ≡ option_map (written path contents) old → Finalizes path mid new set → final_told set ≡ Ok v →
    FromTo old new (λ t u. SameOthers path t.files u.files)
whole-others path contents old mid new set v fresh wrote h is =
    whole-cases (λ t u. SameOthers path t.files u.files) path contents old mid new set tt fresh wrote h (final-ok set v is) (λ t u w. w.others)
