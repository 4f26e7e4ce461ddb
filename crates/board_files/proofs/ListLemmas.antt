-- How the names of the final files are listed.
use Rattle.std.proofs.Common.{◌≡◌, ℕ, ◌+◌, ◌^◌, ◌<◌, ◌≤◌, List, [], ◌∷◌, length, drop, refl, sym, ◌∙◌, ap, subst, arith, ⊎_elim}
use Rattle.std.specs.Prelude.{Bool, true, false, cond, Option, Some, None, option_map, slice_get, Result, Ok, Err, IfSome}
use Rattle.std.specs.List.{AllByRecursion, filter}
use Rattle.std.specs.List.Sorted.{IsStrictlySortedBy}
use Rattle.std.specs.Map.{keys_of}
use Rattle.std.specs.Ordering.{nat_cmp}
use Rattle.std.specs.Cmp.Lexicographic.{slice_cmp, nat_list_cmp_total}
use Rattle.std.specs.declared.cmp.Ordering.TheVariants.{Less}
use Rattle.std.proofs.lemmas.Bool.{cases_lt}
use Rattle.std.proofs.lemmas.Cmp.{eq_by_cmp_equiv}
use Rattle.std.proofs.lemmas.List.{append-nil, drop_more, drop_all}
use Rattle.std.proofs.lemmas.Map.Entries.{lookup_from_place}
use Rattle.std.proofs.lemmas.Map.Keys.{IsDistinct-from_sorted}
use Rattle.std.proofs.lemmas.Option.{slice_get-map, slice_get-get_or, slice_get_within, get_or_from_slice_get}
use Rattle.board_names.specs.declared.configuration.Configuration.{Configuration}
use Rattle.board_names.specs.Extraction.{Lists, FullNamesAscend}
use Rattle.board_names.specs.Table.{at, name_at, NamesAscend}
use Rattle.board_names.proofs.Listing.{ListsBehind, ListsBehind-next, Lists-ascend}
use Rattle.board_files.specs.Files.{File, Held, Told, new_file, AreListed, TellsName, LooksAt}
use Rattle.board_files.specs.Storage.{final_names, and_final, name_and_final, AddsName}
use Rattle.board_files.specs.Told.{list_told, is_yes}
use Rattle.board_files.specs.declared.files.FilesError.{FilesError}
use Rattle.board_files.specs.declared.files.FilesError.TheVariants.{Failed, OutOfMemory}

-- ---- the names of the final files

-- one file more in front
final_names-cons : (f : List ℕ × File) (files : Held) → final_names (f ∷ files) ≡ cond f.1.is_final (f.0 ∷ final_names files) (final_names files)
final_names-cons f files =
    elim f.1.is_final as (λ b. keys_of (cond b (f ∷ filter (λ e. e.1.is_final) files) (filter (λ e. e.1.is_final) files))
    ≡ cond b (f.0 ∷ final_names files) (final_names files)) [
      | true ↦ refl
      | false ↦ refl
    ]

-- what holds of each name holds of the names of the final files
final_names-each : (P : List ℕ → Type 0) (files : Held) → AllByRecursion P (keys_of files) → AllByRecursion P (final_names files)
final_names-each P [] each = tt
final_names-each P (f ∷ files) each =
    elim f.1.is_final as (λ b. AllByRecursion P (keys_of (cond b (f ∷ filter (λ e. e.1.is_final) files) (filter (λ e. e.1.is_final) files)))) [
      | true ↦ (each.0, final_names-each P files each.1)
      | false ↦ final_names-each P files each.1
    ]

-- they ascend where all names do
final_names-ascend : (files : Held) → NamesAscend files → IsStrictlySortedBy (slice_cmp nat_cmp) (final_names files)
unfolding IsStrictlySortedBy
final_names-ascend [] ascend = tt
final_names-ascend (f ∷ files) ascend =
    elim f.1.is_final as (λ b. IsStrictlySortedBy (slice_cmp nat_cmp) (keys_of (cond b (f ∷ filter (λ e. e.1.is_final) files) (filter (λ e. e.1.is_final) files)))) [
      | true ↦ (final_names-each (λ other. slice_cmp nat_cmp f.0 other ≡ Less) files ascend.0, final_names-ascend files ascend.1)
      | false ↦ final_names-ascend files ascend.1
    ]

-- ---- the file at an index

-- what is seen of the name at an index is what stands at that index
at_index : (files : Held) (index : ℕ) (path : List ℕ) (seen : Option Bool) → NamesAscend files → name_at files index ≡ Some path →
    seen ≡ option_map (λ f. f.is_final) (at files path) → Some (path, is_yes seen) ≡ name_and_final files index
at_index files index path seen ascend name is =
    elim (slice_get files index) as (λ o. slice_get files index ≡ o → Some (path, is_yes seen) ≡ option_map and_final o) [
      | None ↦ λ h.
          let none : Some path ≡ None = sym name ∙ slice_get-map (λ e. e.0) files index ∙ ap (option_map (λ e. e.0)) h in
          cc none
      | Some e ↦ λ h.
          let some : Some path ≡ Some e.0 = sym name ∙ slice_get-map (λ e. e.0) files index ∙ ap (option_map (λ e. e.0)) h in
          let key : path ≡ e.0 = cc some in
          let stands : at files e.0 ≡ Some e.1 =
          lookup_from_place (eq_by_cmp_equiv nat_list_cmp_total) files index e.0 e.1 (IsDistinct-from_sorted (slice_cmp nat_cmp) (keys_of files) ascend) h in
          let looked : seen ≡ Some e.1.is_final = is ∙ ap (λ k. option_map (λ f. f.is_final) (at files k)) key ∙ ap (option_map (λ f. f.is_final)) stands in
          rw (key, looked)
    ] refl

-- the name at an index, and then whether its file is final
pub file_at-some : (old mid new : Option Told) (index : ℕ) (path : List ℕ) (seen : Option Bool) →
    TellsName index old mid (Ok (Some path)) → LooksAt path mid new (Ok seen) → IfSome old (λ t. Some (path, is_yes seen) ≡ name_and_final t.files index)
file_at-some None mid new index path seen names looks = tt
file_at-some (Some t) mid new index path seen names looks =
    at_index t.files index path seen names.listed.ascend (sym names.answer)
    (subst (λ o. IfSome o (λ u. seen ≡ option_map (λ f. f.is_final) (at u.files path))) names.after looks.answer)

-- past the end
pub file_at-none : (old mid : Option Told) (index : ℕ) → TellsName index old mid (Ok None) → IfSome old (λ t. None ≡ name_and_final t.files index)
file_at-none None mid index names = tt
file_at-none (Some t) mid index names =
    elim (slice_get t.files index) as (λ o. slice_get t.files index ≡ o → None ≡ option_map and_final o) [
      | None ↦ λ h. refl
      | Some e ↦ λ h.
          let some : None ≡ Some e.0 = names.answer ∙ slice_get-map (λ e. e.0) t.files index ∙ ap (option_map (λ e. e.0)) h in
          cc some
    ] refl

pub list_told-ok : {T : Type 0} (given : Result T FilesError) (value : T) → list_told given ≡ Ok value → given ≡ Ok value
list_told-ok (Ok v) value is = let same : v ≡ value = cc is in ap Ok same
list_told-ok (Err Failed) value is = cc is
list_told-ok (Err OutOfMemory) value is = cc is

-- ---- the loop

front_of : (files : Held) (index : ℕ) (e : List ℕ × File) → slice_get files index ≡ Some e → drop index files ≡ e ∷ drop (index + 1) files
front_of files index e h =
    drop_more files index e (slice_get_within files index e h) ∙ ap (λ f. f ∷ drop (index + 1) files) (get_or_from_slice_get files index e e h)

abbrev name_of : Option (List ℕ × Bool) → List ℕ
name_of None = []
name_of (Some one) = one.0

abbrev final_of : Option (List ℕ × Bool) → Bool
final_of None = false
final_of (Some one) = one.1

-- the files from an index on have that one in front
final_names-drop : (files : Held) (index : ℕ) (path : List ℕ) (is_final : Bool) → Some (path, is_final) ≡ name_and_final files index →
    (index < length files) × (final_names (drop index files) ≡ cond is_final (path ∷ final_names (drop (index + 1) files)) (final_names (drop (index + 1) files)))
final_names-drop files index path is_final is =
    elim (slice_get files index) as (λ o. slice_get files index ≡ o → Some (path, is_final) ≡ option_map and_final o →
    (index < length files) × (final_names (drop index files) ≡ cond is_final (path ∷ final_names (drop (index + 1) files)) (final_names (drop (index + 1) files)))) [
      | None ↦ λ h none. cc none
      | Some e ↦ λ h some.
          let key : path ≡ e.0 = ap name_of some in
          let final : is_final ≡ e.1.is_final = ap final_of some in (
            slice_get_within files index e h,
            ap final_names (front_of files index e h) ∙ rw (key, final) (final_names-cons e (drop (index + 1) files)),
          )
    ] refl is

-- what was listed of the files below an index
pub record IsListedTo (cfg : Configuration) (files : Held) (index : ℕ) (names : List (List ℕ)) : Type 0 where
  pub behind : ListsBehind cfg (final_names files) (final_names (drop index files)) names
  pub within : index ≤ length files

pub listed-first : (cfg : Configuration) (old : Option Told) → IfSome old (λ t. IsListedTo cfg t.files 0 [])
listed-first cfg None = tt
listed-first cfg (Some t) = record { behind = λ rest lists. lists; within = omega arith }

behind_next : (cfg : Configuration) (all rest : List (List ℕ)) (path : List ℕ) (is_final : Bool) (before now : List (List ℕ)) →
    AddsName cfg path is_final before now → ListsBehind cfg all (cond is_final (path ∷ rest) rest) before → ListsBehind cfg all rest now
behind_next cfg all rest path false before now adds behind = subst (λ ns. ListsBehind cfg all rest ns) (sym adds) behind
behind_next cfg all rest path true before now (one, extracts, is) behind =
    subst (λ ns. ListsBehind cfg all rest ns) (sym is) (ListsBehind-next cfg all rest before path one behind extracts)

-- one file more is looked at
pub listed-next : (cfg : Configuration) (old : Option Told) (index : ℕ) (path : List ℕ) (is_final : Bool) (before now : List (List ℕ)) →
    IfSome old (λ t. Some (path, is_final) ≡ name_and_final t.files index) → AddsName cfg path is_final before now →
    IfSome old (λ t. IsListedTo cfg t.files index before) → IfSome old (λ t. IsListedTo cfg t.files (index + 1) now)
listed-next cfg None index path is_final before now is adds so_far = tt
listed-next cfg (Some t) index path is_final before now is adds so_far =
    let front = final_names-drop t.files index path is_final is in
    record {
      behind = behind_next cfg (final_names t.files) (final_names (drop (index + 1) t.files)) path is_final before now adds
          (subst (λ fs. ListsBehind cfg (final_names t.files) fs before) front.1 so_far.behind);
      within = omega (arith, front.0);
    }

past_at : (o : Option (List ℕ × File)) → None ≡ option_map and_final o → o ≡ None
past_at None h = refl
past_at (Some e) h = cc h

past_end : (files : Held) (index : ℕ) → None ≡ name_and_final files index → length files ≤ index
past_end files index past =
    let first : List ℕ × File = ([], new_file) in
    let none : slice_get files index ≡ None = past_at (slice_get files index) past in
    ⊎_elim (λ (inside : index < length files). let some = slice_get-get_or files index first inside in cc (none, some))
    (λ (outside : length files ≤ index). outside) (cases_lt index (length files))

-- all files were looked at
pub listed-all : (cfg : Configuration) (old : Option Told) (index : ℕ) (names : List (List ℕ)) → IfSome old (λ t. None ≡ name_and_final t.files index) →
    IfSome old (λ t. IsListedTo cfg t.files index names) → IfSome old (λ t. Lists cfg (final_names t.files) names)
listed-all cfg None index names past so_far = tt
listed-all cfg (Some t) index names past so_far =
    let none : Lists cfg (final_names (drop index t.files)) [] =
    subst (λ fs. Lists cfg (final_names fs) []) (sym (drop_all index t.files (past_end t.files index past))) refl in
    subst (λ ns. Lists cfg (final_names t.files) ns) (append-nil names) (so_far.behind [] none)

-- what is listed ascends
pub listed-ascend : (cfg : Configuration) (old : Option Told) (names : List (List ℕ)) → IfSome old (λ t. AreListed t.files) →
    IfSome old (λ t. Lists cfg (final_names t.files) names) → IfSome old (λ t. FullNamesAscend cfg names)
listed-ascend cfg None names listed lists = tt
listed-ascend cfg (Some t) names listed lists = Lists-ascend cfg (final_names t.files) names lists (final_names-ascend t.files listed.ascend)

-- files that are told are fewer than the indices of a loop
pub listed-fewer : (cfg : Configuration) (old : Option Told) (index : ℕ) (names : List (List ℕ)) (P : Told → Type 0) → 2 ^ 63 ≤ index →
    IfSome old (λ t. AreListed t.files) → IfSome old (λ t. IsListedTo cfg t.files index names) → IfSome old P
listed-fewer cfg None index names P far listed so_far = tt
listed-fewer cfg (Some t) index names P far listed so_far = absurd (omega (arith, far, listed.few, so_far.within))
