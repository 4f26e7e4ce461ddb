-- Files in memory after their changes.
use Rattle.std.proofs.Common.{◌≡◌, ℕ, zero, suc, ◌+◌, ◌<◌, ◌≤◌, List, [], ◌∷◌, ◌++◌, length, take, get_or, refl, sym, ◌∙◌, ap, arith}
use Rattle.std.specs.Prelude.{Bool, true, false, cond, Option, Some, None}
use Rattle.std.specs.declared.cmp.Ordering.{Ordering}
use Rattle.std.specs.declared.cmp.Ordering.TheVariants.{Less, Equal, Greater}
use Rattle.std.specs.Ordering.{match_ordering, nat_cmp}
use Rattle.std.specs.Map.{remove_entry}
use Rattle.std.specs.BTreeMap.{insert_entry, is_at}
use Rattle.std.specs.Cmp.Lexicographic.{slice_cmp}
use Rattle.std.proofs.lemmas.List.{take_all, take_more}
use Rattle.board_names.specs.Table.{at}
use Rattle.board_files.specs.Files.{File, Held, Told, moved}
use Rattle.board_files.specs.Changes.{altered_by, applied, replayed, moments_from, told_after, last_moment, stopped_at}
use Rattle.board_files.specs.declared.changes.Change.{Change}
use Rattle.board_files.specs.declared.changes.Change.TheVariants.{Made, Wrote, Finished, Removed}

pub replayed-push : (files : Held) (changes : List Change) (c : Change) → replayed files (changes ++ c ∷ []) ≡ applied c (replayed files changes)
replayed-push files [] c = refl
replayed-push files (d ∷ changes) c = replayed-push (applied d files) changes c

moments-push : (files : Held) (changes : List Change) (c : Change) →
    moments_from files (changes ++ c ∷ []) ≡ moments_from files changes ++ applied c (replayed files changes) ∷ []
moments-push files [] c = refl
moments-push files (d ∷ changes) c = ap (λ l. applied d files ∷ l) (moments-push (applied d files) changes c)

-- one change more is a moment more
pub told_after-push : (changes : List Change) (c : Change) → told_after (changes ++ c ∷ []) ≡ moved (told_after changes) (applied c (told_after changes).files)
told_after-push changes c = rw (replayed-push [] changes c, moments-push [] changes c)

-- the files are what stood at their last moment
files-last : (files : Held) (changes : List Change) → replayed files changes ≡ last_moment files (moments_from files changes)
files-last files [] = refl
files-last files (c ∷ changes) = files-last (applied c files) changes

moments-take : (n : ℕ) (files : Held) (changes : List Change) → moments_from files (take n changes) ≡ take n (moments_from files changes)
moments-take zero files changes = refl
moments-take (suc n) files [] = refl
moments-take (suc n) files (c ∷ changes) = ap (λ l. applied c files ∷ l) (moments-take n (applied c files) changes)

-- after the first changes the files are as they stood then
pub told_after-take : (n : ℕ) (changes : List Change) → told_after (take n changes) ≡ stopped_at n (told_after changes)
told_after-take n changes = rw (files-last [] (take n changes), moments-take n [] changes)

length-moments_from : (files : Held) (changes : List Change) → length (moments_from files changes) ≡ length changes
length-moments_from files [] = refl
length-moments_from files (c ∷ changes) = ap suc (length-moments_from (applied c files) changes)

-- after all changes they are as they are
pub stopped-all : (n : ℕ) (changes : List Change) → length (told_after changes).moments ≤ n → stopped_at n (told_after changes) ≡ told_after changes
stopped-all n changes most =
    sym (told_after-take n changes) ∙ ap told_after (take_all n changes (omega (arith, most, length-moments_from [] changes)))

-- one change more was made
pub stopped-next : (front : List Change) (i : ℕ) (c : Change) (now next : Told) → i < length front → c ≡ get_or front i c →
    now ≡ told_after (take i front) → next ≡ moved now (applied c now.files) → next ≡ told_after (take (i + 1) front)
stopped-next front i c now next less item so made =
    made ∙ ap (λ t. moved t (applied c t.files)) so ∙ sym (told_after-push (take i front) c)
    ∙ ap told_after (ap (λ d. take i front ++ d ∷ []) item ∙ sym (take_more front i c less))

-- a new entry is one more at most
length-insert_entry : {K X : Type 0} (cmp : K → K → Ordering) (es : List (K × X)) (k : K) (x : X) → length (insert_entry cmp es k x) ≤ length es + 1
length-insert_entry cmp [] k x = omega arith
length-insert_entry cmp (e ∷ es) k x =
    elim (cmp k e.0) as (λ o. length (match_ordering o ((k, x) ∷ e ∷ es) ((e.0, x) ∷ es) (e ∷ insert_entry cmp es k x)) ≤ length (e ∷ es) + 1) [
      | Less ↦ omega arith
      | Equal ↦ omega arith
      | Greater ↦ let more = length-insert_entry cmp es k x in omega (arith, more)
    ]

-- an entry that is taken out is none more
length-remove_entry : {K X : Type 0} (test : K → Bool) (es : List (K × X)) → length (remove_entry test es) ≤ length es
length-remove_entry test [] = omega arith
length-remove_entry test (e ∷ es) =
    elim (test e.0) as (λ b. length (cond b es (e ∷ remove_entry test es)) ≤ length (e ∷ es)) [
      | true ↦ omega arith
      | false ↦ let fewer = length-remove_entry test es in omega (arith, fewer)
    ]

length-altered_by : (files : Held) (name : List ℕ) (change : File → File) (one : Option File) → length (altered_by files name change one) ≤ length files + 1
length-altered_by files name change None = omega arith
length-altered_by files name change (Some file) = length-insert_entry _ files name (change file)

-- a change makes one file at most
length-applied : (c : Change) (files : Held) → length (applied c files) ≤ length files + 1
length-applied (Made name) files = length-insert_entry _ files name _
length-applied (Wrote name bytes) files = length-altered_by files name _ (at files name)
length-applied (Finished name) files = length-altered_by files name _ (at files name)
length-applied (Removed name) files = let fewer = length-remove_entry (is_at (slice_cmp nat_cmp name)) files in omega (arith, fewer)

-- there are no more files than there were, and changes
pub length-replayed : (files : Held) (changes : List Change) → length (replayed files changes) ≤ length files + length changes
length-replayed files [] = omega arith
length-replayed files (c ∷ changes) =
    let one = length-applied c files in
    let rest = length-replayed (applied c files) changes in
    omega (arith, one, rest)
