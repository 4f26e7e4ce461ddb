-- Handles that were found and made, and things that stand.
use Rattle.std.proofs.Common.{◌≡◌, ℕ, ◌+◌, Bool, true, false, cond, List, [], ◌∷◌, ◌++◌, Option, Some, None, refl, sym, ap, ◌∙◌, subst}
use Rattle.std.specs.Prelude.{find, is_some, IsSome, if◌then◌else◌, nat_eq, Result, Ok, Err}
use Rattle.std.proofs.lemmas.Bool.Decides.{Decides-eqb}
use Rattle.board_names.specs.declared.errors.boards.EntryHandleError.TheVariants as entry_error
use Rattle.board_names.specs.declared.errors.boards.EntryHandleMutError.TheVariants as entry_mut_error
use Rattle.board_names.specs.declared.errors.boards.EntryHandleError.{EntryHandleError}
use Rattle.board_layout.specs.declared.type_detail.TypeDetail.{TypeDetail}
use Rattle.board_model.specs.declared.tables.Entry.{Entry}
use Rattle.board_model.specs.declared.tables.ThingKind.{ThingKind}
use Rattle.board_model.specs.declared.tables.ThingKind.TheVariants.{Reader, Writer}
use Rattle.board_model.specs.TableCalls.{answer_of, place_of}
use Rattle.board_service.specs.declared.made.Found.{Found}
use Rattle.board_service.specs.Domain.{Domain, cells_of, stands_as, held, entry_answer, entry_mut_answer, found}
use Rattle.board_service.specs.Facts.{IsHeldBeside}
use Rattle.board_cells.specs.Cells.{PlaceSeen, cell_width, end_width, fits}
use Rattle.board_handles.specs.BoardEnds.{Core, cell_of, parked_of, taken, taken_from}
use Rattle.board_handles.specs.LentForms as lent

-- ---- things

-- a number is itself
pub is_same : (n : ℕ) → nat_eq n n ≡ true
is_same n = (Decides-eqb n n).1 refl

-- a test before does no harm
pub kept_some : {X : Type 0} (b : Bool) (x : X) (o : Option X) → IsSome o → IsSome (cond b (Some x) o)
kept_some true x o s = refl
kept_some false x o s = s

-- what was put at the end is found, or something before it
pub found_last : {X : Type 0} (q : X → Bool) (xs : List X) (x : X) → q x ≡ true → IsSome (find q (xs ++ x ∷ []))
found_last q [] x e = ap (λ b. is_some (cond b (Some x) None)) e
found_last q (y ∷ ys) x e = kept_some (q y) y (find q (ys ++ x ∷ [])) (found_last q ys x e)

found_thing : {C : Type 0} (d : Domain C) (f : Option (ℕ × Entry)) → (found d f).thing ≡ d.last_thing + 1
found_thing d None = refl
found_thing d (Some f) = refl

found_entry : {C : Type 0} (d : Domain C) (f : Option (ℕ × Entry)) → (found d f).entry ≡ place_of f
found_entry d None = refl
found_entry d (Some f) = refl

-- an answer that is Ok is the expected one
pub answered : {A E : Type 0} (o : Option E) (x y : A) → Ok x ≡ answer_of o y → x ≡ y
answered None x y e = cc
answered (Some w) x y e = absurd (cc)

pub ok_is_no_refusal : {A E : Type 0} (x : A) (e : E) → Ok x ≡ Err e → ⊥
ok_is_no_refusal x e h = cc

-- where an answer is Ok no refusal is it
pub no_refusal : {A E : Type 0} (r : Result A E) (x : A) (e : E) → Ok x ≡ r → r ≡ Err e → ⊥
no_refusal r x e ok refused = ok_is_no_refusal x e (ok ∙ refused)

-- ---- what fits

-- what fits is given
pub is_given : {A E : Type 0} (u : E) (width : ℕ) (width_of : A → ℕ) (x y : Found) (o : Option A) (z : A) → fits width width_of o ≡ true → y ≡ x → o ≡ Some z → Ok (y, z) ≡ lent.fitting u width width_of x o
is_given u width width_of x y None z h e q = absurd cc
is_given u width width_of x y (Some a) z h e q =
    let same : a ≡ z = cc in
    (λ k. Ok (e k, sym same k)) ∙ sym (ap (λ b. if b then Ok (x, a) else Err u) h)

-- ---- readers

-- a reader's answer, once its entry was found
pub read_is : (d : Core) (keys v values : TypeDetail) (is_key : List ℕ → Bool) (width reader thing board : ℕ) (x : Found) (b : Bool)
    → v ≡ values → reader ≡ thing → board ≡ (held d reader).board → b ≡ stands_as d keys reader Reader → b ≡ true
    → Ok x ≡ entry_answer d (lent.entry_for d (lent.asked keys is_key v width) reader)
    → lent.fitting (entry_error.ThingUnknown reader) width cell_width x (cell_of d board x.entry) ≡ lent.read_answer d (lent.asked keys is_key values width) thing
read_is d keys v values is_key width reader thing board x b tv te tb is_b stands ans =
    (λ k. lent.fitting (entry_error.ThingUnknown reader) width cell_width x (cell_of d (tb k) x.entry))
    ∙ sym (ap (lent.handed (entry_error.ThingUnknown reader) width cell_width (cell_of d (held d reader).board))
    (ap (λ c. if c then entry_answer d (lent.entry_for d (lent.asked keys is_key v width) reader) else Err (entry_error.ThingUnknown reader)) (sym is_b ∙ stands) ∙ sym ans))
    ∙ (λ k. lent.read_answer d (lent.asked keys is_key (tv k) width) (te k))

-- a reader's answer, once its entry was refused
pub read_refused : (d : Core) (keys v values : TypeDetail) (is_key : List ℕ → Bool) (width reader thing : ℕ) (why : EntryHandleError) (b : Bool)
    → v ≡ values → reader ≡ thing → b ≡ stands_as d keys reader Reader → b ≡ true
    → Err why ≡ entry_answer d (lent.entry_for d (lent.asked keys is_key v width) reader)
    → Err why ≡ lent.read_answer d (lent.asked keys is_key values width) thing
read_refused d keys v values is_key width reader thing why b tv te is_b stands ans =
    sym (ap (lent.handed (entry_error.ThingUnknown reader) width cell_width (cell_of d (held d reader).board))
    (ap (λ c. if c then entry_answer d (lent.entry_for d (lent.asked keys is_key v width) reader) else Err (entry_error.ThingUnknown reader)) (sym is_b ∙ stands) ∙ sym ans))
    ∙ (λ k. lent.read_answer d (lent.asked keys is_key (tv k) width) (te k))

-- ---- writers

-- a writer's answer, once its entry was found
pub write_is : (d : Core) (keys v values : TypeDetail) (is_key : List ℕ → Bool) (width writer thing board : ℕ) (x : Found) (b : Bool)
    → v ≡ values → writer ≡ thing → board ≡ (held d writer).board → b ≡ stands_as d keys writer Writer → b ≡ true
    → Ok x ≡ entry_mut_answer d (held d writer) (lent.entry_for d (lent.asked keys is_key v width) writer)
    → lent.fitting (entry_mut_error.ThingUnknown writer) width end_width x (parked_of d board x.entry) ≡ lent.write_answer d (lent.asked keys is_key values width) thing
write_is d keys v values is_key width writer thing board x b tv te tb is_b stands ans =
    (λ k. lent.fitting (entry_mut_error.ThingUnknown writer) width end_width x (parked_of d (tb k) x.entry))
    ∙ sym (ap (lent.handed (entry_mut_error.ThingUnknown writer) width end_width (parked_of d (held d writer).board))
    (ap (λ c. if c then entry_mut_answer d (held d writer) (lent.entry_for d (lent.asked keys is_key v width) writer) else Err (entry_mut_error.ThingUnknown writer)) (sym is_b ∙ stands) ∙ sym ans))
    ∙ (λ k. lent.write_answer d (lent.asked keys is_key (tv k) width) (te k))

-- the tables after a write handle was made and its end taken
pub write_done : (d : Core) (keys v values : TypeDetail) (is_key : List ℕ → Bool) (width writer thing board : ℕ) (x : Found) (t now : Core)
    → v ≡ values → writer ≡ thing → board ≡ (held d writer).board
    → Ok x ≡ entry_mut_answer d (held d writer) (lent.entry_for d (lent.asked keys is_key v width) writer) → t ≡ lent.with_write d (lent.asked keys is_key v width) writer → now ≡ taken t board x.entry
    → now ≡ lent.with_write_taken d (lent.asked keys is_key values width) thing
write_done d keys v values is_key width writer thing board x t now tv te tb ans is is_taken =
    let f = lent.entry_for d (lent.asked keys is_key v width) writer in
    let place : x.entry ≡ place_of f = ap (λ (y : Found). y.entry) (answered _ x (found d f) ans) ∙ found_entry d f in
    is_taken ∙ (λ k. taken (is k) (tb k) (place k)) ∙ (λ k. lent.with_write_taken d (lent.asked keys is_key (tv k) width) (te k))

-- ---- what was made is held

same_ok : {A E : Type 0} (r : Result A E) (x y : A) → Ok x ≡ r → Ok y ≡ r → y ≡ x
same_ok (Ok z) x y first again = cc
same_ok (Err e) x y first again = absurd cc

-- the tables' call tells what was found before it, so that is what is held
pub held_as : {E : Type 0} (d e : Core) (r : Result Found E) (x y h : Found) (of thing : ℕ) (kind : ThingKind) → Ok x ≡ r → Ok y ≡ r → h ≡ x → of ≡ thing → IsHeldBeside d e of y.thing kind → IsHeldBeside d e thing h.thing kind
held_as d e r x y h of thing kind first again is same beside =
    let alike : y ≡ h = same_ok r x y first again ∙ sym is in
    subst (λ (n : ℕ). IsHeldBeside d e n h.thing kind) same (subst (λ (f : Found). IsHeldBeside d e of f.thing kind) alike beside)

-- tables with other cells hold the same
pub held_ends : (d m e : Core) (of thing : ℕ) (kind : ThingKind) → e.tables ≡ m.tables → IsHeldBeside d m of thing kind → IsHeldBeside d e of thing kind
held_ends d m e of thing kind same beside = record {
  as_kind = λ key was h. rw same (beside.as_kind key was h);
  stands = rw same beside.stands;
}

-- an end that is taken leaves the tables as they are
pub taken_tables : (d : Core) (board entry : ℕ) → (taken d board entry).tables ≡ d.tables
taken_tables d board entry = by (cells_of d board)
  where
    by : (c : Option (List PlaceSeen)) → (taken_from d board c entry).tables ≡ d.tables
    by None = refl
    by (Some places) = refl
