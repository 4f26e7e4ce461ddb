-- Read handles and write handles.
use Rattle.std.proofs.Common.{◌≡◌, ◌≢◌, ℕ, ◌+◌, ◌^◌, ◌<◌, Bool, true, ◌&&◌, if◌then◌else◌, List, [], ◌∷◌, ◌++◌, arith, refl, sym, ap, ◌∙◌, subst, Option, Some, None}
use Rattle.std.specs.Prelude.{IsSome, find}
use Rattle.board_layout.specs.Answer.{Answers}
use Rattle.board_layout.specs.declared.type_detail.TypeDetail.{TypeDetail}
use Rattle.board_model.specs.declared.answer.Reply.{Reply}
use Rattle.board_model.specs.declared.answer.Reply.TheVariants as reply
use Rattle.board_names.specs.declared.errors.boards.EntryHandleError.{EntryHandleError}
use Rattle.board_names.specs.declared.errors.boards.EntryHandleError.TheVariants as entry_error
use Rattle.board_names.specs.declared.errors.boards.EntryHandleMutError.{EntryHandleMutError}
use Rattle.board_names.specs.declared.errors.boards.EntryHandleMutError.TheVariants as entry_mut_error
use Rattle.board_model.specs.declared.tables.Entry.{Entry}
use Rattle.board_model.specs.declared.tables.Kind.TheVariants as kind
use Rattle.board_model.specs.declared.tables.Thing.{Thing}
use Rattle.board_model.specs.declared.tables.ThingKind.{ThingKind}
use Rattle.board_model.specs.declared.value.Key.{Key}
use Rattle.board_model.specs.LawfulSession.{is_typed_key}
use Rattle.board_model.specs.Tables.{board_at, entry_found, holds_at, kind_of, port_of, same_kind}
use Rattle.board_model.specs.TableCalls.{entry_asked, entry_mut_asked, entry_mut_refusals, entry_refusals, first_of, id_of, place_of, with_read_handle, with_write_handle}
use Rattle.board_model.specs.Things.{Held}
use Rattle.board_model.specs.TypeTable.{key_detail, type_of_key}
use Rattle.script_parties.specs.Named.{IsNamed, party_at, things_of}
use Rattle.script_parties.specs.Parties.{IsAsked, Parties}
use Rattle.script_parties.proofs.Asked.{answered_made, answered_refused, err_of, ok_of, told_made, told_refused}
use Rattle.script_parties.proofs.Counts.{AreSame, handles-same}
use Rattle.script_parties.proofs.Growth.{IsMore, same_things}
use Rattle.script_parties.proofs.Places.{IsThing}
use Rattle.script_parties.proofs.Ports.{from, one_left, shown}
use Rattle.board_service.specs.declared.made.Found.{Found}
use Rattle.board_service.specs.Domain.{Domain, after_entry, after_entry_mut, entry_answer, entry_for, entry_mut_answer, found, held, stands_as, is_thing, spent, thing_or_none}

-- ---- what is asked of the thing

-- a test of the thing that stands
held_so : (o : Option (Thing ℕ ℕ)) (test : Thing ℕ ℕ → Bool) → IsSome o → test (thing_or_none o) ≡ true → holds_at o test ≡ true
held_so None test s h = absurd cc
held_so (Some t) test s h = h

kind_so : (k : ThingKind) → same_kind k k ≡ true → (j : ThingKind) (b : Bool) → j ≡ k → b ≡ true → (same_kind j k && b) ≡ true
kind_so k s j b e h = subst (λ i. (same_kind i k && b) ≡ true) (sym e) (rw s h)

-- the core has a thing of this kind, of a board with keys of this type
pub held_as : {C : Type 0} (nodes : List (List ℕ)) (d : Domain C) (x : Held) (number : ℕ) (k : ThingKind) (key : Key) → same_kind k k ≡ true → IsThing nodes d x number → kind_of x.kind ≡ k
    → is_typed_key (board_at d.tables x.board) key ≡ true → stands_as d (key_detail (type_of_key key)) number k ≡ true
held_as {C} nodes d x number k key s i e typed =
    let of = held d number in
    held_so (find (is_thing number) d.tables.things) (λ t. same_kind (kind_of t.kind) k && is_typed_key (board_at d.tables t.board) key) i.stands
    (kind_so k s (kind_of of.kind) (is_typed_key (board_at d.tables of.board) key) (ap (λ j. kind_of j) i.kind ∙ e) (subst (λ b. is_typed_key (board_at d.tables b) key ≡ true) (sym i.board) typed))

-- ---- what was found

found-thing : {C : Type 0} (d : Domain C) (f : Option (ℕ × Entry)) → (found d f).thing ≡ d.last_thing + 1
found-thing d None = refl
found-thing d (Some f) = refl

found-entry : {C : Type 0} (d : Domain C) (f : Option (ℕ × Entry)) → (found d f).entry ≡ place_of f
found-entry d None = refl
found-entry d (Some f) = refl

found-place : {C : Type 0} (d : Domain C) (f : Option (ℕ × Entry)) → (found d f).place ≡ id_of f
found-place d None = refl
found-place d (Some f) = refl

-- the entry of the thing's board, with a key and a value type
abbrev pub found_for : {C : Type 0} → Domain C → Held → (List ℕ → Bool) → TypeDetail → Option (ℕ × Entry)
found_for d x is_key value = entry_found (board_at d.tables x.board) is_key value

pub found_same : {C : Type 0} (nodes : List (List ℕ)) (d : Domain C) (x : Held) (number : ℕ) (is_key : List ℕ → Bool) (value : TypeDetail) → IsThing nodes d x number
    → entry_for d (held d number) is_key value ≡ found_for d x is_key value
found_same nodes d x number is_key value i = ap (λ b. entry_found (board_at d.tables b) is_key value) i.board

-- ---- read handles

abbrev pub IsRead : Parties → Parties → List ℕ → Held → Option (ℕ × Entry) → Reply → Type 0
IsRead old new name x f told = IsAsked old new (λ e. reply.EntryError e) (entry_asked old.tables x name f) told

pub entry_made : {C : Type 0} (list : C → List ℕ) (nodes : List (List ℕ)) (at : ℕ → Option Held) (d after : Domain C) (x : Held) (number : ℕ) (name : List ℕ) (is_key : List ℕ → Bool) (value : TypeDetail) (m : Found)
    → IsNamed nodes at d → IsThing nodes d x number
    → Answers (ok_of m) entry_error.OutOfMemory (entry_answer d (entry_for d (held d number) is_key value)) → after ≡ after_entry d (held d number) (entry_for d (held d number) is_key value)
    → IsRead (shown list d (things_of at d)) (shown list after (things_of at d ++ from x name (kind.ReadHandle m.entry) ∷ [])) name x (found_for d x is_key value) (reply.Number m.place)
    × IsMore nodes d after m.thing (from x name (kind.ReadHandle m.entry))
entry_made {C} list nodes at d after x number name is_key value m h i a ok =
    let of = held d number in
    let f = found_for d x is_key value in
    let same : entry_for d of is_key value ≡ f = found_same nodes d x number is_key value i in
    let a' : Answers (ok_of m) entry_error.OutOfMemory (entry_answer d f) = subst (λ o. Answers (ok_of m) entry_error.OutOfMemory (entry_answer d o)) same a in
    let ok' : after ≡ after_entry d of f = subst (λ o. after ≡ after_entry d of o) same ok in
    let by = answered_made (entry_refusals f) (spent d.last_thing, entry_error.NumbersSpent) entry_error.OutOfMemory m (found d f) a' in
    let entry : place_of f ≡ m.entry = sym (ap (λ (k : Found). k.entry) by.same ∙ found-entry d f) in
    let place : id_of f ≡ m.place = sym (ap (λ (k : Found). k.place) by.same ∙ found-place d f) in
    let thing : m.thing ≡ d.last_thing + 1 = ap (λ (k : Found). k.thing) by.same ∙ found-thing d f in
    let Told : Domain C → ℕ → ℕ → Type 0 = λ e j n. IsRead (shown list d (things_of at d)) (shown list e (things_of at d ++ from x name (kind.ReadHandle j) ∷ [])) name x f (reply.Number n) in
    let told : Told (after_entry d of f) (place_of f) (id_of f) =
    told_made (shown list d (things_of at d)) (shown list (after_entry d of f) (things_of at d ++ from x name (kind.ReadHandle (place_of f)) ∷ [])) (λ e. reply.EntryError e)
    (first_of (entry_refusals f)) (id_of f) (with_read_handle (shown list d (things_of at d)).tables x name f) by.none refl refl (omega arith) in
    let Kept : Domain C → ℕ → Type 0 = λ e j. IsMore nodes d e m.thing (from x name (kind.ReadHandle j)) in
    let kept : Kept (after_entry d of f) (place_of f) = record {
      thing = record { holder = of.holder; name = d.last_thing + 1; board = of.board; kind = kind.ReadHandle (place_of f) };
      things = refl;
      last = refl;
      number = sym thing;
      next = thing;
      holder = i.holder;
      board = i.board;
      kind = refl;
      node = record { some = i.node.some; most = i.node.most };
      keys = h.keys;
    } in (
      subst (λ e. Told e m.entry m.place) (sym ok') (subst (λ n. Told (after_entry d of f) m.entry n) place (subst (λ j. Told (after_entry d of f) j (id_of f)) entry told)),
      subst (λ e. Kept e m.entry) (sym ok') (subst (λ j. Kept (after_entry d of f) j) entry kept),
    )

pub entry_not_made : {C : Type 0} (list : C → List ℕ) (nodes : List (List ℕ)) (at : ℕ → Option Held) (d after : Domain C) (x : Held) (number : ℕ) (name : List ℕ) (is_key : List ℕ → Bool) (value : TypeDetail) (why : EntryHandleError)
    → IsNamed nodes at d → IsThing nodes d x number → d.last_thing < 2 ^ 63 → why ≢ entry_error.OutOfMemory
    → Answers (err_of why) entry_error.OutOfMemory (entry_answer d (entry_for d (held d number) is_key value)) → after ≡ d
    → IsRead (shown list d (things_of at d)) (shown list after (things_of at d)) name x (found_for d x is_key value) (reply.EntryError why)
entry_not_made {C} list nodes at d after x number name is_key value why h i few memory a err =
    let f = found_for d x is_key value in
    let a' : Answers (err_of why) entry_error.OutOfMemory (entry_answer d f) = subst (λ o. Answers (err_of why) entry_error.OutOfMemory (entry_answer d o)) (found_same nodes d x number is_key value i) a in
    let by = answered_refused (entry_refusals f) (spent d.last_thing, entry_error.NumbersSpent) entry_error.OutOfMemory why (found d f) (one_left d.last_thing few) memory a' in
    subst (λ e. IsRead (shown list d (things_of at d)) (shown list e (things_of at d)) name x f (reply.EntryError why)) (sym err)
    (told_refused (shown list d (things_of at d)) (λ e. reply.EntryError e) (first_of (entry_refusals f)) (id_of f) (with_read_handle (shown list d (things_of at d)).tables x name f) why by)

-- ---- write handles

abbrev pub IsWrite : Parties → Parties → List ℕ → Held → Option (ℕ × Entry) → Reply → Type 0
IsWrite old new name x f told = IsAsked old new (λ e. reply.EntryMutError e) (entry_mut_asked old.tables x name f) told

handles_refused : (f : ℕ → List ℕ) (ts : List (Thing ℕ ℕ)) (xs : List Held) (board : ℕ) (o : Option (ℕ × Entry)) → AreSame f ts xs
    → first_of (entry_mut_refusals xs board o) ≡ first_of (entry_mut_refusals ts board o)
handles_refused f ts xs board None e = refl
handles_refused f ts xs board (Some x) e = ap (λ b. if b then Some entry_mut_error.HandleAlreadyExists else None) (handles-same f board x.0 ts xs e)

pub handle_tests : {C : Type 0} (nodes : List (List ℕ)) (at : ℕ → Option Held) (d : Domain C) (x : Held) (number : ℕ) (o : Option (ℕ × Entry)) → IsNamed nodes at d → IsThing nodes d x number
    → first_of (entry_mut_refusals (things_of at d) x.board o) ≡ first_of (entry_mut_refusals d.tables.things (held d number).board o)
handle_tests nodes at d x number o h i =
    handles_refused (party_at nodes) d.tables.things (things_of at d) x.board o (same_things nodes at d h) ∙ ap (λ b. first_of (entry_mut_refusals d.tables.things b o)) (sym i.board)

pub entry_mut_made : {C : Type 0} (list : C → List ℕ) (nodes : List (List ℕ)) (at : ℕ → Option Held) (d after : Domain C) (x : Held) (number : ℕ) (name : List ℕ) (is_key : List ℕ → Bool) (value : TypeDetail) (m : Found) (port : ℕ)
    → IsNamed nodes at d → IsThing nodes d x number → port ≡ port_of x.kind
    → Answers (ok_of m) entry_mut_error.OutOfMemory (entry_mut_answer d (held d number) (entry_for d (held d number) is_key value))
    → after ≡ after_entry_mut d (held d number) (entry_for d (held d number) is_key value)
    → IsWrite (shown list d (things_of at d)) (shown list after (things_of at d ++ from x name (kind.WriteHandle m.entry port) ∷ [])) name x (found_for d x is_key value) (reply.Number m.place)
    × IsMore nodes d after m.thing (from x name (kind.WriteHandle m.entry port))
entry_mut_made {C} list nodes at d after x number name is_key value m port h i p a ok =
    let of = held d number in
    let f = found_for d x is_key value in
    let same : entry_for d of is_key value ≡ f = found_same nodes d x number is_key value i in
    let a' : Answers (ok_of m) entry_mut_error.OutOfMemory (entry_mut_answer d of f) = subst (λ o. Answers (ok_of m) entry_mut_error.OutOfMemory (entry_mut_answer d of o)) same a in
    let ok' : after ≡ after_entry_mut d of f = subst (λ o. after ≡ after_entry_mut d of o) same ok in
    let by = answered_made (entry_mut_refusals d.tables.things of.board f) (spent d.last_thing, entry_mut_error.NumbersSpent) entry_mut_error.OutOfMemory m (found d f) a' in
    let entry : place_of f ≡ m.entry = sym (ap (λ (k : Found). k.entry) by.same ∙ found-entry d f) in
    let place : id_of f ≡ m.place = sym (ap (λ (k : Found). k.place) by.same ∙ found-place d f) in
    let thing : m.thing ≡ d.last_thing + 1 = ap (λ (k : Found). k.thing) by.same ∙ found-thing d f in
    let Told : Domain C → ℕ → ℕ → ℕ → Type 0 = λ e j q n. IsWrite (shown list d (things_of at d)) (shown list e (things_of at d ++ from x name (kind.WriteHandle j q) ∷ [])) name x f (reply.Number n) in
    let told : Told (after_entry_mut d of f) (place_of f) (port_of x.kind) (id_of f) =
    told_made (shown list d (things_of at d)) (shown list (after_entry_mut d of f) (things_of at d ++ from x name (kind.WriteHandle (place_of f) (port_of x.kind)) ∷ [])) (λ e. reply.EntryMutError e)
    (first_of (entry_mut_refusals (things_of at d) x.board f)) (id_of f) (with_write_handle (shown list d (things_of at d)).tables x name f) (handle_tests nodes at d x number f h i ∙ by.none) refl refl (omega arith) in
    let Kept : Domain C → ℕ → ℕ → Type 0 = λ e j q. IsMore nodes d e m.thing (from x name (kind.WriteHandle j q)) in
    let kept : Kept (after_entry_mut d of f) (place_of f) (port_of x.kind) = record {
      thing = record { holder = of.holder; name = d.last_thing + 1; board = of.board; kind = kind.WriteHandle (place_of f) (port_of of.kind) };
      things = refl;
      last = refl;
      number = sym thing;
      next = thing;
      holder = i.holder;
      board = i.board;
      kind = ap (λ k. kind.WriteHandle (place_of f) (port_of k)) i.kind;
      node = record { some = i.node.some; most = i.node.most };
      keys = h.keys;
    } in (
      subst (λ e. Told e m.entry port m.place) (sym ok') (subst (λ n. Told (after_entry_mut d of f) m.entry port n) place (subst (λ q. Told (after_entry_mut d of f) m.entry q (id_of f)) (sym p) (subst (λ j. Told (after_entry_mut d of f) j (port_of x.kind) (id_of f)) entry told))),
      subst (λ e. Kept e m.entry port) (sym ok') (subst (λ q. Kept (after_entry_mut d of f) m.entry q) (sym p) (subst (λ j. Kept (after_entry_mut d of f) j (port_of x.kind)) entry kept)),
    )

pub entry_mut_not_made : {C : Type 0} (list : C → List ℕ) (nodes : List (List ℕ)) (at : ℕ → Option Held) (d after : Domain C) (x : Held) (number : ℕ) (name : List ℕ) (is_key : List ℕ → Bool) (value : TypeDetail) (why : EntryHandleMutError)
    → IsNamed nodes at d → IsThing nodes d x number → d.last_thing < 2 ^ 63 → why ≢ entry_mut_error.OutOfMemory
    → Answers (err_of why) entry_mut_error.OutOfMemory (entry_mut_answer d (held d number) (entry_for d (held d number) is_key value)) → after ≡ d
    → IsWrite (shown list d (things_of at d)) (shown list after (things_of at d)) name x (found_for d x is_key value) (reply.EntryMutError why)
entry_mut_not_made {C} list nodes at d after x number name is_key value why h i few memory a err =
    let of = held d number in
    let f = found_for d x is_key value in
    let a' : Answers (err_of why) entry_mut_error.OutOfMemory (entry_mut_answer d of f) = subst (λ o. Answers (err_of why) entry_mut_error.OutOfMemory (entry_mut_answer d of o)) (found_same nodes d x number is_key value i) a in
    let by = answered_refused (entry_mut_refusals d.tables.things of.board f) (spent d.last_thing, entry_mut_error.NumbersSpent) entry_mut_error.OutOfMemory why (found d f) (one_left d.last_thing few) memory a' in
    subst (λ e. IsWrite (shown list d (things_of at d)) (shown list e (things_of at d)) name x f (reply.EntryMutError why)) (sym err)
    (told_refused (shown list d (things_of at d)) (λ e. reply.EntryMutError e) (first_of (entry_mut_refusals (things_of at d) x.board f)) (id_of f) (with_write_handle (shown list d (things_of at d)).tables x name f) why
    (handle_tests nodes at d x number f h i ∙ by))
