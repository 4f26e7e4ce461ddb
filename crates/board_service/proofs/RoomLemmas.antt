-- What a call makes is within the limits of its board.
use Rattle.std.proofs.Common.{◌≡◌, ℕ, Bool, true, false, cond, List, [], ◌∷◌, ◌++◌, refl, sym, ap, subst, ◌∙◌, Option, Some, None, arith}
use Rattle.std.specs.Prelude.{◌&&◌, ◌==◌, nat_eq, nat_le, find, is_some, IfSome}
use Rattle.std.specs.List.{list_any}
use Rattle.board_layout.specs.declared.type_detail.TypeDetail.{TypeDetail}
use Rattle.board_model.specs.declared.tables.Board.{Board}
use Rattle.board_model.specs.declared.tables.Thing.{Thing}
use Rattle.board_model.specs.declared.tables.Kind.{Kind}
use Rattle.board_model.specs.declared.tables.Kind.TheVariants as kind
use Rattle.board_model.specs.declared.tables.ThingKind.{ThingKind}
use Rattle.board_model.specs.declared.tables.ThingKind.TheVariants as thing_kind
use Rattle.board_model.specs.Tables.{board_at, board_named, has_name, holds_at, is_held_by, is_node, is_numbered, is_of_port, kind_of, port_of, reader_slots, same_kind, writer_port, writer_slots}
use Rattle.board_model.specs.TableCalls.{has_all_nodes, number_of}
use Rattle.board_model.specs.TypeTable.{same_type}
use Rattle.board_model.proofs.ListLemmas.{any_found}
use Rattle.board_service.specs.Domain.{Domain, Stands, held, is_thing, next_thing, stands_as, thing_or_none}
use Rattle.board_service.specs.Facts.{AreDrawn, HasRoomFor, IsDomain, IsWithinLimits, board_number}
use Rattle.board_service.proofs.LimitLemmas.{IsOfNode, number_found, room_of_factory, room_of_reader, room_of_writer, room_of_read_handle, room_of_write_handle}

-- the board that was found by another test is the one with its number
pub found_by_number : (last : ℕ) (p : Board → Bool) (bs : List Board) (b : Board) → AreDrawn board_number is_numbered last bs → find p bs ≡ Some b → find (is_numbered b.number) bs ≡ Some b
found_by_number last p [] b h f = absurd cc
found_by_number last p (x ∷ xs) b h f = at (p x) (found_by_number last p xs b h.2) f
  where
    later : (c : Bool) → (x.number == b.number) ≡ c → find (is_numbered b.number) xs ≡ Some b → cond c (Some x) (find (is_numbered b.number) xs) ≡ Some b
    later true e g =
        let same : x.number ≡ b.number = grind (arith, e) in
        let none : find (is_numbered b.number) xs ≡ None = subst (λ (n : ℕ). find (is_numbered n) xs ≡ None) same h.1 in
        let no : ◌≡◌ {A = Option Board} None (Some b) = sym none ∙ g in
        absurd cc
    later false e g = g

    at : (c : Bool) → (find p xs ≡ Some b → find (is_numbered b.number) xs ≡ Some b) → cond c (Some x) (find p xs) ≡ Some b → cond (x.number == b.number) (Some x) (find (is_numbered b.number) xs) ≡ Some b
    at true ih g =
        let same : x ≡ b = cc in
        let own : (x.number == b.number) ≡ true = rw same (grind arith) in
        rw own g
    at false ih g = later (x.number == b.number) refl (ih g)

-- a factory of the board that was found by name
pub room_to_open : {C : Type 0} (d : Domain C) (node : ℕ) (name : List ℕ) → IsDomain d → is_some (board_named d.tables name) ≡ true
    → holds_at (board_named d.tables name) (has_all_nodes nat_eq node d.tables.things) ≡ false → HasRoomFor d (next_thing d node (number_of (board_named d.tables name)) kind.Factory)
room_to_open d node name is some may = at (board_named d.tables name) refl some may
  where
    at : (o : Option Board) → board_named d.tables name ≡ o → is_some o ≡ true → holds_at o (has_all_nodes nat_eq node d.tables.things) ≡ false → HasRoomFor d (next_thing d node (number_of o) kind.Factory)
    at None f s m = absurd cc
    at (Some b) f s m =
        let x = next_thing d node b.number kind.Factory in
        let found = found_by_number d.tables.last_board (has_name name) d.tables.boards b is.tables.boards f in
        let own : (b.number == b.number) ≡ true = grind arith in
        let within = subst (λ (o : Option Board). IfSome o (λ c. IsWithinLimits d.tables.things c)) found (is.tables.limits b.number) in
        subst (λ (o : Option Board). IfSome o (λ c. IsWithinLimits (d.tables.things ++ x ∷ []) c)) (sym found) (room_of_factory d.tables.things x b within refl own m)

-- the holder of a thing is a node of its board
held_node : (n : ℕ) (ts : List (Thing ℕ ℕ)) (o : Option (Thing ℕ ℕ)) → find (is_thing n) ts ≡ o → is_some o ≡ true → is_node nat_eq (thing_or_none o).board (thing_or_none o).holder ts ≡ true
held_node n ts None f s = absurd cc
held_node n ts (Some t) f s =
    let board : (t.board == t.board) ≡ true = grind arith in
    let holder : (t.holder == t.holder) ≡ true = grind arith in
    let own : is_held_by nat_eq t.board t.holder t ≡ true = rw board holder in
    any_found (is_thing n) (is_held_by nat_eq t.board t.holder) ts t f own

-- a thing with the holder and the board of one that stands
room_beside : {C : Type 0} (d : Domain C) (n : ℕ) (k : Kind) → IsDomain d → Stands d n
    → ((b : Board) → board_at d.tables (held d n).board ≡ Some b → b.number ≡ (held d n).board → IsWithinLimits d.tables.things b → IsOfNode d.tables.things (next_thing d (held d n).holder (held d n).board k) b
    → IsWithinLimits (d.tables.things ++ next_thing d (held d n).holder (held d n).board k ∷ []) b)
    → HasRoomFor d (next_thing d (held d n).holder (held d n).board k)
room_beside d n k is stands fits = at (board_at d.tables (held d n).board) refl (is.tables.limits (held d n).board)
  where
    at : (o : Option Board) → board_at d.tables (held d n).board ≡ o → IfSome o (λ b. IsWithinLimits d.tables.things b) → IfSome o (λ b. IsWithinLimits (d.tables.things ++ next_thing d (held d n).holder (held d n).board k ∷ []) b)
    at None f h = tt
    at (Some b) f h =
        let number = number_found (held d n).board d.tables.boards b f in
        let own : ((held d n).board == b.number) ≡ true = rw number (grind arith) in
        let node : is_node nat_eq (held d n).board (held d n).holder d.tables.things ≡ true = held_node n d.tables.things (find (is_thing n) d.tables.things) refl stands in
        let here : is_node nat_eq b.number (held d n).holder d.tables.things ≡ true = subst (λ (m : ℕ). is_node nat_eq m (held d n).holder d.tables.things ≡ true) (sym number) node in
        fits b f number h (record { own = own; node = here })

pub room_to_read : {C : Type 0} (d : Domain C) (n port : ℕ) → IsDomain d → Stands d n
    → holds_at (board_at d.tables (held d n).board) (λ b. nat_le b.max_readers (reader_slots b.number d.tables.things)) ≡ false
    → HasRoomFor d (next_thing d (held d n).holder (held d n).board (kind.Reader port))
room_to_read d n port is stands may = room_beside d n (kind.Reader port) is stands (λ b f number h of.
    room_of_reader d.tables.things (next_thing d (held d n).holder (held d n).board (kind.Reader port)) b h of refl
    (subst (λ (o : Option Board). holds_at o (λ c. nat_le c.max_readers (reader_slots c.number d.tables.things)) ≡ false) f may))

pub room_to_write : {C : Type 0} (d : Domain C) (n port : ℕ) → IsDomain d → Stands d n
    → holds_at (board_at d.tables (held d n).board) (λ b. nat_le b.max_writers (writer_slots b.number d.tables.things)) ≡ false
    → HasRoomFor d (next_thing d (held d n).holder (held d n).board (kind.Writer port))
room_to_write d n port is stands may = room_beside d n (kind.Writer port) is stands (λ b f number h of.
    room_of_writer d.tables.things (next_thing d (held d n).holder (held d n).board (kind.Writer port)) b h of refl
    (subst (λ (o : Option Board). holds_at o (λ c. nat_le c.max_writers (writer_slots c.number d.tables.things)) ≡ false) f may))

pub room_for_read_handle : {C : Type 0} (d : Domain C) (n entry : ℕ) → IsDomain d → Stands d n → HasRoomFor d (next_thing d (held d n).holder (held d n).board (kind.ReadHandle entry))
room_for_read_handle d n entry is stands = room_beside d n (kind.ReadHandle entry) is stands (λ b f number h of.
    room_of_read_handle d.tables.things (next_thing d (held d n).holder (held d n).board (kind.ReadHandle entry)) b h of refl refl)

-- a writer keeps the slot of its port
slot_of_writer : (k : Kind) → same_kind (kind_of k) thing_kind.Writer ≡ true → writer_port k ≡ Some (port_of k)
slot_of_writer kind.Factory e = absurd cc
slot_of_writer (kind.Reader port) e = absurd cc
slot_of_writer (kind.Writer port) e = refl
slot_of_writer (kind.ReadHandle entry) e = absurd cc
slot_of_writer (kind.WriteHandle entry port) e = absurd cc

held_slot : (n : ℕ) (ts : List (Thing ℕ ℕ)) (boards : List Board) (key : TypeDetail) (o : Option (Thing ℕ ℕ)) → find (is_thing n) ts ≡ o
    → holds_at o (λ t. same_kind (kind_of t.kind) thing_kind.Writer && holds_at (find (is_numbered t.board) boards) (λ b. same_type b.key key)) ≡ true
    → list_any (is_of_port (thing_or_none o).board (port_of (thing_or_none o).kind)) ts ≡ true
held_slot n ts boards key None f h = absurd cc
held_slot n ts boards key (Some t) f h = at (same_kind (kind_of t.kind) thing_kind.Writer) refl h
  where
    at : (c : Bool) → same_kind (kind_of t.kind) thing_kind.Writer ≡ c → (c && holds_at (find (is_numbered t.board) boards) (λ b. same_type b.key key)) ≡ true → list_any (is_of_port t.board (port_of t.kind)) ts ≡ true
    at true e k =
        let board : (t.board == t.board) ≡ true = grind arith in
        let port : (port_of t.kind == port_of t.kind) ≡ true = grind arith in
        let slot : holds_at (writer_port t.kind) (λ p. p == port_of t.kind) ≡ true = subst (λ (o : Option ℕ). holds_at o (λ p. p == port_of t.kind) ≡ true) (sym (slot_of_writer t.kind e)) port in
        let own : is_of_port t.board (port_of t.kind) t ≡ true = rw board slot in
        any_found (is_thing n) (is_of_port t.board (port_of t.kind)) ts t f own
    at false e k = absurd cc

pub room_for_write_handle : {C : Type 0} (d : Domain C) (n entry : ℕ) (key : TypeDetail) → IsDomain d → Stands d n → stands_as d key n thing_kind.Writer ≡ true
    → HasRoomFor d (next_thing d (held d n).holder (held d n).board (kind.WriteHandle entry (port_of (held d n).kind)))
room_for_write_handle d n entry key is stands holds = room_beside d n (kind.WriteHandle entry (port_of (held d n).kind)) is stands (λ b f number h of.
    let there = held_slot n d.tables.things d.tables.boards key (find (is_thing n) d.tables.things) refl holds in
    let here = subst (λ (m : ℕ). list_any (is_of_port m (port_of (held d n).kind)) d.tables.things ≡ true) (sym number) there in
    room_of_write_handle d.tables.things (next_thing d (held d n).holder (held d n).board (kind.WriteHandle entry (port_of (held d n).kind))) b (port_of (held d n).kind) h of refl refl here)

-- what is held stands
pub held_is_there : {C : Type 0} (d : Domain C) (key : TypeDetail) (k : ThingKind) (n : ℕ) → stands_as d key n k ≡ true → Stands d n
held_is_there d key k n h = at (find (is_thing n) d.tables.things) h
  where
    at : (o : Option (Thing ℕ ℕ)) → holds_at o (λ t. same_kind (kind_of t.kind) k && holds_at (board_at d.tables t.board) (λ b. same_type b.key key)) ≡ true → is_some o ≡ true
    at None e = absurd cc
    at (Some t) e = refl

-- ---- the same, by what a call has in hand: the other thing, and the boards and things as they were read

pub read_room : {C : Type 0} (d : Domain C) (n port : ℕ) (of : Thing ℕ ℕ) (boards : List Board) (things : List (Thing ℕ ℕ)) → IsDomain d → Stands d n → of ≡ held d n → boards ≡ d.tables.boards → things ≡ d.tables.things
    → holds_at (find (is_numbered of.board) boards) (λ b. nat_le b.max_readers (reader_slots b.number things)) ≡ false → HasRoomFor d (next_thing d of.holder of.board (kind.Reader port))
read_room d n port of boards things is stands of_is boards_are things_are may =
    let by_boards = subst (λ (bs : List Board). holds_at (find (is_numbered of.board) bs) (λ b. nat_le b.max_readers (reader_slots b.number things)) ≡ false) boards_are may in
    let by_things = subst (λ (ts : List (Thing ℕ ℕ)). holds_at (find (is_numbered of.board) d.tables.boards) (λ b. nat_le b.max_readers (reader_slots b.number ts)) ≡ false) things_are by_boards in
    let all = subst (λ (t : Thing ℕ ℕ). holds_at (find (is_numbered t.board) d.tables.boards) (λ b. nat_le b.max_readers (reader_slots b.number d.tables.things)) ≡ false) of_is by_things in
    subst (λ (t : Thing ℕ ℕ). HasRoomFor d (next_thing d t.holder t.board (kind.Reader port))) (sym of_is) (room_to_read d n port is stands all)

pub write_room : {C : Type 0} (d : Domain C) (n port : ℕ) (of : Thing ℕ ℕ) (boards : List Board) (things : List (Thing ℕ ℕ)) → IsDomain d → Stands d n → of ≡ held d n → boards ≡ d.tables.boards → things ≡ d.tables.things
    → holds_at (find (is_numbered of.board) boards) (λ b. nat_le b.max_writers (writer_slots b.number things)) ≡ false → HasRoomFor d (next_thing d of.holder of.board (kind.Writer port))
write_room d n port of boards things is stands of_is boards_are things_are may =
    let by_boards = subst (λ (bs : List Board). holds_at (find (is_numbered of.board) bs) (λ b. nat_le b.max_writers (writer_slots b.number things)) ≡ false) boards_are may in
    let by_things = subst (λ (ts : List (Thing ℕ ℕ)). holds_at (find (is_numbered of.board) d.tables.boards) (λ b. nat_le b.max_writers (writer_slots b.number ts)) ≡ false) things_are by_boards in
    let all = subst (λ (t : Thing ℕ ℕ). holds_at (find (is_numbered t.board) d.tables.boards) (λ b. nat_le b.max_writers (writer_slots b.number d.tables.things)) ≡ false) of_is by_things in
    subst (λ (t : Thing ℕ ℕ). HasRoomFor d (next_thing d t.holder t.board (kind.Writer port))) (sym of_is) (room_to_write d n port is stands all)

pub read_handle_room : {C : Type 0} (d : Domain C) (n entry : ℕ) (of : Thing ℕ ℕ) → IsDomain d → Stands d n → of ≡ held d n → HasRoomFor d (next_thing d of.holder of.board (kind.ReadHandle entry))
read_handle_room d n entry of is stands of_is = subst (λ (t : Thing ℕ ℕ). HasRoomFor d (next_thing d t.holder t.board (kind.ReadHandle entry))) (sym of_is) (room_for_read_handle d n entry is stands)

pub write_handle_room : {C : Type 0} (d : Domain C) (n entry port : ℕ) (of : Thing ℕ ℕ) (key : TypeDetail) → IsDomain d → stands_as d key n thing_kind.Writer ≡ true → of ≡ held d n → port ≡ port_of of.kind
    → HasRoomFor d (next_thing d of.holder of.board (kind.WriteHandle entry port))
write_handle_room d n entry port of key is holds of_is port_is =
    let stands = held_is_there d key thing_kind.Writer n holds in
    let own = subst (λ (t : Thing ℕ ℕ). HasRoomFor d (next_thing d t.holder t.board (kind.WriteHandle entry (port_of t.kind)))) (sym of_is) (room_for_write_handle d n entry key is stands holds) in
    subst (λ (p : ℕ). HasRoomFor d (next_thing d of.holder of.board (kind.WriteHandle entry p))) (sym port_is) own

-- the board that was found by name has keys of this type, and so has the one with its number
pub keys_found : {C : Type 0} (d : Domain C) (number : ℕ) (name : List ℕ) (boards : List Board) (key : TypeDetail) → IsDomain d → boards ≡ d.tables.boards → number ≡ number_of (find (has_name name) boards)
    → holds_at (find (has_name name) boards) (λ b. same_type b.key key) ≡ true → holds_at (board_at d.tables number) (λ b. same_type b.key key) ≡ true
keys_found d number name boards key is boards_are number_is alike =
    let by_name = subst (λ (bs : List Board). holds_at (find (has_name name) bs) (λ b. same_type b.key key) ≡ true) boards_are alike in
    let named = number_is ∙ ap (λ (bs : List Board). number_of (find (has_name name) bs)) boards_are in
    subst (λ (n : ℕ). holds_at (board_at d.tables n) (λ b. same_type b.key key) ≡ true) (sym named) (at (find (has_name name) d.tables.boards) refl by_name)
  where
    at : (o : Option Board) → find (has_name name) d.tables.boards ≡ o → holds_at o (λ b. same_type b.key key) ≡ true → holds_at (board_at d.tables (number_of o)) (λ b. same_type b.key key) ≡ true
    at None f h = absurd cc
    at (Some b) f h =
        let found = found_by_number d.tables.last_board (has_name name) d.tables.boards b is.tables.boards f in
        subst (λ (o : Option Board). holds_at o (λ c. same_type c.key key) ≡ true) (sym found) h
