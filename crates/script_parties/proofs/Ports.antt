-- Readers and writers.
use Rattle.std.proofs.Common.{◌≡◌, ◌≢◌, ℕ, ◌+◌, ◌^◌, ◌<◌, false, ◌||◌, if◌then◌else◌, List, [], ◌∷◌, ◌++◌, map, arith, refl, sym, ap, ◌∙◌, subst, Option, Some, None}
use Rattle.std.specs.Prelude.{nat_le}
use Rattle.board_layout.specs.Answer.{Answers}
use Rattle.board_model.specs.declared.answer.Reply.TheVariants as reply
use Rattle.board_names.specs.declared.errors.boards.ReaderCreateError.{ReaderCreateError}
use Rattle.board_names.specs.declared.errors.boards.ReaderCreateError.TheVariants as reader_error
use Rattle.board_names.specs.declared.errors.boards.WriterCreateError.{WriterCreateError}
use Rattle.board_names.specs.declared.errors.boards.WriterCreateError.TheVariants as writer_error
use Rattle.board_model.specs.declared.tables.Board.{Board}
use Rattle.board_model.specs.declared.tables.Kind.{Kind}
use Rattle.board_model.specs.declared.tables.Kind.TheVariants as kind
use Rattle.board_model.specs.declared.tables.Thing.{Thing}
use Rattle.board_model.specs.Tables.{board_at}
use Rattle.board_model.specs.TableCalls.{first_of, reader_refusals, with_reader, with_writer, writer_refusals}
use Rattle.board_model.specs.Things.{Held}
use Rattle.script_parties.specs.Named.{IsNamed, party_at, things_of}
use Rattle.script_parties.specs.Parties.{IsReader, IsWriter, Parties}
use Rattle.script_parties.proofs.Asked.{answered_made, answered_refused, err_of, ok_of, told_made, told_refused}
use Rattle.script_parties.proofs.Counts.{AreSame, readers-same, writers-same}
use Rattle.script_parties.proofs.Growth.{IsMore, same_things}
use Rattle.script_parties.proofs.Places.{IsThing}
use Rattle.board_service.specs.declared.made.Made.{Made}
use Rattle.board_service.specs.Domain.{Domain, after_reader, after_writer, held, made, reader_answer, spent, writer_answer}

-- a core and the names of its things, as they are shown
abbrev pub shown : {C : Type 0} → (C → List ℕ) → Domain C → List Held → Parties
shown list d things = record {
  tables = record { boards = d.tables.boards; things = things; last_board = d.tables.last_board; last_port = d.tables.last_port };
  words = map list d.cells;
  drawn = d.last_thing;
}

-- nothing is seen of room that was made
pub view_same : {C : Type 0} (list : C → List ℕ) (at given : ℕ → Option Held) (d after : Domain C) → given ≡ at → after ≡ d → shown list after (things_of given after) ≡ shown list d (things_of at d)
view_same list at given d after e f = ap (λ a. shown list after (things_of a after)) e ∙ ap (λ x. shown list x (things_of at x)) f

pub named_same : {C : Type 0} (nodes given_nodes : List (List ℕ)) (at given : ℕ → Option Held) (d after : Domain C) → given_nodes ≡ nodes → given ≡ at → after ≡ d → IsNamed nodes at d → IsNamed given_nodes given after
named_same nodes given_nodes at given d after n e f h =
    subst (λ ps. IsNamed ps given after) (sym n) (subst (λ a. IsNamed nodes a after) (sym e) (subst (λ x. IsNamed nodes at x) (sym f) h))

-- a thing that a party has from another
abbrev pub from : Held → List ℕ → Kind → Held
from of name k = record { holder = of.holder; name = name; board = of.board; kind = k }

-- numbers are left to draw
pub few_left : (a b : ℕ) → a < 2 ^ 63 → b < 2 ^ 63 → (spent a || spent b) ≡ false
few_left a b p q = grind (arith, p, q)

pub one_left : (a : ℕ) → a < 2 ^ 63 → spent a ≡ false
one_left a p = grind (arith, p)

-- ---- readers

readers_refused : (f : ℕ → List ℕ) (ts : List (Thing ℕ ℕ)) (xs : List Held) (b : Option Board) → AreSame f ts xs → first_of (reader_refusals xs b) ≡ first_of (reader_refusals ts b)
readers_refused f ts xs None e = refl
readers_refused f ts xs (Some b) e = ap (λ n. if nat_le b.max_readers n then Some reader_error.ExceedsMaxSupportedReaders else None) (readers-same f b.number ts xs e)

pub reader_tests : {C : Type 0} (nodes : List (List ℕ)) (at : ℕ → Option Held) (d : Domain C) (x : Held) (number : ℕ) → IsNamed nodes at d → IsThing nodes d x number
    → first_of (reader_refusals (things_of at d) (board_at d.tables x.board)) ≡ first_of (reader_refusals d.tables.things (board_at d.tables (held d number).board))
reader_tests nodes at d x number h i =
    readers_refused (party_at nodes) d.tables.things (things_of at d) (board_at d.tables x.board) (same_things nodes at d h)
    ∙ ap (λ b. first_of (reader_refusals d.tables.things (board_at d.tables b))) (sym i.board)

pub reader_made : {C : Type 0} (list : C → List ℕ) (nodes : List (List ℕ)) (at : ℕ → Option Held) (d after : Domain C) (x : Held) (number : ℕ) (name : List ℕ) (m : Made)
    → IsNamed nodes at d → IsThing nodes d x number → Answers (ok_of m) reader_error.OutOfMemory (reader_answer d (held d number)) → after ≡ after_reader d (held d number)
    → IsReader (shown list d (things_of at d)) (shown list after (things_of at d ++ from x name (kind.Reader m.number) ∷ [])) name x (reply.Number m.number)
    × IsMore nodes d after m.thing (from x name (kind.Reader m.number))
reader_made {C} list nodes at d after x number name m h i a ok =
    let of = held d number in
    let by = answered_made (reader_refusals d.tables.things (board_at d.tables of.board)) (spent d.tables.last_port || spent d.last_thing, reader_error.NumbersSpent) reader_error.OutOfMemory m (made d (d.tables.last_port + 1)) a in
    let Told : Domain C → Made → Type 0 = λ e k. IsReader (shown list d (things_of at d)) (shown list e (things_of at d ++ from x name (kind.Reader k.number) ∷ [])) name x (reply.Number k.number) in
    let Kept : Domain C → Made → Type 0 = λ e k. IsMore nodes d e k.thing (from x name (kind.Reader k.number)) in
    let told : Told (after_reader d of) (made d (d.tables.last_port + 1)) =
    told_made (shown list d (things_of at d)) (shown list (after_reader d of) (things_of at d ++ from x name (kind.Reader (d.tables.last_port + 1)) ∷ [])) (λ e. reply.ReaderError e)
    (first_of (reader_refusals (things_of at d) (board_at d.tables x.board))) (d.tables.last_port + 1) (with_reader (shown list d (things_of at d)).tables x name)
    (reader_tests nodes at d x number h i ∙ by.none) refl refl (omega arith) in
    let kept : Kept (after_reader d of) (made d (d.tables.last_port + 1)) = record {
      thing = record { holder = of.holder; name = d.last_thing + 1; board = of.board; kind = kind.Reader (d.tables.last_port + 1) };
      things = refl;
      last = refl;
      number = refl;
      next = refl;
      holder = i.holder;
      board = i.board;
      kind = refl;
      node = record { some = i.node.some; most = i.node.most };
      keys = h.keys;
    } in
    (subst (λ e. Told e m) (sym ok) (subst (λ k. Told (after_reader d of) k) (sym by.same) told), subst (λ e. Kept e m) (sym ok) (subst (λ k. Kept (after_reader d of) k) (sym by.same) kept))

pub reader_not_made : {C : Type 0} (list : C → List ℕ) (nodes : List (List ℕ)) (at : ℕ → Option Held) (d after : Domain C) (x : Held) (number : ℕ) (name : List ℕ) (why : ReaderCreateError)
    → IsNamed nodes at d → IsThing nodes d x number → d.tables.last_port < 2 ^ 63 → d.last_thing < 2 ^ 63 → why ≢ reader_error.OutOfMemory
    → Answers (err_of why) reader_error.OutOfMemory (reader_answer d (held d number)) → after ≡ d
    → IsReader (shown list d (things_of at d)) (shown list after (things_of at d)) name x (reply.ReaderError why)
reader_not_made {C} list nodes at d after x number name why h i p q memory a err =
    let of = held d number in
    let by = answered_refused (reader_refusals d.tables.things (board_at d.tables of.board)) (spent d.tables.last_port || spent d.last_thing, reader_error.NumbersSpent) reader_error.OutOfMemory why (made d (d.tables.last_port + 1)) (few_left d.tables.last_port d.last_thing p q) memory a in
    subst (λ e. IsReader (shown list d (things_of at d)) (shown list e (things_of at d)) name x (reply.ReaderError why)) (sym err)
    (told_refused (shown list d (things_of at d)) (λ e. reply.ReaderError e) (first_of (reader_refusals (things_of at d) (board_at d.tables x.board))) (d.tables.last_port + 1) (with_reader (shown list d (things_of at d)).tables x name) why
    (reader_tests nodes at d x number h i ∙ by))

-- ---- writers

writers_refused : (f : ℕ → List ℕ) (ts : List (Thing ℕ ℕ)) (xs : List Held) (b : Option Board) → AreSame f ts xs → first_of (writer_refusals xs b) ≡ first_of (writer_refusals ts b)
writers_refused f ts xs None e = refl
writers_refused f ts xs (Some b) e = ap (λ n. if nat_le b.max_writers n then Some writer_error.ExceedsMaxSupportedWriters else None) (writers-same f b.number ts xs e)

pub writer_tests : {C : Type 0} (nodes : List (List ℕ)) (at : ℕ → Option Held) (d : Domain C) (x : Held) (number : ℕ) → IsNamed nodes at d → IsThing nodes d x number
    → first_of (writer_refusals (things_of at d) (board_at d.tables x.board)) ≡ first_of (writer_refusals d.tables.things (board_at d.tables (held d number).board))
writer_tests nodes at d x number h i =
    writers_refused (party_at nodes) d.tables.things (things_of at d) (board_at d.tables x.board) (same_things nodes at d h)
    ∙ ap (λ b. first_of (writer_refusals d.tables.things (board_at d.tables b))) (sym i.board)

pub writer_made : {C : Type 0} (list : C → List ℕ) (nodes : List (List ℕ)) (at : ℕ → Option Held) (d after : Domain C) (x : Held) (number : ℕ) (name : List ℕ) (m : Made)
    → IsNamed nodes at d → IsThing nodes d x number → Answers (ok_of m) writer_error.OutOfMemory (writer_answer d (held d number)) → after ≡ after_writer d (held d number)
    → IsWriter (shown list d (things_of at d)) (shown list after (things_of at d ++ from x name (kind.Writer m.number) ∷ [])) name x (reply.Number m.number)
    × IsMore nodes d after m.thing (from x name (kind.Writer m.number))
writer_made {C} list nodes at d after x number name m h i a ok =
    let of = held d number in
    let by = answered_made (writer_refusals d.tables.things (board_at d.tables of.board)) (spent d.tables.last_port || spent d.last_thing, writer_error.NumbersSpent) writer_error.OutOfMemory m (made d (d.tables.last_port + 1)) a in
    let Told : Domain C → Made → Type 0 = λ e k. IsWriter (shown list d (things_of at d)) (shown list e (things_of at d ++ from x name (kind.Writer k.number) ∷ [])) name x (reply.Number k.number) in
    let Kept : Domain C → Made → Type 0 = λ e k. IsMore nodes d e k.thing (from x name (kind.Writer k.number)) in
    let told : Told (after_writer d of) (made d (d.tables.last_port + 1)) =
    told_made (shown list d (things_of at d)) (shown list (after_writer d of) (things_of at d ++ from x name (kind.Writer (d.tables.last_port + 1)) ∷ [])) (λ e. reply.WriterError e)
    (first_of (writer_refusals (things_of at d) (board_at d.tables x.board))) (d.tables.last_port + 1) (with_writer (shown list d (things_of at d)).tables x name)
    (writer_tests nodes at d x number h i ∙ by.none) refl refl (omega arith) in
    let kept : Kept (after_writer d of) (made d (d.tables.last_port + 1)) = record {
      thing = record { holder = of.holder; name = d.last_thing + 1; board = of.board; kind = kind.Writer (d.tables.last_port + 1) };
      things = refl;
      last = refl;
      number = refl;
      next = refl;
      holder = i.holder;
      board = i.board;
      kind = refl;
      node = record { some = i.node.some; most = i.node.most };
      keys = h.keys;
    } in
    (subst (λ e. Told e m) (sym ok) (subst (λ k. Told (after_writer d of) k) (sym by.same) told), subst (λ e. Kept e m) (sym ok) (subst (λ k. Kept (after_writer d of) k) (sym by.same) kept))

pub writer_not_made : {C : Type 0} (list : C → List ℕ) (nodes : List (List ℕ)) (at : ℕ → Option Held) (d after : Domain C) (x : Held) (number : ℕ) (name : List ℕ) (why : WriterCreateError)
    → IsNamed nodes at d → IsThing nodes d x number → d.tables.last_port < 2 ^ 63 → d.last_thing < 2 ^ 63 → why ≢ writer_error.OutOfMemory
    → Answers (err_of why) writer_error.OutOfMemory (writer_answer d (held d number)) → after ≡ d
    → IsWriter (shown list d (things_of at d)) (shown list after (things_of at d)) name x (reply.WriterError why)
writer_not_made {C} list nodes at d after x number name why h i p q memory a err =
    let of = held d number in
    let by = answered_refused (writer_refusals d.tables.things (board_at d.tables of.board)) (spent d.tables.last_port || spent d.last_thing, writer_error.NumbersSpent) writer_error.OutOfMemory why (made d (d.tables.last_port + 1)) (few_left d.tables.last_port d.last_thing p q) memory a in
    subst (λ e. IsWriter (shown list d (things_of at d)) (shown list e (things_of at d)) name x (reply.WriterError why)) (sym err)
    (told_refused (shown list d (things_of at d)) (λ e. reply.WriterError e) (first_of (writer_refusals (things_of at d) (board_at d.tables x.board))) (d.tables.last_port + 1) (with_writer (shown list d (things_of at d)).tables x name) why
    (writer_tests nodes at d x number h i ∙ by))
