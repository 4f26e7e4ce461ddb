-- Factories, of new boards and of boards that stand.
use Rattle.std.proofs.Common.{◌≡◌, ◌≢◌, ℕ, ◌+◌, ◌^◌, ◌<◌, Bool, true, false, cond, not, ◌&&◌, ◌||◌, List, [], ◌∷◌, ◌++◌, length, map, arith, refl, sym, ap, ◌∙◌, subst, Option, Some, None}
use Rattle.std.specs.Prelude.{is_some, nat_eq, nat_le}
use Rattle.std.specs.List.{AllByRecursion}
use Rattle.std.specs.Str.{bytes_eq}
use Rattle.std.proofs.lemmas.List.{map-append}
use Rattle.board_layout.specs.Answer.{Answers}
use Rattle.board_layout.specs.declared.shape.CellPlace.{CellPlace}
use Rattle.board_layout.specs.declared.type_detail.TypeDetail.{TypeDetail}
use Rattle.board_layout.specs.Layout.{opening_words, places_from}
use Rattle.board_model.specs.declared.answer.Reply.{Reply}
use Rattle.board_model.specs.declared.answer.Reply.TheVariants as reply
use Rattle.board_model.specs.declared.attributes.Attribute.{Attribute}
use Rattle.board_model.specs.declared.attributes.Requirements.{Requirements}
use Rattle.board_names.specs.declared.errors.boards.BlackboardCreateError.{BlackboardCreateError}
use Rattle.board_names.specs.declared.errors.boards.BlackboardCreateError.TheVariants as create_error
use Rattle.board_names.specs.declared.errors.boards.BlackboardOpenError.{BlackboardOpenError}
use Rattle.board_names.specs.declared.errors.boards.BlackboardOpenError.TheVariants as open_error
use Rattle.board_model.specs.declared.tables.Board.{Board}
use Rattle.board_model.specs.declared.tables.Entry.{Entry}
use Rattle.board_model.specs.declared.tables.Kind.TheVariants as kind
use Rattle.board_model.specs.declared.tables.Limits.{Limits}
use Rattle.board_model.specs.declared.tables.NewLimits.{NewLimits}
use Rattle.board_model.specs.declared.tables.Thing.{Thing}
use Rattle.board_model.specs.declared.value.AddedEntry.{AddedEntry}
use Rattle.board_model.specs.declared.value.KeyType.{KeyType}
use Rattle.board_model.specs.Memory.{opening_of}
use Rattle.board_model.specs.Replies.{added_of, number_or}
use Rattle.board_model.specs.Tables.{Added, Tables, board_named, entries_of, holds_at, is_node, meets, new_board, nodes_taken, shapes_of}
use Rattle.board_model.specs.TableCalls.{asked, asks_above, create_refusals, created, first_of, has_all_nodes, joined, number_of, open_refusals}
use Rattle.board_model.specs.Things.{Held}
use Rattle.board_model.specs.TypeTable.{key_detail, same_key, same_type, value_words}
use Rattle.script_parties.specs.Named.{AreParties, HasShortKey, HasShortKeys, IsNamed, IsOfNode, factory_of, node_number, nodes_with, party_at, things_of}
use Rattle.board_model.specs.ShortKeys.{IsShortKey}
use Rattle.script_parties.specs.Parties.{IsCreate, IsJoined, IsOpen, Parties, words_with}
use Rattle.script_parties.proofs.Asked.{answered_made, answered_refused, err_of, ok_of, told_made}
use Rattle.script_parties.proofs.Counts.{AreSame, node-same, nodes-same}
use Rattle.script_parties.proofs.Growth.{IsMore, IsNode, all_more, named_with, node_of, same_things}
use Rattle.script_parties.proofs.Ports.{few_left, shown}
use Rattle.board_service.specs.declared.made.Made.{Made}
use Rattle.board_service.specs.Domain.{CanJoin, Domain, after_create, after_open, create_answer, made, spent}
use Rattle.board_service.specs.Entries.{IsOpening, first_words}

-- ---- boards that stand

-- a party may be a node where its number may
all_nodes_same : (nodes : List (List ℕ)) (party : List ℕ) (number : ℕ) (ts : List (Thing ℕ ℕ)) (xs : List Held) (b : Board) → AreParties nodes → IsNode party nodes number
    → AllByRecursion (IsOfNode (length nodes)) ts → AreSame (party_at nodes) ts xs → has_all_nodes bytes_eq party xs b ≡ has_all_nodes nat_eq number ts b
all_nodes_same nodes party number ts xs b h n all e =
    ap (λ p. not (is_node bytes_eq b.number p xs) && nat_le b.max_nodes (nodes_taken bytes_eq b.number xs)) (sym n.is)
    ∙ ap (λ x. not x && nat_le b.max_nodes (nodes_taken bytes_eq b.number xs)) (node-same nodes b.number number ts xs h n.some n.most all e)
    ∙ ap (λ k. not (is_node nat_eq b.number number ts) && nat_le b.max_nodes k) (nodes-same nodes b.number ts xs h all e)

pub factories_refused : (nodes : List (List ℕ)) (party : List ℕ) (number : ℕ) (ts : List (Thing ℕ ℕ)) (xs : List Held) (o : Option Board) (key : TypeDetail) (limits : Limits) (needs : Requirements) → AreParties nodes → IsNode party nodes number
    → AllByRecursion (IsOfNode (length nodes)) ts → AreSame (party_at nodes) ts xs
    → first_of (open_refusals bytes_eq xs party o key limits needs) ≡ first_of (open_refusals nat_eq ts number o key limits needs)
factories_refused nodes party number ts xs None key limits needs h n all e = refl
factories_refused nodes party number ts xs (Some b) key limits needs h n all e =
    ap (λ x. first_of (
    (false, open_error.DoesNotExist)
    ∷ (not (same_type b.key key), open_error.IncompatibleKeys)
    ∷ (not (meets needs b.attributes), open_error.IncompatibleAttributes)
    ∷ (asks_above limits.max_readers b.max_readers, open_error.DoesNotSupportRequestedAmountOfReaders)
    ∷ (asks_above limits.max_nodes b.max_nodes, open_error.DoesNotSupportRequestedAmountOfNodes)
    ∷ (x, open_error.ExceedsMaxNumberOfNodes)
    ∷ [])) (all_nodes_same nodes party number ts xs b h n all e)

-- what is in the way of none is in the way of no later one
others_none : {E : Type 0} (c : Bool) (e : E) (o : Option E) → cond c (Some e) o ≡ None → (c ≡ false) × (o ≡ None)
others_none {E} true e o h = absurd (let s : ◌≡◌ {A = Option E} (Some e) None = h in cc)
others_none false e o h = (refl, h)

-- who is refused no factory can join
unrefused_joins : (xs : List Held) (party : List ℕ) (o : Option Board) (key : TypeDetail) (limits : Limits) (needs : Requirements) → first_of (open_refusals bytes_eq xs party o key limits needs) ≡ None
    → (is_some o ≡ true) × (holds_at o (has_all_nodes bytes_eq party xs) ≡ false)
unrefused_joins xs party None key limits needs h = absurd (let s : ◌≡◌ {A = Option BlackboardOpenError} (Some open_error.DoesNotExist) None = h in cc)
unrefused_joins xs party (Some b) key limits needs h =
    let keys = others_none (not (same_type b.key key)) open_error.IncompatibleKeys _ h in
    let attributes = others_none (not (meets needs b.attributes)) open_error.IncompatibleAttributes _ keys.1 in
    let readers = others_none (asks_above limits.max_readers b.max_readers) open_error.DoesNotSupportRequestedAmountOfReaders _ attributes.1 in
    let nodes = others_none (asks_above limits.max_nodes b.max_nodes) open_error.DoesNotSupportRequestedAmountOfNodes _ readers.1 in
    let all = others_none (has_all_nodes bytes_eq party xs b) open_error.ExceedsMaxNumberOfNodes None nodes.1 in
    (refl, all.0)

pub party_joins : (p : Parties) (party name : List ℕ) (key : TypeDetail) (limits : Limits) (needs : Requirements) → first_of (open_refusals bytes_eq p.tables.things party (board_named p.tables name) key limits needs) ≡ None
    → CanJoin bytes_eq p.tables party name
party_joins p party name key limits needs h =
    let both = unrefused_joins p.tables.things party (board_named p.tables name) key limits needs h in
    record { stands = both.0; nodes = both.1 }

-- a party can join where its number can
pub node_joins : {C : Type 0} (list : C → List ℕ) (nodes : List (List ℕ)) (at : ℕ → Option Held) (d : Domain C) (party name : List ℕ) (node : ℕ) (title : List ℕ) → IsNamed nodes at d
    → node ≡ node_number party nodes → title ≡ name → CanJoin bytes_eq (shown list d (things_of at d)).tables party name → CanJoin nat_eq d.tables node title
node_joins list nodes at d party name node title h node_is title_is may =
    let h' = named_with party nodes at d h in
    let same : (o : Option Board) → holds_at o (has_all_nodes nat_eq (node_number party nodes) d.tables.things) ≡ holds_at o (has_all_nodes bytes_eq party (things_of at d)) =
    λ o. elim o as (λ o. holds_at o (has_all_nodes nat_eq (node_number party nodes) d.tables.things) ≡ holds_at o (has_all_nodes bytes_eq party (things_of at d))) [
      | None ↦ refl
      | Some b ↦ sym (all_nodes_same (nodes_with party nodes) party (node_number party nodes) d.tables.things (things_of at d) b h'.parties (node_of party nodes) h'.holders (same_things (nodes_with party nodes) at d h'))
    ] in
    subst (λ n. CanJoin nat_eq d.tables n title) (sym node_is) (subst (λ t. CanJoin nat_eq d.tables (node_number party nodes) t) (sym title_is)
    (record { stands = may.stands; nodes = same (board_named d.tables name) ∙ may.nodes }))

pub open_made : {C : Type 0} (list : C → List ℕ) (nodes : List (List ℕ)) (at : ℕ → Option Held) (d after : Domain C) (party factory name : List ℕ) (node : ℕ) (title : List ℕ) (m : Made)
    → IsNamed nodes at d → node ≡ node_number party nodes → title ≡ name → m ≡ made d (number_of (board_named d.tables title)) → after ≡ after_open d node title
    → IsJoined (shown list d (things_of at d)) (shown list after (things_of at d ++ factory_of party factory m.number ∷ [])) party factory name (reply.Number m.number)
    × IsMore (nodes_with party nodes) d after m.thing (factory_of party factory m.number)
open_made {C} list nodes at d after party factory name node title m h node_is title_is made_is ok =
    let n = node_number party nodes in
    let all = nodes_with party nodes in
    let h' = named_with party nodes at d h in
    let is = node_of party nodes in
    let board = board_named d.tables name in
    let made_is' : m ≡ made d (number_of board) = made_is ∙ ap (λ t. made d (number_of (board_named d.tables t))) title_is in
    let ok' : after ≡ after_open d n name = ok ∙ ap (λ k. after_open d k title) node_is ∙ ap (λ t. after_open d n t) title_is in
    let Told : Domain C → Made → Type 0 = λ e k. IsJoined (shown list d (things_of at d)) (shown list e (things_of at d ++ factory_of party factory k.number ∷ [])) party factory name (reply.Number k.number) in
    let Kept : Domain C → Made → Type 0 = λ e k. IsMore all d e k.thing (factory_of party factory k.number) in
    let told : Told (after_open d n name) (made d (number_of board)) = record { told_is = refl; tables = refl; words = refl; drawn = omega arith } in
    let kept : Kept (after_open d n name) (made d (number_of board)) = record {
      thing = record { holder = n; name = d.last_thing + 1; board = number_of board; kind = kind.Factory };
      things = refl;
      last = refl;
      number = refl;
      next = refl;
      holder = is.is;
      board = refl;
      kind = refl;
      node = record { some = is.some; most = is.most };
      keys = h.keys;
    } in
    (subst (λ e. Told e m) (sym ok') (subst (λ k. Told (after_open d n name) k) (sym made_is') told), subst (λ e. Kept e m) (sym ok') (subst (λ k. Kept (after_open d n name) k) (sym made_is') kept))

-- a factory is made where nothing refuses it
pub opened_joined : (old new : Parties) (party factory name : List ℕ) (k : KeyType) (limits : Limits) (needs : Requirements) (told : Reply) → first_of (open_refusals bytes_eq old.tables.things party (board_named old.tables name) (key_detail k) limits needs) ≡ None
    → IsJoined old new party factory name told → IsOpen old new party factory name k limits needs told
opened_joined old new party factory name k limits needs told none j =
    subst (λ r. IsOpen old new party factory name k limits needs r) (sym j.told_is)
    (told_made old new (λ e. reply.OpenError e) (first_of (open_refusals bytes_eq old.tables.things party (board_named old.tables name) (key_detail k) limits needs)) (number_of (board_named old.tables name))
    (joined old.tables party factory (board_named old.tables name)) none j.tables j.words j.drawn)

-- ---- new boards

-- the keys of the entries of a new board
short_entries : (cells : List CellPlace) (es : List Added) → AllByRecursion HasShortKey es → AllByRecursion (λ (e : Entry). IsShortKey e.key.bytes) (entries_of cells es)
short_entries [] es h = tt
short_entries (c ∷ cells) [] h = tt
short_entries (c ∷ cells) (e ∷ es) h = (h.0, short_entries cells es h.1)

-- what the party asks, and what the core is asked
pub record IsCreated (party name : List ℕ) (attributes : List Attribute) (entries : List Added) (nodes : List (List ℕ)) (node : ℕ) (title : List ℕ) (given : List Attribute) (added : List Added) : Type 0 where
  pub node_is : node ≡ node_number party nodes
  pub title_is : title ≡ name
  pub given_is : given ≡ attributes
  pub added_is : added ≡ entries

created_so : {party name : List ℕ} {attributes : List Attribute} {entries : List Added} {nodes : List (List ℕ)} (P : ℕ → List ℕ → List Attribute → List Added → Type 0) (node : ℕ) (title : List ℕ) (given : List Attribute) (added : List Added)
    → IsCreated party name attributes entries nodes node title given added → P node title given added → P (node_number party nodes) name attributes entries
created_so {party} {name} {attributes} {entries} {nodes} P node title given added o h =
    subst (λ e. P (node_number party nodes) name attributes e) o.added_is
    (subst (λ g. P (node_number party nodes) name g added) o.given_is
    (subst (λ t. P (node_number party nodes) t given added) o.title_is
    (subst (λ n. P n title given added) o.node_is h)))

-- a number is told where nothing refuses
number_told : {E : Type 0} (error : E → Reply) (o : Option E) (n : ℕ) (after before : Tables (List ℕ) (List ℕ)) → o ≡ None → reply.Number n ≡ number_or error (asked o n after before).0
number_told {E} error o n after before e = subst (λ (p : Option E). reply.Number n ≡ number_or error (asked p n after before).0) (sym e) refl

tables_after : {E : Type 0} (o : Option E) (n : ℕ) (after before : Tables (List ℕ) (List ℕ)) → o ≡ None → after ≡ (asked o n after before).1
tables_after {E} o n after before e = subst (λ (p : Option E). after ≡ (asked p n after before).1) (sym e) refl

pub refusal_told : {E : Type 0} (error : E → Reply) (o : Option E) (n : ℕ) (after before : Tables (List ℕ) (List ℕ)) (why : E) → o ≡ Some why → error why ≡ number_or error (asked o n after before).0
refusal_told {E} error o n after before why e = subst (λ (p : Option E). error why ≡ number_or error (asked p n after before).0) (sym e) refl

pub tables_before : {E : Type 0} (o : Option E) (n : ℕ) (after before : Tables (List ℕ) (List ℕ)) (why : E) → o ≡ Some why → before ≡ (asked o n after before).1
tables_before {E} o n after before why e = subst (λ (p : Option E). before ≡ (asked p n after before).1) (sym e) refl

-- the words of the entries' first values
words_same : (entries : List AddedEntry) → map first_words (map added_of entries) ≡ map (λ (e : AddedEntry). value_words e.value) entries
words_same [] = refl
words_same (e ∷ es) = ap (λ ws. value_words e.value ∷ ws) (words_same es)

-- words that are told are those that open
opening_is : (words : Option (List ℕ)) (list : List ℕ) (entries : List AddedEntry) → words ≡ Some list → IsOpening words (map added_of entries) → list ≡ opening_of entries
opening_is words list entries law h =
    let opens : IsOpening (Some list) (map added_of entries) = subst (λ w. IsOpening w (map added_of entries)) law h in
    opens ∙ ap (λ vs. opening_words 0 (places_from 0 (shapes_of (map added_of entries))) vs) (words_same entries)

pub create_made : {C : Type 0} (words : C → Option (List ℕ)) (list : C → List ℕ) (nodes : List (List ℕ)) (at : ℕ → Option Held) (d after : Domain C) (party factory name : List ℕ) (k : KeyType) (limits : NewLimits)
    (attributes : List Attribute) (entries : List AddedEntry) (node : ℕ) (title : List ℕ) (given : List Attribute) (added : List Added) (m : Made) (cells : C)
    → ((x : C) → words x ≡ Some (list x)) → IsNamed nodes at d → IsCreated party name attributes (map added_of entries) nodes node title given added → AllByRecursion HasShortKey added
    → Answers (ok_of m) create_error.OutOfMemory (create_answer d (same_key k) title added) → IsOpening (words cells) added → after ≡ after_create d node title (key_detail k) limits given added cells
    → IsCreate (shown list d (things_of at d)) (shown list after (things_of at d ++ factory_of party factory m.number ∷ [])) party factory name k limits attributes entries (reply.Number m.number)
    × IsMore (nodes_with party nodes) d after m.thing (factory_of party factory m.number)
create_made {C} words list nodes at d after party factory name k limits attributes entries node title given added m cells law h o short a opens ok =
    let n = node_number party nodes in
    let es = map added_of entries in
    let all = nodes_with party nodes in
    let h' = named_with party nodes at d h in
    let is = node_of party nodes in
    let end = after_create d n name (key_detail k) limits attributes es cells in
    let a' : Answers (ok_of m) create_error.OutOfMemory (create_answer d (same_key k) name es) = created_so (λ i t g e. Answers (ok_of m) create_error.OutOfMemory (create_answer d (same_key k) t e)) node title given added o a in
    let ok' : after ≡ end = created_so (λ i t g e. after ≡ after_create d i t (key_detail k) limits g e cells) node title given added o ok in
    let short' : AllByRecursion HasShortKey es = subst (λ e. AllByRecursion HasShortKey e) o.added_is short in
    let opens' : IsOpening (words cells) es = subst (λ e. IsOpening (words cells) e) o.added_is opens in
    let rs = create_refusals (same_key k) d.tables.boards name es in
    let by = answered_made rs (spent d.tables.last_board || spent d.last_thing, create_error.NumbersSpent) create_error.OutOfMemory m (made d (d.tables.last_board + 1)) a' in
    let t = (shown list d (things_of at d)).tables in
    let Told : Domain C → Made → Type 0 = λ e j. IsCreate (shown list d (things_of at d)) (shown list e (things_of at d ++ factory_of party factory j.number ∷ [])) party factory name k limits attributes entries (reply.Number j.number) in
    let Kept : Domain C → Made → Type 0 = λ e j. IsMore all d e j.thing (factory_of party factory j.number) in
    let told : Told end (made d (d.tables.last_board + 1)) = record {
      told_is = number_told (λ e. reply.CreateError e) (first_of rs) (d.tables.last_board + 1) (created t party factory name (key_detail k) limits attributes es) t by.none;
      tables = tables_after (first_of rs) (d.tables.last_board + 1) (created t party factory name (key_detail k) limits attributes es) t by.none;
      words = map-append list d.cells (cells ∷ []) ∙ ap (λ ws. map list d.cells ++ ws ∷ []) (opening_is (words cells) (list cells) entries (law cells) opens');
      drawn = omega arith;
    } in
    let kept : Kept end (made d (d.tables.last_board + 1)) = record {
      thing = record { holder = n; name = d.last_thing + 1; board = d.tables.last_board + 1; kind = kind.Factory };
      things = refl;
      last = refl;
      number = refl;
      next = refl;
      holder = is.is;
      board = refl;
      kind = refl;
      node = record { some = is.some; most = is.most };
      keys = all_more HasShortKeys (new_board (d.tables.last_board + 1) name (key_detail k) limits attributes es) d.tables.boards h.keys (short_entries (places_from 0 (shapes_of es)) es short');
    } in
    (subst (λ e. Told e m) (sym ok') (subst (λ j. Told end j) (sym by.same) told), subst (λ e. Kept e m) (sym ok') (subst (λ j. Kept end j) (sym by.same) kept))

-- a refusal adds no words
no_words : (words : List (List ℕ)) (entries : List AddedEntry) (why : BlackboardCreateError) → words ≡ words_with words entries (reply.CreateError why)
no_words words entries why = refl

pub create_not_made : {C : Type 0} (list : C → List ℕ) (nodes : List (List ℕ)) (at : ℕ → Option Held) (d after : Domain C) (party factory name : List ℕ) (k : KeyType) (limits : NewLimits)
    (attributes : List Attribute) (entries : List AddedEntry) (node : ℕ) (title : List ℕ) (given : List Attribute) (added : List Added) (why : BlackboardCreateError)
    → IsNamed nodes at d → IsCreated party name attributes (map added_of entries) nodes node title given added → d.tables.last_board < 2 ^ 63 → d.last_thing < 2 ^ 63 → why ≢ create_error.OutOfMemory
    → Answers (err_of why) create_error.OutOfMemory (create_answer d (same_key k) title added) → after ≡ d
    → IsCreate (shown list d (things_of at d)) (shown list after (things_of at d)) party factory name k limits attributes entries (reply.CreateError why)
create_not_made {C} list nodes at d after party factory name k limits attributes entries node title given added why h o p q memory a err =
    let es = map added_of entries in
    let a' : Answers (err_of why) create_error.OutOfMemory (create_answer d (same_key k) name es) = created_so (λ i t g e. Answers (err_of why) create_error.OutOfMemory (create_answer d (same_key k) t e)) node title given added o a in
    let rs = create_refusals (same_key k) d.tables.boards name es in
    let by = answered_refused rs (spent d.tables.last_board || spent d.last_thing, create_error.NumbersSpent) create_error.OutOfMemory why (made d (d.tables.last_board + 1)) (few_left d.tables.last_board d.last_thing p q) memory a' in
    let t = (shown list d (things_of at d)).tables in
    subst (λ e. IsCreate (shown list d (things_of at d)) (shown list e (things_of at d)) party factory name k limits attributes entries (reply.CreateError why)) (sym err) (record {
      told_is = refusal_told (λ e. reply.CreateError e) (first_of rs) (d.tables.last_board + 1) (created t party factory name (key_detail k) limits attributes es) t why by;
      tables = tables_before (first_of rs) (d.tables.last_board + 1) (created t party factory name (key_detail k) limits attributes es) t why by;
      words = no_words (map list d.cells) entries why;
      drawn = omega arith;
    })
