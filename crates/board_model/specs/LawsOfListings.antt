-- Laws of what is told of a board: its nodes ascend and differ, nodes and ports are counted once, and its keys are told in the order of adding.
use Rattle.std.specs.Prelude.{◌≡◌, ℕ, Bool, List, [], ◌∷◌, length, map, nat_eq, Some, ◌⊎◌}
use Rattle.std.specs.Cmp.Lexicographic.{slice_cmp}
use Rattle.std.specs.List.{AllByRecursion, Any, Contains, list_any}
use Rattle.std.specs.List.Sorted.{IsStrictlySortedBy}
use Rattle.std.specs.Ordering.{nat_cmp}
use Rattle.std.specs.Str.{bytes_eq}
use Rattle.board_model.specs.declared.attributes.Attribute.{Attribute}
use Rattle.board_model.specs.declared.tables.Kind.TheVariants as kind
use Rattle.board_model.specs.declared.tables.NewLimits.{NewLimits}
use Rattle.board_model.specs.declared.tables.Thing.{Thing}
use Rattle.board_model.specs.declared.value.AddedEntry.{AddedEntry}
use Rattle.board_model.specs.declared.value.Key.{Key}
use Rattle.board_model.specs.declared.value.KeyType.{KeyType}
use Rattle.board_model.specs.LineGrammar.{IsKey}
use Rattle.board_model.specs.TypeTable.{key_detail, type_of_key}
use Rattle.board_model.specs.Tables.{is_node, new_board, nodes_taken, writer_slots}
use Rattle.board_model.specs.Things.{Held}
use Rattle.board_model.specs.Replies.{added_of, keys_in, nodes_of}

-- the nodes that are told ascend in the order of their bytes, so they differ; they are the parties with a thing of the board,
-- and are as many as are counted
pub record NodesAscend : Type 0 where
  pub ascend : (board : ℕ) (things : List Held) → IsStrictlySortedBy (slice_cmp nat_cmp) (nodes_of board things)
  pub are : (board : ℕ) (things : List Held) (party : List ℕ) → list_any (λ x. bytes_eq x party) (nodes_of board things) ≡ is_node bytes_eq board party things
  pub counted : (board : ℕ) (things : List Held) → length (nodes_of board things) ≡ nodes_taken bytes_eq board things

-- each once
abbrev pub AllDiffer : {A : Type 0} → List A → Type 0
AllDiffer [] = Unit {0}
AllDiffer (x ∷ xs) = AllByRecursion (λ y. x ≡ y → ⊥) xs × AllDiffer xs

-- the different holders of things of the board
pub record AreNodes {H N : Type 0} (same : H → H → Bool) (board : ℕ) (things : List (Thing H N)) (nodes : List H) : Type 0 where
  pub differ : AllDiffer nodes
  pub are : (h : H) → list_any (λ n. same n h) nodes ≡ is_node same board h things

-- the nodes that are counted are as many as these
abbrev pub NodesAreCounted : (H N : Type 0) → (H → H → Bool) → Type 0
NodesAreCounted H N same = (board : ℕ) (things : List (Thing H N)) → (nodes : List H) × AreNodes same board things nodes × (length nodes ≡ nodes_taken same board things)

-- of the things of scripts, whose holders are names, and of those of a domain, whose holders are numbers
pub record NodesAreCountedOnce : Type 0 where
  pub in_scripts : NodesAreCounted (List ℕ) (List ℕ) bytes_eq
  pub in_domains : NodesAreCounted ℕ ℕ nat_eq

-- the thing is the board's writer of this port, or a write handle made from that
pub record IsOfWriter {H N : Type 0} (board port : ℕ) (t : Thing H N) : Type 0 where
  pub board_is : t.board ≡ board
  pub kind_is : (t.kind ≡ kind.Writer port) ⊎ ((entry : ℕ) × (t.kind ≡ kind.WriteHandle entry port))

-- the different ports of the board's writers, and of the handles made from them
pub record AreWriterPorts {H N : Type 0} (board : ℕ) (things : List (Thing H N)) (ports : List ℕ) : Type 0 where
  pub differ : AllDiffer ports
  pub each : (p : ℕ) → Contains ports p → Any (IsOfWriter board p) things
  pub all : (p : ℕ) → Any (IsOfWriter board p) things → Contains ports p

-- the writer slots that are taken are as many as these
abbrev pub PortsAreCounted : (H N : Type 0) → Type 0
PortsAreCounted H N = (board : ℕ) (things : List (Thing H N)) → (ports : List ℕ) × AreWriterPorts board things ports × (length ports ≡ writer_slots board things)

-- of the things of scripts, and of those of a domain
pub record PortsAreCountedOnce : Type 0 where
  pub in_scripts : PortsAreCounted (List ℕ) (List ℕ)
  pub in_domains : PortsAreCounted ℕ ℕ

-- a key of the grammar, of this type
pub record IsKeyOf (k : KeyType) (key : Key) : Type 0 where
  pub line : IsKey key
  pub type : type_of_key key ≡ k

-- a board tells its keys as they were added, in that order
abbrev pub KeysAreToldInOrder : Type 0
KeysAreToldInOrder = (number : ℕ) (name : List ℕ) (k : KeyType) (limits : NewLimits) (attributes : List Attribute) (entries : List AddedEntry) → AllByRecursion (λ (e : AddedEntry). IsKeyOf k e.key) entries
    → keys_in (Some (new_board number name (key_detail k) limits attributes (map added_of entries))) ≡ map (λ (e : AddedEntry). e.key) entries
