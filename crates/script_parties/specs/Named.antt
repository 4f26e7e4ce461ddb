-- How the things that parties named stand for those of a domain's core. Of what follows public clauses speak of short keys alone.
use Rattle.std.specs.Prelude.{◌≡◌, false, ℕ, ◌+◌, ◌-◌, ◌<◌, ◌≤◌, List, [], ◌∷◌, ◌++◌, find, length, map, Option, Some, None, slice_index_or}
use Rattle.std.specs.List.{AllByRecursion, position_from}
use Rattle.std.specs.Str.{bytes_eq}
use Rattle.board_model.specs.declared.tables.Board.{Board}
use Rattle.board_model.specs.declared.tables.Entry.{Entry}
use Rattle.board_model.specs.declared.tables.Kind.TheVariants as kind
use Rattle.board_model.specs.declared.tables.Thing.{Thing}
use Rattle.board_model.specs.ShortKeys.{IsShortKey}
use Rattle.board_model.specs.Tables.{Added}
use Rattle.board_model.specs.Things.{Held}
use Rattle.board_service.specs.Domain.{Domain, is_thing}

-- ---- keys

-- the key of an entry that is to be added is short
abbrev pub HasShortKey : Added → Type 0
HasShortKey a = IsShortKey a.key

-- the keys of a board's entries are short
abbrev pub HasShortKeys : Board → Type 0
HasShortKeys b = AllByRecursion (λ (e : Entry). IsShortKey e.key.bytes) b.entries

-- ---- nodes

-- node n is the party at place n - 1
abbrev pub party_at : List (List ℕ) → ℕ → List ℕ
party_at nodes n = slice_index_or nodes (n - 1) []

-- the place where the party stands
abbrev pub node_place : List ℕ → List (List ℕ) → Option ℕ
node_place party nodes = position_from (bytes_eq party) 0 nodes

-- the number of a party that is a node, or the next number
abbrev pub node_or_next : ℕ → Option ℕ → ℕ
node_or_next next None = next
node_or_next next (Some place) = place + 1

-- the number of the party as a node: its own, or the next one
abbrev pub node_number : List ℕ → List (List ℕ) → ℕ
node_number party nodes = node_or_next (length nodes + 1) (node_place party nodes)

-- the nodes with a party that may be one already
abbrev pub nodes_or_more : List ℕ → List (List ℕ) → Option ℕ → List (List ℕ)
nodes_or_more party nodes None = nodes ++ party ∷ []
nodes_or_more party nodes (Some place) = nodes

-- the nodes after a call of the party: it is one of them
abbrev pub nodes_with : List ℕ → List (List ℕ) → List (List ℕ)
nodes_with party nodes = nodes_or_more party nodes (node_place party nodes)

-- each party is one node
abbrev pub AreParties : List (List ℕ) → Type 0
AreParties [] = Unit {0}
AreParties (p ∷ ps) = AllByRecursion (λ q. bytes_eq p q ≡ false) ps × AreParties ps

-- a thing's holder is one of so many nodes
pub record IsOfNode (count : ℕ) (t : Thing ℕ ℕ) : Type 0 where
  pub some : 0 < t.holder
  pub most : t.holder ≤ count

-- ---- things

-- without its name
abbrev pub nameless : {N : Type 0} → N → List ℕ
nameless name = []

-- the holder as it is
abbrev pub own : List ℕ → List ℕ
own party = party

-- a thing that is there, or one that nobody has
abbrev pub held_or_none : Option Held → Held
held_or_none None = record { holder = []; name = []; board = 0; kind = kind.Factory }
held_or_none (Some t) = t

-- a factory that a party has of a board
abbrev pub factory_of : List ℕ → List ℕ → ℕ → Held
factory_of party name board = record { holder = party; name = name; board = board; kind = kind.Factory }

-- the core's things by their names, in its order
abbrev pub named_things : (ℕ → Option Held) → List (Thing ℕ ℕ) → List Held
named_things things ts = map (λ (t : Thing ℕ ℕ). held_or_none (things t.name)) ts

abbrev pub things_of : {C : Type 0} → (ℕ → Option Held) → Domain C → List Held
things_of things d = named_things things d.tables.things

-- a thing of the core has a name under its number, and is the named one otherwise, with a party in place of its node
pub record IsCalled (party : ℕ → List ℕ) (things : ℕ → Option Held) (t : Thing ℕ ℕ) : Type 0 where
  pub named : Held
  pub there : things t.name ≡ Some named
  pub holder : party t.holder ≡ named.holder
  pub board : t.board ≡ named.board
  pub kind : t.kind ≡ named.kind

-- the numbers rise from above `low`, up to `last`
abbrev pub AreRising : ℕ → ℕ → List (Thing ℕ ℕ) → Type 0
AreRising low last [] = low ≤ last
AreRising low last (t ∷ ts) = (low < t.name) × AreRising t.name last ts

-- each thing of the core is named, and nothing else is
pub record IsNamed {C : Type 0} (nodes : List (List ℕ)) (things : ℕ → Option Held) (d : Domain C) : Type 0 where
  pub called : AllByRecursion (IsCalled (party_at nodes) things) d.tables.things
  pub alone : (n : ℕ) → find (is_thing n) d.tables.things ≡ None → things n ≡ None
  pub rising : AreRising 0 d.last_thing d.tables.things
  pub holders : AllByRecursion (IsOfNode (length nodes)) d.tables.things
  pub parties : AreParties nodes
  pub keys : AllByRecursion HasShortKeys d.tables.boards
