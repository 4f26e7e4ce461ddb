-- What is kept of what is taken of each board: it is what the definitions count over the things. No public clause speaks of this.
use Rattle.std.specs.Prelude.{◌≡◌, ℕ, ◌+◌, ◌-◌, ◌<◌, ◌≤◌, ◌^◌, ◌==◌, Bool, false, if◌then◌else◌, nat_eq, count_by, List, Option, Some, None}
use Rattle.std.specs.BTreeMap as tree
use Rattle.std.specs.HashMap.{HashMap, get}
use Rattle.std.specs.Cmp.Lexicographic.{slice_cmp}
use Rattle.std.specs.Ordering.{nat_cmp}
use Rattle.std.specs.Str.{bytes_eq}
use Rattle.board_model.specs.declared.tables.Kind.{Kind}
use Rattle.board_model.specs.Tables.{holds_at, is_held_by, is_of_port, is_reader, is_write_handle, number_if, reader_slots, writer_port, writes_entry}
use Rattle.board_model.specs.Things.{Held}
use Rattle.script_things.specs.declared.taken.Taken.{Taken}

-- ---- counts

-- a count as it is kept: nothing is kept of none
abbrev pub counted : ℕ → Option ℕ
counted n = if n == 0 then None else Some n

abbrev pub number_in : Option ℕ → ℕ
number_in None = 0
number_in (Some n) = n

-- one more, where it is asked for
abbrev pub one_more : Bool → Option ℕ → Option ℕ
one_more b o = if b then Some (number_in o + 1) else o

-- one less
abbrev pub one_less : Bool → Option ℕ → Option ℕ
one_less b o = if b then counted (number_in o - 1) else o

-- ---- what is kept of a board, if something is

abbrev pub readers_in : Option Taken → ℕ
readers_in None = 0
readers_in (Some t) = t.readers

abbrev pub nodes_in : Option Taken → List ℕ → Option ℕ
nodes_in None party = None
nodes_in (Some t) party = tree.get (slice_cmp nat_cmp) t.nodes party

abbrev pub ports_in : Option Taken → ℕ → Option ℕ
ports_in None port = None
ports_in (Some t) port = get nat_eq t.ports port

abbrev pub handles_in : Option Taken → ℕ → Option ℕ
handles_in None entry = None
handles_in (Some t) entry = get nat_eq t.handles entry

-- it is what is counted over the things
pub record IsTaken (board : ℕ) (things : List Held) (o : Option Taken) : Type 0 where
  pub readers : readers_in o ≡ reader_slots board things
  pub nodes : (party : List ℕ) → nodes_in o party ≡ counted (count_by (is_held_by bytes_eq board party) things)
  pub ports : (port : ℕ) → ports_in o port ≡ counted (count_by (is_of_port board port) things)
  pub handles : (entry : ℕ) → handles_in o entry ≡ counted (count_by (is_write_handle board entry) things)

abbrev pub AreTaken : {S : Type 0} → HashMap ℕ Taken S → List Held → Type 0
AreTaken rows things = (board : ℕ) → IsTaken board things (get nat_eq rows board)

-- ---- a thing more, and a thing less

-- no count is near its end
pub record IsSmall (o : Option Taken) : Type 0 where
  pub readers : readers_in o < 2 ^ 63
  pub nodes : (party : List ℕ) → number_in (nodes_in o party) < 2 ^ 63
  pub ports : (port : ℕ) → number_in (ports_in o port) < 2 ^ 63
  pub handles : (entry : ℕ) → number_in (handles_in o entry) < 2 ^ 63

-- a thing of the party, of this kind, was counted
pub record HasOne (party : List ℕ) (k : Kind) (o : Option Taken) : Type 0 where
  pub readers : number_if (is_reader k) ≤ readers_in o
  pub nodes : 1 ≤ number_in (nodes_in o party)
  pub ports : (port : ℕ) → number_if (holds_at (writer_port k) (λ p. p == port)) ≤ number_in (ports_in o port)
  pub handles : (entry : ℕ) → number_if (writes_entry entry k) ≤ number_in (handles_in o entry)

pub record IsSame (old new : Option Taken) : Type 0 where
  pub readers : readers_in new ≡ readers_in old
  pub nodes : (party : List ℕ) → nodes_in new party ≡ nodes_in old party
  pub ports : (port : ℕ) → ports_in new port ≡ ports_in old port
  pub handles : (entry : ℕ) → handles_in new entry ≡ handles_in old entry

pub record IsRaised (party : List ℕ) (k : Kind) (old new : Option Taken) : Type 0 where
  pub readers : readers_in new ≡ readers_in old + number_if (is_reader k)
  pub nodes : (p : List ℕ) → nodes_in new p ≡ one_more (bytes_eq party p) (nodes_in old p)
  pub ports : (port : ℕ) → ports_in new port ≡ one_more (holds_at (writer_port k) (λ p. p == port)) (ports_in old port)
  pub handles : (entry : ℕ) → handles_in new entry ≡ one_more (writes_entry entry k) (handles_in old entry)

pub record IsLowered (party : List ℕ) (k : Kind) (old new : Option Taken) : Type 0 where
  pub readers : readers_in new + number_if (is_reader k) ≡ readers_in old
  pub nodes : (p : List ℕ) → nodes_in new p ≡ one_less (bytes_eq party p) (nodes_in old p)
  pub ports : (port : ℕ) → ports_in new port ≡ one_less (holds_at (writer_port k) (λ p. p == port)) (ports_in old port)
  pub handles : (entry : ℕ) → handles_in new entry ≡ one_less (writes_entry entry k) (handles_in old entry)

module _ {S : Type 0} where
  abbrev pub AreSame : HashMap ℕ Taken S → HashMap ℕ Taken S → Type 0
  AreSame old new = (board : ℕ) → IsSame (get nat_eq old board) (get nat_eq new board)

  -- the thing is one more of its board, and the other boards stay as they were
  pub record AreRaised (t : Held) (old new : HashMap ℕ Taken S) : Type 0 where
    pub this : IsRaised t.holder t.kind (get nat_eq old t.board) (get nat_eq new t.board)
    pub others : (board : ℕ) → (t.board == board) ≡ false → IsSame (get nat_eq old board) (get nat_eq new board)

  pub record AreLowered (t : Held) (old new : HashMap ℕ Taken S) : Type 0 where
    pub this : IsLowered t.holder t.kind (get nat_eq old t.board) (get nat_eq new t.board)
    pub others : (board : ℕ) → (t.board == board) ≡ false → IsSame (get nat_eq old board) (get nat_eq new board)
