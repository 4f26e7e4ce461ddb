-- What is kept of parties.
use Rattle.std.specs.Prelude.{ℕ, List, Option, Some, None, ⊤}
use Rattle.std.specs.Prelude.{nat_eq}
use Rattle.std.specs.Cmp.Lexicographic.{pointwise}
use Rattle.std.specs.HashMap.{get}
use Rattle.script_feed.specs.declared.parties.Parties.{Parties}

-- what is kept of the party
abbrev pub kept_of : {T : Type 0} → Parties T → List ℕ → Option T
kept_of m party = get (pointwise nat_eq) m.rows party

-- what a party does is kept, if it does something
abbrev pub KeepsIfAny : {C A : Type 0} → (C → A → Type 0) → Option C → Option A → Type 0
KeepsIfAny Keeps None None = ⊤
KeepsIfAny Keeps (Some c) None = ⊥
KeepsIfAny Keeps None (Some x) = ⊥
KeepsIfAny Keeps (Some c) (Some x) = Keeps c x
