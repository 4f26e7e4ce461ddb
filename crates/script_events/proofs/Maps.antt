-- What parties hold, as the maps from parties to what they hold change.
use Rattle.std.proofs.Common.{◌≡◌, ℕ, Bool, true, false, cond, List, [], ◌∷◌, refl, ap, ◌∙◌, Option, None, inl, inr}
use Rattle.std.specs.Prelude.{length}
use Rattle.std.specs.Str.{bytes_eq}
use Rattle.std.specs.HashMap.{HashMap, get}
use Rattle.std.specs.declared.hash.BuildHasherDefault.{BuildHasherDefault}
use Rattle.std.specs.declared.hash.FoldHasher.{FoldHasher}
use Rattle.std.specs.Map.{lookup}
use Rattle.board_model.proofs.ListLemmas.{same_bytes}
use Rattle.board_model.specs.Requests.{and_then}
use Rattle.board_model.specs.Things.{with_at}
use Rattle.script_events.specs.declared.rows.Holding.{Holding}
use Rattle.script_events.specs.PartyEvents.{Own, named_by}
use Rattle.script_events.proofs.Options.{either, turned}

-- a map of what one party holds
abbrev pub OwnMap : Type 0
OwnMap = HashMap (List ℕ) Holding (BuildHasherDefault FoldHasher)

-- what is held under a name, where something is
abbrev pub named_in : Option Own → List ℕ → Option Holding
named_in own name = and_then own (λ w. named_by w name)

-- an empty map has nothing
pub none_in : {X S : Type 0} (own : HashMap (List ℕ) X S) → length own.entries ≡ 0 → (name : List ℕ) → get bytes_eq own name ≡ None
none_in {X} own e name = by own.entries e
  where
    by : (es : List (List ℕ × X)) → length es ≡ 0 → lookup (bytes_eq name) es ≡ None
    by [] e = refl
    by (x ∷ es) e = absurd cc

-- one party's map is another
module _ (parties parties' : List ℕ → Option Own) (party : List ℕ) (own : Option Own) (put : (p : List ℕ) → parties' p ≡ cond (bytes_eq party p) own (parties p)) where
  -- with this under the name
  pub held_at : (name : List ℕ) (x : Option Holding) → ((n : List ℕ) → named_in own n ≡ cond (bytes_eq name n) x (named_in (parties party) n)) → (p n : List ℕ) → named_in (parties' p) n ≡ with_at (λ q m. named_in (parties q) m) party name x p n
  held_at name x has p n = elim (either (bytes_eq party p)) [
    | inl f ↦ (
        let here : named_in (parties' p) n ≡ named_in own n = ap (λ (o : Option Own). named_in o n) (put p ∙ ap (λ (b : Bool). cond b own (parties p)) f) in
        let mine : named_in own n ≡ cond (bytes_eq n name) x (named_in (parties p) n) = has n ∙ ap (λ (q : List ℕ). cond (bytes_eq name n) x (named_in (parties q) n)) (same_bytes party p f) ∙ ap (λ (b : Bool). cond b x (named_in (parties p) n)) (turned name n) in
        let same : bytes_eq p party ≡ true = turned p party ∙ f in
        let with_it : cond (bytes_eq n name) x (named_in (parties p) n) ≡ with_at (λ q m. named_in (parties q) m) party name x p n = rw same refl in
        here ∙ mine ∙ with_it)
    | inr f ↦ (
        let there : named_in (parties' p) n ≡ named_in (parties p) n = ap (λ (o : Option Own). named_in o n) (put p ∙ ap (λ (b : Bool). cond b own (parties p)) f) in
        let other : bytes_eq p party ≡ false = turned p party ∙ f in
        let without_it : named_in (parties p) n ≡ with_at (λ q m. named_in (parties q) m) party name x p n = rw other refl in
        there ∙ without_it)
  ]

  -- with the same in it
  pub held_same : ((n : List ℕ) → named_in own n ≡ named_in (parties party) n) → (p n : List ℕ) → named_in (parties' p) n ≡ named_in (parties p) n
  held_same has p n = elim (either (bytes_eq party p)) [
    | inl f ↦ ap (λ (o : Option Own). named_in o n) (put p ∙ ap (λ (b : Bool). cond b own (parties p)) f) ∙ has n ∙ ap (λ (q : List ℕ). named_in (parties q) n) (same_bytes party p f)
    | inr f ↦ ap (λ (o : Option Own). named_in o n) (put p ∙ ap (λ (b : Bool). cond b own (parties p)) f)
  ]
