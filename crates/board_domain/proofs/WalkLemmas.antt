-- Walks of a callback, from the last call back to the first.
use Rattle.std.proofs.Common.{◌≡◌, ℕ, suc, ◌+◌, ◌-◌, ◌<◌, ◌≤◌, List, [], ◌∷◌, Option, Some, None, sym, ap, ◌∙◌, subst, inl, inr, ⊎_elim, arith}
use Rattle.std.specs.Prelude.{true, if◌then◌else◌, option_map}
use Rattle.std.specs.List.{cons_option}
use Rattle.board_layout.specs.declared.type_detail.TypeDetail.{TypeDetail}
use Rattle.board_model.specs.declared.tables.Board.{Board}
use Rattle.board_model.specs.declared.tables.Thing.{Thing}
use Rattle.board_model.specs.declared.tables.ThingKind.TheVariants.{Factory}
use Rattle.board_model.specs.Tables.{board_at}
use Rattle.board_service.specs.Domain.{stands_as, held}
use Rattle.board_service.specs.Told.{use_in, node_in}
use Rattle.board_service.specs.declared.told.DynamicConfig.{DynamicConfig}
use Rattle.board_handles.specs.BoardEnds.{Core}
use Rattle.board_domain.specs.LentForms as lent
use Rattle.board_domain.specs.declared.callback_progression.CallbackProgression.{CallbackProgression}
use Rattle.board_domain.specs.declared.callback_progression.CallbackProgression.TheVariants.{Continue, Stop}
use Rattle.board_domain.specs.Walks.{Walks, WalksTo, at_places, nodes_in}

module _ {F A : Type 0} (called : F → A → CallbackProgression → F → Type 0) where
  -- none is left
  pub walks_none : (f last : F) (all : List A) → all ≡ [] → last ≡ f → WalksTo called f all last
  walks_none f last all e same = subst (λ xs. WalksTo called f xs last) (sym e) same

  -- the call at the first said to stop
  pub walks_stopped : (f last : F) (x : A) (xs all : List A) → all ≡ x ∷ xs → called f x Stop last → WalksTo called f all last
  walks_stopped f last x xs all e now = subst (λ xs. WalksTo called f xs last) (sym e) (inl now)

  -- the call at the first said to go on
  pub walks_more : (f g last : F) (x : A) (xs all : List A) → all ≡ x ∷ xs → called f x Continue g → WalksTo called g xs last → WalksTo called f all last
  walks_more f g last x xs all e now rest = subst (λ xs. WalksTo called f xs last) (sym e) (inr (g, now, rest))

  -- a walk with its end is a walk
  pub walks_on : (f last : F) (xs : List A) → WalksTo called f xs last → Walks called f xs
  walks_on f last [] w = tt
  walks_on f last (x ∷ xs) w =
      ⊎_elim (λ (now : called f x Stop last). (last, inl now))
      (λ (more : (g : F) × called f x Continue g × WalksTo called g xs last). (more.0, inr (more.1, walks_on more.0 last xs more.2))) w

-- what stands at this place comes before the others
module _ {A : Type 0} (at : ℕ → Option A) (place count : ℕ) (below : place < count) where
  one_more : count - place ≡ suc (count - (place + 1))
  one_more = omega (arith, below)

  from_here : at_places at (count - place) place ≡ cons_option (at place) (at_places at (count - (place + 1)) (place + 1))
  from_here = ap (λ n. at_places at n place) one_more

  pub one_here : (x : A) → at place ≡ Some x → at_places at (count - place) place ≡ x ∷ at_places at (count - (place + 1)) (place + 1)
  one_here x e = from_here ∙ ap (λ o. cons_option o (at_places at (count - (place + 1)) (place + 1))) e

  pub none_here : at place ≡ None → at_places at (count - place) place ≡ at_places at (count - (place + 1)) (place + 1)
  none_here e = from_here ∙ ap (λ o. cons_option o (at_places at (count - (place + 1)) (place + 1))) e

-- behind the last place there is none
pub none_left : {A : Type 0} (at : ℕ → Option A) (place count : ℕ) → count ≤ place → at_places at (count - place) place ≡ []
none_left at place count over =
    let none : count - place ≡ 0 = omega (arith, over) in
    ap (λ n. at_places at n place) none

-- ---- the nodes of a factory's board

nodes_taken_of : (things : List (Thing ℕ ℕ)) (o : Option Board) (taken : DynamicConfig) → Some taken ≡ option_map (use_in things) o → at_places (λ i. node_in i things o) taken.nodes 0 ≡ nodes_in things o
nodes_taken_of things None taken e = absurd (cc)
nodes_taken_of things (Some b) taken e =
    let same : taken ≡ use_in things b = cc in
    ap (λ (t : DynamicConfig). at_places (λ i. node_in i things (Some b)) t.nodes 0) same

-- as many nodes are told as are taken
pub nodes_told : (d : Core) (keys : TypeDetail) (factory board : ℕ) (taken : DynamicConfig) → true ≡ stands_as d keys factory Factory → board ≡ (held d factory).board → Some taken ≡ option_map (use_in d.tables.things) (board_at d.tables board)
    → at_places (λ i. node_in i d.tables.things (board_at d.tables board)) taken.nodes 0 ≡ lent.nodes_of d keys factory
nodes_told d keys factory board taken stands is e =
    nodes_taken_of d.tables.things (board_at d.tables board) taken e
    ∙ ap (λ n. nodes_in d.tables.things (board_at d.tables n)) is
    ∙ ap (λ b. if b then nodes_in d.tables.things (board_at d.tables (held d factory).board) else []) stands
