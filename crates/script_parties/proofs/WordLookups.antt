-- The words of boards, where the cells of boards have them.
use Rattle.std.proofs.Common.{◌≡◌, ℕ, zero, suc, ◌<◌, ◌≤◌, List, [], ◌∷◌, length, get_or, map, set, refl, sym, ap, subst, ◌∙◌, Option, Some, None, arith}
use Rattle.std.specs.Prelude.{slice_get}
use Rattle.std.specs.List.{position_from}
use Rattle.std.proofs.Math.Seq.{map-set_same}
use Rattle.std.proofs.lemmas.List.{map-set, length-map}
use Rattle.std.proofs.lemmas.Option.{get_or_from_slice_get}
use Rattle.board_model.specs.declared.tables.Board.{Board}
use Rattle.board_model.specs.Tables.{is_numbered}
use Rattle.board_model.specs.Things.{Held}
use Rattle.board_service.specs.Domain.{Domain, at, set_at}
use Rattle.script_parties.specs.Parties.{HasWord, Parties}

get_map : {C : Type 0} (f : C → List ℕ) (cells : List C) (place : ℕ) (x : C) (d : List ℕ) → slice_get cells place ≡ Some x → get_or (map f cells) place d ≡ f x
get_map f [] place x d e = absurd cc
get_map f (y ∷ cells) zero x d e = let q : y ≡ x = cc in ap f q
get_map f (y ∷ cells) (suc place) x d e = get_map f cells place x d e

get_none : {C : Type 0} (cells : List C) (place : ℕ) → slice_get cells place ≡ None → length cells ≤ place
get_none [] place e = omega arith
get_none (y ∷ cells) zero e = absurd cc
get_none (y ∷ cells) (suc place) e = let h = get_none cells place e in omega (arith, h)

-- what a place finds, where it is known
at_place : {C : Type 0} (cells : List C) (o : Option ℕ) (place : ℕ) → Some place ≡ o → at cells o ≡ slice_get cells place
at_place cells o place e = ap (λ (p : Option ℕ). at cells p) (sym e)

-- the words are those of the cells, in the order of the boards
pub record ShowsWords {C : Type 0} (f : C → List ℕ) (boards : List Board) (cells : List C) (p : Parties) : Type 0 where
  pub same_boards : p.tables.boards ≡ boards
  pub words : p.words ≡ map f cells

-- a domain as it is seen, with its words as these cells have them
abbrev pub seen : {C : Type 0} → (C → List ℕ) → Domain C → List Held → Parties
seen f d things = record {
  tables = record { boards = d.tables.boards; things = things; last_board = d.tables.last_board; last_port = d.tables.last_port };
  words = map f d.cells;
  drawn = d.last_thing;
}

pub shown : {C : Type 0} (f : C → List ℕ) (d : Domain C) (things : List Held) (p : Parties) → seen f d things ≡ p → ShowsWords f d.tables.boards d.cells p
shown f d things p e = record { same_boards = ap (λ (q : Parties). q.tables.boards) (sym e); words = ap (λ (q : Parties). q.words) (sym e) }

abbrev place_in : ℕ → List Board → Option ℕ
place_in board boards = position_from (is_numbered board) 0 boards

-- the words of the board whose cells were found
pub words_found : {C : Type 0} (f : C → List ℕ) (boards : List Board) (cells : List C) (p : Parties) → ShowsWords f boards cells p
    → (board : ℕ) (x : C) → Some x ≡ at cells (place_in board boards) → (place : ℕ) (d : List ℕ) → Some place ≡ place_in board p.tables.boards → get_or p.words place d ≡ f x
words_found f boards cells p h board x e place d k =
    let k' : Some place ≡ place_in board boards = k ∙ ap (λ (bs : List Board). place_in board bs) h.same_boards in
    ap (λ (ws : List (List ℕ)). get_or ws place d) h.words ∙ get_map f cells place x d (sym (e ∙ at_place cells (place_in board boards) place k'))

-- the word is one of them
pub word_inside : {C : Type 0} (f : C → List ℕ) (boards : List Board) (cells : List C) (p : Parties) → ShowsWords f boards cells p
    → (board word : ℕ) → HasWord p board word → (x : C) → Some x ≡ at cells (place_in board boards) → word < length (f x)
word_inside f boards cells p h board word w x e =
    subst (λ (ws : List ℕ). word < length ws) (words_found f boards cells p h board x e w.place [] w.stands) (w.word_inside [])

-- a board with a word has cells
pub cells_stand : {C : Type 0} (f : C → List ℕ) (boards : List Board) (cells : List C) (p : Parties) → ShowsWords f boards cells p
    → (board word : ℕ) → HasWord p board word → None ≡ at cells (place_in board boards) → ⊥
cells_stand f boards cells p h board word w e =
    let k : Some w.place ≡ place_in board boards = w.stands ∙ ap (λ (bs : List Board). place_in board bs) h.same_boards in
    let past : length cells ≤ w.place = get_none cells w.place (sym (e ∙ at_place cells (place_in board boards) w.place k)) in
    let few : length p.words ≡ length cells = ap length h.words ∙ length-map cells f in
    omega (arith, past, few, w.inside)

-- cells with the same words in their place
pub words_stay : {C : Type 0} (f : C → List ℕ) (cells : List C) (o : Option ℕ) (x y : C) → Some x ≡ at cells o → f y ≡ f x → map f (set_at cells o y) ≡ map f cells
words_stay f cells None x y e h = refl
words_stay f cells (Some place) x y e h = map-set_same f cells place y y (h ∙ ap f (sym (get_or_from_slice_get cells place x y (sym e))))

-- cells with other words in their place
pub words_set : {C : Type 0} (f : C → List ℕ) (boards : List Board) (cells : List C) (p : Parties) → ShowsWords f boards cells p
    → (board : ℕ) (x y : C) → Some x ≡ at cells (place_in board boards) → (word value : ℕ) → f y ≡ set (f x) word value
    → (place : ℕ) (d : List ℕ) → Some place ≡ place_in board p.tables.boards → map f (set_at cells (place_in board boards) y) ≡ set p.words place (set (get_or p.words place d) word value)
words_set f boards cells p h board x y e word value k place d s =
    let s' : Some place ≡ place_in board boards = s ∙ ap (λ (bs : List Board). place_in board bs) h.same_boards in
    let new : f y ≡ set (get_or p.words place d) word value = k ∙ ap (λ (ws : List ℕ). set ws word value) (sym (words_found f boards cells p h board x e place d s)) in
    ap (λ (o : Option ℕ). map f (set_at cells o y)) (sym s') ∙ map-set f cells place y
    ∙ ap (λ (ws : List (List ℕ)). set ws place (f y)) (sym h.words) ∙ ap (λ (ws : List ℕ). set p.words place ws) new
