-- What a running call has, and the access that it takes.
use Rattle.std.proofs.Common.{◌≡◌, ℕ, List, [], ◌∷◌, ◌++◌, get_or, ◌≤◌, refl, sym, ap, subst, ◌∙◌, Option, Some, None}
use Rattle.std.specs.Prelude.{slice_get, ◌==◌, if◌then◌else◌, ◌+◌, length}
use Rattle.std.proofs.lemmas.Option.{get_or_from_slice_get}
use Rattle.board_layout.specs.declared.shape.CellShape.{CellShape}
use Rattle.board_cell_model.specs.declared.access.Access.{Access}
use Rattle.board_cell_model.specs.declared.access.Access.TheVariants as access
use Rattle.board_model.specs.declared.tables.Board.{Board}
use Rattle.board_model.specs.Tables.{board_at, entry_in}
use Rattle.board_cell_model.specs.OwedAccesses.{current_at}
use Rattle.board_cell_model.specs.OwedAccesses.{Reading, finished, heard, hear, opening, owed_of, owed_read, to_read, to_table, to_write, trying}
use Rattle.board_model.specs.Requests.{Fetch, Request, get}
use Rattle.board_model.specs.Memory.{IsStanding}
use Rattle.board_model.specs.Parties.{Party, Running, owed, reading, running}
use Rattle.board_model.specs.LawfulSession.{State}
use Rattle.board_model.specs.Sound.{IsCalling, IsCell, IsEntryOf, IsParty, Sound}
use Rattle.board_model.specs.LawsOfReads.{IsTaking}
use Rattle.board_model.proofs.GetLemmas.{IsEnded, IsRead, ends, reading_push}

-- ---- accesses that are owed

pub table_is : (a : Access) → owed_of a ≡ to_table → a ≡ access.Table
table_is access.Table e = refl
table_is (access.Read c j v) e = absurd cc
table_is (access.Write c j v) e = absurd cc

pub read_is : (a : Access) (b i : ℕ) → owed_of a ≡ to_read b i → (v : ℕ) × (a ≡ access.Read b i v)
read_is access.Table b i e = absurd cc
read_is (access.Read c j v) b i e = (v, cc)
read_is (access.Write c j v) b i e = absurd cc

pub write_is : (a : Access) (b i v : ℕ) → owed_of a ≡ to_write b i v → a ≡ access.Write b i v
write_is access.Table b i v e = absurd cc
write_is (access.Read c j x) b i v e = absurd cc
write_is (access.Write c j x) b i v e = cc

-- the word that a get reads next
abbrev pub read_word : CellShape → Reading → ℕ
read_word c opening = c.first
read_word c (trying counter words) = if length words == c.words then c.first else current_at c counter + length words
read_word c (finished counter words) = c.first

pub owed_read_is : (b : ℕ) (c : CellShape) (r : Reading) → owed_read b c r ≡ to_read b (read_word c r)
owed_read_is b c opening = refl
owed_read_is b c (trying counter words) = refl
owed_read_is b c (finished counter words) = refl

pub read_gives : (words : List ℕ) (i v : ℕ) → slice_get words i ≡ Some v → get_or words i 0 ≡ v
read_gives words i v h = get_or_from_slice_get words i v 0 h

-- ---- a call that runs

pub runs : (s : State) (party : List ℕ) (r : Running) (q : Request) → Sound s → s.parties party ≡ running r → r.request ≡ q → IsCalling s party r q
runs s party r q sound e rq = subst (λ (x : Request). IsCalling s party r x) rq (subst (λ (x : Party). IsParty s party x) e (sound.parties party))

pub own_cell : (s : State) → Sound s → (b i : ℕ) (c : CellShape) → IsEntryOf s.standing.tables b i c → IsCell (s.memory b) c (s.published b i)
own_cell s sound b i c h = subst (λ (x : CellShape). IsCell (s.memory b) x (s.published b i)) (sym h.shape) (sound.boards.cells b i h.entry h.found)

-- the number of an entry's board was drawn
pub drawn_in : (s : State) → Sound s → (b i : ℕ) (c : CellShape) → IsEntryOf s.standing.tables b i c → b ≤ s.standing.tables.last_board
drawn_in s sound b i c h = at (board_at s.standing.tables b) refl h.found
  where
    at : (o : Option Board) → board_at s.standing.tables b ≡ o → entry_in o i ≡ Some h.entry → b ≤ s.standing.tables.last_board
    at None e f = absurd cc
    at (Some x) e f = sound.boards.numbered b x e

-- the access of a get is a read of its board
pub record IsGetRead (s : State) (f : Fetch) (so_far : List Access) (a : Access) : Type 0 where
  pub v : ℕ
  pub heard : heard a ≡ v
  pub read : IsRead (s.memory f.board) f.shape (reading f.shape.words so_far) v

pub get_read : (s : State) (f : Fetch) (so_far : List Access) (a : Access) → owed_of a ≡ owed_read f.board f.shape (reading f.shape.words so_far) → IsStanding s.memory a → IsGetRead s f so_far a
get_read s f so_far a next word =
    let o = next ∙ owed_read_is f.board f.shape (reading f.shape.words so_far) in
    let w : ℕ = read_word f.shape (reading f.shape.words so_far) in
    let x = read_is a f.board w o in
    let st : slice_get (s.memory f.board) w ≡ Some x.0 = subst (λ (y : Access). IsStanding s.memory y) x.1 word in
    record {
      v = x.0;
      heard = ap heard x.1;
      read = record { i = w; board = f.board; of = f.board; next = sym (owed_read_is f.board f.shape (reading f.shape.words so_far)); word = read_gives (s.memory f.board) w x.0 st };
    }

-- the try that a get ends with
pub get_ended : (s : State) (party : List ℕ) (r : Running) (a : Access) (f : Fetch) (c : ℕ) (ws : List ℕ) → IsTaking s party r a → r.request ≡ get f → reading f.shape.words (r.so_far ++ a ∷ []) ≡ finished c ws
    → IsEnded (s.published f.board f.entry) f.shape.words (length r.so_far) r.passed c ws
get_ended s party r a f c ws st rq e =
    let g = runs s party r (get f) st.sound st.runs rq in
    let n : owed_of a ≡ owed_read f.board f.shape (reading f.shape.words r.so_far) = st.next ∙ ap (λ (q : Request). owed q r.so_far) rq in
    let x = get_read s f r.so_far a n st.word in
    let h : hear f.shape.words (reading f.shape.words r.so_far) x.v ≡ finished c ws = ap (hear f.shape.words (reading f.shape.words r.so_far)) (sym x.heard) ∙ sym (reading_push f.shape.words r.so_far a) ∙ e in
    ends (s.memory f.board) f.shape (s.published f.board f.entry) (length r.so_far) r.passed x.v (reading f.shape.words r.so_far) (own_cell s st.sound f.board f.entry f.shape g.place) g.try x.read c ws h
