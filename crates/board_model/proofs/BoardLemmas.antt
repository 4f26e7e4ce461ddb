-- Boards that stay what they are: a number that was drawn never gets another board.
use Rattle.std.proofs.Common.{◌≡◌, ℕ, ◌+◌, ◌≤◌, Bool, true, false, cond, List, [], ◌∷◌, ◌++◌, length, map, arith, refl, sym, ap, subst, ◌∙◌, Option, Some, None, inl, inr}
use Rattle.std.specs.Prelude.{find, ◌⊎◌, IfSome}
use Rattle.std.specs.List.{count_by, list_any}
use Rattle.std.specs.Str.{bytes_eq}
use Rattle.std.proofs.lemmas.Bool.{eqb-true}
use Rattle.std.proofs.lemmas.Slice.Eq.{bytes_eq-Decides}
use Rattle.board_model.specs.declared.answer.Answer.{Answer}
use Rattle.board_model.specs.declared.line.Line.{Line}
use Rattle.board_model.specs.declared.tables.Board.{Board}
use Rattle.board_model.specs.TypeTable.{key_detail, same_key, value_detail}
use Rattle.board_model.specs.Tables.{board_at, board_named, entry_found, has_name, is_numbered, is_of_board, new_board, without_first}
use Rattle.board_model.specs.TableCalls.{asked, boards_left, create_refusals, created, entry_mut_refusals, entry_refusals, first_of, id_of, joined, number_of, open_refusals, reader_refusals, with_read_handle, with_reader, with_write_handle, with_writer, writer_refusals}
use Rattle.board_model.specs.Things.{Held, Standing, is_held_as, thing_of}
use Rattle.board_model.specs.Requests.{Fetch, Published, Request, TableCall, create, info, entry, entry_mut, fill, fresh, get, discard, id, open_, loan, keys, nodes, publish, put, reader, table, gen, update, writer}
use Rattle.board_model.specs.Replies.{added_of, ask, ask_tables, keeps_key, latest, released_thing, with_fetched}
use Rattle.board_model.specs.LawfulSession.{IsLawfulFrom, IsRight, Session, State, after, start, state_after}
use Rattle.board_model.specs.Sound.{BoardTables, Sound}
use Rattle.board_model.specs.LawsOfOthers.{BoardsStay, NamesAreOfOneBoard, NumbersAreNeverUsedAgain, NumbersAreOfOneBoard}
use Rattle.board_model.proofs.ListLemmas.{count_without, find_back, find_none, find_only, find_push_cases, find_true}
use Rattle.board_model.proofs.LineCases.{after_cases}
use Rattle.board_model.proofs.GrowthLemmas.{line_growth}
use Rattle.board_model.proofs.SoundLemmas.{sound_after, sound_session}

-- a board that stands later under a number that was drawn stood before
abbrev pub KeepsBoards : BoardTables → BoardTables → Type 0
KeepsBoards t new = (n : ℕ) (b : Board) → n ≤ t.last_board → board_at new n ≡ Some b → board_at t n ≡ Some b

same_boards : (t new : BoardTables) → new.boards ≡ t.boards → KeepsBoards t new
same_boards t new e n b le f = ap (find (is_numbered n)) (sym e) ∙ f

-- one more board, under the next number
pushed_boards : (t new : BoardTables) (x : Board) → x.number ≡ t.last_board + 1 → new.boards ≡ t.boards ++ x ∷ [] → KeepsBoards t new
pushed_boards t new x at e n b le f =
    let g : find (is_numbered n) (t.boards ++ x ∷ []) ≡ Some b = ap (find (is_numbered n)) (sym e) ∙ f in
    cases (find_push_cases (is_numbered n) t.boards x b g) g
  where
    cases : (find (is_numbered n) t.boards ≡ Some b) ⊎ ((find (is_numbered n) t.boards ≡ None) × (x ≡ b)) → find (is_numbered n) (t.boards ++ x ∷ []) ≡ Some b → find (is_numbered n) t.boards ≡ Some b
    cases (inl h) g = h
    cases (inr h) g =
        let m : b.number ≡ n = eqb-true b.number n (find_true (is_numbered n) (t.boards ++ x ∷ []) b g) in
        let k : b.number ≡ t.last_board + 1 = ap (λ (y : Board). y.number) (sym h.1) ∙ at in
        absurd (omega arith)

-- a board goes
without_missing : {X : Type 0} (q : X → Bool) (xs : List X) → find q xs ≡ None → without_first q xs ≡ xs
without_missing q [] e = refl
without_missing {X = X} q (z ∷ xs) e = at (q z) (without_missing q xs) e
  where
    at : (b : Bool) → (find q xs ≡ None → without_first q xs ≡ xs) → cond b (Some z) (find q xs) ≡ None → cond b xs (z ∷ without_first q xs) ≡ z ∷ xs
    at true ih k = absurd cc
    at false ih k = ap (λ (ys : List X). z ∷ ys) (ih k)

found_without : (boards : List Board) (n m : ℕ) (b : Board) → count_by (is_numbered m) boards ≤ 1 → find (is_numbered n) (without_first (is_numbered m) boards) ≡ Some b → find (is_numbered n) boards ≡ Some b
found_without boards n m b few f = at (find (is_numbered m) boards) refl
  where
    taken : (t : Board) → find (is_numbered m) boards ≡ Some t → (z : Bool) → is_numbered n t ≡ z → find (is_numbered n) boards ≡ Some b
    taken t e false g = find_back (is_numbered n) (is_numbered m) boards b t e g f
    taken t e true g =
        let h : is_numbered m t ≡ true = find_true (is_numbered m) boards t e in
        let x : t.number ≡ n = eqb-true t.number n g in
        let y : t.number ≡ m = eqb-true t.number m h in
        let c = count_without (is_numbered m) (is_numbered m) boards t e in
        let d : ◌≡◌ {A = ℕ} (cond (is_numbered m t) 1 0) 1 = ap (λ (z : Bool). cond z 1 0) h in
        let k : find (is_numbered m) (without_first (is_numbered m) boards) ≡ Some b = subst (λ (a : ℕ). find (is_numbered a) (without_first (is_numbered m) boards) ≡ Some b) (sym x ∙ y) f in
        absurd (find_none (is_numbered m) (without_first (is_numbered m) boards) b (omega (arith, c, few, d)) k)

    at : (o : Option Board) → find (is_numbered m) boards ≡ o → find (is_numbered n) boards ≡ Some b
    at None e = ap (find (is_numbered n)) (sym (without_missing (is_numbered m) boards e)) ∙ f
    at (Some t) e = taken t e (is_numbered n t) refl

left_boards : (t new : BoardTables) (board : ℕ) (things : List Held) → ((n : ℕ) → count_by (is_numbered n) t.boards ≤ 1) → new.boards ≡ boards_left t.boards board things → KeepsBoards t new
left_boards t new board things single e n b le f = at (list_any (is_of_board board) things) (ap (find (is_numbered n)) (sym e) ∙ f)
  where
    at : (z : Bool) → find (is_numbered n) (cond z t.boards (without_first (is_numbered board) t.boards)) ≡ Some b → find (is_numbered n) t.boards ≡ Some b
    at true g = g
    at false g = found_without t.boards n board b (single board) g

-- ---- calls

kept_asked : {A E : Type 0} (t : BoardTables) (o : Option E) (x : A) (new : BoardTables) → KeepsBoards t new → KeepsBoards t (asked o x new t).1
kept_asked t None x new h = h
kept_asked t (Some e) x new h = same_boards t t refl

kept_table : (s : Standing) (lists : Published) (party : List ℕ) (c : TableCall) → KeepsBoards s.tables (ask_tables s lists party c).standing.tables
kept_table s lists party (create f name k limits attributes entries) =
    kept_asked s.tables (first_of (create_refusals (same_key k) s.tables.boards name (map added_of entries))) (s.tables.last_board + 1)
    (created s.tables party f name (key_detail k) limits attributes (map added_of entries))
    (pushed_boards s.tables (created s.tables party f name (key_detail k) limits attributes (map added_of entries)) (new_board (s.tables.last_board + 1) name (key_detail k) limits attributes (map added_of entries)) refl refl)
kept_table s lists party (open_ f name k limits needs) =
    kept_asked s.tables (first_of (open_refusals bytes_eq s.tables.things party (board_named s.tables name) (key_detail k) limits needs)) (number_of (board_named s.tables name))
    (joined s.tables party f (board_named s.tables name))
    (same_boards s.tables (joined s.tables party f (board_named s.tables name)) refl)
kept_table s lists party (reader name x) =
    kept_asked s.tables (first_of (reader_refusals s.tables.things (board_at s.tables x.board))) (s.tables.last_port + 1) (with_reader s.tables x name)
    (same_boards s.tables (with_reader s.tables x name) refl)
kept_table s lists party (writer name x) =
    kept_asked s.tables (first_of (writer_refusals s.tables.things (board_at s.tables x.board))) (s.tables.last_port + 1) (with_writer s.tables x name)
    (same_boards s.tables (with_writer s.tables x name) refl)
kept_table s lists party (entry name x k type) =
    kept_asked s.tables (first_of (entry_refusals (entry_found (board_at s.tables x.board) (keeps_key k) (value_detail type)))) (id_of (entry_found (board_at s.tables x.board) (keeps_key k) (value_detail type)))
    (with_read_handle s.tables x name (entry_found (board_at s.tables x.board) (keeps_key k) (value_detail type)))
    (same_boards s.tables (with_read_handle s.tables x name (entry_found (board_at s.tables x.board) (keeps_key k) (value_detail type))) refl)
kept_table s lists party (entry_mut name x k type) =
    kept_asked s.tables (first_of (entry_mut_refusals s.tables.things x.board (entry_found (board_at s.tables x.board) (keeps_key k) (value_detail type)))) (id_of (entry_found (board_at s.tables x.board) (keeps_key k) (value_detail type)))
    (with_write_handle s.tables x name (entry_found (board_at s.tables x.board) (keeps_key k) (value_detail type)))
    (same_boards s.tables (with_write_handle s.tables x name (entry_found (board_at s.tables x.board) (keeps_key k) (value_detail type))) refl)
kept_table s lists party (loan l) = same_boards s.tables (ask_tables s lists party (loan l)).standing.tables refl
kept_table s lists party (discard l) = same_boards s.tables (ask_tables s lists party (discard l)).standing.tables refl
kept_table s lists party (keys x) = same_boards s.tables s.tables refl
kept_table s lists party (nodes x) = same_boards s.tables s.tables refl
kept_table s lists party (info x) = same_boards s.tables s.tables refl
kept_table s lists party (id x) = same_boards s.tables s.tables refl
kept_table s lists party (gen x) = same_boards s.tables s.tables refl

kept_value : (s : Standing) (party : List ℕ) (f : Fetch) (ws : List ℕ) (g : ℕ) (name : Option (List ℕ)) → KeepsBoards s.tables (with_fetched s party f ws g name).tables
kept_value s party f ws g None = same_boards s.tables s.tables refl
kept_value s party f ws g (Some n) = same_boards s.tables s.tables refl

kept_ask : (s : Standing) (lists : Published) (party : List ℕ) (q : Request) → KeepsBoards s.tables (ask s lists party q).standing.tables
kept_ask s lists party (table c) = kept_table s lists party c
kept_ask s lists party (get f) = kept_value s party f (latest (lists f.board f.entry)) (length (lists f.board f.entry)) f.name
kept_ask s lists party (fresh l) = same_boards s.tables s.tables refl
kept_ask s lists party (update u) = same_boards s.tables s.tables refl
kept_ask s lists party (put l i w) = same_boards s.tables s.tables refl
kept_ask s lists party (publish l) = same_boards s.tables (ask s lists party (publish l)).standing.tables refl
kept_ask s lists party (fill l v) = same_boards s.tables (ask s lists party (fill l v)).standing.tables refl

kept_release : (t : BoardTables) (party name : List ℕ) (o : Option Held) → ((n : ℕ) → count_by (is_numbered n) t.boards ≤ 1) → KeepsBoards t (released_thing t party name o)
kept_release t party name None single = same_boards t t refl
kept_release t party name (Some x) single = left_boards t (released_thing t party name (Some x)) x.board (without_first (is_held_as party name) t.things) single refl

-- ---- lines

pub line_boards : (s : State) (l : Line) (a : Answer) → IsRight s l a → Sound s → KeepsBoards s.standing.tables (after s l a).standing.tables
line_boards s l a r sound = after_cases (λ (x : State). KeepsBoards s.standing.tables x.standing.tables) s l a r
    (none s.standing.tables)
    (λ party c _ _. none s.standing.tables)
    (λ party. none s.standing.tables)
    (λ party name _. kept_release s.standing.tables party name (thing_of s.standing.tables.things party name) sound.boards.single)
    (λ party c x _ _. none s.standing.tables)
    (λ party c x t _ _. kept_ask s.standing s.published party c.request)
  where
    none : (t : BoardTables) → KeepsBoards t t
    none t = same_boards t t refl

pub session_boards : (pairs : Session) (s : State) → IsLawfulFrom s pairs → Sound s → KeepsBoards s.standing.tables (state_after s pairs).standing.tables
session_boards [] s h sound n b le f = f
session_boards (x ∷ xs) s h sound n b le f =
    let g = line_growth s x.0 x.1 n 0 le h.0 in
    let k = session_boards xs (after s x.0 x.1) h.1 (sound_after s x.0 x.1 h.0 sound) n b (omega (arith, g.drawn)) f in
    line_boards s x.0 x.1 h.0 sound n b le k

-- ---- a board that stands

kept_same : (t new : BoardTables) (n : ℕ) (b : Board) → KeepsBoards t new → n ≤ t.last_board → board_at t n ≡ Some b → IfSome (board_at new n) (λ c. c ≡ b)
kept_same t new n b keeps le e = at (board_at new n) (keeps n)
  where
    at : (o : Option Board) → ((c : Board) → n ≤ t.last_board → o ≡ Some c → board_at t n ≡ Some c) → IfSome o (λ c. c ≡ b)
    at None k = tt
    at (Some c) k = let f = k c le refl in cc (e, f)

pub boards_stay : BoardsStay
boards_stay s l a n b sound r e = kept_same s.standing.tables (after s l a).standing.tables n b (line_boards s l a r sound) (sound.boards.numbered n b e) e

pub numbers_of_one : NumbersAreOfOneBoard
numbers_of_one s pairs n b sound h e = kept_same s.standing.tables (state_after s pairs).standing.tables n b (session_boards pairs s h sound) (sound.boards.numbered n b e) e

pub never_again : NumbersAreNeverUsedAgain
never_again s pairs n sound h le none = at (board_at (state_after s pairs).standing.tables n) refl
  where
    at : (o : Option Board) → board_at (state_after s pairs).standing.tables n ≡ o → o ≡ None
    at None e = refl
    at (Some b) e = let was = session_boards pairs s h sound n b le e in absurd cc

pub names_of_one : NamesAreOfOneBoard
names_of_one pairs n m b c h e f same =
    let boards = (state_after start pairs).standing.tables.boards in
    let named = (sound_session pairs h).boards.named b.name in
    let one : find (has_name b.name) boards ≡ Some b = find_only (has_name b.name) (is_numbered n) boards b named e ((bytes_eq-Decides b.name b.name).1 refl) in
    let other : find (has_name b.name) boards ≡ Some c = find_only (has_name b.name) (is_numbered m) boards c named f ((bytes_eq-Decides c.name b.name).1 (sym same)) in
    let are : b ≡ c = cc (one, other) in
    sym (eqb-true b.number n (find_true (is_numbered n) boards b e)) ∙ ap (λ (x : Board). x.number) are ∙ eqb-true c.number m (find_true (is_numbered m) boards c f)
