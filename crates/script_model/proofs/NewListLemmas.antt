-- The lists of boards that weren't drawn before a line.
use Rattle.std.proofs.Common.{◌≡◌, ℕ, zero, suc, ◌+◌, ◌<◌, Bool, cond, List, [], ◌∷◌, length, map, arith, refl, sym, ap, subst, ◌∙◌, Option, Some, None, inl, inr}
use Rattle.std.specs.Prelude.{◌⊎◌, is_some, slice_get}
use Rattle.std.specs.Str.{bytes_eq}
use Rattle.std.proofs.lemmas.Bool.{cases_eq, eq-eqb, ne_eqb}
use Rattle.board_layout.specs.Layout.{places_from}
use Rattle.board_cell_model.specs.declared.access.Access.{Access}
use Rattle.board_model.specs.declared.answer.Answer.{Answer}
use Rattle.board_model.specs.declared.answer.Reply.{Reply}
use Rattle.board_model.specs.declared.answer.Reply.TheVariants as reply
use Rattle.board_model.specs.declared.attributes.Attribute.{Attribute}
use Rattle.board_model.specs.declared.line.Line.{Line}
use Rattle.board_model.specs.declared.tables.Board.{Board}
use Rattle.board_model.specs.declared.tables.NewLimits.{NewLimits}
use Rattle.board_model.specs.declared.value.AddedEntry.{AddedEntry}
use Rattle.board_model.specs.declared.value.KeyType.{KeyType}
use Rattle.board_names.specs.declared.errors.boards.BlackboardCreateError.{BlackboardCreateError}
use Rattle.board_model.specs.TypeTable.{key_detail, same_key, value_detail}
use Rattle.board_model.specs.Tables.{board_at, board_named, entries_of, entry_at, entry_found, entry_in, is_numbered, new_board, shapes_of}
use Rattle.board_model.specs.TableCalls.{asked, create_refusals, created, entry_mut_refusals, entry_refusals, first_of, id_of, joined, number_of, open_refusals, reader_refusals, with_read_handle, with_reader, with_write_handle, with_writer, writer_refusals}
use Rattle.board_model.specs.Things.{Held, Standing, thing_of}
use Rattle.board_model.specs.Requests.{Fetch, Request, create, discard, entry, entry_mut, fill, fresh, gen, get, id, info, keys, loan, nodes, open_, publish, put, reader, request_of, table, update, writer}
use Rattle.board_model.specs.Replies.{added_of, ask, dropped, first_list, keeps_key, latest, lists_after, number_or, released_thing, with_fetched, with_first_values}
use Rattle.board_model.specs.Parties.{begun, gone, with_party}
use Rattle.board_model.specs.LawfulSession.{IsRight, State, after, stepped}
use Rattle.board_model.specs.Sound.{BoardTables, Sound}
use Rattle.board_model.proofs.LineCases.{after_cases}
use Rattle.board_model.proofs.SoundLemmas.{sound_after}
use Rattle.board_model.proofs.ThingLemmas.{find_push_here, find_push_other}
use Rattle.script_model.specs.declared.line.ScriptLine.{ScriptLine}
use Rattle.script_model.specs.declared.line.ScriptLine.TheVariants as line
use Rattle.script_model.specs.ScriptAnswers.{ScriptAnswer}
use Rattle.script_model.specs.ScriptTurns.{EventTurn, turn_of}
use Rattle.script_model.specs.ScriptSession.{after_turn}
use Rattle.script_model.specs.LawsOfRules.{IsRuled}
use Rattle.script_model.specs.LawsOfLines.{NewBoardsHaveOneValueEach}
use Rattle.script_model.proofs.RuleLemmas.{ruled}

-- one value where there is an entry
abbrev listed : {A : Type 0} → Option A → ℕ
listed o = cond (is_some o) 1 0

abbrev IsListed : State → ℕ → ℕ → Type 0
IsListed s b i = length (s.published b i) ≡ listed (entry_at s.standing.tables b i)

-- a board that wasn't drawn doesn't stand, and has no lists
missing : (s : State) (b : ℕ) → Sound s → s.standing.tables.last_board < b → board_at s.standing.tables b ≡ None
missing s b sound lt = at (board_at s.standing.tables b) refl
  where
    at : (o : Option Board) → board_at s.standing.tables b ≡ o → o ≡ None
    at None e = refl
    at (Some x) e = absurd (omega (arith, lt, sound.boards.numbered b x e))

undrawn : (s : State) (b i : ℕ) → Sound s → s.standing.tables.last_board < b → IsListed s b i
undrawn s b i sound lt =
    let none : listed (entry_at s.standing.tables b i) ≡ listed (entry_in None i) = ap (λ (o : Option Board). listed (entry_in o i)) (missing s b sound lt) in
    ap length (sound.boards.unused b i lt) ∙ sym none

-- ---- a new board

-- each added entry is one of the board's
same_entries : (entries : List AddedEntry) (i at : ℕ) → is_some (slice_get (entries_of (places_from at (shapes_of (map added_of entries))) (map added_of entries)) i) ≡ is_some (slice_get entries i)
same_entries [] i at = refl
same_entries (e ∷ es) zero at = refl
same_entries (e ∷ es) (suc i) at = same_entries es i _

first_size : (o : Option AddedEntry) → length (first_list o) ≡ listed o
first_size None = refl
first_size (Some e) = refl

module _ (s : State) (sound : Sound s) (party f name : List ℕ) (k : KeyType) (limits : NewLimits) (attributes : List Attribute) (entries : List AddedEntry) (b i : ℕ) (lt : s.standing.tables.last_board < b) where
  abbrev number : ℕ
  number = s.standing.tables.last_board + 1

  abbrev board : Board
  board = new_board number name (key_detail k) limits attributes (map added_of entries)

  abbrev new_tables : BoardTables
  new_tables = created s.standing.tables party f name (key_detail k) limits attributes (map added_of entries)

  made : (b ≡ number) ⊎ (b ≡ number → ⊥) → length (with_first_values s.published number entries b i) ≡ listed (entry_at new_tables b i)
  made (inl e) =
      let here : board_at new_tables b ≡ Some board = find_push_here (is_numbered b) s.standing.tables.boards board (missing s b sound lt) (eq-eqb number b (sym e)) in
      let list : length (with_first_values s.published number entries b i) ≡ length (first_list (slice_get entries i)) = ap (λ (z : Bool). length (cond z (first_list (slice_get entries i)) (s.published b i))) (eq-eqb b number e) in
      list ∙ first_size (slice_get entries i) ∙ ap (λ (z : Bool). cond z 1 0) (sym (same_entries entries i 0)) ∙ ap (λ (o : Option Board). listed (entry_in o i)) (sym here)
  made (inr ne) =
      let other : board_at new_tables b ≡ board_at s.standing.tables b = find_push_other (is_numbered b) s.standing.tables.boards board (ne_eqb number b (λ e. ne (sym e))) in
      let list : length (with_first_values s.published number entries b i) ≡ length (s.published b i) = ap (λ (z : Bool). length (cond z (first_list (slice_get entries i)) (s.published b i))) (ne_eqb b number ne) in
      list ∙ undrawn s b i sound lt ∙ ap (λ (o : Option Board). listed (entry_in o i)) (sym other)

  create_listed : (o : Option BlackboardCreateError)
      → length (lists_after s.published (table (create f name k limits attributes entries)) (number_or reply.CreateError (asked o number new_tables s.standing.tables).0) b i) ≡ listed (entry_at (asked o number new_tables s.standing.tables).1 b i)
  create_listed (Some e) = undrawn s b i sound lt
  create_listed None = made (cases_eq b number)

-- ---- one call

same_last : {A E : Type 0} (t : BoardTables) (o : Option E) (x : A) (new : BoardTables) → new.last_board ≡ t.last_board → (asked o x new t).1.last_board ≡ t.last_board
same_last t None x new e = e
same_last t (Some error) x new e = refl

fetched_last : (s : Standing) (party : List ℕ) (f : Fetch) (ws : List ℕ) (g : ℕ) (name : Option (List ℕ)) → (with_fetched s party f ws g name).tables.last_board ≡ s.tables.last_board
fetched_last s party f ws g None = refl
fetched_last s party f ws g (Some n) = refl

-- after the last step of a call of this request
abbrev Told : State → List ℕ → List Access → ℕ → Access → Reply → Request → State
Told s party so_far passed a t q = stepped s party (record { request = q; so_far = so_far; passed = passed }) a (Some t)

told_listed : (s : State) (party : List ℕ) (q : Request) (so_far : List Access) (passed : ℕ) (a : Access) (t : Reply) (b i : ℕ) → Sound s → s.standing.tables.last_board < b → t ≡ (ask s.standing s.published party q).reply
    → Sound (Told s party so_far passed a t q) → IsListed (Told s party so_far passed a t q) b i
told_listed s party q so_far passed a t b i sound lt = at q
  where
    at : (q : Request) → t ≡ (ask s.standing s.published party q).reply → Sound (Told s party so_far passed a t q) → IsListed (Told s party so_far passed a t q) b i
    at (table (create f name k limits attributes entries)) e h =
        ap (λ (x : Reply). length (lists_after s.published (table (create f name k limits attributes entries)) x b i)) e
        ∙ create_listed s sound party f name k limits attributes entries b i lt (first_of (create_refusals (same_key k) s.standing.tables.boards name (map added_of entries)))
    at (table (open_ f name k limits needs)) e h =
        undrawn (Told s party so_far passed a t (table (open_ f name k limits needs))) b i h
        (omega (arith, lt, same_last s.standing.tables (first_of (open_refusals bytes_eq s.standing.tables.things party (board_named s.standing.tables name) (key_detail k) limits needs)) (number_of (board_named s.standing.tables name)) (joined s.standing.tables party f (board_named s.standing.tables name)) refl))
    at (table (reader name x)) e h =
        undrawn (Told s party so_far passed a t (table (reader name x))) b i h
        (omega (arith, lt, same_last s.standing.tables (first_of (reader_refusals s.standing.tables.things (board_at s.standing.tables x.board))) (s.standing.tables.last_port + 1) (with_reader s.standing.tables x name) refl))
    at (table (writer name x)) e h =
        undrawn (Told s party so_far passed a t (table (writer name x))) b i h
        (omega (arith, lt, same_last s.standing.tables (first_of (writer_refusals s.standing.tables.things (board_at s.standing.tables x.board))) (s.standing.tables.last_port + 1) (with_writer s.standing.tables x name) refl))
    at (table (entry name x k type)) e h =
        undrawn (Told s party so_far passed a t (table (entry name x k type))) b i h
        (omega (arith, lt, same_last s.standing.tables (first_of (entry_refusals (entry_found (board_at s.standing.tables x.board) (keeps_key k) (value_detail type)))) (id_of (entry_found (board_at s.standing.tables x.board) (keeps_key k) (value_detail type))) (with_read_handle s.standing.tables x name (entry_found (board_at s.standing.tables x.board) (keeps_key k) (value_detail type))) refl))
    at (table (entry_mut name x k type)) e h =
        undrawn (Told s party so_far passed a t (table (entry_mut name x k type))) b i h
        (omega (arith, lt, same_last s.standing.tables (first_of (entry_mut_refusals s.standing.tables.things x.board (entry_found (board_at s.standing.tables x.board) (keeps_key k) (value_detail type)))) (id_of (entry_found (board_at s.standing.tables x.board) (keeps_key k) (value_detail type))) (with_write_handle s.standing.tables x name (entry_found (board_at s.standing.tables x.board) (keeps_key k) (value_detail type))) refl))
    at (table (loan l)) e h = undrawn (Told s party so_far passed a t (table (loan l))) b i h lt
    at (table (discard l)) e h = undrawn (Told s party so_far passed a t (table (discard l))) b i h lt
    at (table (keys x)) e h = undrawn (Told s party so_far passed a t (table (keys x))) b i h lt
    at (table (nodes x)) e h = undrawn (Told s party so_far passed a t (table (nodes x))) b i h lt
    at (table (info x)) e h = undrawn (Told s party so_far passed a t (table (info x))) b i h lt
    at (table (id x)) e h = undrawn (Told s party so_far passed a t (table (id x))) b i h lt
    at (table (gen x)) e h = undrawn (Told s party so_far passed a t (table (gen x))) b i h lt
    at (get f) e h = undrawn (Told s party so_far passed a t (get f)) b i h (omega (arith, lt, fetched_last s.standing party f (latest (s.published f.board f.entry)) (length (s.published f.board f.entry)) f.name))
    at (fresh l) e h = undrawn (Told s party so_far passed a t (fresh l)) b i h lt
    at (update u) e h = undrawn (Told s party so_far passed a t (update u)) b i h lt
    at (put l j w) e h = undrawn (Told s party so_far passed a t (put l j w)) b i h lt
    at (publish l) e h = undrawn (Told s party so_far passed a t (publish l)) b i h lt
    at (fill l v) e h = undrawn (Told s party so_far passed a t (fill l v)) b i h lt

-- ---- one line

released_last : (t : BoardTables) (party name : List ℕ) (o : Option Held) → (released_thing t party name o).last_board ≡ t.last_board
released_last t party name None = refl
released_last t party name (Some x) = refl

line_listed : (s : State) (l : Line) (a : Answer) (b i : ℕ) → IsRight s l a → Sound s → s.standing.tables.last_board < b → IsListed (after s l a) b i
line_listed s l a b i r sound lt = after_cases (λ (new : State). Sound new → IsListed new b i) s l a r
    (λ h. undrawn s b i h lt)
    (λ party c _ _ h. undrawn (record s { parties = with_party s.parties party (begun (request_of s.standing s.published party c)) }) b i h lt)
    (λ party h. undrawn (record s { parties = with_party s.parties party gone }) b i h lt)
    (λ party name _ h. undrawn (record s { standing = dropped s.standing party name }) b i h (omega (arith, lt, released_last s.standing.tables party name (thing_of s.standing.tables.things party name))))
    (λ party c x _ _ h. undrawn (stepped s party c x None) b i h lt)
    (λ party c x t _ st h. told_listed s party c.request c.so_far c.passed x t b i sound lt st.reply.reply h)
    (sound_after s l a r sound)

pub new_boards : NewBoardsHaveOneValueEach
new_boards s l a b i sound ok lt = at l a (turn_of s l) (ruled s l a ok)
  where
    at : (l : ScriptLine) (a : ScriptAnswer) (o : Option EventTurn) → IsRuled s l a o → IsListed (after_turn s l a o).boards b i
    at l a (Some t) r = undrawn s.boards b i sound lt
    at (line.Board l) a None r = subst (λ (x : ScriptAnswer). IsListed (after_turn s (line.Board l) x None).boards b i) (sym r.is) (line_listed s.boards l r.answer b i r.right sound lt)
    at (line.Event p q) a None r = absurd r
    at (line.Expire p) a None r = absurd r
