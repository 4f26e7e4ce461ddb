-- The call of a running party owes an access, and the words of boards that stand are in the machine.
use Rattle.std.proofs.Common.{◌≡◌, ℕ, ◌<◌, ◌≤◌, true, false, List, [], length, get_or, set, arith, refl, sym, ap, subst, ◌∙◌, Option, Some, None}
use Rattle.std.specs.Prelude.{find, is_some}
use Rattle.std.specs.List.{count_by, position_from}
use Rattle.std.proofs.lemmas.List.{length-map}
use Rattle.board_model.specs.declared.tables.Board.{Board}
use Rattle.board_cell_model.specs.OwedAccesses.{Reading, finished, is_finished, opening, trying}
use Rattle.board_model.specs.Memory.{store}
use Rattle.board_model.specs.Requests.{Request, fill, get, update}
use Rattle.board_model.specs.Tables.{board_at, is_numbered}
use Rattle.board_model.specs.Parties.{Running, reading}
use Rattle.board_model.specs.LawfulSession.{State}
use Rattle.board_model.specs.Sound.{IsCalling, IsReading, Sound}
use Rattle.board_model.proofs.RunningLemmas.{runs}
use Rattle.board_model.proofs.StoreLemmas.{store_here}
use Rattle.board_cell.specs.Calls.{Asking, Getting, Publishing, Putting, Updating}
use Rattle.script_parties.specs.Parties.{HasWord, IsStored, Parties, words_of_boards}
use Rattle.script_boards.specs.declared.machine.BoardMachine.{BoardMachine}
use Rattle.script_boards.specs.declared.machine.Task.{Task}
use Rattle.script_boards.specs.declared.machine.Task.TheVariants as task
use Rattle.script_boards.specs.Machine.{IsTaskOf, Represents}
use Rattle.script_boards.specs.Steps.{CanGoOn}
use Rattle.script_boards.proofs.Memories.{words-set, words_at}
use Rattle.script_boards.proofs.PartyTasks.{IsRunning}
use Rattle.script_boards.proofs.Rows.{first_at, found_somewhere}

-- ---- calls that run

-- a get that runs isn't finished
not_finished : (list : List (List ℕ)) (w n p : ℕ) (x : Reading) → IsReading list w n p x → is_finished x ≡ false
not_finished list w n p opening h = refl
not_finished list w n p (trying c words) h = refl
not_finished list w n p (finished c words) h = absurd h

goes_on : (s : State) (party : List ℕ) (r : Running) (t : Task) → IsTaskOf t r.request r.so_far → IsCalling s party r r.request → CanGoOn t
goes_on s party r (task.Table t) h c = tt
goes_on s party r (task.Get board call type name) h c =
    let f = h.fetch in
    let p : IsCalling s party r (get f) = subst (λ (q : Request). IsCalling s party r q) h.request c in
    subst (λ (x : Getting). is_finished x.reading ≡ false) (sym h.call_is) (not_finished (s.published f.board f.entry) f.shape.words (length r.so_far) r.passed (reading f.shape.words r.so_far) p.try)
goes_on s party r (task.Fresh board call) h c = ap (λ (x : Asking). x.counter) h.call_is
goes_on s party r (task.Update board call) h c =
    let p : IsCalling s party r (update h.publication) = subst (λ (q : Request). IsCalling s party r q) h.request c in
    subst (λ (x : Updating). x.written ≤ length x.words) (sym h.call_is) (omega (arith, p.steps, p.size))
goes_on s party r (task.Put board call loan index word) h c = ap (λ (x : Putting). x.done) h.call_is
goes_on s party r (task.Publish board call loan handle) h c = ap (λ (x : Publishing). x.done) h.call_is
goes_on s party r (task.Fill board call loan handle) h c =
    let p : IsCalling s party r (fill h.lending h.value) = subst (λ (q : Request). IsCalling s party r q) h.request c in
    subst (λ (x : Updating). x.written ≤ length x.words) (sym h.call_is) (omega (arith, p.1.steps, p.1.size))
goes_on s party r task.Gone h c = absurd h

-- ---- boards

abbrev a_board : Board → Option Board
a_board b = Some b

abbrev a_place : ℕ → Option ℕ
a_place n = Some n

some_board : (o : Option Board) → is_some o ≡ true → (b : Board) × (o ≡ Some b)
some_board None e = absurd cc
some_board (Some b) e = (b, refl)

module _ {C : Type 0} (m : BoardMachine C) (s : State) (rep : Represents m s) (sound : Sound s) where
  -- a board of the state stands in the machine
  pub record StandsAt (n : ℕ) : Type 0 where
    pub board : Board
    pub place : ℕ
    pub stands : a_place place ≡ position_from (is_numbered n) 0 m.domain.tables.boards
    pub inside : place < length m.domain.words
    pub words : (d : List ℕ) → get_or m.domain.words place d ≡ s.memory n

  pub stands_at : (n : ℕ) → is_some (board_at s.standing.tables n) ≡ true → StandsAt n
  stands_at n h =
      let b = some_board (board_at s.standing.tables n) h in
      let f : find (is_numbered n) m.domain.tables.boards ≡ Some b.0 = ap (λ t. find (is_numbered n) t.boards) (sym rep.tables) ∙ b.1 in
      let p = found_somewhere (is_numbered n) 0 m.domain.tables.boards b.0 f in
      let first = first_at (is_numbered n) p.0 m.domain.tables.boards (sym p.1) in
      let l : length m.domain.words ≡ length m.domain.tables.boards = ap length rep.words ∙ length-map m.domain.tables.boards (λ (x : Board). s.memory x.number) in
      record {
        board = b.0;
        place = p.0;
        stands = sym p.1;
        inside = omega (arith, first.inside, l);
        words = λ d. ap (λ (ws : List (List ℕ)). get_or ws p.0 d) rep.words ∙ words_at s.memory n m.domain.tables.boards p.0 d (sym p.1);
      }

  pub has_word : (n word : ℕ) → is_some (board_at s.standing.tables n) ≡ true → word < length (s.memory n) → HasWord m.domain n word
  has_word n word h lt =
      let at = stands_at n h in
      record {
        place = at.place;
        stands = at.stands;
        inside = at.inside;
        word_inside = λ d. subst (λ (ws : List ℕ). word < length ws) (sym (at.words d)) lt;
      }

  -- the words after a write
  pub stored_words : (new : Parties) (n word value : ℕ) → is_some (board_at s.standing.tables n) ≡ true → IsStored m.domain new n word value
      → new.words ≡ words_of_boards (store s.memory n word value) m.domain.tables.boards
  stored_words new n word value h stored =
      let at = stands_at n h in
      let single = subst (λ t. count_by (is_numbered n) t.boards ≤ 1) rep.tables (sound.boards.single n) in
      stored.words at.place [] at.stands
      ∙ ap (λ (w : List ℕ). set m.domain.words at.place (set w word value)) (at.words [])
      ∙ ap (λ (ws : List (List ℕ)). set ws at.place (set (s.memory n) word value)) rep.words
      ∙ sym (words-set s.memory (store s.memory n word value) n (λ k e. rw e refl) (set (s.memory n) word value) (store_here s.memory n word value n refl) m.domain.tables.boards at.place at.stands single)

module _ (s : State) (sound : Sound s) (party : List ℕ) (own : Task) (at : IsRunning s.parties party own) where
  calling : IsCalling s party at.r at.r.request
  calling = runs s party at.r at.r.request sound at.runs refl

  pub task_goes_on : CanGoOn own
  task_goes_on = goes_on s party at.r own at.task calling
