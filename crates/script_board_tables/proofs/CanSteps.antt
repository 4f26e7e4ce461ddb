-- What runs in a sound state can go on.
use Rattle.std.proofs.Common.{◌≡◌, ℕ, ◌+◌, ◌-◌, ◌<◌, ◌≤◌, ◌^◌, false, List, length, Option, Some, refl, sym, ap, ◌∙◌, subst, arith}
use Rattle.std.specs.List.{AllByRecursion}
use Rattle.board_layout.specs.declared.shape.CellShape.{CellShape}
use Rattle.board_cell_model.specs.OwedAccesses as model
use Rattle.board_cell_model.specs.OwedAccesses.{owed_read, owed_write, spare_at, to_read, to_write}
use Rattle.board_model.specs.declared.tables.Board.{Board}
use Rattle.board_model.specs.LawfulSession.{State}
use Rattle.board_model.specs.LawsOfForms.{IsFormedBoard}
use Rattle.board_model.specs.Parties.{Running, owed, reading, running}
use Rattle.board_model.specs.Requests as requests
use Rattle.board_model.specs.Requests.{Published, Request}
use Rattle.board_model.specs.Sound.{IsCalling, IsCell, IsEntryOf, IsGetting, IsPublishing, IsReading}
use Rattle.board_model.specs.Things.{Standing}
use Rattle.board_model.specs.TypeTable.{value_words}
use Rattle.board_model.proofs.BoundLaws.{read_in_board, write_in_board}
use Rattle.board_model.proofs.RunningLemmas.{runs}
use Rattle.script_board_rows.specs.CellCalls.{IsSmall, IsWithin, kept_of}
use Rattle.script_board_rows.specs.declared.cell_calls.Reading.{Reading}
use Rattle.script_board_rows.specs.declared.cell_calls.Reading.TheVariants.{Opening, Trying}
use Rattle.script_board_tables.specs.declared.calls.Publishing.{Publishing}
use Rattle.script_board_tables.specs.declared.calls.BoardCall.{BoardCall}
use Rattle.script_board_tables.specs.declared.calls.BoardCall.TheVariants as call
use Rattle.script_board_tables.specs.declared.tables.BoardTables.{BoardTables}
use Rattle.script_board_tables.specs.Calls.{HasCome, IsFor, lending}
use Rattle.script_board_tables.specs.LawsOfSteps.{IsOf}
use Rattle.script_board_tables.specs.Steps.{CanStep}
use Rattle.script_board_tables.specs.Tables.{memory_of, published_of}

abbrev a_reading : Reading → Option Reading
a_reading r = Some r

read_within : (shape : CellShape) (list : List (List ℕ)) (n p : ℕ) (x : model.Reading) (r : Reading) → IsReading list shape.words n p x → kept_of x ≡ a_reading r → IsWithin shape r
read_within shape list n p model.opening r h e = (let same : Opening ≡ r = cc in subst (IsWithin shape) same tt)
read_within shape list n p (model.trying c words) r h e = (let same : Trying c (length words) ≡ r = cc in subst (IsWithin shape) same h.size)
read_within shape list n p (model.finished c words) r h e = absurd h

module _ (t : BoardTables) (s : State) (n : ℕ) (party : List ℕ) (r : Running) (of : IsOf t s n) (runs_r : s.parties party ≡ running r) where
  words_are : (b : ℕ) → length (memory_of t b) ≡ length (s.memory b)
  words_are b = ap (λ (m : ℕ → List ℕ). length (m b)) of.has.memory

  lists_are : (b i : ℕ) → length (published_of t b i) ≡ length (s.published b i)
  lists_are b i = ap (λ (l : Published). length (l b i)) of.has.lists

  calls : (q : Request) → r.request ≡ q → IsCalling s party r q
  calls q e = subst (IsCalling s party r) e (runs s party r r.request of.sound runs_r refl)

  cell : (b i : ℕ) (c : CellShape) → IsEntryOf s.standing.tables b i c → IsCell (s.memory b) c (s.published b i)
  cell b i c e = subst (λ (x : CellShape). IsCell (s.memory b) x (s.published b i)) (sym e.shape) (of.sound.boards.cells b i e.entry e.found)

  small : (b i : ℕ) (c : CellShape) → IsEntryOf s.standing.tables b i c → IsSmall c
  small b i c e =
      let k = cell b i c e in
      let short = of.sound.boards.short b i e.entry e.found in
      omega (arith, k.inside, short)

  listed : (b i : ℕ) (c : CellShape) → IsEntryOf s.standing.tables b i c → 0 < length (published_of t b i)
  listed b i c e = (let k = cell b i c e in omega (arith, k.some, lists_are b i))

  room : (b i g : ℕ) → g ≡ length (s.published b i) → g < 2 ^ 64 - 1
  room b i g e = omega (arith, e, of.within.lists b i, of.few)

  read_low : (b word : ℕ) → owed r.request r.so_far ≡ to_read b word → word < length (memory_of t b)
  read_low b word e = (let h = read_in_board s party r b word of.sound runs_r e in omega (arith, h.inside, words_are b))

  write_low : (b word value : ℕ) → owed r.request r.so_far ≡ to_write b word value → word < length (memory_of t b)
  write_low b word value e = (let h = write_in_board s party r b word value of.sound runs_r e in omega (arith, h.inside, words_are b))

  owed_of_request : (q : Request) → r.request ≡ q → owed r.request r.so_far ≡ owed q r.so_far
  owed_of_request q e = ap (λ (x : Request). owed x r.so_far) e

  can_publish : (p : Publishing) (words : List ℕ) → p.words ≡ words → p.written ≡ length r.so_far
      → owed r.request r.so_far ≡ owed_write p.board p.shape p.generation words (length r.so_far)
      → IsEntryOf s.standing.tables p.board p.entry p.shape → p.generation ≡ length (s.published p.board p.entry) → length words ≡ p.shape.words → length r.so_far ≤ p.shape.words
      → CanStep t (call.Update p)
  can_publish p words same come owes place generation size steps =
      let len = ap length same in
      record {
        small = small p.board p.entry p.shape place;
        room = room p.board p.entry p.generation generation;
        within = omega (arith, come, steps, size, len);
        words = omega (arith, size, len);
        inside = λ word value h. write_low p.board word value
            (owes ∙ ap (λ (ws : List ℕ). owed_write p.board p.shape p.generation ws (length r.so_far)) (sym same) ∙ ap (λ (k : ℕ). owed_write p.board p.shape p.generation p.words k) (sym come) ∙ h p.board);
        listed = listed p.board p.entry p.shape place;
      }

  pub can_step : (c : BoardCall) → IsFor c r.request → HasCome c r.so_far → CanStep t c
  can_step (call.Table c) g come =
      let last : t.boards.last ≡ s.standing.tables.last_board = ap (λ (x : Standing). x.tables.last_board) of.has.standing in
      let port : t.last_port ≡ s.standing.tables.last_port = ap (λ (x : Standing). x.tables.last_port) of.has.standing in
      record {
        boards = omega (arith, last, of.within.boards, of.few);
        ports = omega (arith, port, of.within.ports, of.few);
        formed = subst (λ (bs : List Board). AllByRecursion IsFormedBoard bs) (sym (ap (λ (x : Standing). x.tables.boards) of.has.standing)) of.formed.tables.boards;
      }
  can_step (call.Loan l) g come = tt
  can_step (call.Discard l) g come = tt
  can_step (call.Get f k) g come =
      let q : requests.Fetch = record { board = f.board; entry = f.entry; shape = f.shape; type = g.type; handle = g.handle; name = f.value } in
      let p : IsGetting s party q r.so_far r.passed = calls (requests.get q) g.request in
      record {
        small = small f.board f.entry f.shape p.place;
        within = read_within f.shape (s.published f.board f.entry) (length r.so_far) r.passed (reading f.shape.words r.so_far) k p.try come;
        inside = λ word h. read_low f.board word (owed_of_request (requests.get q) g.request ∙ h f.board (reading f.shape.words r.so_far) come);
      }
  can_step (call.Fresh l) g come =
      let q : requests.Look = record { board = l.board; entry = l.entry; shape = l.shape; type = g.type; handle = g.handle; kept = g.kept; generation = l.generation } in
      record { inside = read_low l.board l.shape.first (owed_of_request (requests.fresh q) g.request) }
  can_step (call.Update p) g come =
      let q : requests.Publication = record { board = p.board; entry = p.entry; shape = p.shape; type = g.type; handle = g.handle; generation = p.generation; value = g.value } in
      let h : IsPublishing s party g.handle p.board p.entry p.shape p.generation (value_words g.value) (length r.so_far) false = calls (requests.update q) g.request in
      can_publish p (value_words g.value) g.words come (owed_of_request (requests.update q) g.request) h.writes.place h.writes.generation h.size h.steps
  can_step (call.Put l i w) g come =
      let h = calls (requests.put (lending g.type l) i w) g.request in
      record {
        small = small l.board l.entry l.shape h.1.writes.place;
        low = h.1.below;
        inside = write_low l.board (spare_at l.shape l.generation + i) w (owed_of_request (requests.put (lending g.type l) i w) g.request);
      }
  can_step (call.Publish l) g come =
      let h = calls (requests.publish (lending g.type l)) g.request in
      record {
        room = room l.board l.entry l.generation h.2.writes.generation;
        inside = write_low l.board l.shape.first (l.generation + 1) (owed_of_request (requests.publish (lending g.type l)) g.request);
        listed = listed l.board l.entry l.shape h.2.writes.place;
      }
  can_step (call.Fill p loan handle) g come =
      let q : requests.Lending = record { board = p.board; entry = p.entry; shape = p.shape; type = g.type; generation = p.generation; loan = loan; handle = handle; words = g.put_words } in
      let k = calls (requests.fill q g.value) g.request in
      can_publish p (value_words g.value) g.words come (owed_of_request (requests.fill q g.value) g.request) k.1.writes.place k.1.writes.generation k.1.size k.1.steps
