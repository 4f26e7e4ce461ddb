-- Words that are numbers of 64 bits.
use Rattle.std.proofs.Common.{◌≡◌, ℕ, zero, suc, ◌+◌, ◌-◌, ◌*◌, ◌^◌, ◌<◌, Bool, true, false, cond, List, [], ◌∷◌, ◌++◌, length, map, replicate, set, arith, refl, sym, subst, Option, Some, None}
use Rattle.std.specs.Prelude.{◌==◌, if◌then◌else◌, slice_index}
use Rattle.std.specs.List.{AllByRecursion}
use Rattle.std.specs.Str.{bytes_eq}
use Rattle.board_layout.specs.declared.shape.CellPlace.{CellPlace}
use Rattle.board_layout.specs.declared.shape.CellShape.{CellShape}
use Rattle.board_layout.specs.Layout.{opening_cell, opening_words, places_from}
use Rattle.board_cell_model.specs.declared.access.Access.{Access}
use Rattle.board_cell_model.specs.declared.access.Access.TheVariants as access
use Rattle.board_model.specs.declared.answer.Reply.{Reply}
use Rattle.board_model.specs.declared.answer.Reply.TheVariants as reply
use Rattle.board_model.specs.declared.attributes.Attribute.{Attribute}
use Rattle.board_model.specs.declared.line.Call.{Call}
use Rattle.board_model.specs.declared.line.Call.TheVariants as call
use Rattle.board_model.specs.declared.tables.NewLimits.{NewLimits}
use Rattle.board_model.specs.declared.value.AddedEntry.{AddedEntry}
use Rattle.board_model.specs.declared.value.KeyType.{KeyType}
use Rattle.board_model.specs.declared.value.Value.{Value}
use Rattle.board_model.specs.declared.value.Value.TheVariants as value
use Rattle.board_cell_model.specs.OwedAccesses.{spare_at}
use Rattle.board_cell_model.specs.OwedAccesses.{owed_of, owed_write, to_write}
use Rattle.board_model.specs.LineGrammar.{IsAddedEntry, IsCall, IsNumber, IsValue}
use Rattle.board_model.specs.TypeTable.{value_words}
use Rattle.board_model.specs.Tables.{shapes_of}
use Rattle.board_model.specs.Requests.{Published, Request, and_then, create, info, entry, entry_mut, fill, fresh, get, discard, handle_of, handled, identified, id, loan_of, open_, loan, keys, nodes, publish, put, reader, request_of, table, gen, update, writer}
use Rattle.board_model.specs.Replies.{added_of}
use Rattle.board_model.specs.declared.tables.ThingKind.TheVariants as thing_kind
use Rattle.board_model.specs.Things.{Standing, held_of_kind}
use Rattle.board_model.specs.Memory.{after_access, memory_after, opening_of, store, with_board}
use Rattle.board_model.specs.Parties.{Party, Running, begun, free, gone, notice, owed, running, with_party}
use Rattle.board_model.specs.LawfulSession.{start, after, Session, IsLawfulFrom, state_after, State}
use Rattle.board_model.specs.Sound.{IsCalling, Sound}
use Rattle.board_model.specs.LawsOfBounds.{AreNumbers, BeginsBounded, HasNumbers, IsWithin, LinesKeepNumbers, OwedWritesAreNumbers, RunsNumbers, SessionsKeepNumbers}
use Rattle.board_model.proofs.BoundLaws.{no_write}
use Rattle.board_model.proofs.RunningLemmas.{runs}
use Rattle.board_model.proofs.LineCases.{after_cases}
use Rattle.board_model.proofs.DrawLemmas.{line_within, within_start}
use Rattle.board_model.proofs.SoundLemmas.{sound_after, sound_start}

-- ---- lists of numbers

abbrev pub Below : List ℕ → Type 0
Below words = (j : ℕ) → IsNumber (slice_index words j)

pub below_none : Below []
below_none j = omega arith

below_cons : (x : ℕ) (xs : List ℕ) → IsNumber x → Below xs → Below (x ∷ xs)
below_cons x xs h k zero = h
below_cons x xs h k (suc j) = k j

below_append : (xs ys : List ℕ) → Below xs → Below ys → Below (xs ++ ys)
below_append [] ys h k = k
below_append (x ∷ xs) ys h k = below_cons x (xs ++ ys) (h zero) (below_append xs ys (λ j. h (suc j)) k)

below_zeros : (n : ℕ) → Below (replicate n 0)
below_zeros zero = below_none
below_zeros (suc n) = below_cons 0 (replicate n 0) (omega arith) (below_zeros n)

below_set : (xs : List ℕ) (i v : ℕ) → Below xs → IsNumber v → Below (set xs i v)
below_set [] i v h k = h
below_set (x ∷ xs) zero v h k = below_cons v xs k (λ j. h (suc j))
below_set (x ∷ xs) (suc i) v h k = below_cons x (set xs i v) (h zero) (below_set xs i v (λ j. h (suc j)) k)

below_value : (v : Value) → IsValue v → Below (value_words v)
below_value (value.Bool true) h = below_cons 1 [] (omega arith) below_none
below_value (value.Bool false) h = below_cons 0 [] (omega arith) below_none
below_value (value.U64 n) h = below_cons n [] h below_none
below_value (value.Q4 a b c d) h = below_cons a (b ∷ c ∷ d ∷ []) h.0 (below_cons b (c ∷ d ∷ []) h.1 (below_cons c (d ∷ []) h.2 (below_cons d [] h.3 below_none)))

-- ---- a new board

below_cell : (c : CellPlace) (v : List ℕ) → Below v → Below (opening_cell c v)
below_cell c v h = below_cons 1 (replicate (c.head - 1) 0 ++ (v ++ replicate c.words 0)) (omega arith)
    (below_append (replicate (c.head - 1) 0) (v ++ replicate c.words 0) (below_zeros (c.head - 1)) (below_append v (replicate c.words 0) h (below_zeros c.words)))

below_opening : (at : ℕ) (cells : List CellPlace) (entries : List AddedEntry) → AllByRecursion IsAddedEntry entries → Below (opening_words at cells (map (λ (e : AddedEntry). value_words e.value) entries))
below_opening at [] es h = below_none
below_opening at (c ∷ cs) [] h = below_none
below_opening at (c ∷ cs) (e ∷ es) h =
    below_append (replicate (c.first - at) 0) (opening_cell c (value_words e.value) ++ opening_words (c.first + c.head + 2 * c.words) cs (map (λ (e : AddedEntry). value_words e.value) es)) (below_zeros (c.first - at))
    (below_append (opening_cell c (value_words e.value)) (opening_words (c.first + c.head + 2 * c.words) cs (map (λ (e : AddedEntry). value_words e.value) es)) (below_cell c (value_words e.value) (below_value e.value h.0.value))
    (below_opening (c.first + c.head + 2 * c.words) cs es h.1))

below_new : (entries : List AddedEntry) → AllByRecursion IsAddedEntry entries → Below (opening_of entries)
below_new entries h = below_opening 0 (places_from 0 (shapes_of (map added_of entries))) entries h

-- ---- the memory

abbrev AreBelow : (ℕ → List ℕ) → Type 0
AreBelow memory = (b : ℕ) → Below (memory b)

below_store : (memory : ℕ → List ℕ) (board word v : ℕ) → AreBelow memory → IsNumber v → AreBelow (store memory board word v)
below_store memory board word v h k b = at (b == board)
  where
    at : (z : Bool) → Below (cond z (set (memory b) word v) (memory b))
    at true = below_set (memory b) word v (h b) k
    at false = h b

below_board : (memory : ℕ → List ℕ) (board : ℕ) (words : List ℕ) → AreBelow memory → Below words → AreBelow (with_board memory board words)
below_board memory board words h k b = at (b == board)
  where
    at : (z : Bool) → Below (cond z words (memory b))
    at true = k
    at false = h b

-- ---- what is owed

written : (c : CellShape) (g : ℕ) (words : List ℕ) (k b d i v : ℕ) → Below words → g < 2 ^ 63 → owed_write b c g words k ≡ to_write d i v → IsNumber v
written c g words k b d i v h lt e = at (k == length words) e
  where
    at : (z : Bool) → (if z then to_write b c.first (g + 1) else to_write b (spare_at c g + k) (slice_index words k)) ≡ to_write d i v → IsNumber v
    at true q =
        let x : g + 1 ≡ v = cc (q) in omega arith
    at false q =
        let x : slice_index words k ≡ v = cc (q) in subst IsNumber x (h k)

owed_number : (s : State) (party : List ℕ) (r : Running) (b i v n : ℕ) (q : Request) → IsWithin s n → n < 2 ^ 63 → HasNumbers q → IsCalling s party r q → owed q r.so_far ≡ to_write b i v → IsNumber v
owed_number s party r b i v n (table c) w lt h k e = absurd cc
owed_number s party r b i v n (get f) w lt h k e = absurd (no_write f.shape _ f.board b i v e)
owed_number s party r b i v n (fresh l) w lt h k e = absurd cc
owed_number s party r b i v n (update u) w lt h k e =
    written u.shape u.generation (value_words u.value) (length r.so_far) u.board b i v (below_value u.value h) (omega (arith, k.writes.generation, w.lists u.board u.entry)) e
owed_number s party r b i v n (put l j x) w lt h k e =
    let q : x ≡ v = cc in subst IsNumber q h
owed_number s party r b i v n (publish l) w lt h k e =
    let q : l.generation + 1 ≡ v = cc in omega (arith, k.2.writes.generation, w.lists l.board l.entry)
owed_number s party r b i v n (fill l x) w lt h k e =
    written l.shape l.generation (value_words x) (length r.so_far) l.board b i v (below_value x h) (omega (arith, k.1.writes.generation, w.lists l.board l.entry)) e

pub owed_numbers : OwedWritesAreNumbers
owed_numbers s party r b i v n sound w lt h run e = owed_number s party r b i v n r.request w lt (subst RunsNumbers run (h.calls party)) (runs s party r r.request sound run refl) e

-- ---- calls that begin

and_numbers : {A : Type 0} (o : Option A) (f : A → Option Request) → ((x : A) → RunsNumbers (begun (f x))) → RunsNumbers (begun (and_then o f))
and_numbers None f h = tt
and_numbers (Some x) f h = h x

begun_numbers : (s : Standing) (lists : Published) (party : List ℕ) (c : Call) → IsCall c → RunsNumbers (begun (request_of s lists party c))
begun_numbers s lists party (call.Create f name k limits attributes entries) h = h.4
begun_numbers s lists party (call.Open f name k limits needs) h = tt
begun_numbers s lists party (call.Reader r f) h = and_numbers (held_of_kind s thing_kind.Factory party f) (λ t. Some (table (reader r t))) (λ t. tt)
begun_numbers s lists party (call.Writer w f) h = and_numbers (held_of_kind s thing_kind.Factory party f) (λ t. Some (table (writer w t))) (λ t. tt)
begun_numbers s lists party (call.Entry n r k type) h = and_numbers (held_of_kind s thing_kind.Reader party r) (λ t. Some (table (entry n t k type))) (λ t. tt)
begun_numbers s lists party (call.EntryMut m w k type) h = and_numbers (held_of_kind s thing_kind.Writer party w) (λ t. Some (table (entry_mut m t k type))) (λ t. tt)
begun_numbers s lists party (call.Get n v) h = and_numbers (held_of_kind s thing_kind.ReadHandle party n) _ (λ t. and_numbers (handled s t) _ (λ e. tt))
begun_numbers s lists party (call.Fresh n v) h = and_numbers (held_of_kind s thing_kind.ReadHandle party n) _ (λ t. and_numbers (handled s t) _ (λ e. and_numbers (s.values party v) _ (λ k. tt)))
begun_numbers s lists party (call.Update m v) h = and_numbers (handle_of s party m) _ (λ t. and_numbers (handled s t) _ (λ e. h.1))
begun_numbers s lists party (call.Loan l m) h = and_numbers (handle_of s party m) _ (λ t. and_numbers (handled s t) _ (λ e. tt))
begun_numbers s lists party (call.Discard l m) h = and_numbers (loan_of s party l) _ (λ x. and_numbers (handled s x.0) _ (λ e. tt))
begun_numbers s lists party (call.Put l i w) h = and_numbers (loan_of s party l) _ (λ x. and_numbers (handled s x.0) _ (λ e. h.2))
begun_numbers s lists party (call.Publish l m) h = and_numbers (loan_of s party l) _ (λ x. and_numbers (handled s x.0) _ (λ e. tt))
begun_numbers s lists party (call.Fill l m v) h = and_numbers (loan_of s party l) _ (λ x. and_numbers (handled s x.0) _ (λ e. h.2))
begun_numbers s lists party (call.Keys f) h = and_numbers (held_of_kind s thing_kind.Factory party f) _ (λ t. tt)
begun_numbers s lists party (call.Nodes f) h = and_numbers (held_of_kind s thing_kind.Factory party f) _ (λ t. tt)
begun_numbers s lists party (call.Info f) h = and_numbers (held_of_kind s thing_kind.Factory party f) _ (λ t. tt)
begun_numbers s lists party (call.Id n) h = and_numbers (identified s party n) _ (λ t. tt)
begun_numbers s lists party (call.Gen m) h = and_numbers (handle_of s party m) _ (λ t. tt)

-- ---- steps

noticed_numbers : (a : Access) (x : Party) → RunsNumbers x → RunsNumbers (notice a x)
noticed_numbers access.Table free h = tt
noticed_numbers access.Table (running q) h = h
noticed_numbers access.Table gone h = tt
noticed_numbers (access.Read b w v) free h = tt
noticed_numbers (access.Read b w v) (running q) h = h
noticed_numbers (access.Read b w v) gone h = tt
noticed_numbers (access.Write b w v) free h = tt
noticed_numbers (access.Write b w v) (running q) h = h
noticed_numbers (access.Write b w v) gone h = tt

with_numbers : (ps : List ℕ → Party) (p party : List ℕ) (x : Party) → RunsNumbers x → RunsNumbers (ps party) → RunsNumbers (with_party ps p x party)
with_numbers ps p party x h k = at (bytes_eq party p)
  where
    at : (z : Bool) → RunsNumbers (cond z x (ps party))
    at true = h
    at false = k

access_below : (s : State) (party : List ℕ) (r : Running) (a : Access) (n : ℕ) → Sound s → IsWithin s n → n < 2 ^ 63 → AreNumbers s → s.parties party ≡ running r → owed_of a ≡ owed r.request r.so_far → AreBelow (after_access s.memory a)
access_below s party r access.Table n sound w lt h run e = h.words
access_below s party r (access.Read b i v) n sound w lt h run e = h.words
access_below s party r (access.Write b i v) n sound w lt h run e = below_store s.memory b i v h.words (owed_numbers s party r b i v n sound w lt h run (sym e))

created_below : (memory : ℕ → List ℕ) (f name : List ℕ) (k : KeyType) (limits : NewLimits) (attributes : List Attribute) (entries : List AddedEntry) (t : Reply) → AreBelow memory → AllByRecursion IsAddedEntry entries
    → AreBelow (memory_after memory (table (create f name k limits attributes entries)) t)
created_below memory f name k limits attributes entries reply.Done h e = h
created_below memory f name k limits attributes entries (reply.Number m) h e = below_board memory m (opening_of entries) h (below_new entries e)
created_below memory f name k limits attributes entries (reply.Got x y z) h e = h
created_below memory f name k limits attributes entries (reply.Fresh x) h e = h
created_below memory f name k limits attributes entries (reply.Keys x) h e = h
created_below memory f name k limits attributes entries (reply.Nodes x) h e = h
created_below memory f name k limits attributes entries (reply.Info x) h e = h
created_below memory f name k limits attributes entries (reply.Id x) h e = h
created_below memory f name k limits attributes entries (reply.Generation x) h e = h
created_below memory f name k limits attributes entries (reply.CreateError x) h e = h
created_below memory f name k limits attributes entries (reply.OpenError x) h e = h
created_below memory f name k limits attributes entries (reply.ReaderError x) h e = h
created_below memory f name k limits attributes entries (reply.WriterError x) h e = h
created_below memory f name k limits attributes entries (reply.EntryError x) h e = h
created_below memory f name k limits attributes entries (reply.EntryMutError x) h e = h

memory_below : (memory : ℕ → List ℕ) (q : Request) (t : Reply) → AreBelow memory → HasNumbers q → AreBelow (memory_after memory q t)
memory_below memory (table (create f name k limits attributes entries)) t h e = created_below memory f name k limits attributes entries t h e
memory_below memory (table (open_ f name k limits needs)) t h e = h
memory_below memory (table (reader name x)) t h e = h
memory_below memory (table (writer name x)) t h e = h
memory_below memory (table (entry name x k type)) t h e = h
memory_below memory (table (entry_mut name x k type)) t h e = h
memory_below memory (table (loan l)) t h e = h
memory_below memory (table (discard l)) t h e = h
memory_below memory (table (keys x)) t h e = h
memory_below memory (table (nodes x)) t h e = h
memory_below memory (table (info x)) t h e = h
memory_below memory (table (id x)) t h e = h
memory_below memory (table (gen x)) t h e = h
memory_below memory (get f) t h e = h
memory_below memory (fresh l) t h e = h
memory_below memory (update u) t h e = h
memory_below memory (put l i w) t h e = h
memory_below memory (publish l) t h e = h
memory_below memory (fill l v) t h e = h

-- ---- lines

pub line_numbers : LinesKeepNumbers
line_numbers s l a n r sound w lt h = after_cases AreNumbers s l a r h
    (λ party c ok _. record { words = h.words; calls = λ p. with_numbers s.parties party p (begun (request_of s.standing s.published party c)) (begun_numbers s.standing s.published party c ok.1) (h.calls p) })
    (λ party. record { words = h.words; calls = λ p. with_numbers s.parties party p gone tt (h.calls p) })
    (λ party name _. record { words = h.words; calls = h.calls })
    (λ party q x run st. record {
      words = access_below s party q x n sound w lt h run st.next;
      calls = λ p. with_numbers (λ y. notice x (s.parties y)) party p (running (record q { so_far = q.so_far ++ x ∷ [] })) (own party q run) (noticed_numbers x (s.parties p) (h.calls p));
    })
    (λ party q x t run st. record {
      words = memory_below (after_access s.memory x) q.request t (access_below s party q x n sound w lt h run st.next) (own party q run);
      calls = λ p. with_numbers (λ y. notice x (s.parties y)) party p free tt (noticed_numbers x (s.parties p) (h.calls p));
    })
  where
    own : (party : List ℕ) (q : Running) → s.parties party ≡ running q → HasNumbers q.request
    own party q run = subst RunsNumbers run (h.calls party)

pub begins_bounded : BeginsBounded
begins_bounded = record { within = within_start; numbers = record { words = λ b. below_none; calls = λ p. tt } }

numbers_session : (pairs : Session) (s : State) (n : ℕ) → n + length pairs < 2 ^ 63 → IsLawfulFrom s pairs → Sound s → IsWithin s n → AreNumbers s → AreNumbers (state_after s pairs)
numbers_session [] s n lt h sound w k = k
numbers_session (x ∷ xs) s n lt h sound w k =
    numbers_session xs (after s x.0 x.1) (n + 1) (omega (arith, lt)) h.1 (sound_after s x.0 x.1 h.0 sound) (line_within s x.0 x.1 n h.0 w) (line_numbers s x.0 x.1 n h.0 sound w (omega (arith, lt)) k)

pub session_numbers : SessionsKeepNumbers
session_numbers pairs h lt = numbers_session pairs start 0 (omega (arith, lt)) h sound_start begins_bounded.within begins_bounded.numbers
