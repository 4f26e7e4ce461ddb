-- States in which no other calls that read or write run than gets and updates.
use Rattle.std.proofs.Common.{◌≡◌, ℕ, Bool, true, false, cond, List, refl, sym, ap, subst, ◌∙◌, Option, Some, None}
use Rattle.std.specs.Prelude.{◌+◌, ◌==◌, length, slice_index}
use Rattle.std.specs.Str.{bytes_eq}
use Rattle.board_layout.specs.declared.shape.CellShape.{CellShape}
use Rattle.board_cell_model.specs.declared.access.Access.{Access}
use Rattle.board_cell_model.specs.declared.access.Access.TheVariants as access
use Rattle.board_model.specs.declared.answer.Answer.{Answer}
use Rattle.board_model.specs.declared.answer.Answer.TheVariants as answer
use Rattle.board_model.specs.declared.answer.Reason.{Reason}
use Rattle.board_model.specs.declared.answer.Reason.TheVariants as reason
use Rattle.board_model.specs.declared.answer.Reply.{Reply}
use Rattle.board_model.specs.declared.line.Call.{Call}
use Rattle.board_model.specs.declared.line.Call.TheVariants as call
use Rattle.board_model.specs.declared.line.Line.{Line}
use Rattle.board_model.specs.declared.line.Line.TheVariants as line
use Rattle.board_model.specs.declared.tables.Entry.{Entry}
use Rattle.board_model.specs.declared.tables.ThingKind.TheVariants as thing_kind
use Rattle.board_model.specs.Tables.{entry_of}
use Rattle.board_model.specs.LawfulSession.{IsOwedStep, IsReasoned, IsRight, State, after, after_step, reason_of, step_reason, stepped}
use Rattle.board_cell_model.specs.OwedAccesses.{spare_at}
use Rattle.board_cell_model.specs.OwedAccesses.{Reading, finished, opening, owed_of, owed_read, owed_write, to_read, to_table, to_write, trying}
use Rattle.board_model.specs.Parties.{Party, Running, begun, free, gone, notice, owed, reading, running, with_party}
use Rattle.board_model.specs.Requests.{Published, Request, and_then, info, entry, entry_mut, fill, fresh, get, handle_of, handled, identified, id, keys, nodes, publish, put, reader, request_of, table, gen, update, writer}
use Rattle.board_model.specs.Things.{Held, Standing, held_of_kind}
use Rattle.board_layout.specs.Layout.{cell_shape}
use Rattle.board_model.specs.TypeTable.{value_words}
use Rattle.script_model.specs.declared.line.ScriptLine.TheVariants as script_line
use Rattle.script_model.specs.ScriptAnswers.{of_boards}
use Rattle.script_model.specs.ScriptTurns.{ScriptState}
use Rattle.script_generator.specs.Counting.{RunsPlain, is_last_read, is_last_write, is_plain_line, is_plain_call, is_plain_request}
use Rattle.script_generator.specs.Summary.{call_ended, ended_by, is_get, is_update}

-- ---- calls that begin

abbrev IsPlainIfAny : Option Request → Type 0
IsPlainIfAny None = Unit {0}
IsPlainIfAny (Some q) = is_plain_request q ≡ true

plain_then : {A : Type 0} (o : Option A) (f : A → Option Request) → ((x : A) → IsPlainIfAny (f x)) → IsPlainIfAny (and_then o f)
plain_then None f h = tt
plain_then (Some x) f h = h x

plain_asked : (s : Standing) (lists : Published) (party : List ℕ) (c : Call) → is_plain_call c ≡ true → IsPlainIfAny (request_of s lists party c)
plain_asked s lists party (call.Create f name k limits attributes entries) h = refl
plain_asked s lists party (call.Open f name k limits needs) h = refl
plain_asked s lists party (call.Reader r f) h = plain_then (held_of_kind s thing_kind.Factory party f) (λ t. Some (table (reader r t))) (λ t. refl)
plain_asked s lists party (call.Writer w f) h = plain_then (held_of_kind s thing_kind.Factory party f) (λ t. Some (table (writer w t))) (λ t. refl)
plain_asked s lists party (call.Entry n r k type) h = plain_then (held_of_kind s thing_kind.Reader party r) (λ t. Some (table (entry n t k type))) (λ t. refl)
plain_asked s lists party (call.EntryMut m w k type) h = plain_then (held_of_kind s thing_kind.Writer party w) (λ t. Some (table (entry_mut m t k type))) (λ t. refl)
plain_asked s lists party (call.Get n v) h =
    let fetch : Held → Entry → Request = λ t e. get (record { board = t.board; entry = entry_of t.kind; shape = cell_shape e.cell; type = e.value; handle = n; name = v }) in
    plain_then (held_of_kind s thing_kind.ReadHandle party n) (λ t. and_then (handled s t) (λ e. Some (fetch t e))) (λ t. plain_then (handled s t) (λ e. Some (fetch t e)) (λ e. refl))
plain_asked s lists party (call.Fresh n v) h = absurd cc
plain_asked s lists party (call.Update m v) h =
    let publication : Held → Entry → Request = λ t e. update (record { board = t.board; entry = entry_of t.kind; shape = cell_shape e.cell; type = e.value; handle = m; generation = length (lists t.board (entry_of t.kind)); value = v }) in
    plain_then (handle_of s party m) (λ t. and_then (handled s t) (λ e. Some (publication t e))) (λ t. plain_then (handled s t) (λ e. Some (publication t e)) (λ e. refl))
plain_asked s lists party (call.Loan l m) h = absurd cc
plain_asked s lists party (call.Discard l m) h = absurd cc
plain_asked s lists party (call.Put l i w) h = absurd cc
plain_asked s lists party (call.Publish l m) h = absurd cc
plain_asked s lists party (call.Fill l m v) h = absurd cc
plain_asked s lists party (call.Keys f) h = plain_then (held_of_kind s thing_kind.Factory party f) (λ t. Some (table (keys t))) (λ t. refl)
plain_asked s lists party (call.Nodes f) h = plain_then (held_of_kind s thing_kind.Factory party f) (λ t. Some (table (nodes t))) (λ t. refl)
plain_asked s lists party (call.Info f) h = plain_then (held_of_kind s thing_kind.Factory party f) (λ t. Some (table (info t))) (λ t. refl)
plain_asked s lists party (call.Id n) h = plain_then (identified s party n) (λ t. Some (table (id t))) (λ t. refl)
plain_asked s lists party (call.Gen m) h = plain_then (handle_of s party m) (λ t. Some (table (gen t))) (λ t. refl)

-- ---- parties

-- the call of the party is of that kind, where one runs
abbrev IsPlainParty : Party → Type 0
IsPlainParty free = Unit {0}
IsPlainParty (running r) = is_plain_request r.request ≡ true
IsPlainParty gone = Unit {0}

party_plain : (s : State) → RunsPlain s → (p : List ℕ) → IsPlainParty (s.parties p)
party_plain s h p = at (s.parties p) refl
  where
    at : (x : Party) → s.parties p ≡ x → IsPlainParty x
    at free e = tt
    at (running r) e = h p r e
    at gone e = tt

all_plain : (s : State) → ((p : List ℕ) → IsPlainParty (s.parties p)) → RunsPlain s
all_plain s h p r e = subst IsPlainParty e (h p)

plain_with : (parties : List ℕ → Party) (party : List ℕ) (x : Party) → IsPlainParty x → ((p : List ℕ) → IsPlainParty (parties p)) → (p : List ℕ) → IsPlainParty (with_party parties party x p)
plain_with parties party x h others p = at (bytes_eq p party) refl
  where
    at : (b : Bool) → bytes_eq p party ≡ b → IsPlainParty (with_party parties party x p)
    at true e = rw e h
    at false e = rw e (others p)

plain_begun : (o : Option Request) → IsPlainIfAny o → IsPlainParty (begun o)
plain_begun None h = tt
plain_begun (Some q) h = h

plain_notice : (a : Access) (x : Party) → IsPlainParty x → IsPlainParty (notice a x)
plain_notice access.Table x h = h
plain_notice (access.Read b w v) x h = h
plain_notice (access.Write b w v) free h = tt
plain_notice (access.Write b w v) (running r) h = h
plain_notice (access.Write b w v) gone h = tt

plain_step : (s : State) → RunsPlain s → (party : List ℕ) (x : Party) → s.parties party ≡ x → (a : Access) (told : Option Reply) → RunsPlain (after_step s party x a told)
plain_step s h party free e a told = h
plain_step s h party gone e a told = h
plain_step s h party (running r) e a None =
    all_plain (stepped s party r a None) (plain_with _ party _ (h party r e) (λ p. plain_notice a (s.parties p) (party_plain s h p)))
plain_step s h party (running r) e a (Some told) =
    all_plain (stepped s party r a (Some told)) (plain_with _ party free tt (λ p. plain_notice a (s.parties p) (party_plain s h p)))

-- a plain line leaves a plain state
pub plain_after : (s : State) (l : Line) (a : Answer) → is_plain_line l ≡ true → RunsPlain s → RunsPlain (after s l a)
plain_after s (line.Begin party c) answer.Begun p h =
    all_plain (after s (line.Begin party c) answer.Begun)
    (plain_with s.parties party (begun (request_of s.standing s.published party c)) (plain_begun (request_of s.standing s.published party c) (plain_asked s.standing s.published party c p)) (party_plain s h))
plain_after s (line.Begin party c) (answer.Refused why) p h = h
plain_after s (line.Begin party c) (answer.Step a told) p h = h
plain_after s (line.Begin party c) answer.Gone p h = h
plain_after s (line.Begin party c) (answer.Words ws) p h = h
plain_after s (line.Step party) answer.Begun p h = h
plain_after s (line.Step party) (answer.Refused why) p h = h
plain_after s (line.Step party) (answer.Step a told) p h = plain_step s h party (s.parties party) refl a told
plain_after s (line.Step party) answer.Gone p h = h
plain_after s (line.Step party) (answer.Words ws) p h = h
plain_after s (line.Release party name) a p h = absurd cc
plain_after s (line.Abandon party) a p h = absurd cc
plain_after s (line.Words board) a p h = absurd cc

-- ---- calls that end

-- the last read is that of a get, and the last write that of an update
pub record EndsAsTold (q : Option Request) (a : Answer) : Type 0 where
  pub update : is_update q ≡ is_last_write a
  pub get : is_get q ≡ is_last_read a

read_owes : (b : ℕ) (c : CellShape) (r : Reading) → (w : ℕ) × (owed_read b c r ≡ to_read b w)
read_owes b c opening = (_, refl)
read_owes b c (trying g ws) = (_, refl)
read_owes b c (finished g ws) = (_, refl)

write_owes : (b : ℕ) (c : CellShape) (g : ℕ) (ws : List ℕ) (k : ℕ) → (w : ℕ) × (v : ℕ) × (owed_write b c g ws k ≡ to_write b w v)
write_owes b c g ws k = pick (k == length ws) c.first (g + 1) (spare_at c g + k) (slice_index ws k)
  where
    pick : (t : Bool) (w v x y : ℕ) → (i : ℕ) × (j : ℕ) × (cond t (to_write b w v) (to_write b x y) ≡ to_write b i j)
    pick true w v x y = (w, v, refl)
    pick false w v x y = (x, y, refl)

ends_none : (a : Access) → EndsAsTold None (answer.Step a None)
ends_none access.Table = record { update = refl; get = refl }
ends_none (access.Read b w v) = record { update = refl; get = refl }
ends_none (access.Write b w v) = record { update = refl; get = refl }

ends_call : (q : Request) (so_far : List Access) (a : Access) (t : Reply) → is_plain_request q ≡ true → owed_of a ≡ owed q so_far → EndsAsTold (Some q) (answer.Step a (Some t))
ends_call (table c) so_far access.Table t h e = record { update = refl; get = refl }
ends_call (table c) so_far (access.Read b w v) t h e = absurd cc
ends_call (table c) so_far (access.Write b w v) t h e = absurd cc
ends_call (get f) so_far access.Table t h e =
    let o = read_owes f.board f.shape (reading f.shape.words so_far) in
    let x : to_table ≡ to_read f.board o.0 = e ∙ o.1 in absurd cc
ends_call (get f) so_far (access.Read b w v) t h e = record { update = refl; get = refl }
ends_call (get f) so_far (access.Write b w v) t h e =
    let o = read_owes f.board f.shape (reading f.shape.words so_far) in
    let x : to_write b w v ≡ to_read f.board o.0 = e ∙ o.1 in absurd cc
ends_call (update u) so_far access.Table t h e =
    let o = write_owes u.board u.shape u.generation (value_words u.value) (length so_far) in
    let x : to_table ≡ to_write u.board o.0 o.1 = e ∙ o.2 in absurd cc
ends_call (update u) so_far (access.Read b w v) t h e =
    let o = write_owes u.board u.shape u.generation (value_words u.value) (length so_far) in
    let x : to_read b w ≡ to_write u.board o.0 o.1 = e ∙ o.2 in absurd cc
ends_call (update u) so_far (access.Write b w v) t h e = record { update = refl; get = refl }
ends_call (fresh l) so_far a t h e = absurd cc
ends_call (put l i w) so_far a t h e = absurd cc
ends_call (publish l) so_far a t h e = absurd cc
ends_call (fill l v) so_far a t h e = absurd cc

ends_step : (r : Running) → is_plain_request r.request ≡ true → (a : Answer) → IsOwedStep (running r) a → EndsAsTold (ended_by (running r) a) a
ends_step r h answer.Begun o = absurd o
ends_step r h (answer.Refused why) o = absurd o
ends_step r h (answer.Step a None) o = ends_none a
ends_step r h (answer.Step a (Some t)) o = ends_call r.request r.so_far a t h o
ends_step r h answer.Gone o = absurd o
ends_step r h (answer.Words ws) o = absurd o

ends_refused : (why : Reason) (a : Answer) → a ≡ answer.Refused why → EndsAsTold None a
ends_refused why a e = subst (λ (x : Answer). EndsAsTold None x) (sym e) (record { update = refl; get = refl })

refused_is : (o : Option Reason) (why : Reason) (a : Answer) → o ≡ Some why → IsReasoned o a → a ≡ answer.Refused why
refused_is o why a e h = subst (λ (x : Option Reason). IsReasoned x a) e h

ends_begin : (s : State) (party : List ℕ) (c : Call) (a : Answer) → IsRight s (line.Begin party c) a → EndsAsTold None a
ends_begin s party c a h = at (reason_of s (line.Begin party c)) refl
  where
    at : (o : Option Reason) → reason_of s (line.Begin party c) ≡ o → EndsAsTold None a
    at None e = subst (λ (x : Answer). EndsAsTold None x) (sym (h.owed e)) (record { update = refl; get = refl })
    at (Some why) e = ends_refused why a (refused_is (reason_of s (line.Begin party c)) why a e h.reason)

ends_at : (s : State) (party : List ℕ) (a : Answer) → RunsPlain s → IsRight s (line.Step party) a → EndsAsTold (ended_by (s.parties party) a) a
ends_at s party a plain h = at (s.parties party) refl
  where
    at : (x : Party) → s.parties party ≡ x → EndsAsTold (ended_by (s.parties party) a) a
    at free e =
        subst (λ (y : Party). EndsAsTold (ended_by y a) a) (sym e)
        (ends_refused reason.Idle a (refused_is (reason_of s (line.Step party)) reason.Idle a (ap step_reason e) h.reason))
    at gone e =
        subst (λ (y : Party). EndsAsTold (ended_by y a) a) (sym e)
        (ends_refused reason.Abandoned a (refused_is (reason_of s (line.Step party)) reason.Abandoned a (ap step_reason e) h.reason))
    at (running r) e =
        subst (λ (y : Party). EndsAsTold (ended_by y a) a) (sym e)
        (ends_step r (plain party r e) a (subst (λ (y : Party). IsOwedStep y a) e (h.owed (ap step_reason e))))

-- a right answer to a plain line
pub ends_told : (s : ScriptState) (l : Line) (a : Answer) → RunsPlain s.boards → is_plain_line l ≡ true → IsRight s.boards l a → EndsAsTold (call_ended s (script_line.Board l) (of_boards a)) a
ends_told s (line.Begin party c) a plain p h = ends_begin s.boards party c a h
ends_told s (line.Step party) a plain p h = ends_at s.boards party a plain h
ends_told s (line.Release party name) a plain p h = absurd cc
ends_told s (line.Abandon party) a plain p h = absurd cc
ends_told s (line.Words board) a plain p h = absurd cc
