-- Lines that begin a call.
use Rattle.std.proofs.Common.{◌≡◌, ℕ, ◌+◌, ◌^◌, ◌<◌, Bool, true, false, cond, List, length, arith, refl, sym, ap, subst, ◌∙◌, Option, Some, None}
use Rattle.std.specs.Prelude.{◌||◌, is_some, not, option_map, IsErrAnd, Result, Ok, Err}
use Rattle.std.proofs.lemmas.Result.{err_from_is_err_and}
use Rattle.board_layout.specs.declared.type_detail.TypeDetail.{TypeDetail}
use Rattle.board_model.specs.declared.answer.Answer.TheVariants as answer
use Rattle.board_model.specs.declared.answer.Reason.{Reason}
use Rattle.board_model.specs.declared.answer.Reason.TheVariants as reason
use Rattle.board_model.specs.declared.line.Call.{Call}
use Rattle.board_model.specs.declared.line.Call.TheVariants as call
use Rattle.board_model.specs.declared.line.Line.TheVariants as line
use Rattle.board_model.specs.declared.tables.Entry.{Entry}
use Rattle.board_model.specs.declared.tables.ThingKind.{ThingKind}
use Rattle.board_model.specs.declared.tables.ThingKind.TheVariants as thing_kind
use Rattle.board_model.specs.declared.value.Value.{Value}
use Rattle.board_model.specs.declared.value.ValueType.{ValueType}
use Rattle.board_model.specs.declared.value.ValueType.TheVariants as type
use Rattle.board_layout.specs.Layout.{cell_end, cell_shape}
use Rattle.board_model.specs.LineGrammar.{IsLine}
use Rattle.board_model.specs.Requests.{Fetch, Look, Publication, Request, fresh, get, handle_of, request_of, update}
use Rattle.board_model.specs.declared.tables.Kind.{Kind}
use Rattle.board_model.specs.declared.tables.Kind.TheVariants as kind
use Rattle.board_model.specs.Tables.{entry_at, entry_of, kind_of, same_kind}
use Rattle.board_model.specs.Things.{Held, Kept, of_kind, thing_of}
use Rattle.board_model.specs.TypeTable.{same_type, type_of, value_detail, value_type_of, value_words, word_count}
use Rattle.board_cell_model.specs.OwedAccesses.{opening}
use Rattle.board_model.specs.Parties.{Running, begun, free, gone, running, with_party}
use Rattle.board_model.specs.LawfulSession.{IsRight, State, after, call_reason, free_reason, is_taken}
use Rattle.board_model.specs.Sound.{BoardTables, HasEntry, HasEntryAt, IsTyped, Sound}
use Rattle.board_model.proofs.OpeningLemmas.{sized}
use Rattle.board_model.proofs.ThingLemmas.{all_found}
use Rattle.board_cell.specs.Calls.{Getting, Updating}
use Rattle.script_parties.specs.declared.lookups.FoundThing.{FoundThing}
use Rattle.script_parties.specs.Shown.{found_of}
use Rattle.script_boards.specs.declared.machine.BoardMachine.{BoardMachine}
use Rattle.script_boards.specs.declared.machine.Task.{Task}
use Rattle.script_boards.specs.declared.machine.Task.TheVariants as task
use Rattle.script_boards.specs.declared.not_begun.NotBegun.{NotBegun}
use Rattle.script_boards.specs.declared.not_begun.NotBegun.TheVariants as not_begun
use Rattle.script_boards.specs.Begins.{IsChecked, IsHandle, IsTaskFor, handle_held, holds_any, is_handle}
use Rattle.script_boards.specs.Loans.{lent_words}
use Rattle.script_parties.specs.Parties.{words_of_boards}
use Rattle.script_boards.specs.Machine.{IsKeptOf, Represents, kept, tables_of, task_of, updating}
use Rattle.script_boards.specs.Steps.{HasCounter, IsCounter, IsPut}
use Rattle.script_boards.specs.Wants.{takes_memory}
use Rattle.script_boards.proofs.Bounds.{IsBounded}
use Rattle.script_boards.proofs.PartyTasks.{replaced}
use Rattle.script_boards.proofs.Seats.{of_name}
use Rattle.script_boards.proofs.TableSteps.{counter_at}

abbrev some_thing : Held → Option Held
some_thing x = Some x

some_same : (x y : Held) → some_thing x ≡ Some y → x ≡ y
some_same x y e = cc

-- ---- refusals

pub not_false : (b : Bool) → not b ≡ false → b ≡ true
not_false true e = refl
not_false false e = absurd cc

-- a `?` on what a call requires refuses it with this reason
pub refused_for : (result : Result Task NotBegun) (why refusal : Reason) → IsErrAnd result (λ e. e ≡ not_begun.Refused why) → why ≡ refusal → result ≡ Err (not_begun.Refused refusal)
refused_for result why refusal h e =
    let p = err_from_is_err_and result h in
    p.1 ∙ ap (λ (x : NotBegun). Err x) (p.2 ∙ ap (λ (x : Reason). not_begun.Refused x) e)

-- the reason that there is for a refusal
pub reason_for : (reason : Option Reason) (request : Option Request) (e : NotBegun) (why : Reason) → e ≡ not_begun.Refused why → IsChecked reason request (Err e) → reason ≡ Some why
reason_for reason request e why q h = subst (λ (x : NotBegun). IsChecked reason request (Err x)) q h

-- there is none where memory was wanted
pub wanted_for : (reason : Option Reason) (request : Option Request) (e : NotBegun) → e ≡ not_begun.OutOfMemory → IsChecked reason request (Err e) → reason ≡ None
wanted_for reason request e q h = subst (λ (x : NotBegun). IsChecked reason request (Err x)) q h

pub wanted_by : (result : Result Task NotBegun) → IsErrAnd result (λ e. e ≡ not_begun.OutOfMemory) → result ≡ Err not_begun.OutOfMemory
wanted_by result h =
    let p = err_from_is_err_and result h in
    p.1 ∙ ap (λ (x : NotBegun). Err x) p.2

-- the beginning of a call takes memory
pub begin_takes : (s : State) (party : List ℕ) (c : Call) → s.parties party ≡ free → call_reason s.standing party c (request_of s.standing s.published party c) ≡ None → takes_memory s (line.Begin party c) ≡ true
begin_takes s party c e h = rw e (rw h refl)

-- ---- what a party holds

pub taken_is : {C : Type 0} (m : BoardMachine C) (s : State) → Represents m s → (party : List ℕ) (name : Option (List ℕ)) → is_taken s.standing party name ≡ holds_any m party name
taken_is m s rep party None = refl
taken_is m s rep party (Some name) =
    ap (λ t. is_some (thing_of t.things party name) || is_some (s.standing.values party name)) rep.tables
    ∙ ap (λ (k : Option Kept). is_some (thing_of m.domain.tables.things party name) || is_some k) (rep.values party name)

-- ---- what is found

-- the thing that this was found of
pub record IsFound (o : Option Held) (f : FoundThing) : Type 0 where
  pub thing : Held
  pub there : o ≡ Some thing
  pub is : f ≡ found_of thing

abbrev a_found : FoundThing → Option FoundThing
a_found f = Some f

one_found : (x y : FoundThing) → a_found x ≡ Some y → y ≡ x
one_found x y e = cc

pub found_in : (o : Option Held) (f : FoundThing) → option_map found_of o ≡ Some f → IsFound o f
found_in None f e = absurd (let x : None ≡ a_found f = e in cc)
found_in (Some x) f e = record { thing = x; there = refl; is = one_found (found_of x) f e }

-- where nothing was found there is nothing
pub none_found : (o : Option Held) → option_map found_of o ≡ None → o ≡ None
none_found None e = refl
none_found (Some x) e = absurd (let y : a_found (found_of x) ≡ None = e in cc)

-- ---- handles

-- a read handle that is found is a handle
pub read_handle : {C : Type 0} (m : BoardMachine C) (party name : List ℕ) (x : Held) → of_kind thing_kind.ReadHandle (thing_of m.domain.tables.things party name) ≡ Some x → IsHandle m x
read_handle m party name x e = at (thing_of m.domain.tables.things party name) refl e
  where
    is : (k : Kind) → same_kind (kind_of k) thing_kind.ReadHandle ≡ true → is_handle k ≡ true
    is kind.Factory h = absurd cc
    is (kind.Reader p) h = absurd cc
    is (kind.Writer p) h = absurd cc
    is (kind.ReadHandle i) h = refl
    is (kind.WriteHandle i p) h = absurd cc

    pick : (t : Held) (b : Bool) → same_kind (kind_of t.kind) thing_kind.ReadHandle ≡ b → thing_of m.domain.tables.things party name ≡ Some t → cond b (some_thing t) None ≡ Some x → IsHandle m x
    pick t true h f q =
        let same : t ≡ x = some_same t x q in
        subst (λ (y : Held). IsHandle m y) same (record { party = party; name = name; found = f; handle = is t.kind h })
    pick t false h f q = absurd cc

    at : (o : Option Held) → thing_of m.domain.tables.things party name ≡ o → of_kind thing_kind.ReadHandle o ≡ Some x → IsHandle m x
    at None f q = absurd cc
    at (Some t) f q = pick t (same_kind (kind_of t.kind) thing_kind.ReadHandle) refl f q

-- and so is a write handle
pub write_handle : {C : Type 0} (m : BoardMachine C) (party name : List ℕ) (x : Held) → of_kind thing_kind.WriteHandle (thing_of m.domain.tables.things party name) ≡ Some x → IsHandle m x
write_handle m party name x e = at (thing_of m.domain.tables.things party name) refl e
  where
    is : (k : Kind) → same_kind (kind_of k) thing_kind.WriteHandle ≡ true → is_handle k ≡ true
    is kind.Factory h = absurd cc
    is (kind.Reader p) h = absurd cc
    is (kind.Writer p) h = absurd cc
    is (kind.ReadHandle i) h = absurd cc
    is (kind.WriteHandle i p) h = refl

    pick : (t : Held) (b : Bool) → same_kind (kind_of t.kind) thing_kind.WriteHandle ≡ b → thing_of m.domain.tables.things party name ≡ Some t → cond b (some_thing t) None ≡ Some x → IsHandle m x
    pick t true h f q =
        let same : t ≡ x = some_same t x q in
        subst (λ (y : Held). IsHandle m y) same (record { party = party; name = name; found = f; handle = is t.kind h })
    pick t false h f q = absurd cc

    at : (o : Option Held) → thing_of m.domain.tables.things party name ≡ o → of_kind thing_kind.WriteHandle o ≡ Some x → IsHandle m x
    at None f q = absurd cc
    at (Some t) f q = pick t (same_kind (kind_of t.kind) thing_kind.WriteHandle) refl f q

-- a write handle that isn't lent is the same in the state
pub handle_is : {C : Type 0} (m : BoardMachine C) (s : State) → Represents m s → (party name : List ℕ) → handle_of s.standing party name ≡ handle_held m party name
handle_is m s rep party name =
    ap (λ (o : Option (List (Option ℕ))). cond (is_some o) None (of_kind thing_kind.WriteHandle (thing_of s.standing.tables.things party name))) (rep.loans party name)
    ∙ ap (λ t. cond (is_some (lent_words m party name)) None (of_kind thing_kind.WriteHandle (thing_of t.things party name))) rep.tables

-- and it is a handle
pub unlent_handle : {C : Type 0} (m : BoardMachine C) (party name : List ℕ) (x : Held) → handle_held m party name ≡ Some x → IsHandle m x
unlent_handle m party name x e = by (is_some (lent_words m party name)) e
  where
    by : (b : Bool) → cond b None (of_kind thing_kind.WriteHandle (thing_of m.domain.tables.things party name)) ≡ some_thing x → IsHandle m x
    by true q = absurd cc
    by false q = write_handle m party name x q

-- the entry of a handle stands
pub entry_stands : {C : Type 0} (m : BoardMachine C) (s : State) → Represents m s → Sound s → (x : Held) → IsHandle m x → is_some (entry_at (tables_of m) x.board (entry_of x.kind)) ≡ true
entry_stands m s rep sound x h =
    let found : thing_of s.standing.tables.things h.party h.name ≡ Some x = ap (λ t. thing_of t.things h.party h.name) rep.tables ∙ h.found in
    ap (λ t. is_some (entry_at t x.board (entry_of x.kind))) (sym rep.tables)
    ∙ of_handle s.standing.tables x.board x.kind h.handle (all_found (HasEntry s.standing.tables) _ s.standing.tables.things x sound.things.entries found)
  where
    of_handle : (t : BoardTables) (b : ℕ) (k : Kind) → is_handle k ≡ true → HasEntryAt t b k → is_some (entry_at t b (entry_of k)) ≡ true
    of_handle t b kind.Factory e h = absurd cc
    of_handle t b (kind.Reader p) e h = absurd cc
    of_handle t b (kind.Writer p) e h = absurd cc
    of_handle t b (kind.ReadHandle i) e h = h
    of_handle t b (kind.WriteHandle i p) e h = h

-- ---- updates

same_count : (a b : ValueType) → same_type (value_detail a) (value_detail b) ≡ true → word_count a ≡ word_count b
same_count type.Bool type.Bool e = refl
same_count type.Bool type.U64 e = refl
same_count type.Bool type.Q4 e = absurd cc
same_count type.U64 type.Bool e = refl
same_count type.U64 type.U64 e = refl
same_count type.U64 type.Q4 e = absurd cc
same_count type.Q4 type.Bool e = absurd cc
same_count type.Q4 type.U64 e = absurd cc
same_count type.Q4 type.Q4 e = refl

-- a value of the entry's type has as many words as the entry
value_size : (v : Value) (e : Entry) → IsTyped e → same_type (value_detail (type_of v)) e.value ≡ true → length (value_words v) ≡ e.cell.words
value_size v e h t = sized v ∙ same_count (type_of v) h.type (subst (λ (d : TypeDetail). same_type (value_detail (type_of v)) d ≡ true) h.detail t) ∙ sym h.words

module _ {C : Type 0} (m : BoardMachine C) (s : State) (rep : Represents m s) (sound : Sound s) (n i : ℕ) (e : Entry) (found : entry_at (tables_of m) n i ≡ Some e) where
  in_state : entry_at s.standing.tables n i ≡ Some e
  in_state = ap (λ t. entry_at t n i) rep.tables ∙ found

  pub entry_has_counter : HasCounter m n i
  entry_has_counter = (counter_at m s rep sound n i e in_state).has

  -- what a publication of a value of the entry's type needs
  pub value_fits : (v : Value) → same_type (value_detail (type_of v)) e.value ≡ true → length (value_words v) ≡ e.cell.words
  value_fits v t = value_size v e (sound.boards.typed n i e in_state) t

  pub cell_is_low : cell_end (cell_shape e.cell) < 2 ^ 64
  cell_is_low =
      let inside = (sound.boards.cells n i e in_state).inside in
      let few = sound.boards.short n i e in_state in
      omega (arith, inside, few)

  pub counter_is_low : (g : ℕ) → IsBounded s → IsCounter m n i g → g + 1 < 2 ^ 64
  counter_is_low g b c = subst (λ (k : ℕ). k + 1 < 2 ^ 64) (sym ((counter_at m s rep sound n i e in_state).is_length g c)) (b.lists n i)

  -- the thing under a handle's name, and its entry, in the state
  handle_in : (party handle : List ℕ) (k : ThingKind) (x : Held) → of_kind k (thing_of m.domain.tables.things party handle) ≡ Some x → of_kind k (thing_of s.standing.tables.things party handle) ≡ Some x
  handle_in party handle k x held = ap (λ t. of_kind k (thing_of t.things party handle)) rep.tables ∙ held

  entry_in_state : (x : Held) → n ≡ x.board → i ≡ entry_of x.kind → entry_at s.standing.tables x.board (entry_of x.kind) ≡ Some e
  entry_in_state x nb ib = ap (λ (k : ℕ). entry_at s.standing.tables x.board k) (sym ib) ∙ ap (λ (k : ℕ). entry_at s.standing.tables k i) (sym nb) ∙ in_state

  module _ (party handle : List ℕ) (x : Held) (nb : n ≡ x.board) (ib : i ≡ entry_of x.kind) (held : of_kind thing_kind.ReadHandle (thing_of m.domain.tables.things party handle) ≡ Some x) where
    abbrev fetched : Option (List ℕ) → Fetch
    fetched name = record { board = x.board; entry = entry_of x.kind; shape = cell_shape e.cell; type = e.value; handle = handle; name = name }

    fetch_asked : (name : Option (List ℕ)) → request_of s.standing s.published party (call.Get handle name) ≡ Some (get (fetched name))
    fetch_asked name = rw (handle_in party handle thing_kind.ReadHandle x held, entry_in_state x nb ib) refl

    -- a get that begins
    pub get_begins : (name : Option (List ℕ)) (begun : Getting) (type : ValueType) → begun ≡ record { shape = cell_shape e.cell; reading = opening } → holds_any m party name ≡ false → type ≡ value_type_of e.value
        → IsChecked (call_reason s.standing party (call.Get handle name) (request_of s.standing s.published party (call.Get handle name))) (request_of s.standing s.published party (call.Get handle name))
        (Ok (task.Get n begun type name))
    get_begins name begun type is untaken t =
        rw (fetch_asked name) (rw (taken_is m s rep party name ∙ untaken) refl, record { fetch = fetched name; request = refl; board_is = nb; call_is = is; type_is = t; name_is = refl })

    -- a get whose name is taken
    pub get_taken : (name : Option (List ℕ)) → holds_any m party name ≡ true
        → IsChecked (call_reason s.standing party (call.Get handle name) (request_of s.standing s.published party (call.Get handle name))) (request_of s.standing s.published party (call.Get handle name))
        (Err (not_begun.Refused reason.Taken))
    get_taken name taken = rw (fetch_asked name) (rw (taken_is m s rep party name ∙ taken) refl)

    module _ (name : List ℕ) (k : Kept) (stands : kept m party name ≡ Some k) where
      abbrev looked : Look
      looked = record { board = x.board; entry = entry_of x.kind; shape = cell_shape e.cell; type = e.value; handle = handle; kept = k.type; generation = k.generation }

      look_asked : request_of s.standing s.published party (call.Fresh handle name) ≡ Some (fresh looked)
      look_asked = rw (handle_in party handle thing_kind.ReadHandle x held, entry_in_state x nb ib, rep.values party name ∙ stands) refl

  -- an update that begins
  pub update_begins : (party handle : List ℕ) (x : Held) (v : Value) (g : ℕ) (words : List ℕ) (begun : Updating) → begun ≡ record { shape = cell_shape e.cell; generation = g; words = words; written = 0 } → n ≡ x.board → i ≡ entry_of x.kind
      → handle_held m party handle ≡ Some x → same_type (value_detail (type_of v)) e.value ≡ true → IsCounter m n i g → words ≡ value_words v
      → IsChecked (call_reason s.standing party (call.Update handle v) (request_of s.standing s.published party (call.Update handle v))) (request_of s.standing s.published party (call.Update handle v))
      (Ok (task.Update n begun))
  update_begins party handle x v g words begun is nb ib held typed counter w =
      let u : Publication = record { board = x.board; entry = entry_of x.kind; shape = cell_shape e.cell; type = e.value; handle = handle; generation = length (s.published x.board (entry_of x.kind)); value = v } in
      let f : entry_at s.standing.tables x.board (entry_of x.kind) ≡ Some e = ap (λ (k : ℕ). entry_at s.standing.tables x.board k) (sym ib) ∙ ap (λ (k : ℕ). entry_at s.standing.tables k i) (sym nb) ∙ in_state in
      let count : g ≡ length (s.published x.board (entry_of x.kind)) =
      (counter_at m s rep sound n i e in_state).is_length g counter ∙ ap (λ (k : ℕ). length (s.published k i)) nb ∙ ap (λ (k : ℕ). length (s.published x.board k)) ib in
      let asked : request_of s.standing s.published party (call.Update handle v) ≡ Some (update u) = rw (handle_is m s rep party handle ∙ held, f) refl in
      let call_is : begun ≡ updating u 0 =
      is ∙ ap (λ (k : ℕ). record { shape = cell_shape e.cell; generation = k; words = words; written = 0 }) count
      ∙ ap (λ (ws : List ℕ). record { shape = cell_shape e.cell; generation = u.generation; words = ws; written = 0 }) w in
      rw asked (rw typed refl, record { publication = u; request = refl; board_is = nb; call_is = call_is })

-- ---- answers to the line

pub begin_busy : (s : State) (party : List ℕ) (c : Call) (r : Running) → s.parties party ≡ running r → IsLine (line.Begin party c) → IsRight s (line.Begin party c) (answer.Refused reason.Busy)
begin_busy s party c r e l = record {
  line = l;
  answer = tt;
  reason = rw e refl;
  owed = rw e (λ h. absurd cc);
  word = λ _. tt;
  reply = λ _. tt;
}

pub begin_gone : (s : State) (party : List ℕ) (c : Call) → s.parties party ≡ gone → IsLine (line.Begin party c) → IsRight s (line.Begin party c) (answer.Refused reason.Abandoned)
begin_gone s party c e l = record {
  line = l;
  answer = tt;
  reason = rw e refl;
  owed = rw e (λ h. absurd cc);
  word = λ _. tt;
  reply = λ _. tt;
}

abbrev some_reason : Reason → Option Reason
some_reason why = Some why

pub begin_refused : (s : State) (party : List ℕ) (c : Call) (why : Reason) → s.parties party ≡ free
    → call_reason s.standing party c (request_of s.standing s.published party c) ≡ Some why → IsLine (line.Begin party c) → IsRight s (line.Begin party c) (answer.Refused why)
begin_refused s party c why e h l =
    let r : free_reason (s.parties party) (call_reason s.standing party c (request_of s.standing s.published party c)) ≡ Some why = rw e h in
    record {
      line = l;
      answer = tt;
      reason = rw r refl;
      owed = λ n. absurd (let x : some_reason why ≡ None = sym r ∙ n in cc);
      word = λ _. tt;
      reply = λ _. tt;
    }

some_request : (t : Task) (o : Option Request) → IsTaskFor t o → (q : Request) × (o ≡ Some q) × IsTaskFor t (Some q)
some_request t None h = absurd h
some_request t (Some q) h = (q, refl, h)

pub begin_begun : {C : Type 0} (m new : BoardMachine C) (s : State) (rep : Represents m s) (party : List ℕ) (c : Call) (t : Task) → s.parties party ≡ free
    → IsChecked (call_reason s.standing party c (request_of s.standing s.published party c)) (request_of s.standing s.published party c) (Ok t)
    → tables_of new ≡ tables_of m → new.domain.words ≡ m.domain.words → kept new ≡ kept m → lent_words new ≡ lent_words m → IsPut (task_of m) (task_of new) party (Some t)
    → IsLine (line.Begin party c) → IsRight s (line.Begin party c) answer.Begun × Represents new (after s (line.Begin party c) answer.Begun)
begin_begun m new s rep party c t e h tables words values loans parties l =
    let r : free_reason (s.parties party) (call_reason s.standing party c (request_of s.standing s.published party c)) ≡ None = rw e h.0 in
    let q = some_request t (request_of s.standing s.published party c) h.1 in (
      record {
        line = l;
        answer = tt;
        reason = rw r tt;
        owed = λ _. refl;
        word = λ _. tt;
        reply = λ _. tt;
      },
      record {
        tables = rep.tables ∙ sym tables;
        words = words ∙ rep.words ∙ ap (λ x. words_of_boards s.memory x.boards) (sym tables);
        parties = subst (λ (o : Option Request). (p : List ℕ) → IsKeptOf (task_of new p) (with_party s.parties party (begun o) p)) (sym q.1)
            (replaced (task_of m) (task_of new) s.parties rep.parties party (Some t) parties (begun (Some q.0)) (record { task = t; found = refl; is = q.2 }));
        loans = λ p n. rep.loans p n ∙ sym (of_name loans p n);
        values = λ p n. rep.values p n ∙ sym (of_name values p n);
      },
    )
