-- Lines that begin a call on a loan that stands.
use Rattle.std.proofs.Common.{◌≡◌, ℕ, ◌<◌, Bool, true, false, cond, List, length, refl, sym, ap, subst, ◌∙◌, Option, Some, None, option_map}
use Rattle.std.specs.Prelude.{Result, Ok, Err}
use Rattle.std.proofs.lemmas.Bool.{lt-ltb}
use Rattle.board_layout.specs.declared.shape.CellShape.{CellShape}
use Rattle.board_model.specs.declared.answer.Reason.TheVariants as reason
use Rattle.board_model.specs.declared.line.Call.{Call}
use Rattle.board_model.specs.declared.line.Call.TheVariants as call
use Rattle.board_model.specs.declared.tables.Entry.{Entry}
use Rattle.board_model.specs.declared.tables.ThingKind.{ThingKind}
use Rattle.board_model.specs.declared.tables.ThingKind.TheVariants as thing_kind
use Rattle.board_model.specs.declared.value.Value.{Value}
use Rattle.board_model.specs.Requests.{Lending, and_then, fill, discard, handled, loan_of, publish, put, request_of, table}
use Rattle.board_model.specs.Parties.{Party, free}
use Rattle.board_model.specs.Tables.{entry_at, entry_of, kind_of, same_kind}
use Rattle.board_model.specs.Things.{Held, of_kind, thing_of}
use Rattle.board_layout.specs.Layout.{cell_shape}
use Rattle.board_model.specs.TypeTable.{same_type, type_of, value_detail, value_words}
use Rattle.board_model.specs.LawfulSession.{State, all_put, call_reason}
use Rattle.board_model.specs.Sound.{IsLent, Sound, is_suspended}
use Rattle.board_cell.specs.Calls.{Publishing, Putting, Updating}
use Rattle.script_boards.specs.declared.machine.BoardMachine.{BoardMachine}
use Rattle.script_boards.specs.declared.machine.TableTask.TheVariants as table_task
use Rattle.script_boards.specs.declared.machine.Task.{Task}
use Rattle.script_boards.specs.declared.machine.Task.TheVariants as task
use Rattle.script_boards.specs.declared.not_begun.NotBegun.{NotBegun}
use Rattle.script_boards.specs.declared.not_begun.NotBegun.TheVariants as not_begun
use Rattle.board_model.specs.declared.line.Call.TheVariants as call
use Rattle.script_boards.specs.Begins.{HasNoTask, IsChecked, IsGenerationOf, IsHandle, holds, loan_held, written_by}
use Rattle.script_boards.specs.Loans.{lent_words}
use Rattle.script_boards.specs.Machine.{IsLed, Represents, tables_of, task_of}
use Rattle.script_boards.specs.Steps.{IsCounter}
use Rattle.script_boards.proofs.CallChecks.{entry_stands, taken_is, write_handle, unlent_handle}
use Rattle.script_boards.proofs.PartyTasks.{is_free}
use Rattle.script_boards.proofs.TableSteps.{counter_at, some_entry}

-- a call is looked at so in a state
abbrev pub IsLookedAt : State → List ℕ → Call → Result Task NotBegun → Type 0
IsLookedAt s party c x = IsChecked (call_reason s.standing party c (request_of s.standing s.published party c)) (request_of s.standing s.published party c) x

abbrev pub a_loan : Held → List (Option ℕ) → Option (Held × List (Option ℕ))
a_loan x words = Some (x, words)

-- the thing of a loan is a write handle
pub loan_handle : {C : Type 0} (m : BoardMachine C) (party lent : List ℕ) (x : Held) (words : List (Option ℕ)) → loan_held m party lent ≡ Some (x, words) → IsHandle m x
loan_handle m party lent x words e =
    write_handle m party lent x (thing (of_kind thing_kind.WriteHandle (thing_of m.domain.tables.things party lent)) (lent_words m party lent) e)
  where
    thing : (o : Option Held) (w : Option (List (Option ℕ))) → and_then o (λ t. and_then w (λ ws. a_loan t ws)) ≡ a_loan x words → o ≡ Some x
    thing None w e = absurd cc
    thing (Some t) None e = absurd cc
    thing (Some t) (Some ws) e =
        let p : (t, ws) ≡ (x, words) = cc in
        ap (λ (q : Held × List (Option ℕ)). Some q.0) p

abbrev a_thing : Held → Option Held
a_thing x = Some x

-- the words of a loan whose thing was found
pub record HasWords {C : Type 0} (m : BoardMachine C) (party lent : List ℕ) (x : Held) : Type 0 where
  pub words : List (Option ℕ)
  pub held : loan_held m party lent ≡ a_loan x words

pub found_loan : {C : Type 0} (m : BoardMachine C) (party lent : List ℕ) (x : Held) → option_map (λ l. l.0) (loan_held m party lent) ≡ a_thing x → HasWords m party lent x
found_loan m party lent x e = at (loan_held m party lent) refl e
  where
    at : (o : Option (Held × List (Option ℕ))) → loan_held m party lent ≡ o → option_map (λ l. l.0) o ≡ a_thing x → HasWords m party lent x
    at None f e = absurd cc
    at (Some l) f e =
        let q : l.0 ≡ x = cc in
        record { words = l.1; held = f ∙ ap (λ (y : Held). a_loan y l.1) q }

pub loan_thing : {C : Type 0} (m : BoardMachine C) (party lent : List ℕ) (x : Held) → option_map (λ l. l.0) (loan_held m party lent) ≡ a_thing x → IsHandle m x
loan_thing m party lent x e =
    let it = found_loan m party lent x e in
    loan_handle m party lent x it.words it.held

-- what a call writes is a handle
pub written_handle : {C : Type 0} (m : BoardMachine C) (party : List ℕ) (c : Call) (x : Held) → written_by m party c ≡ Some x → IsHandle m x
written_handle m party (call.Update h v) x e = unlent_handle m party h x e
written_handle m party (call.Put l i w) x e = loan_thing m party l x e
written_handle m party (call.Publish l h) x e = loan_thing m party l x e
written_handle m party (call.Fill l h v) x e = loan_thing m party l x e
written_handle m party c x e = absurd cc

-- the thing that was found, whatever its kind was asked to be
thing_found : (k : ThingKind) (o : Option Held) (x : Held) → of_kind k o ≡ Some x → o ≡ Some x
thing_found k None x e = absurd cc
thing_found k (Some t) x e = at (same_kind (kind_of t.kind) k) e
  where
    at : (b : Bool) → cond b (Some t) None ≡ Some x → Some t ≡ Some x
    at true e = e
    at false e = absurd cc

-- a loan has a thing, and words
loan_parts : {C : Type 0} (m : BoardMachine C) (party lent : List ℕ) (x : Held) (words : List (Option ℕ)) → loan_held m party lent ≡ Some (x, words)
    → (thing_of m.domain.tables.things party lent ≡ Some x) × (lent_words m party lent ≡ Some words)
loan_parts m party lent x words e = parts (of_kind thing_kind.WriteHandle (thing_of m.domain.tables.things party lent)) refl (lent_words m party lent) e
  where
    parts : (o : Option Held) → of_kind thing_kind.WriteHandle (thing_of m.domain.tables.things party lent) ≡ o → (w : Option (List (Option ℕ))) → and_then o (λ t. and_then w (λ ws. a_loan t ws)) ≡ a_loan x words
        → (thing_of m.domain.tables.things party lent ≡ Some x) × (w ≡ Some words)
    parts None f w e = absurd cc
    parts (Some t) f None e = absurd cc
    parts (Some t) f (Some ws) e =
        let p : (t, ws) ≡ (x, words) = cc in
        (thing_found thing_kind.WriteHandle (thing_of m.domain.tables.things party lent) x (f ∙ ap (λ (q : Held × List (Option ℕ)). Some q.0) p), ap (λ (q : Held × List (Option ℕ)). Some q.1) p)

module _ {C : Type 0} (m : BoardMachine C) (s : State) (rep : Represents m s) (party : List ℕ) where
  -- a loan is the same in the state
  pub loan_is : (lent : List ℕ) → loan_of s.standing party lent ≡ loan_held m party lent
  loan_is lent =
      ap (λ (o : Option (List (Option ℕ))). and_then (of_kind thing_kind.WriteHandle (thing_of s.standing.tables.things party lent)) (λ t. and_then o (λ ws. a_loan t ws))) (rep.loans party lent)
      ∙ ap (λ t. and_then (of_kind thing_kind.WriteHandle (thing_of t.things party lent)) (λ x. and_then (lent_words m party lent) (λ ws. a_loan x ws))) rep.tables

  -- a loan of a free party has a place for each word of its entry
  pub loan_width : Sound s → s.parties party ≡ free → (x : Held) (e : Entry) → entry_at (tables_of m) x.board (entry_of x.kind) ≡ Some e
      → (lent : List ℕ) (words : List (Option ℕ)) → loan_held m party lent ≡ Some (x, words) → length words ≡ e.cell.words
  loan_width sound is_free x e found lent words held =
      let parts = loan_parts m party lent x words held in
      let it = sound.things.loans party lent words (rep.loans party lent ∙ parts.1) in
      let found_in : thing_of s.standing.tables.things party lent ≡ Some x = ap (λ t. thing_of t.things party lent) rep.tables ∙ parts.0 in
      let same : it.thing ≡ x = one_thing it.thing x (sym it.found ∙ found_in) in
      let put =
      subst (λ (y : Held). (e : Entry) → entry_at s.standing.tables y.board (entry_of y.kind) ≡ Some e → is_suspended (s.parties party) y.board (entry_of y.kind) ≡ false
      → IsLent (s.memory y.board) (cell_shape e.cell) (length (s.published y.board (entry_of y.kind))) words) same it.put in
      (put e (ap (λ t. entry_at t x.board (entry_of x.kind)) rep.tables ∙ found) (ap (λ (p : Party). is_suspended p x.board (entry_of x.kind)) is_free)).size
    where
      one_thing : (a b : Held) → Some a ≡ Some b → a ≡ b
      one_thing a b e = cc

  module _ (sound : Sound s) (x : Held) (e : Entry) (found : entry_at (tables_of m) x.board (entry_of x.kind) ≡ Some e) where
    entry_is : handled s.standing x ≡ Some e
    entry_is = ap (λ t. entry_at t x.board (entry_of x.kind)) rep.tables ∙ found

    abbrev lending_of : List ℕ → List ℕ → List (Option ℕ) → Lending
    lending_of lent handle words =
        record { board = x.board; entry = entry_of x.kind; shape = cell_shape e.cell; type = e.value; generation = length (s.published x.board (entry_of x.kind)); loan = lent; handle = handle; words = words }

    generation_is : (g : ℕ) → IsCounter m x.board (entry_of x.kind) g → g ≡ length (s.published x.board (entry_of x.kind))
    generation_is g c = (counter_at m s rep sound x.board (entry_of x.kind) e entry_is).is_length g c

    module _ (lent : List ℕ) (words : List (Option ℕ)) (held : loan_held m party lent ≡ Some (x, words)) where
      held_is : loan_of s.standing party lent ≡ Some (x, words)
      held_is = loan_is lent ∙ held

      module _ (handle : List ℕ) where
        discard_asked : request_of s.standing s.published party (call.Discard lent handle) ≡ Some (table (discard (lending_of lent handle words)))
        discard_asked = rw (held_is, entry_is) refl

        pub discard_taken : holds m party handle ≡ true → IsLookedAt s party (call.Discard lent handle) (Err (not_begun.Refused reason.Taken))
        discard_taken taken = rw discard_asked (rw (taken_is m s rep party (Some handle) ∙ taken) refl)

        pub discard_begins : holds m party handle ≡ false → IsLookedAt s party (call.Discard lent handle) (Ok (task.Table (table_task.Discard lent handle)))
        discard_begins untaken =
            rw discard_asked (rw (taken_is m s rep party (Some handle) ∙ untaken) refl, record { lending = lending_of lent handle words; request = refl; loan_is = refl; handle_is = refl })

        publish_asked : request_of s.standing s.published party (call.Publish lent handle) ≡ Some (publish (lending_of lent handle words))
        publish_asked = rw (held_is, entry_is) refl

        pub publish_begins : holds m party handle ≡ false → all_put words ≡ true → (g : ℕ) → IsCounter m x.board (entry_of x.kind) g
            → (begun : Publishing) → begun ≡ record { shape = cell_shape e.cell; generation = g; done = false }
            → IsLookedAt s party (call.Publish lent handle) (Ok (task.Publish x.board begun lent handle))
        publish_begins untaken all g counter begun is =
            rw publish_asked (
              rw (taken_is m s rep party (Some handle) ∙ untaken) (rw all refl),
              record {
                lending = lending_of lent handle words;
                request = refl;
                board_is = refl;
                call_is = is ∙ ap (λ (k : ℕ). record { shape = cell_shape e.cell; generation = k; done = false }) (generation_is g counter);
                loan_is = refl;
                handle_is = refl;
              },
            )

        module _ (v : Value) where
          fill_asked : request_of s.standing s.published party (call.Fill lent handle v) ≡ Some (fill (lending_of lent handle words) v)
          fill_asked = rw (held_is, entry_is) refl

          pub fill_mistyped : holds m party handle ≡ false → same_type (value_detail (type_of v)) e.value ≡ false → IsLookedAt s party (call.Fill lent handle v) (Err (not_begun.Refused reason.Type))
          fill_mistyped untaken typed = rw fill_asked (rw (taken_is m s rep party (Some handle) ∙ untaken) (rw typed refl))

          pub fill_begins : holds m party handle ≡ false → same_type (value_detail (type_of v)) e.value ≡ true → (g : ℕ) → IsCounter m x.board (entry_of x.kind) g
              → (begun : Updating) → begun ≡ record { shape = cell_shape e.cell; generation = g; words = value_words v; written = 0 }
              → IsLookedAt s party (call.Fill lent handle v) (Ok (task.Fill x.board begun lent handle))
          fill_begins untaken typed g counter begun is =
              rw fill_asked (
                rw (taken_is m s rep party (Some handle) ∙ untaken) (rw typed refl),
                record {
                  lending = lending_of lent handle words;
                  value = v;
                  request = refl;
                  board_is = refl;
                  call_is = is ∙ ap (λ (k : ℕ). record { shape = cell_shape e.cell; generation = k; words = value_words v; written = 0 }) (generation_is g counter);
                  loan_is = refl;
                  handle_is = refl;
                },
              )

      module _ (index word : ℕ) where
        put_asked : request_of s.standing s.published party (call.Put lent index word) ≡ Some (put (lending_of lent lent words) index word)
        put_asked = rw (held_is, entry_is) refl

        pub put_begins : index < e.cell.words → (g : ℕ) → IsCounter m x.board (entry_of x.kind) g
            → (begun : Putting) → begun ≡ record { shape = cell_shape e.cell; generation = g; index = index; word = word; done = false }
            → IsLookedAt s party (call.Put lent index word) (Ok (task.Put x.board begun lent index word))
        put_begins below g counter begun is =
            rw put_asked (
              rw (lt-ltb index e.cell.words below) refl,
              record {
                lending = lending_of lent lent words;
                request = refl;
                board_is = refl;
                call_is = is ∙ ap (λ (k : ℕ). record { shape = cell_shape e.cell; generation = k; index = index; word = word; done = false }) (generation_is g counter);
                loan_is = refl;
              },
            )

  -- the entry of a loan stands
  pub loan_entry : Sound s → (x : Held) (lent : List ℕ) (words : List (Option ℕ)) → loan_held m party lent ≡ Some (x, words) → (e : Entry) × (entry_at (tables_of m) x.board (entry_of x.kind) ≡ Some e)
  loan_entry sound x lent words held = some_entry (entry_at (tables_of m) x.board (entry_of x.kind)) (entry_stands m s rep sound x (loan_handle m party lent x words held))

-- a loan of a party without a task has as many words as its entry's cell
pub lent_width : {C : Type 0} (m : BoardMachine C) (party : List ℕ) → (led : IsLed m) → HasNoTask m party → (x : Held) (e : Entry) → entry_at (tables_of m) x.board (entry_of x.kind) ≡ Some e
    → (lent : List ℕ) (words : List (Option ℕ)) → loan_held m party lent ≡ Some (x, words) → (shape : CellShape) → shape ≡ cell_shape e.cell → length words ≡ shape.words
lent_width m party led idle x e found lent words held shape is =
    loan_width m led.state led.represents party led.reached.sound (is_free (task_of m) led.state.parties led.represents.parties party idle) x e found lent words held
    ∙ ap (λ (y : CellShape). y.words) (sym is)

-- the number that was read for a loan is the counter of its entry
pub loan_counter : {C : Type 0} (m : BoardMachine C) (party lent : List ℕ) (x : Held) (words : List (Option ℕ)) → loan_held m party lent ≡ Some (x, words)
    → (g : ℕ) → IsGenerationOf m (option_map (λ l. l.0) (loan_held m party lent)) g → IsCounter m x.board (entry_of x.kind) g
loan_counter m party lent x words held g h =
    subst (λ (o : Option Held). IsGenerationOf m o g) (ap (λ (o : Option (Held × List (Option ℕ))). option_map (λ l. l.0) o) held) h
