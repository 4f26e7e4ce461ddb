-- A call that begins, and any line, keeps a sound state sound.
use Rattle.std.proofs.Common.{◌≡◌, ℕ, zero, suc, ◌<◌, Bool, true, false, cond, List, [], ◌∷◌, length, map, take, get_or, arith, refl, sym, ap, subst, ◌∙◌, Option, Some, None}
use Rattle.std.specs.Prelude.{is_some, slice_get, not, ◌==◌, if◌then◌else◌}
use Rattle.std.proofs.lemmas.Bool.{and_from, eq-eqb, ltb-true, or_parts}
use Rattle.std.proofs.lemmas.List.{length-map, take_all}
use Rattle.std.proofs.lemmas.Option.{same_Some}
use Rattle.board_layout.specs.declared.type_detail.TypeDetail.{TypeDetail}
use Rattle.board_model.specs.declared.answer.Reason.TheVariants as reason
use Rattle.board_model.specs.declared.line.Call.{Call}
use Rattle.board_model.specs.declared.line.Call.TheVariants as call
use Rattle.board_model.specs.declared.tables.Entry.{Entry}
use Rattle.board_model.specs.declared.tables.Kind.{Kind}
use Rattle.board_model.specs.declared.tables.Kind.TheVariants as kind
use Rattle.board_model.specs.declared.tables.ThingKind.{ThingKind}
use Rattle.board_model.specs.declared.tables.ThingKind.TheVariants as thing_kind
use Rattle.board_model.specs.declared.value.Value.{Value}
use Rattle.board_model.specs.declared.value.ValueType.{ValueType}
use Rattle.board_model.specs.declared.value.ValueType.TheVariants as type
use Rattle.board_cell_model.specs.OwedAccesses.{spare_at}
use Rattle.board_model.specs.TypeTable.{same_type, type_of, value_detail, value_words, word_count}
use Rattle.board_model.specs.Tables.{entry_at, entry_of, is_write_handle, kind_of, same_kind, writes_entry}
use Rattle.board_model.specs.Things.{Held, Standing, held_of_kind, of_kind, thing_of}
use Rattle.board_layout.specs.Layout.{cell_shape}
use Rattle.board_model.specs.Requests.{Lending, Request, and_then, create, info, entry, entry_mut, fill, fresh, get, discard, handle_of, handled, identified, id, open_, loan, lending, keys, nodes, loan_of, new_name, publish, put, reader, request_of, table, gen, update, writer}
use Rattle.board_model.specs.Replies.{word_put}
use Rattle.board_model.specs.Parties.{Party, begun, free}
use Rattle.board_model.specs.LawfulSession.{State, all_put, call_reason, is_filled, is_indexed, is_taken, is_typed}
use Rattle.board_model.specs.Sound.{IsCalling, IsFree, IsHeldThing, IsLent, IsOfBoard, IsParty, IsPublishing, IsTyped, IsWriting, Sound, Stands, is_suspended}
use Rattle.board_model.proofs.ThingLemmas.{found_as}
use Rattle.board_model.proofs.CopyLemmas.{stands_none}
use Rattle.board_model.proofs.OpeningLemmas.{sized}
use Rattle.board_model.proofs.StepLemmas.{calling}

-- ---- kinds and types

same_kind_is : (a b : ThingKind) → same_kind a b ≡ true → a ≡ b
same_kind_is thing_kind.Factory thing_kind.Factory e = refl
same_kind_is thing_kind.Factory thing_kind.Reader e = absurd cc
same_kind_is thing_kind.Factory thing_kind.Writer e = absurd cc
same_kind_is thing_kind.Factory thing_kind.ReadHandle e = absurd cc
same_kind_is thing_kind.Factory thing_kind.WriteHandle e = absurd cc
same_kind_is thing_kind.Reader thing_kind.Factory e = absurd cc
same_kind_is thing_kind.Reader thing_kind.Reader e = refl
same_kind_is thing_kind.Reader thing_kind.Writer e = absurd cc
same_kind_is thing_kind.Reader thing_kind.ReadHandle e = absurd cc
same_kind_is thing_kind.Reader thing_kind.WriteHandle e = absurd cc
same_kind_is thing_kind.Writer thing_kind.Factory e = absurd cc
same_kind_is thing_kind.Writer thing_kind.Reader e = absurd cc
same_kind_is thing_kind.Writer thing_kind.Writer e = refl
same_kind_is thing_kind.Writer thing_kind.ReadHandle e = absurd cc
same_kind_is thing_kind.Writer thing_kind.WriteHandle e = absurd cc
same_kind_is thing_kind.ReadHandle thing_kind.Factory e = absurd cc
same_kind_is thing_kind.ReadHandle thing_kind.Reader e = absurd cc
same_kind_is thing_kind.ReadHandle thing_kind.Writer e = absurd cc
same_kind_is thing_kind.ReadHandle thing_kind.ReadHandle e = refl
same_kind_is thing_kind.ReadHandle thing_kind.WriteHandle e = absurd cc
same_kind_is thing_kind.WriteHandle thing_kind.Factory e = absurd cc
same_kind_is thing_kind.WriteHandle thing_kind.Reader e = absurd cc
same_kind_is thing_kind.WriteHandle thing_kind.Writer e = absurd cc
same_kind_is thing_kind.WriteHandle thing_kind.ReadHandle e = absurd cc
same_kind_is thing_kind.WriteHandle thing_kind.WriteHandle e = refl

-- what was found is of the kind
pub record IsFoundOf (s : Standing) (party name : List ℕ) (k : ThingKind) (x : Held) : Type 0 where
  pub found : thing_of s.tables.things party name ≡ Some x
  pub kind : kind_of x.kind ≡ k

found_of_kind : (s : Standing) (party name : List ℕ) (k : ThingKind) (x : Held) → held_of_kind s k party name ≡ Some x → IsFoundOf s party name k x
found_of_kind s party name k x e = at (thing_of s.tables.things party name) refl e
  where
    tested : (y : Held) → thing_of s.tables.things party name ≡ Some y → (b : Bool) → same_kind (kind_of y.kind) k ≡ b → cond b (Some y) None ≡ Some x → IsFoundOf s party name k x
    tested y f false t q = absurd cc
    tested y f true t q =
        let z : y ≡ x = same_Some y x q in
        subst (IsFoundOf s party name k) z (record { found = f; kind = same_kind_is (kind_of y.kind) k t })

    at : (o : Option Held) → thing_of s.tables.things party name ≡ o → of_kind k o ≡ Some x → IsFoundOf s party name k x
    at None f q = absurd cc
    at (Some y) f q = tested y f (same_kind (kind_of y.kind) k) refl q

-- a write handle writes its entry
written : (x : Held) → kind_of x.kind ≡ thing_kind.WriteHandle → is_write_handle x.board (entry_of x.kind) x ≡ true
written x e = and_from (x.board == x.board) (writes_entry (entry_of x.kind) x.kind) (eq-eqb x.board x.board refl) (at x.kind e)
  where
    at : (k : Kind) → kind_of k ≡ thing_kind.WriteHandle → writes_entry (entry_of k) k ≡ true
    at kind.Factory q = absurd cc
    at (kind.Reader p) q = absurd cc
    at (kind.Writer p) q = absurd cc
    at (kind.ReadHandle i) q = absurd cc
    at (kind.WriteHandle i p) q = eq-eqb i i refl

same_words : (a b : ValueType) → same_type (value_detail a) (value_detail b) ≡ true → word_count a ≡ word_count b
same_words type.Bool type.Bool e = refl
same_words type.Bool type.U64 e = refl
same_words type.Bool type.Q4 e = absurd cc
same_words type.U64 type.Bool e = refl
same_words type.U64 type.U64 e = refl
same_words type.U64 type.Q4 e = absurd cc
same_words type.Q4 type.Bool e = absurd cc
same_words type.Q4 type.U64 e = absurd cc
same_words type.Q4 type.Q4 e = refl

-- a value of the entry's type has as many words as the entry
value_size : (v : Value) (e : Entry) → IsTyped e → same_type (value_detail (type_of v)) e.value ≡ true → length (value_words v) ≡ e.cell.words
value_size v e h t = sized v ∙ same_words (type_of v) h.type (subst (λ (d : TypeDetail). same_type (value_detail (type_of v)) d ≡ true) h.detail t) ∙ sym h.words

-- ---- a line that isn't refused

pub record IsAsked (s : Standing) (party : List ℕ) (c : Call) (q : Request) : Type 0 where
  pub free : is_taken s party (new_name c) ≡ false
  pub typed : is_typed s q ≡ true
  pub indexed : is_indexed q ≡ true
  pub filled : is_filled q ≡ true

is_asked : (s : Standing) (party : List ℕ) (c : Call) (q : Request) → call_reason s party c (Some q) ≡ None → IsAsked s party c q
is_asked s party c q e = at (is_taken s party (new_name c)) refl (is_typed s q) refl (is_indexed q) refl (is_filled q) refl e
  where
    at : (x : Bool) → is_taken s party (new_name c) ≡ x → (y : Bool) → is_typed s q ≡ y → (z : Bool) → is_indexed q ≡ z → (w : Bool) → is_filled q ≡ w
        → (if x then Some reason.Taken else if not y then Some reason.Type else if not z then Some reason.Index else if not w then Some reason.Unfilled else None) ≡ None → IsAsked s party c q
    at true a y b z d w f h = absurd cc
    at false a false b z d w f h = absurd cc
    at false a true b false d w f h = absurd cc
    at false a true b true d false f h = absurd cc
    at false a true b true d true f h = record { free = a; typed = b; indexed = d; filled = f }

-- the name is free
unheld : (s : Standing) (party name : List ℕ) → is_taken s party (Some name) ≡ false → IsFree s party name
unheld s party name e = at (thing_of s.tables.things party name) (or_parts (is_some (thing_of s.tables.things party name)) (is_some (s.values party name)) e).0
  where
    at : (o : Option Held) → is_some o ≡ false → o ≡ None
    at None h = refl
    at (Some x) h = absurd cc

-- ---- what a call uses was found

abbrev IsBegun : State → List ℕ → Request → Type 0
IsBegun s party q = IsCalling s party (calling q [] 0) q

module _ (s : State) (party : List ℕ) (c : Call) where
  begun_then : {A : Type 0} (o : Option A) (make : A → Option Request) → call_reason s.standing party c (and_then o make) ≡ None
      → ((x : A) → o ≡ Some x → call_reason s.standing party c (make x) ≡ None → IsParty s party (begun (make x))) → IsParty s party (begun (and_then o make))
  begun_then None make e h = tt
  begun_then (Some x) make e h = h x refl e

  -- a call on a thing of this kind
  begun_held : (k : ThingKind) (name : List ℕ) (make : Held → Option Request) → call_reason s.standing party c (and_then (held_of_kind s.standing k party name) make) ≡ None
      → ((x : Held) → IsFoundOf s.standing party name k x → call_reason s.standing party c (make x) ≡ None → IsParty s party (begun (make x))) → IsParty s party (begun (and_then (held_of_kind s.standing k party name) make))
  begun_held k name make e h = begun_then (held_of_kind s.standing k party name) make e (λ x f g. h x (found_of_kind s.standing party name k x f) g)

held_thing : (s : Standing) (party name : List ℕ) (k : ThingKind) (x : Held) → IsFoundOf s party name k x → IsHeldThing s party k x
held_thing s party name k x h =
    let n = (found_as s.tables.things party name x h.found).named in
    record { found = subst (λ (m : List ℕ). thing_of s.tables.things party m ≡ Some x) (sym n) h.found; kind = h.kind }

-- a write handle that isn't lent
pub record IsFoundHandle (s : Standing) (party name : List ℕ) (x : Held) : Type 0 where
  pub held : IsFoundOf s party name thing_kind.WriteHandle x
  pub unlent : is_some (s.loans party name) ≡ false

found_handle : (s : Standing) (party name : List ℕ) (x : Held) → handle_of s party name ≡ Some x → IsFoundHandle s party name x
found_handle s party name x e = at (is_some (s.loans party name)) refl e
  where
    at : (b : Bool) → is_some (s.loans party name) ≡ b → (if b then None else held_of_kind s thing_kind.WriteHandle party name) ≡ Some x → IsFoundHandle s party name x
    at true t q = absurd cc
    at false t q = record { held = found_of_kind s party name thing_kind.WriteHandle x q; unlent = t }

-- a loan, with its words
pub record IsFoundLoan (s : Standing) (party name : List ℕ) (x : Held × List (Option ℕ)) : Type 0 where
  pub held : IsFoundOf s party name thing_kind.WriteHandle x.0
  pub words : s.loans party name ≡ Some x.1

found_loan : (s : Standing) (party name : List ℕ) (x : Held × List (Option ℕ)) → loan_of s party name ≡ Some x → IsFoundLoan s party name x
found_loan s party name x e = at (held_of_kind s thing_kind.WriteHandle party name) refl e
  where
    with_words : (t : Held) → held_of_kind s thing_kind.WriteHandle party name ≡ Some t → (o : Option (List (Option ℕ))) → s.loans party name ≡ o → and_then o (λ words. Some (t, words)) ≡ Some x → IsFoundLoan s party name x
    with_words t f None g q = absurd cc
    with_words t f (Some words) g q =
        let z = same_Some (t, words) x q in
        subst (IsFoundLoan s party name) z (record { held = found_of_kind s party name thing_kind.WriteHandle t f; words = g })

    at : (o : Option Held) → held_of_kind s thing_kind.WriteHandle party name ≡ o → and_then o (λ t. and_then (s.loans party name) (λ words. Some (t, words))) ≡ Some x → IsFoundLoan s party name x
    at None f q = absurd cc
    at (Some t) f q = with_words t f (s.loans party name) refl q

writing : (s : State) (party name : List ℕ) (x : Held) (e : Entry) (is_loan : Bool) → IsFoundOf s.standing party name thing_kind.WriteHandle x → is_some (s.standing.loans party name) ≡ is_loan → handled s.standing x ≡ Some e
    → IsWriting s party name x.board (entry_of x.kind) (cell_shape e.cell) (length (s.published x.board (entry_of x.kind))) is_loan
writing s party name x e is_loan h l f = record {
  place = record { entry = e; found = f; shape = refl };
  hold = record { thing = x; found = h.found; writes = written x h.kind; lent = l };
  generation = refl;
}

-- ---- calls on entries

begun_get : (s : State) (party h : List ℕ) (v : Option (List ℕ)) (x : Held) (e : Entry) → IsFoundOf s.standing party h thing_kind.ReadHandle x → handled s.standing x ≡ Some e
    → IsBegun s party (get (record { board = x.board; entry = entry_of x.kind; shape = cell_shape e.cell; type = e.value; handle = h; name = v }))
begun_get s party h v x e f g = record { place = record { entry = e; found = g; shape = refl }; hold = record { thing = x; found = f.found; is_of = refl }; try = refl }

begun_fresh : (s : State) (party h : List ℕ) (kept : ValueType) (generation : ℕ) (x : Held) (e : Entry) → IsFoundOf s.standing party h thing_kind.ReadHandle x → handled s.standing x ≡ Some e
    → IsBegun s party (fresh (record { board = x.board; entry = entry_of x.kind; shape = cell_shape e.cell; type = e.value; handle = h; kept = kept; generation = generation }))
begun_fresh s party h kept generation x e f g = (refl, record { place = record { entry = e; found = g; shape = refl }; hold = record { thing = x; found = f.found; is_of = refl } })

-- a publication of a value that has written nothing
begun_value : (s : State) → Sound s → (party name : List ℕ) (x : Held) (e : Entry) (v : Value) (is_loan : Bool) → IsFoundOf s.standing party name thing_kind.WriteHandle x → is_some (s.standing.loans party name) ≡ is_loan → handled s.standing x ≡ Some e → same_type (value_detail (type_of v)) e.value ≡ true
    → IsPublishing s party name x.board (entry_of x.kind) (cell_shape e.cell) (length (s.published x.board (entry_of x.kind))) (value_words v) 0 is_loan
begun_value s sound party name x e v is_loan h l f t = record {
  writes = writing s party name x e is_loan h l f;
  size = value_size v e (sound.boards.typed x.board (entry_of x.kind) e f) t;
  steps = omega arith;
  written = stands_none (s.memory x.board) (spare_at (cell_shape e.cell) (length (s.published x.board (entry_of x.kind)))) (value_words v);
}

-- the words that were put in a loan of a party that is free
loan_words : (s : State) → Sound s → (party name : List ℕ) (x : Held) (ws : List (Option ℕ)) (e : Entry) → s.parties party ≡ free → IsFoundOf s.standing party name thing_kind.WriteHandle x → s.standing.loans party name ≡ Some ws → handled s.standing x ≡ Some e
    → IsLent (s.memory x.board) (cell_shape e.cell) (length (s.published x.board (entry_of x.kind))) ws
loan_words s sound party name x ws e fr h l f =
    let k = sound.things.loans party name ws l in
    let z : k.thing ≡ x = same_Some k.thing x (sym k.found ∙ h.found) in
    let f' : entry_at s.standing.tables k.thing.board (entry_of k.thing.kind) ≡ Some e = ap (λ (y : Held). entry_at s.standing.tables y.board (entry_of y.kind)) z ∙ f in
    let a : is_suspended (s.parties party) k.thing.board (entry_of k.thing.kind) ≡ false = ap (λ (y : Party). is_suspended y k.thing.board (entry_of k.thing.kind)) fr in
    subst (λ (y : Held). IsLent (s.memory y.board) (cell_shape e.cell) (length (s.published y.board (entry_of y.kind))) ws) z (k.put e f' a)

put_at : (ws : List (Option ℕ)) (k : ℕ) → all_put ws ≡ true → k < length ws → slice_get ws k ≡ Some (Some (get_or (map word_put ws) k 0))
put_at [] k e lt = absurd (omega arith)
put_at (None ∷ ws) k e lt = absurd cc
put_at (Some w ∷ ws) zero e lt = refl
put_at (Some w ∷ ws) (suc k) e lt = put_at ws k e (omega arith)

abbrev a_lending : State → List ℕ → List ℕ → Held → List (Option ℕ) → Entry → Lending
a_lending s l m x ws e = record { board = x.board; entry = entry_of x.kind; shape = cell_shape e.cell; type = e.value; generation = length (s.published x.board (entry_of x.kind)); loan = l; handle = m; words = ws }

is_lent : (o : Option (List (Option ℕ))) (ws : List (Option ℕ)) → o ≡ Some ws → is_some o ≡ true
is_lent None ws e = absurd cc
is_lent (Some x) ws e = refl

begun_publish : (s : State) → Sound s → (party l m : List ℕ) (x : Held) (ws : List (Option ℕ)) (e : Entry) → s.parties party ≡ free → IsFoundOf s.standing party l thing_kind.WriteHandle x → s.standing.loans party l ≡ Some ws → handled s.standing x ≡ Some e
    → IsFree s.standing party m → all_put ws ≡ true → IsBegun s party (publish (a_lending s l m x ws e))
begun_publish s sound party l m x ws e fr h k f u t =
    let y = loan_words s sound party l x ws e fr h k f in
    let size : length (map word_put ws) ≡ e.cell.words = length-map ws word_put ∙ y.size in
    let whole : take e.cell.words (map word_put ws) ≡ map word_put ws = take_all e.cell.words (map word_put ws) (omega (arith, size)) in (
      refl,
      u,
      record {
        writes = writing s party l x e true h (is_lent (s.standing.loans party l) ws k) f;
        size = size;
        steps = omega arith;
        written = subst (λ (z : List ℕ). Stands (s.memory x.board) (spare_at (cell_shape e.cell) (length (s.published x.board (entry_of x.kind)))) z) (sym whole)
            (λ j lt. y.stands j (get_or (map word_put ws) j 0) (put_at ws j t (omega (arith, length-map ws word_put))));
      },
    )

-- ---- any call

module _ (s : State) (sound : Sound s) (party : List ℕ) (fr : s.parties party ≡ free) where
  begun_entry : (c : Call) (x : Held) (make : Entry → Option Request) → call_reason s.standing party c (and_then (handled s.standing x) make) ≡ None
      → ((e : Entry) → handled s.standing x ≡ Some e → call_reason s.standing party c (make e) ≡ None → IsParty s party (begun (make e))) → IsParty s party (begun (and_then (handled s.standing x) make))
  begun_entry c x make r h = begun_then s party c (handled s.standing x) make r h

  begun_loan : (c : Call) (l m : List ℕ) (make : Lending → Request) → call_reason s.standing party c (and_then (loan_of s.standing party l) (λ x. lending s.standing s.published l m x.0 x.1 make)) ≡ None
      → ((x : Held) (ws : List (Option ℕ)) (e : Entry) → IsFoundOf s.standing party l thing_kind.WriteHandle x → s.standing.loans party l ≡ Some ws → handled s.standing x ≡ Some e → IsAsked s.standing party c (make (a_lending s l m x ws e)) → IsBegun s party (make (a_lending s l m x ws e)))
      → IsParty s party (begun (and_then (loan_of s.standing party l) (λ x. lending s.standing s.published l m x.0 x.1 make)))
  begun_loan c l m make r h = begun_then s party c (loan_of s.standing party l) (λ x. lending s.standing s.published l m x.0 x.1 make) r (λ x f g.
      let k = found_loan s.standing party l x f in
      begun_entry c x.0 (λ e. Some (make (a_lending s l m x.0 x.1 e))) g (λ e a b. h x.0 x.1 e k.held k.words a (is_asked s.standing party c (make (a_lending s l m x.0 x.1 e)) b)))

  begun_handle : (c : Call) (m : List ℕ) (make : Held → Option Request) → call_reason s.standing party c (and_then (handle_of s.standing party m) make) ≡ None
      → ((x : Held) → IsFoundHandle s.standing party m x → call_reason s.standing party c (make x) ≡ None → IsParty s party (begun (make x))) → IsParty s party (begun (and_then (handle_of s.standing party m) make))
  begun_handle c m make r h = begun_then s party c (handle_of s.standing party m) make r (λ x f g. h x (found_handle s.standing party m x f) g)

  -- a reader, a writer or a handle
  found_any : (n : List ℕ) (x : Held) → identified s.standing party n ≡ Some x → IsOfBoard s.standing.tables party x.name x.board
  found_any n x e = at (held_of_kind s.standing thing_kind.Reader party n) refl (held_of_kind s.standing thing_kind.Writer party n) refl (held_of_kind s.standing thing_kind.ReadHandle party n) refl e
    where
      held : (k : ThingKind) → held_of_kind s.standing k party n ≡ Some x → IsOfBoard s.standing.tables party x.name x.board
      held k f = record { thing = x; found = (held_thing s.standing party n k x (found_of_kind s.standing party n k x f)).found; is_of = refl }

      at : (a : Option Held) → held_of_kind s.standing thing_kind.Reader party n ≡ a → (b : Option Held) → held_of_kind s.standing thing_kind.Writer party n ≡ b → (d : Option Held) → held_of_kind s.standing thing_kind.ReadHandle party n ≡ d
          → (if is_some a then a else if is_some b then b else if is_some d then d else handle_of s.standing party n) ≡ Some x → IsOfBoard s.standing.tables party x.name x.board
      at (Some y) f b g d h q = held thing_kind.Reader (f ∙ q)
      at None f (Some y) g d h q = held thing_kind.Writer (g ∙ q)
      at None f None g (Some y) h q = held thing_kind.ReadHandle (h ∙ q)
      at None f None g None h q =
          let k = found_handle s.standing party n x q in
          record { thing = x; found = (held_thing s.standing party n thing_kind.WriteHandle x k.held).found; is_of = refl }

  asked : (c : Call) (q : Request) → call_reason s.standing party c (Some q) ≡ None → IsAsked s.standing party c q
  asked c q r = is_asked s.standing party c q r

  pub begun_party : (c : Call) → call_reason s.standing party c (request_of s.standing s.published party c) ≡ None → IsParty s party (begun (request_of s.standing s.published party c))
  begun_party (call.Create f name k limits attributes entries) r = (refl, unheld s.standing party f (asked (call.Create f name k limits attributes entries) (table (create f name k limits attributes entries)) r).free)
  begun_party (call.Open f name k limits needs) r = (refl, unheld s.standing party f (asked (call.Open f name k limits needs) (table (open_ f name k limits needs)) r).free)
  begun_party (call.Reader n f) r = begun_held s party (call.Reader n f) thing_kind.Factory f (λ t. Some (table (reader n t))) r (λ x h g. (refl, (unheld s.standing party n (asked (call.Reader n f) (table (reader n x)) g).free, held_thing s.standing party f thing_kind.Factory x h)))
  begun_party (call.Writer n f) r = begun_held s party (call.Writer n f) thing_kind.Factory f (λ t. Some (table (writer n t))) r (λ x h g. (refl, (unheld s.standing party n (asked (call.Writer n f) (table (writer n x)) g).free, held_thing s.standing party f thing_kind.Factory x h)))
  begun_party (call.Entry n f k ty) r = begun_held s party (call.Entry n f k ty) thing_kind.Reader f (λ t. Some (table (entry n t k ty))) r (λ x h g. (refl, (unheld s.standing party n (asked (call.Entry n f k ty) (table (entry n x k ty)) g).free, held_thing s.standing party f thing_kind.Reader x h, (asked (call.Entry n f k ty) (table (entry n x k ty)) g).typed)))
  begun_party (call.EntryMut n f k ty) r = begun_held s party (call.EntryMut n f k ty) thing_kind.Writer f (λ t. Some (table (entry_mut n t k ty))) r (λ x h g. (refl, (unheld s.standing party n (asked (call.EntryMut n f k ty) (table (entry_mut n x k ty)) g).free, held_thing s.standing party f thing_kind.Writer x h, (asked (call.EntryMut n f k ty) (table (entry_mut n x k ty)) g).typed)))
  begun_party (call.Get h v) r = begun_held s party (call.Get h v) thing_kind.ReadHandle h _ r (λ x f g. begun_entry (call.Get h v) x _ g (λ e a b. begun_get s party h v x e f a))
  begun_party (call.Fresh h v) r = begun_held s party (call.Fresh h v) thing_kind.ReadHandle h _ r (λ x f g. begun_entry (call.Fresh h v) x _ g (λ e a b. begun_then s party (call.Fresh h v) (s.standing.values party v) _ b (λ k c d. begun_fresh s party h k.type k.generation x e f a)))
  begun_party (call.Update m v) r = begun_handle (call.Update m v) m _ r (λ x f g. begun_entry (call.Update m v) x _ g (λ e a b. begun_value s sound party m x e v false f.held f.unlent a (asked (call.Update m v) (update (record { board = x.board; entry = entry_of x.kind; shape = cell_shape e.cell; type = e.value; handle = m; generation = length (s.published x.board (entry_of x.kind)); value = v })) b).typed))
  begun_party (call.Loan l m) r = begun_handle (call.Loan l m) m _ r (λ x f g. begun_entry (call.Loan l m) x _ g (λ e a b. (refl, (unheld s.standing party l (asked (call.Loan l m) (table (loan (a_lending s l m x [] e))) b).free, writing s party m x e false f.held f.unlent a))))
  begun_party (call.Discard l m) r = begun_loan (call.Discard l m) l m (λ y. table (discard y)) r (λ x ws e h k a b. (refl, (unheld s.standing party m b.free, writing s party l x e true h (is_lent (s.standing.loans party l) ws k) a)))
  begun_party (call.Put l i w) r = begun_loan (call.Put l i w) l l (λ y. put y i w) r (λ x ws e h k a b. (refl, record { writes = writing s party l x e true h (is_lent (s.standing.loans party l) ws k) a; below = ltb-true i e.cell.words b.indexed; words = k; lent = loan_words s sound party l x ws e fr h k a }))
  begun_party (call.Publish l m) r = begun_loan (call.Publish l m) l m (λ y. publish y) r (λ x ws e h k a b. begun_publish s sound party l m x ws e fr h k a (unheld s.standing party m b.free) b.filled)
  begun_party (call.Fill l m v) r = begun_loan (call.Fill l m v) l m (λ y. fill y v) r (λ x ws e h k a b. (unheld s.standing party m b.free, begun_value s sound party l x e v true h (is_lent (s.standing.loans party l) ws k) a b.typed))
  begun_party (call.Keys f) r = begun_held s party (call.Keys f) thing_kind.Factory f (λ t. Some (table (keys t))) r (λ x h g. (refl, held_thing s.standing party f thing_kind.Factory x h))
  begun_party (call.Nodes f) r = begun_held s party (call.Nodes f) thing_kind.Factory f (λ t. Some (table (nodes t))) r (λ x h g. (refl, held_thing s.standing party f thing_kind.Factory x h))
  begun_party (call.Info f) r = begun_held s party (call.Info f) thing_kind.Factory f (λ t. Some (table (info t))) r (λ x h g. (refl, held_thing s.standing party f thing_kind.Factory x h))
  begun_party (call.Id n) r = begun_then s party (call.Id n) (identified s.standing party n) (λ t. Some (table (id t))) r (λ x f g. (refl, found_any n x f))
  begun_party (call.Gen m) r = begun_handle (call.Gen m) m (λ t. Some (table (gen t))) r (λ x f g. (refl, held_thing s.standing party m thing_kind.WriteHandle x f.held))
