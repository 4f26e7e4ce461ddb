-- A get that runs has the type of its entry, so that its value has as many words as its type.
use Rattle.std.proofs.Common.{◌≡◌, ℕ, Bool, true, false, cond, List, [], ◌∷◌, ◌++◌, refl, sym, ap, ◌∙◌, Option, Some, None}
use Rattle.std.specs.Str.{bytes_eq}
use Rattle.board_cell_model.specs.declared.access.Access.{Access}
use Rattle.board_cell_model.specs.declared.access.Access.TheVariants as access
use Rattle.board_layout.specs.Layout.{cell_shape}
use Rattle.board_model.specs.declared.answer.Answer.{Answer}
use Rattle.board_model.specs.declared.answer.Answer.TheVariants as answer
use Rattle.board_model.specs.declared.answer.Reply.{Reply}
use Rattle.board_model.specs.declared.line.Call.{Call}
use Rattle.board_model.specs.declared.line.Call.TheVariants as call
use Rattle.board_model.specs.declared.line.Line.{Line}
use Rattle.board_model.specs.declared.line.Line.TheVariants as line
use Rattle.board_model.specs.declared.tables.Entry.{Entry}
use Rattle.board_model.specs.declared.tables.ThingKind.TheVariants as thing_kind
use Rattle.board_model.specs.declared.value.ValueType.{ValueType}
use Rattle.board_model.specs.declared.value.ValueType.TheVariants as type
use Rattle.board_model.specs.TypeTable.{value_detail, value_type_of, word_count}
use Rattle.board_model.specs.Tables.{entry_of}
use Rattle.board_model.specs.Things.{held_of_kind}
use Rattle.board_model.specs.Requests.{Request, and_then, fill, fresh, get, handle_of, handled, identified, loan_of, publish, put, request_of, table, update}
use Rattle.board_model.specs.Parties.{Party, begun, free, gone, notice, running, with_party}
use Rattle.board_model.specs.LawfulSession.{IsLawful, IsLawfulFrom, Session, State, after, after_step, start, state_after}
use Rattle.board_model.specs.Sound.{IsTyped, Sound}
use Rattle.board_model.proofs.SoundLemmas.{sound_after, sound_start}

-- ---- types

type_again : (t : ValueType) → value_type_of (value_detail t) ≡ t
type_again type.Bool = refl
type_again type.U64 = refl
type_again type.Q4 = refl

-- a value of the entry has as many words as its type
entry_words : (e : Entry) → IsTyped e → (cell_shape e.cell).words ≡ word_count (value_type_of e.value)
entry_words e h = h.words ∙ ap word_count (sym (ap value_type_of h.detail ∙ type_again h.type))

-- ---- calls

-- a get has a type of as many words as its entry
abbrev pub IsTypedGet : Request → Type 0
IsTypedGet (get f) = f.shape.words ≡ word_count (value_type_of f.type)
IsTypedGet (table c) = Unit {0}
IsTypedGet (fresh l) = Unit {0}
IsTypedGet (update u) = Unit {0}
IsTypedGet (put l i w) = Unit {0}
IsTypedGet (publish l) = Unit {0}
IsTypedGet (fill l v) = Unit {0}

abbrev pub RunsTyped : Party → Type 0
RunsTyped free = Unit {0}
RunsTyped (running r) = IsTypedGet r.request
RunsTyped gone = Unit {0}

and_typed : {A : Type 0} (o : Option A) (f : A → Option Request) → ((x : A) → o ≡ Some x → RunsTyped (begun (f x))) → RunsTyped (begun (and_then o f))
and_typed None f h = tt
and_typed (Some x) f h = h x refl

begun_typed : (s : State) → Sound s → (party : List ℕ) (c : Call) → RunsTyped (begun (request_of s.standing s.published party c))
begun_typed s sound party (call.Create f name k limits attributes entries) = tt
begun_typed s sound party (call.Open f name k limits needs) = tt
begun_typed s sound party (call.Reader r f) = and_typed (held_of_kind s.standing thing_kind.Factory party f) _ (λ t _. tt)
begun_typed s sound party (call.Writer w f) = and_typed (held_of_kind s.standing thing_kind.Factory party f) _ (λ t _. tt)
begun_typed s sound party (call.Entry n r k type) = and_typed (held_of_kind s.standing thing_kind.Reader party r) _ (λ t _. tt)
begun_typed s sound party (call.EntryMut m w k type) = and_typed (held_of_kind s.standing thing_kind.Writer party w) _ (λ t _. tt)
begun_typed s sound party (call.Get n v) = and_typed (held_of_kind s.standing thing_kind.ReadHandle party n) _ (λ t _. and_typed (handled s.standing t) _ (λ e found. entry_words e (sound.boards.typed t.board (entry_of t.kind) e found)))
begun_typed s sound party (call.Fresh n v) = and_typed (held_of_kind s.standing thing_kind.ReadHandle party n) _ (λ t _. and_typed (handled s.standing t) _ (λ e _. and_typed (s.standing.values party v) _ (λ k _. tt)))
begun_typed s sound party (call.Update m v) = and_typed (handle_of s.standing party m) _ (λ t _. and_typed (handled s.standing t) _ (λ e _. tt))
begun_typed s sound party (call.Loan l m) = and_typed (handle_of s.standing party m) _ (λ t _. and_typed (handled s.standing t) _ (λ e _. tt))
begun_typed s sound party (call.Discard l m) = and_typed (loan_of s.standing party l) _ (λ x _. and_typed (handled s.standing x.0) _ (λ e _. tt))
begun_typed s sound party (call.Put l i w) = and_typed (loan_of s.standing party l) _ (λ x _. and_typed (handled s.standing x.0) _ (λ e _. tt))
begun_typed s sound party (call.Publish l m) = and_typed (loan_of s.standing party l) _ (λ x _. and_typed (handled s.standing x.0) _ (λ e _. tt))
begun_typed s sound party (call.Fill l m v) = and_typed (loan_of s.standing party l) _ (λ x _. and_typed (handled s.standing x.0) _ (λ e _. tt))
begun_typed s sound party (call.Keys f) = and_typed (held_of_kind s.standing thing_kind.Factory party f) _ (λ t _. tt)
begun_typed s sound party (call.Nodes f) = and_typed (held_of_kind s.standing thing_kind.Factory party f) _ (λ t _. tt)
begun_typed s sound party (call.Info f) = and_typed (held_of_kind s.standing thing_kind.Factory party f) _ (λ t _. tt)
begun_typed s sound party (call.Id n) = and_typed (identified s.standing party n) _ (λ t _. tt)
begun_typed s sound party (call.Gen m) = and_typed (handle_of s.standing party m) _ (λ t _. tt)

-- ---- parties

noticed_typed : (a : Access) (x : Party) → RunsTyped x → RunsTyped (notice a x)
noticed_typed access.Table free h = tt
noticed_typed access.Table (running q) h = h
noticed_typed access.Table gone h = tt
noticed_typed (access.Read b w v) free h = tt
noticed_typed (access.Read b w v) (running q) h = h
noticed_typed (access.Read b w v) gone h = tt
noticed_typed (access.Write b w v) free h = tt
noticed_typed (access.Write b w v) (running q) h = h
noticed_typed (access.Write b w v) gone h = tt

with_typed : (ps : List ℕ → Party) (p party : List ℕ) (x : Party) → RunsTyped x → RunsTyped (ps party) → RunsTyped (with_party ps p x party)
with_typed ps p party x h k = at (bytes_eq party p)
  where
    at : (z : Bool) → RunsTyped (cond z x (ps party))
    at true = h
    at false = k

step_typed : (s : State) (party : List ℕ) (x : Party) (a : Access) (told : Option Reply) → RunsTyped x → ((p : List ℕ) → RunsTyped (s.parties p)) → (p : List ℕ) → RunsTyped ((after_step s party x a told).parties p)
step_typed s party free a told k h p = h p
step_typed s party gone a told k h p = h p
step_typed s party (running r) a None k h p = with_typed (λ y. notice a (s.parties y)) party p (running (record r { so_far = r.so_far ++ a ∷ [] })) k (noticed_typed a (s.parties p) (h p))
step_typed s party (running r) a (Some told) k h p = with_typed (λ y. notice a (s.parties y)) party p free tt (noticed_typed a (s.parties p) (h p))

calls_typed : (s : State) (l : Line) (a : Answer) → Sound s → ((p : List ℕ) → RunsTyped (s.parties p)) → (p : List ℕ) → RunsTyped ((after s l a).parties p)
calls_typed s (line.Begin party c) answer.Begun sound h p = with_typed s.parties party p (begun (request_of s.standing s.published party c)) (begun_typed s sound party c) (h p)
calls_typed s (line.Begin party c) (answer.Refused why) sound h p = h p
calls_typed s (line.Begin party c) (answer.Step x told) sound h p = h p
calls_typed s (line.Begin party c) answer.Gone sound h p = h p
calls_typed s (line.Begin party c) (answer.Words words) sound h p = h p
calls_typed s (line.Step party) answer.Begun sound h p = h p
calls_typed s (line.Step party) (answer.Refused why) sound h p = h p
calls_typed s (line.Step party) (answer.Step x told) sound h p = step_typed s party (s.parties party) x told (h party) h p
calls_typed s (line.Step party) answer.Gone sound h p = h p
calls_typed s (line.Step party) (answer.Words words) sound h p = h p
calls_typed s (line.Release party name) answer.Begun sound h p = h p
calls_typed s (line.Release party name) (answer.Refused why) sound h p = h p
calls_typed s (line.Release party name) (answer.Step x told) sound h p = h p
calls_typed s (line.Release party name) answer.Gone sound h p = h p
calls_typed s (line.Release party name) (answer.Words words) sound h p = h p
calls_typed s (line.Abandon party) answer.Begun sound h p = h p
calls_typed s (line.Abandon party) (answer.Refused why) sound h p = h p
calls_typed s (line.Abandon party) (answer.Step x told) sound h p = h p
calls_typed s (line.Abandon party) answer.Gone sound h p = with_typed s.parties party p gone tt (h p)
calls_typed s (line.Abandon party) (answer.Words words) sound h p = h p
calls_typed s (line.Words n) a sound h p = h p

typed_from : (pairs : Session) (s : State) → IsLawfulFrom s pairs → Sound s → ((p : List ℕ) → RunsTyped (s.parties p)) → (p : List ℕ) → RunsTyped ((state_after s pairs).parties p)
typed_from [] s ok sound h p = h p
typed_from (x ∷ xs) s ok sound h p = typed_from xs (after s x.0 x.1) ok.1 (sound_after s x.0 x.1 ok.0 sound) (calls_typed s x.0 x.1 sound h) p

-- each get that runs after a session
pub gets_typed : (pairs : Session) → IsLawful pairs → (p : List ℕ) → RunsTyped ((state_after start pairs).parties p)
gets_typed pairs ok p = typed_from pairs start ok sound_start (λ q. tt) p
