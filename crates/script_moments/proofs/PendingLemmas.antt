-- The set or push that made an id pending, along a session.
use Rattle.std.proofs.Common.{arith, ◌≡◌, ℕ, zero, suc, ◌+◌, ◌*◌, ◌/◌, ◌%◌, ◌<◌, ◌≤◌, Bool, true, false, List, [], ◌∷◌, ◌++◌, refl, sym, ap, subst, ◌∙◌, Option, Some, inl, inr, eqb, append_assoc}
use Rattle.std.specs.Prelude.{◌==◌, ◌⊎◌, not, if◌then◌else◌}
use Rattle.std.specs.Int.{bit_at}
use Rattle.std.specs.List.{list_any}
use Rattle.std.proofs.lemmas.Bool.{eq-eqb, false≢true}
use Rattle.std.proofs.lemmas.List.{append-nil}
use Rattle.board_event_model.specs.declared.access.EventAccess.{EventAccess}
use Rattle.board_event_model.specs.declared.access.EventAccess.TheVariants as access
use Rattle.board_event_model.specs.declared.access.EventAnswer.{EventAnswer}
use Rattle.board_event_model.specs.declared.access.EventAnswer.TheVariants as event_answer
use Rattle.board_event_model.specs.declared.kind.EventKind.{EventKind}
use Rattle.board_event_model.specs.declared.kind.EventKind.TheVariants as kind
use Rattle.board_event_model.specs.Ids.{has, ids_where, in_word}
use Rattle.board_event_model.specs.EventMemory.{Event, IsRight, kind_of_access, oldest, taken}
use Rattle.board_event_model.specs.EventCalls.{PartyName, RunningCall}
use Rattle.board_event_model.specs.EventRuns.{EventMove, Takes, abandon, begin, elsewhere, expire, notifiers, release_listener, step}
use Rattle.board_event_model.specs.EventSessions.{PartyCall, StandingEvent, view}
use Rattle.board_event_model.specs.LawsOfIds.{pushed_by, pushed_in, sets_id, takes_id, was_set_last}
use Rattle.board_event_model.proofs.QuietLemmas.{bit_one, eqb_self, eqb_true}
use Rattle.board_event_model.proofs.SetLemmas.{and_join, and_split, either, not_true, or_split}
use Rattle.board_event_model.proofs.SoundLemmas.{some_same}
use Rattle.board_model.specs.declared.line.Line.TheVariants as board_line
use Rattle.script_model.specs.declared.line.ScriptLine.TheVariants as line
use Rattle.script_model.specs.declared.reply.EventReply.{EventReply}
use Rattle.script_model.specs.ScriptAnswers.{of_event}
use Rattle.script_model.specs.ScriptTurns.{ScriptState}
use Rattle.script_model.specs.ScriptSession.{IsLawful, Session, after, start, state_after}
use Rattle.script_model.specs.LawsOfComposition.{IsUntaken, MakesPending, Notifies, Pair, TakesId, past, state_met}
use Rattle.script_model.specs.LawsOfEvents.{Last, TakesAccess, at_last}
use Rattle.script_model.proofs.ReplyLaws.{printed_taken}
use Rattle.script_moments.specs.LawsOfTakes.{IsUnnotified, moves_in, pushed_on}
use Rattle.script_moments.proofs.EventKindLemmas.{AreOfKind, kinds_back}
use Rattle.script_moments.proofs.EventPairLemmas.{AreNoSteps, IsNoStep, TakesNone, TakesOn, along, pair_moves}
use Rattle.script_moments.proofs.SessionLemmas.{state_append}

-- ---- what an access takes

-- the printed access is a step of the run of its event, whose kind and name are printed
pub record IsAccessOf (l : Last) (n : ℕ) (st : StandingEvent) (party : List ℕ) (call : RunningCall) (a : EventAccess) (b : EventAnswer) (k : EventKind) (name : List ℕ) : Type 0 where
  pub takes : Takes (view (at_last l).events.session n st) party call a b
  pub kind_is : k ≡ st.event.kind
  pub name_is : name ≡ st.event.name

pub access_is : (l : Last) (n : ℕ) (st : StandingEvent) (party : List ℕ) (call : RunningCall) (a : EventAccess) (b : EventAnswer) (told : Option EventReply) → (at_last l).events.session.stands n ≡ Some st → (t : TakesAccess (at_last l) l.pair party n call a b told)
    → IsAccessOf l n st party call a b t.kind t.name
access_is l n st party call a b told stands t =
    let s : ScriptState = at_last l in
    let k = printed_taken l party a b told (record { kind = t.kind; name = t.name; steps = t.steps; prints = t.prints }) in
    let one : k.of.doing ≡ record { on = n; call = call } = some_same k.of.doing _ (sym k.of.runs ∙ t.runs) in
    let event : k.of.standing ≡ st = some_same k.of.standing st (sym k.of.stands ∙ ap (λ (d : PartyCall). s.events.session.stands d.on) one ∙ stands) in
    record {
      takes = subst (λ (d : PartyCall). Takes (view s.events.session d.on st) party d.call a b) one
          (subst (λ (x : StandingEvent). Takes (view s.events.session k.of.doing.on x) party k.of.doing.call a b) event k.takes);
      kind_is = k.kind_is ∙ ap (λ (x : StandingEvent). x.event.kind) event;
      name_is = k.name_is ∙ ap (λ (x : StandingEvent). x.event.name) event;
    }

-- an id among those of a word
record IsIn (p : ℕ → Bool) (at n id : ℕ) : Type 0 where
  passes : p id ≡ true
  low : at ≤ id
  high : id < at + n

in_rest : (p : ℕ → Bool) (at n id : ℕ) → IsIn p (at + 1) n id → IsIn p at (suc n) id
in_rest p at n id h = let low = h.low in let high = h.high in record { passes = h.passes; low = omega arith; high = omega arith }

in_more : (p : ℕ → Bool) (at n id : ℕ) (b : Bool) → p at ≡ b → (list_any (λ x. x == id) (ids_where p (at + 1) n) ≡ true → IsIn p (at + 1) n id) → list_any (λ x. x == id) (if b then at ∷ ids_where p (at + 1) n else ids_where p (at + 1) n) ≡ true → IsIn p at (suc n) id
in_more p at n id true e rest g =
    elim (or_split (eqb at id) _ g) [
      | inl here ↦ (let same : at ≡ id = eqb_true at id here in record { passes = ap p (sym same) ∙ e; low = omega arith; high = omega arith })
      | inr there ↦ in_rest p at n id (rest there)
    ]
in_more p at n id false e rest g = in_rest p at n id (rest g)

ids_in : (p : ℕ → Bool) (at n id : ℕ) → list_any (λ x. x == id) (ids_where p at n) ≡ true → IsIn p at n id
ids_in p at zero id h = absurd (false≢true h)
ids_in p at (suc n) id h = in_more p at n id (p at) refl (λ g. ids_in p (at + 1) n id g) h

-- of a set, an access that takes the id takes it as it is answered
taken_takes : (e : Event) (p : PartyName) (a : EventAccess) (b : EventAnswer) (id : ℕ) → IsRight e a b → kind.Bits ≡ kind_of_access a → list_any (λ x. x == id) (taken e a) ≡ true → takes_id (step p a b) id ≡ true
taken_takes e p access.Listener b id right k h = absurd (false≢true h)
taken_takes e p (access.Set i) b id right k h = absurd (false≢true h)
taken_takes e p access.Post b id right k h = absurd (false≢true h)
taken_takes e p (access.Push i) b id right k h = absurd (false≢true h)
taken_takes e p access.Signal b id right k h = absurd (false≢true h)
taken_takes e p (access.Scan w) b id right k h = absurd (false≢true h)
taken_takes e p (access.Clear i) b id right k h = elim (or_split (eqb i id) false h) [ inl same ↦ same | inr none ↦ absurd (false≢true none) ]
taken_takes e p (access.Swap w) b id right k h =
    let m = ids_in (has e.pending) (64 * w) 64 id h in
    let low = m.low in
    let high = m.high in
    let place : id / 64 ≡ w = omega arith in
    subst (λ (x : EventAnswer). takes_id (step p (access.Swap w) x) id ≡ true) (sym right.1)
    (and_join (in_word w id) (bit_at right.0 (id % 64) == 1) (eq-eqb (id / 64) w place) (eq-eqb (bit_at right.0 (id % 64)) 1 (bit_one e.pending w right.0 id right.2 m.passes place)))
taken_takes e p access.Pop b id right k h = absurd (let f : kind.Bits ≡ kind.Queue = k in cc)

-- of a queue, it is a pop of the oldest id
pub pop_takes : (e : Event) (a : EventAccess) (id : ℕ) → kind.Queue ≡ kind_of_access a → list_any (λ x. x == id) (taken e a) ≡ true → (rest : List ℕ) × (e.queue ≡ id ∷ rest)
pop_takes e access.Listener id k h = absurd (false≢true h)
pop_takes e (access.Set i) id k h = absurd (false≢true h)
pop_takes e access.Post id k h = absurd (false≢true h)
pop_takes e (access.Push i) id k h = absurd (false≢true h)
pop_takes e access.Signal id k h = absurd (false≢true h)
pop_takes e (access.Scan w) id k h = absurd (false≢true h)
pop_takes e (access.Clear i) id k h = absurd (let f : kind.Queue ≡ kind.Bits = k in cc)
pop_takes e (access.Swap w) id k h = absurd (let f : kind.Queue ≡ kind.Bits = k in cc)
pop_takes e access.Pop id k h = at e.queue h
  where
    at : (queue : List ℕ) → list_any (λ x. x == id) (oldest queue) ≡ true → (rest : List ℕ) × (queue ≡ id ∷ rest)
    at [] g = absurd (false≢true g)
    at (x ∷ xs) g = elim (or_split (eqb x id) false g) [ inl same ↦ (xs, ap (λ (y : ℕ). y ∷ xs) (eqb_true x id same)) | inr none ↦ absurd (false≢true none) ]

-- of a set, an access that takes the id is clear or swap
pub set_takes : (e : Event) (a : EventAccess) (b : EventAnswer) (id : ℕ) → IsRight e a b → kind.Bits ≡ kind_of_access a → list_any (λ x. x == id) (taken e a) ≡ true → has e.pending id ≡ true
set_takes e access.Listener b id right k h = absurd (false≢true h)
set_takes e (access.Set i) b id right k h = absurd (false≢true h)
set_takes e access.Post b id right k h = absurd (false≢true h)
set_takes e (access.Push i) b id right k h = absurd (false≢true h)
set_takes e access.Signal b id right k h = absurd (false≢true h)
set_takes e (access.Scan w) b id right k h = absurd (false≢true h)
set_takes e (access.Clear i) b id right k h =
    elim (or_split (eqb i id) false h) [ inl same ↦ subst (λ (x : ℕ). has e.pending x ≡ true) (eqb_true i id same) right.1 | inr none ↦ absurd (false≢true none) ]
set_takes e (access.Swap w) b id right k h = (ids_in (has e.pending) (64 * w) 64 id h).passes
set_takes e access.Pop b id right k h = absurd (let f : kind.Bits ≡ kind.Queue = k in cc)

-- ---- the last set of an id

-- a set or push of the id, and what came before and since
pub record IsMade (done : Session) (n id : ℕ) : Type 0 where
  pub before : Session
  pub pair : Pair
  pub since : Session
  pub whole : done ≡ before ++ pair ∷ since
  pub party : List ℕ
  pub number : ℕ
  pub notified : Notifies (state_met before) pair party n id number

pub record IsSetLast (done : Session) (n id : ℕ) : Type 0 where
  pub made : IsMade done n id
  pub newest : IsUnnotified (past made.before made.pair) made.since n id
  pub untaken : IsUntaken (past made.before made.pair) made.since n id

untaken_push : (xs : Session) (s : ScriptState) (pair : Pair) (n id : ℕ) → IsUntaken s xs n id → (TakesId (state_after s xs) pair n id → ⊥) → IsUntaken s (xs ++ pair ∷ []) n id
untaken_push [] s pair n id h without = (without, tt)
untaken_push (x ∷ xs) s pair n id h without = (h.0, untaken_push xs (after s x.0 x.1) pair n id h.1 without)

unnotified_push : (xs : Session) (s : ScriptState) (pair : Pair) (n id : ℕ) → IsUnnotified s xs n id → ((party : List ℕ) (number : ℕ) → Notifies (state_after s xs) pair party n id number → ⊥) → IsUnnotified s (xs ++ pair ∷ []) n id
unnotified_push [] s pair n id h without = (without, tt)
unnotified_push (x ∷ xs) s pair n id h without = (h.0, unnotified_push xs (after s x.0 x.1) pair n id h.1 without)

abbrev made_more : (done : Session) (pair : Pair) (n id : ℕ) → IsMade done n id → IsMade (done ++ pair ∷ []) n id
made_more done pair n id h = record {
  before = h.before;
  pair = h.pair;
  since = h.since ++ pair ∷ [];
  whole = ap (λ (xs : Session). xs ++ pair ∷ []) h.whole ∙ append_assoc h.before (h.pair ∷ h.since) (pair ∷ []);
  party = h.party;
  number = h.number;
  notified = h.notified;
}

last_more : (done : Session) (pair : Pair) (n id : ℕ) → (TakesId (state_met done) pair n id → ⊥) → ((party : List ℕ) (number : ℕ) → Notifies (state_met done) pair party n id number → ⊥) → IsSetLast done n id → IsSetLast (done ++ pair ∷ []) n id
last_more done pair n id no_take no_set h =
    let m = h.made in
    let state : state_met done ≡ state_after (past m.before m.pair) m.since = ap state_met m.whole ∙ state_append m.before (m.pair ∷ m.since) start in
    record {
      made = made_more done pair n id m;
      newest = unnotified_push m.since (past m.before m.pair) pair n id h.newest (subst (λ (s : ScriptState). (party : List ℕ) (number : ℕ) → Notifies s pair party n id number → ⊥) state no_set);
      untaken = untaken_push m.since (past m.before m.pair) pair n id h.untaken (subst (λ (s : ScriptState). TakesId s pair n id → ⊥) state no_take);
    }

-- moves that are no accesses set and take nothing
move_leaves : (m : EventMove) (ms : List EventMove) (id : ℕ) → IsNoStep m → was_set_last id (m ∷ ms) ≡ was_set_last id ms
move_leaves (begin p c) ms id h = refl
move_leaves (step p a b) ms id h = absurd h
move_leaves (expire p) ms id h = refl
move_leaves (abandon p) ms id h = refl
move_leaves release_listener ms id h = refl
move_leaves (notifiers n) ms id h = refl
move_leaves elsewhere ms id h = refl

moves_leave : (ms xs : List EventMove) (id : ℕ) → AreNoSteps ms → was_set_last id (ms ++ xs) ≡ was_set_last id xs
moves_leave [] xs id h = refl
moves_leave (m ∷ ms) xs id h = move_leaves m (ms ++ xs) id h.0 ∙ moves_leave ms xs id h.1

set_is : (p : PartyName) (a : EventAccess) (b : EventAnswer) (id : ℕ) → sets_id (step p a b) id ≡ true → a ≡ access.Set id
set_is p access.Listener b id h = absurd (false≢true h)
set_is p (access.Set i) b id h = ap access.Set (eqb_true i id h)
set_is p access.Post b id h = absurd (false≢true h)
set_is p (access.Push i) b id h = absurd (false≢true h)
set_is p access.Signal b id h = absurd (false≢true h)
set_is p (access.Scan k) b id h = absurd (false≢true h)
set_is p (access.Clear i) b id h = absurd (false≢true h)
set_is p (access.Swap k) b id h = absurd (false≢true h)
set_is p access.Pop b id h = absurd (false≢true h)

-- two accesses that one pair prints are one
record IsSameStep (p q : List ℕ) (a c : EventAccess) (b d : EventAnswer) : Type 0 where
  party : p ≡ q
  access : a ≡ c
  answer : b ≡ d

same_step : (s : ScriptState) (pair : Pair) (p q : List ℕ) (n m : ℕ) (c d : RunningCall) (a x : EventAccess) (b y : EventAnswer) (t u : Option EventReply) → TakesAccess s pair p n c a b t → TakesAccess s pair q m d x y u → IsSameStep p q a x b y
same_step s pair p q n m c d a x b y t u f g =
    let lines : line.Board (board_line.Step p) ≡ line.Board (board_line.Step q) = sym f.steps ∙ g.steps in
    let answers : of_event f.kind f.name a b t ≡ of_event g.kind g.name x y u = sym f.prints ∙ g.prints in
    record { party = cc; access = cc; answer = cc }

-- such a take is of the move
take_moves : (done : Session) (pair : Pair) (n id : ℕ) (p : List ℕ) (call : RunningCall) (a : EventAccess) (b : EventAnswer) (told : Option EventReply) → IsLawful (done ++ pair ∷ []) → kind.Bits ≡ kind_of_access a → TakesAccess (state_met done) pair p n call a b told → TakesId (state_met done) pair n id → takes_id (step p a b) id ≡ true
take_moves done pair n id p call a b told ok k f t =
    let one = same_step (state_met done) pair t.party p n n t.call call t.access a t.answer b t.told told t.step f in
    let l : Last = record { before = done; pair = pair; lawful = ok } in
    let takes = (access_is l n t.event t.party t.call t.access t.answer t.told t.stands t.step).takes in
    let same : kind.Bits ≡ kind_of_access t.access = k ∙ ap kind_of_access (sym one.access) in
    let here : takes_id (step t.party t.access t.answer) id ≡ true = taken_takes t.event.event t.party t.access t.answer id takes.right same t.takes in
    subst (λ (y : EventAnswer). takes_id (step p a y) id ≡ true) one.answer
    (subst (λ (x : EventAccess). takes_id (step p x t.answer) id ≡ true) one.access
    (subst (λ (q : List ℕ). takes_id (step q t.access t.answer) id ≡ true) one.party here))

-- and such a set
set_moves : (p : List ℕ) (a : EventAccess) (b : EventAnswer) (id : ℕ) → kind.Bits ≡ kind_of_access a → MakesPending a b id → sets_id (step p a b) id ≡ true
set_moves p a b id k h =
    elim h [
      | inl set ↦ subst (λ (x : EventAccess). sets_id (step p x b) id ≡ true) (sym set) (eqb_self id)
      | inr push ↦ absurd (let f : kind.Bits ≡ kind.Queue = k ∙ ap kind_of_access push.0 in cc)
    ]

abbrev SetLast : ℕ → ℕ → Session → Type 0
SetLast n id done = AreOfKind kind.Bits (moves_in n done) → was_set_last id (moves_in n done) ≡ true → IsSetLast done n id

set_here : (done : Session) (pair : Pair) (n id : ℕ) (ms : List EventMove) (t : TakesOn (state_met done) pair n ms) → t.access ≡ access.Set id → IsSetLast (done ++ pair ∷ []) n id
set_here done pair n id ms t is = record {
  made = record {
    before = done;
    pair = pair;
    since = [];
    whole = refl;
    party = t.party;
    number = t.call.number;
    notified = record { call = t.call; access = t.access; answer = t.answer; told = t.told; step = t.takes; number_is = refl; makes = inl is };
  };
  newest = tt;
  untaken = tt;
}

set_step : (n id : ℕ) (done : Session) (pair : Pair) → IsLawful (done ++ pair ∷ []) → SetLast n id done → SetLast n id (done ++ pair ∷ [])
set_step n id done pair ok h kinds was =
    let k = pair_moves done pair n ok in
    at k.moves k.what (subst (AreOfKind kind.Bits) k.is kinds) (sym (ap (was_set_last id) k.is) ∙ was)
  where
    on : (ms : List EventMove) (t : TakesOn (state_met done) pair n ms) → AreOfKind kind.Bits (step t.party t.access t.answer ∷ moves_in n done) → was_set_last id (step t.party t.access t.answer ∷ moves_in n done) ≡ true → IsSetLast (done ++ pair ∷ []) n id
    on ms t kinds was =
        elim (or_split (sets_id (step t.party t.access t.answer) id) _ was) [
          | inl sets ↦ set_here done pair n id ms t (set_is t.party t.access t.answer id sets)
          | inr before ↦ (
              let w = and_split (not (takes_id (step t.party t.access t.answer) id)) (was_set_last id (moves_in n done)) before in
              elim (either (sets_id (step t.party t.access t.answer) id)) [
                | inl sets ↦ set_here done pair n id ms t (set_is t.party t.access t.answer id sets)
                | inr not_set ↦ last_more done pair n id
                    (λ x. false≢true (sym (not_true _ w.0) ∙ take_moves done pair n id t.party t.call t.access t.answer t.told ok kinds.0 t.takes x))
                    (λ party number x.
                    let one = same_step (state_met done) pair t.party party n n t.call x.call t.access x.access t.answer x.answer t.told x.told t.takes x.step in
                    false≢true (sym not_set ∙ set_moves t.party t.access t.answer id kinds.0 (subst (λ (y : EventAnswer). MakesPending t.access y id) (sym one.answer) (subst (λ (y : EventAccess). MakesPending y x.answer id) (sym one.access) x.makes))))
                    (h kinds.1 w.1)
              ])
        ]

    at : (ms : List EventMove) → TakesOn (state_met done) pair n ms ⊎ TakesNone (state_met done) pair n ms → AreOfKind kind.Bits (ms ++ moves_in n done) → was_set_last id (ms ++ moves_in n done) ≡ true → IsSetLast (done ++ pair ∷ []) n id
    at ms (inl t) kinds was =
        on ms t (subst (λ (xs : List EventMove). AreOfKind kind.Bits (xs ++ moves_in n done)) t.moves kinds) (sym (ap (λ (xs : List EventMove). was_set_last id (xs ++ moves_in n done)) t.moves) ∙ was)
    at ms (inr t) kinds was =
        last_more done pair n id (λ x. t.none x.party x.call x.access x.answer x.told x.step) (λ party number x. t.none party x.call x.access x.answer x.told x.step)
        (h (kinds_back kind.Bits ms (moves_in n done) kinds) (sym (moves_leave ms (moves_in n done) id t.moves) ∙ was))

-- an id of a set that is pending was set, and since then neither set nor taken
pub set_last : (pairs : Session) → IsLawful pairs → (n id : ℕ) → AreOfKind kind.Bits (moves_in n pairs) → was_set_last id (moves_in n pairs) ≡ true → IsSetLast pairs n id
set_last pairs ok n id = along (SetLast n id) (λ kinds was. absurd (false≢true was)) (set_step n id) pairs ok

-- ---- the push of an id

pub record IsPushed (done : Session) (n id : ℕ) (front : List ℕ) : Type 0 where
  pub made : IsMade done n id
  pub place : pushed_on n made.before ≡ front

abbrev Pushed : ℕ → Session → Type 0
Pushed n done = (front rest : List ℕ) (id : ℕ) → pushed_on n done ≡ front ++ id ∷ rest → IsPushed done n id front

no_front : (front rest : List ℕ) (id : ℕ) → [] ≡ front ++ id ∷ rest → ⊥
no_front [] rest id e = cc
no_front (x ∷ front) rest id e = cc

-- the last of a list is behind the place, or at it
heads : (x y : ℕ) (xs ys : List ℕ) → x ∷ xs ≡ y ∷ ys → (x ≡ y) × (xs ≡ ys)
heads x y xs ys e = (cc, cc)

push_split : (xs front rest : List ℕ) (i id : ℕ) → xs ++ i ∷ [] ≡ front ++ id ∷ rest → ((xs ≡ front) × (i ≡ id)) ⊎ ((more : List ℕ) × (xs ≡ front ++ id ∷ more))
push_split [] [] rest i id e = inl (refl, (heads i id [] rest e).0)
push_split [] (y ∷ front) rest i id e = absurd (no_front front rest id (heads i y [] (front ++ id ∷ rest) e).1)
push_split (x ∷ xs) [] rest i id e = inr (xs, ap (λ (z : ℕ). z ∷ xs) (heads x id (xs ++ i ∷ []) rest e).0)
push_split (x ∷ xs) (y ∷ front) rest i id e =
    let w = heads x y (xs ++ i ∷ []) (front ++ id ∷ rest) e in
    elim (push_split xs front rest i id w.1) [
      | inl h ↦ inl (ap (λ (z : ℕ). z ∷ xs) w.0 ∙ ap (λ (zs : List ℕ). y ∷ zs) h.0, h.1)
      | inr h ↦ inr (h.0, ap (λ (z : ℕ). z ∷ xs) w.0 ∙ ap (λ (zs : List ℕ). y ∷ zs) h.1)
    ]

-- a move that is no access pushes nothing
move_pushes : (m : EventMove) → IsNoStep m → pushed_by m ≡ []
move_pushes (begin p c) h = refl
move_pushes (step p a b) h = absurd h
move_pushes (expire p) h = refl
move_pushes (abandon p) h = refl
move_pushes release_listener h = refl
move_pushes (notifiers n) h = refl
move_pushes elsewhere h = refl

moves_push : (ms xs : List EventMove) → AreNoSteps ms → pushed_in (ms ++ xs) ≡ pushed_in xs
moves_push [] xs h = refl
moves_push (m ∷ ms) xs h = ap (λ (ys : List ℕ). pushed_in (ms ++ xs) ++ ys) (move_pushes m h.0) ∙ append-nil (pushed_in (ms ++ xs)) ∙ moves_push ms xs h.1

-- an access pushes nothing, or it is a push that added its id
record IsPush (p : PartyName) (a : EventAccess) (b : EventAnswer) : Type 0 where
  id : ℕ
  is_push : a ≡ access.Push id
  is_done : b ≡ event_answer.Done
  pushed : pushed_by (step p a b) ≡ id ∷ []

push_or : (p : PartyName) (a : EventAccess) (b : EventAnswer) → (pushed_by (step p a b) ≡ []) ⊎ IsPush p a b
push_or p access.Listener b = inl refl
push_or p (access.Set i) b = inl refl
push_or p access.Post b = inl refl
push_or p (access.Push i) event_answer.Done = inr (record { id = i; is_push = refl; is_done = refl; pushed = refl })
push_or p (access.Push i) event_answer.Yes = inl refl
push_or p (access.Push i) event_answer.No = inl refl
push_or p (access.Push i) (event_answer.Word v) = inl refl
push_or p (access.Push i) (event_answer.Id v) = inl refl
push_or p (access.Push i) event_answer.Empty = inl refl
push_or p (access.Push i) event_answer.Full = inl refl
push_or p (access.Push i) event_answer.Gone = inl refl
push_or p access.Signal b = inl refl
push_or p (access.Scan k) b = inl refl
push_or p (access.Clear i) b = inl refl
push_or p (access.Swap k) b = inl refl
push_or p access.Pop b = inl refl

pushed_more : (done : Session) (pair : Pair) (n id : ℕ) (front : List ℕ) → IsPushed done n id front → IsPushed (done ++ pair ∷ []) n id front
pushed_more done pair n id front h = record { made = made_more done pair n id h.made; place = h.place }

push_step : (n : ℕ) (done : Session) (pair : Pair) → IsLawful (done ++ pair ∷ []) → Pushed n done → Pushed n (done ++ pair ∷ [])
push_step n done pair ok h front rest id e =
    let k = pair_moves done pair n ok in
    at k.moves k.what (sym (ap pushed_in k.is) ∙ e)
  where
    on : (ms : List EventMove) (t : TakesOn (state_met done) pair n ms) → pushed_on n done ++ pushed_by (step t.party t.access t.answer) ≡ front ++ id ∷ rest → IsPushed (done ++ pair ∷ []) n id front
    on ms t f =
        elim (push_or t.party t.access t.answer) [
          | inl none ↦ pushed_more done pair n id front (h front rest id (sym (append-nil (pushed_on n done)) ∙ sym (ap (λ (ys : List ℕ). pushed_on n done ++ ys) none) ∙ f))
          | inr push ↦ elim (push_split (pushed_on n done) front rest push.id id (sym (ap (λ (ys : List ℕ). pushed_on n done ++ ys) push.pushed) ∙ f)) [
            | inl here ↦ record {
              made = record {
                before = done;
                pair = pair;
                since = [];
                whole = refl;
                party = t.party;
                number = t.call.number;
                notified = record { call = t.call; access = t.access; answer = t.answer; told = t.told; step = t.takes; number_is = refl; makes = inr (push.is_push ∙ ap access.Push here.1, push.is_done) };
              };
              place = here.0;
            }
            | inr there ↦ pushed_more done pair n id front (h front there.0 id there.1)
          ]
        ]

    at : (ms : List EventMove) → TakesOn (state_met done) pair n ms ⊎ TakesNone (state_met done) pair n ms → pushed_in (ms ++ moves_in n done) ≡ front ++ id ∷ rest → IsPushed (done ++ pair ∷ []) n id front
    at ms (inl t) f = on ms t (sym (ap (λ (xs : List EventMove). pushed_in (xs ++ moves_in n done)) t.moves) ∙ f)
    at ms (inr t) f = pushed_more done pair n id front (h front rest id (sym (moves_push ms (moves_in n done) t.moves) ∙ f))

-- each id that was pushed has its push, before which those pushed before it were pushed
pub pushed_at : (pairs : Session) → IsLawful pairs → (n : ℕ) (front rest : List ℕ) (id : ℕ) → pushed_on n pairs ≡ front ++ id ∷ rest → IsPushed pairs n id front
pushed_at pairs ok n = along (Pushed n) (λ front rest id e. absurd (no_front front rest id e)) (push_step n) pairs ok
