-- What a wait took was notified, and a get after the take gives what was published before that notify began.
use Rattle.std.proofs.Common.{◌≡◌, ℕ, ◌+◌, Bool, true, false, List, [], ◌∷◌, ◌++◌, length, refl, sym, ap, subst, ◌∙◌, Some, inl, inr, append_assoc}
use Rattle.board_event_model.specs.declared.access.EventAccess.{EventAccess}
use Rattle.board_event_model.specs.declared.kind.EventKind.{EventKind}
use Rattle.board_event_model.specs.declared.kind.EventKind.TheVariants as kind
use Rattle.board_event_model.specs.Ids.{has}
use Rattle.board_event_model.specs.EventMemory.{is_bits, kind_of_access}
use Rattle.board_event_model.specs.EventSessions.{StandingEvent, view}
use Rattle.board_event_model.specs.LawsOfIds.{was_set_last}
use Rattle.board_event_model.proofs.SetLemmas.{either}
use Rattle.script_model.specs.ScriptSession.{IsLawful, Session, start}
use Rattle.script_model.specs.ScriptTurns.{ScriptState}
use Rattle.script_model.specs.LawsOfComposition.{EndsGet, IsUntaken, MakesPending, Notifies, Pair, past, state_met}
use Rattle.script_model.specs.LawsOfEvents.{Last, at_last}
use Rattle.script_model.proofs.CompositionLemmas.{GoesPast, lawful_split, past_more, script_later, sound_at}
use Rattle.script_model.proofs.EventPartLemmas.{pending_set_last, queues_ordered}
use Rattle.script_model.proofs.OwedLemmas.{call_stands}
use Rattle.script_model.proofs.PartLemmas.{events_reached}
use Rattle.script_moments.specs.LawsOfTakes.{GetsAfterTakesAreNotified, IsNotified, IsUnnotified, TakenIdsWereNotified, moves_in, popped_on, pushed_on, to_asked, to_end, to_got, to_notified}
use Rattle.script_moments.proofs.BegunLemmas.{IsBegun, IsEventOf, all_begun, event_kept, first_notify}
use Rattle.script_moments.proofs.EventKindLemmas.{AreOfKind, bits_kind, owed_kind, queue_kind, session_kinds}
use Rattle.script_moments.proofs.PendingLemmas.{IsMade, IsPushed, IsSetLast, access_is, pop_takes, pushed_at, set_last, set_takes}

-- ---- the begin of the notify that made an id pending

prefix_lawful : (done : Session) (pair : Pair) (since pairs : Session) → IsLawful pairs → pairs ≡ done ++ pair ∷ since → IsLawful (done ++ pair ∷ [])
prefix_lawful done pair since pairs ok e = (lawful_split (done ++ pair ∷ []) since start (subst IsLawful (e ∙ sym (append_assoc done (pair ∷ []) since)) ok)).0

-- the set or push is of this kind and name, and its notify was begun before it
record IsBegunMade (done : Session) (pair : Pair) (party : List ℕ) (kind : EventKind) (name : List ℕ) (n id number : ℕ) : Type 0 where
  notified : Notifies (state_met done) pair party n id number
  kind_is : notified.step.kind ≡ kind
  name_is : notified.step.name ≡ name
  begun : IsBegun done party n id number

made_begun : (pairs : Session) (n id : ℕ) (kind : EventKind) (name : List ℕ) → IsLawful pairs → (m : IsMade pairs n id) → IsEventOf (state_met pairs).events.session n kind name → IsBegunMade m.before m.pair m.party kind name n id m.number
made_begun pairs n id kind name ok m event =
    let l : Last = record { before = m.before; pair = m.pair; lawful = prefix_lawful m.before m.pair m.since pairs ok m.whole } in
    let before : IsLawful m.before = (lawful_split m.before (m.pair ∷ []) start l.lawful).0 in
    let x = m.notified in
    let there = call_stands (at_last l).events (0 + length m.before) (sound_at m.before before).events m.party _ x.step.runs in
    let st : StandingEvent = there.0 in
    let a = access_is l n st m.party x.call x.access x.answer x.told there.1 x.step in
    let c = first_notify x.call.first x.call.answers x.answer id (subst (λ (y : EventAccess). MakesPending y x.answer id) a.takes.owes x.makes) in
    let began : IsBegun m.before m.party n c.0.id x.call.number = all_begun m.before before m.party (record { on = n; call = x.call }) c.0 x.step.runs c.1 in
    let kept : IsEventOf (state_met (m.before ++ m.pair ∷ m.since)).events.session n st.event.kind st.event.name =
    event_kept m.before (m.pair ∷ m.since) (subst IsLawful m.whole ok) n st.event.kind st.event.name (record { standing = st; stands = there.1; kind_is = refl; name_is = refl }) in
    let same = same_event (state_met pairs) (subst (λ (xs : Session). IsEventOf (state_met xs).events.session n st.event.kind st.event.name) (sym m.whole) kept) event in
    record {
      notified = x;
      kind_is = a.kind_is ∙ same.0;
      name_is = a.name_is ∙ same.1;
      begun = subst (λ (k : ℕ). IsBegun m.before m.party n id k) x.number_is (subst (λ (k : ℕ). IsBegun m.before m.party n k x.call.number) c.2 began);
    }
  where
    one_event : (x y : StandingEvent) → Some x ≡ Some y → x ≡ y
    one_event x y e = cc

    same_event : (s : ScriptState) {k j : EventKind} {text name : List ℕ} → IsEventOf s.events.session n k text → IsEventOf s.events.session n j name → (k ≡ j) × (text ≡ name)
    same_event s f g =
        let e : f.standing ≡ g.standing = one_event f.standing g.standing (sym f.stands ∙ g.stands) in
        (sym f.kind_is ∙ ap (λ (x : StandingEvent). x.event.kind) e ∙ g.kind_is, sym f.name_is ∙ ap (λ (x : StandingEvent). x.event.name) e ∙ g.name_is)

-- ---- what was taken was notified

-- all that is said of the set or push, by what came before it
record IsNotifiedBy (pairs before : Session) (pair : Pair) (since : Session) (party : List ℕ) (kind : EventKind) (name : List ℕ) (n id number : ℕ) : Type 0 where
  notified : Notifies (state_met before) pair party n id number
  kind_is : notified.step.kind ≡ kind
  name_is : notified.step.name ≡ name
  newest : is_bits kind ≡ true → IsUnnotified (past before pair) since n id
  untaken : is_bits kind ≡ true → IsUntaken (past before pair) since n id
  in_turn : is_bits kind ≡ false → pushed_on n before ≡ popped_on n pairs

-- and by what came before the begin of its notify
notified_by : (pairs before : Session) (pair : Pair) (since : Session) (party : List ℕ) (kind : EventKind) (name : List ℕ) (n id number : ℕ) → pairs ≡ before ++ pair ∷ since → IsBegun before party n id number → IsNotifiedBy pairs before pair since party kind name n id number → IsNotified pairs kind name n id
notified_by pairs before pair since party kind name n id number whole b h =
    let e : pairs ≡ (b.before ++ b.pair ∷ b.since) ++ pair ∷ since = whole ∙ ap (λ (xs : Session). xs ++ pair ∷ since) b.whole in
    let k = subst (λ (xs : Session). IsNotifiedBy pairs xs pair since party kind name n id number) b.whole h in
    record {
      cut = record { before_begun = b.before; begun = b.pair; before_notified = b.since; notified = pair; since = since };
      whole = sym e;
      is = record {
        party = party;
        number = number;
        begun = b.begun;
        notified = k.notified;
        kind_is = k.kind_is;
        name_is = k.name_is;
        newest = k.newest;
        untaken = k.untaken;
        in_turn = λ q. k.in_turn q ∙ ap (popped_on n) e;
      };
    }

both_kinds : (b : Bool) → b ≡ true → b ≡ false → ⊥
both_kinds true e f = cc
both_kinds false e f = cc

-- an id of a set
set_notified : (pairs : Session) (k : EventKind) (name : List ℕ) (n id : ℕ) → IsLawful pairs → is_bits k ≡ true → IsEventOf (state_met pairs).events.session n k name → IsSetLast pairs n id → IsNotified pairs k name n id
set_notified pairs k name n id ok bits event s =
    let m = made_begun pairs n id k name ok s.made event in
    let by : IsNotifiedBy pairs s.made.before s.made.pair s.made.since s.made.party k name n id s.made.number = record {
      notified = m.notified;
      kind_is = m.kind_is;
      name_is = m.name_is;
      newest = λ e. s.newest;
      untaken = λ e. s.untaken;
      in_turn = λ e. absurd (both_kinds (is_bits k) bits e);
    } in
    notified_by pairs s.made.before s.made.pair s.made.since s.made.party k name n id s.made.number s.made.whole m.begun by

-- an id of a queue, which comes next
queue_notified : (pairs : Session) (k : EventKind) (name : List ℕ) (n id : ℕ) → IsLawful pairs → is_bits k ≡ false → IsEventOf (state_met pairs).events.session n k name → IsPushed pairs n id (popped_on n pairs) → IsNotified pairs k name n id
queue_notified pairs k name n id ok queue event s =
    let m = made_begun pairs n id k name ok s.made event in
    let by : IsNotifiedBy pairs s.made.before s.made.pair s.made.since s.made.party k name n id s.made.number = record {
      notified = m.notified;
      kind_is = m.kind_is;
      name_is = m.name_is;
      newest = λ e. absurd (both_kinds (is_bits k) e queue);
      untaken = λ e. absurd (both_kinds (is_bits k) e queue);
      in_turn = λ e. s.place;
    } in
    notified_by pairs s.made.before s.made.pair s.made.since s.made.party k name n id s.made.number s.made.whole m.begun by

pub taken_notified : TakenIdsWereNotified
taken_notified l n id t =
    let pairs : Session = l.before in
    let ok : IsLawful pairs = (lawful_split pairs (l.pair ∷ []) start l.lawful).0 in
    let st : StandingEvent = t.event in
    let a = access_is l n st t.party t.call t.access t.answer t.told t.stands t.step in
    let of_kind : st.event.kind ≡ kind_of_access t.access = owed_kind (view (at_last l).events.session n st) t.party t.call (events_reached pairs ok n st t.stands) a.takes.runs ∙ ap kind_of_access (sym a.takes.owes) in
    let event : IsEventOf (at_last l).events.session n t.step.kind t.step.name = record { standing = st; stands = t.stands; kind_is = sym a.kind_is; name_is = sym a.name_is } in
    elim (either (is_bits t.step.kind)) [
      | inl bits ↦ (
          let is : st.event.kind ≡ kind.Bits = bits_kind st.event.kind (ap is_bits (sym a.kind_is) ∙ bits) in
          let pending : has st.event.pending id ≡ true = set_takes st.event t.access t.answer id a.takes.right (sym is ∙ of_kind) t.takes in
          let was : was_set_last id (moves_in n pairs) ≡ true = sym (pending_set_last pairs ok n st t.stands id) ∙ pending in
          let kinds : AreOfKind kind.Bits (moves_in n pairs) = subst (λ (k : EventKind). AreOfKind k (moves_in n pairs)) is (session_kinds pairs ok n st t.stands) in
          set_notified pairs t.step.kind t.step.name n id ok bits event (set_last pairs ok n id kinds was))
      | inr queue ↦ (
          let is : st.event.kind ≡ kind.Queue = queue_kind st.event.kind (ap is_bits (sym a.kind_is) ∙ queue) in
          let oldest = pop_takes st.event t.access id (sym is ∙ of_kind) t.takes in
          let order : pushed_on n pairs ≡ popped_on n pairs ++ id ∷ oldest.0 = sym (queues_ordered pairs ok n st t.stands) ∙ ap (λ (ids : List ℕ). popped_on n pairs ++ ids) oldest.1 in
          queue_notified pairs t.step.kind t.step.name n id ok queue event (pushed_at pairs ok n (popped_on n pairs) oldest.0 id order))
    ]

-- ---- a get after the take

pub gets_notified : GetsAfterTakesAreNotified
gets_notified c b i n id h more k =
    let all : to_got c ++ c.got ∷ [] ≡ c.before_taken ++ c.taken ∷ (c.before_asked ++ (c.asked ∷ (c.before_got ++ c.got ∷ []))) = regroup c.before_taken c.before_asked c.before_got c.taken c.asked c.got in
    let l : Last = record { before = c.before_taken; pair = c.taken; lawful = prefix_lawful c.before_taken c.taken _ (to_got c ++ c.got ∷ []) k.lawful all } in
    let x = taken_notified l n id k.taken in
    record {
      notify = x;
      fresh = λ before behind published words g is ends.
          let to_take : GoesPast before published (to_end x.cut) =
          past_more before published (to_notified x.cut) (x.cut.notified ∷ x.cut.since)
          (past_more before published x.cut.before_begun (x.cut.begun ∷ x.cut.before_notified) (record { rest = behind; is = is })) in
          let past_it : GoesPast before published (to_got c) =
          past_more before published (to_asked c) (c.asked ∷ c.before_got)
          (past_more before published c.before_taken (c.taken ∷ c.before_asked) (subst (GoesPast before published) x.whole to_take)) in
          script_later before past_it.rest published c.got b i g h words more k.reader
          (subst (λ (zs : Session). IsLawful (zs ++ c.got ∷ [])) past_it.is k.lawful)
          ends
          (subst (λ (zs : Session). EndsGet (state_met zs) c.got k.reader b i more h) past_it.is k.got);
    }
  where
    regroup : (xs ys zs : Session) (p q r : Pair) → ((xs ++ p ∷ ys) ++ q ∷ zs) ++ r ∷ [] ≡ xs ++ p ∷ (ys ++ (q ∷ (zs ++ r ∷ [])))
    regroup xs ys zs p q r = simp append_assoc
