-- What a watcher's wait takes, it is told.
use Rattle.std.proofs.Common.{◌≡◌, ℕ, Bool, true, false, List, [], ◌∷◌, ◌++◌, refl, sym, ap, subst, ◌∙◌, Option, Some, None, inl, inr, append_assoc}
use Rattle.std.specs.Prelude.{◌==◌, ◌⊎◌, ◌||◌}
use Rattle.std.specs.List.{AllByRecursion, flat_map, list_any}
use Rattle.std.proofs.lemmas.List.Concat.{flat_map-append}
use Rattle.std.proofs.lemmas.List.Folds.{list_any-append}
use Rattle.board_event_model.specs.declared.access.EventAccess.{EventAccess}
use Rattle.board_event_model.specs.declared.access.EventAnswer.{EventAnswer}
use Rattle.board_event_model.specs.declared.call.WaitMode.TheVariants as mode
use Rattle.board_event_model.specs.declared.kind.EventKind.{EventKind}
use Rattle.board_event_model.specs.EventMemory.{taken}
use Rattle.board_event_model.specs.EventCalls.{MetAccess}
use Rattle.board_event_model.specs.EventSessions.{PartyCall, StandingEvent}
use Rattle.board_event_model.specs.LawsOfCalls.{taken_by}
use Rattle.board_model.specs.declared.line.Line.TheVariants as board_line
use Rattle.script_model.specs.declared.line.EventRequest.TheVariants as request
use Rattle.script_model.specs.declared.line.ScriptLine.TheVariants as line
use Rattle.script_model.specs.declared.reply.EventReply.{EventReply}
use Rattle.script_model.specs.declared.reply.EventReply.TheVariants as reply
use Rattle.script_model.specs.ScriptAnswers.{of_event}
use Rattle.script_model.specs.ScriptTurns.{ScriptState}
use Rattle.script_model.specs.ScriptSession.{IsLawful, IsRight, Session, start}
use Rattle.script_model.specs.LawsOfComposition.{Pair, TakesId, state_met}
use Rattle.script_model.specs.LawsOfEvents.{TakesAccess, TellsIds}
use Rattle.script_model.proofs.CompositionLemmas.{lawful_split}
use Rattle.script_model.proofs.EventLemmas.{wait_replies}
use Rattle.script_moments.specs.Moments.{Moment, end_of, left, moments, own}
use Rattle.script_moments.specs.Gets.{moments_of}
use Rattle.script_moments.specs.Reports.{to_taken}
use Rattle.script_moments.specs.LawsOfWatchers.{TakenIdsAreTold}
use Rattle.script_moments.specs.Watchers.{AskedId, IsOpenTurn, IsTurn, IsWaitBegin, IsWaited, OpenTurn, StepsOnEvent, Turn, WaitGoesOn, getting, idle, moments_of_id, moments_of_turn, moments_of_wait, turn_begun, turns_of, waiting}
use Rattle.script_moments.proofs.RoundLemmas as rounds
use Rattle.script_moments.proofs.ReportLemmas.{cut_at}
use Rattle.script_moments.proofs.SessionLemmas.{state_append}
use Rattle.script_moments.proofs.WaitLemmas.{CallChain, WaitsAt, begun_waits, call_chain, call_split, step_is, step_more, waits_same}
use Rattle.script_moments.proofs.WatchLemmas.{tail_of, turn_at, watcher_moments}

-- ---- a take at a step of the wait

party_same : (p q : List ℕ) → line.Board (board_line.Step p) ≡ line.Board (board_line.Step q) → p ≡ q
party_same p q e = cc

access_same : (k l : EventKind) (n m : List ℕ) (a b : EventAccess) (x y : EventAnswer) (t u : Option EventReply) → of_event k n a x t ≡ of_event l m b y u → a ≡ b
access_same k l n m a b x y t u e = cc

call_same : (d f : PartyCall) → Some d ≡ Some f → d ≡ f
call_same d f e = cc

standing_same : (x y : StandingEvent) → Some x ≡ Some y → x ≡ y
standing_same x y e = cc

-- it takes the id by the access that is printed
own_take : (s : ScriptState) (party : List ℕ) (pair : Pair) (w : WaitsAt s.events party) (told : Option EventReply) (k : EventKind) (name : List ℕ) (a : EventAccess) (b : EventAnswer) → pair ≡ (line.Board (board_line.Step party), of_event k name a b told)
    → (st : StandingEvent) → s.events.session.stands w.doing.on ≡ Some st → (n id : ℕ) → TakesId s pair n id → list_any (λ y. y == id) (taken st.event a) ≡ true
own_take s party pair w told k name a b e st stands n id t =
    let who : t.party ≡ party = party_same t.party party (sym t.step.steps ∙ ap (λ (p : Pair). p.0) e) in
    let what : t.access ≡ a = access_same t.step.kind k t.step.name name t.access a t.answer b t.told told (sym t.step.prints ∙ ap (λ (p : Pair). p.1) e) in
    let d : PartyCall = record { on = n; call = t.call } in
    let same : d ≡ w.doing = call_same d w.doing (sym t.step.runs ∙ ap s.events.session.doing who ∙ w.runs) in
    let event : t.event ≡ st = standing_same t.event st (sym t.stands ∙ ap (λ (c : PartyCall). s.events.session.stands c.on) same ∙ stands) in
    subst (λ (x : StandingEvent). list_any (λ y. y == id) (taken x.event a) ≡ true) event (subst (λ (x : EventAccess). list_any (λ y. y == id) (taken t.event.event x) ≡ true) what t.takes)

or_left : (a b : Bool) → a ≡ true → (a || b) ≡ true
or_left true b e = refl
or_left false b e = absurd cc

or_right : (a b : Bool) → b ≡ true → (a || b) ≡ true
or_right true b e = refl
or_right false b e = e

-- what was taken before stays taken, and what the last access takes is taken
taken_before : (id : ℕ) (m : MetAccess) (ms : List MetAccess) → list_any (λ y. y == id) (taken_by ms) ≡ true → list_any (λ y. y == id) (taken_by (m ∷ ms)) ≡ true
taken_before id m ms h = list_any-append (λ y. y == id) (taken_by ms) (taken m.met m.access) ∙ or_left (list_any (λ y. y == id) (taken_by ms)) _ h

taken_now : (id : ℕ) (m : MetAccess) (ms : List MetAccess) → list_any (λ y. y == id) (taken m.met m.access) ≡ true → list_any (λ y. y == id) (taken_by (m ∷ ms)) ≡ true
taken_now id m ms h = list_any-append (λ y. y == id) (taken_by ms) (taken m.met m.access) ∙ or_right (list_any (λ y. y == id) (taken_by ms)) _ h

-- ---- along the steps of the wait

-- where the next step comes the wait has taken the id, or that step takes it
record IsTakenBy (s : ScriptState) (party : List ℕ) (pair : Pair) (n id : ℕ) : Type 0 where
  waits : WaitsAt s.events party
  has : (list_any (λ y. y == id) (taken_by waits.doing.call.steps) ≡ true) ⊎ TakesId s pair n id

taken_on : (party : List ℕ) (n id : ℕ) (ms : List Moment) (e : Moment) (s : ScriptState) (w : WaitsAt s.events party) → list_any (λ y. y == id) (taken_by w.doing.call.steps) ≡ true → CallChain party s (ms ++ e ∷ []) → AllByRecursion (WaitGoesOn party) ms → IsTakenBy e.met party e.pair n id
taken_on party n id [] e s w h c go = record { waits = waits_same party s e.met c.0 w; has = inl h }
taken_on party n id (m ∷ ms) e s w h c go =
    let v = waits_same party s m.met c.0 w in
    let k = step_more m party v go.0 c.1 in
    let more = subst (λ (xs : List MetAccess). list_any (λ y. y == id) (taken_by xs) ≡ true) (sym k.2.steps) (taken_before id (record { met = k.0.event; access = go.0.access }) w.doing.call.steps h) in
    taken_on party n id ms e (left m) k.2.waits more c.2 go.1

moment_heads : (x y : Moment) (xs ys : List Moment) → x ∷ xs ≡ y ∷ ys → (x ≡ y) × (xs ≡ ys)
moment_heads x y xs ys e = (cc, cc)

none_there : (xs ys : List Moment) (m : Moment) → [] ≡ xs ++ m ∷ ys → ⊥
none_there [] ys m e = cc
none_there (x ∷ xs) ys m e = cc

track : (party : List ℕ) (n id : ℕ) (ms : List Moment) (e : Moment) (s : ScriptState) (done : List Moment) (m : Moment) (still : List Moment) → WaitsAt s.events party → CallChain party s (ms ++ e ∷ []) → AllByRecursion (WaitGoesOn party) ms → ms ++ e ∷ [] ≡ done ++ m ∷ still → TakesId m.met m.pair n id
    → IsTakenBy e.met party e.pair n id
track party n id [] e s [] m still w c go q t =
    let same = moment_heads e m [] still q in
    record { waits = waits_same party s e.met c.0 w; has = inr (subst (λ (x : Moment). TakesId x.met x.pair n id) (sym same.0) t) }
track party n id [] e s (x ∷ xs) m still w c go q t = absurd (none_there xs still m (moment_heads e x [] (xs ++ m ∷ still) q).1)
track party n id (y ∷ ys) e s [] m still w c go q t =
    let same = moment_heads y m (ys ++ e ∷ []) still q in
    let v = waits_same party s y.met c.0 w in
    let k = step_more y party v go.0 c.1 in
    let here : TakesId y.met y.pair n id = subst (λ (x : Moment). TakesId x.met x.pair n id) (sym same.0) t in
    let has = own_take y.met party y.pair v None go.0.kind go.0.name go.0.access go.0.answer go.0.is k.0 k.1 n id here in
    let more = subst (λ (xs : List MetAccess). list_any (λ z. z == id) (taken_by xs) ≡ true) (sym k.2.steps) (taken_now id (record { met = k.0.event; access = go.0.access }) w.doing.call.steps has) in
    taken_on party n id ys e (left y) k.2.waits more c.2 go.1
track party n id (y ∷ ys) e s (x ∷ xs) m still w c go q t =
    let v = waits_same party s y.met c.0 w in
    let k = step_more y party v go.0 c.1 in
    track party n id ys e (left y) xs m still k.2.waits c.2 go.1 (moment_heads y x (ys ++ e ∷ []) (xs ++ m ∷ still) q).1 t

-- ---- what is told

tells_same : (told : EventReply) (xs ys : List ℕ) → TellsIds true told xs → TellsIds true told ys → xs ≡ ys
tells_same reply.Done xs ys h k = absurd h
tells_same (reply.Id id) xs ys h k = absurd (let e = h.0 in cc)
tells_same (reply.Ids told) xs ys h k = h.1 ∙ sym k.1
tells_same reply.Nothing xs ys h k = h ∙ sym k
tells_same reply.AlreadyExists xs ys h k = absurd h
tells_same reply.DoesNotExist xs ys h k = absurd h
tells_same (reply.NotNotified why) xs ys h k = absurd h

-- the last step of the wait, in the session
told_at_end : (upto : Session) (party : List ℕ) (pair : Pair) (told : EventReply) (ids : List ℕ) (n id : ℕ) → IsLawful (upto ++ pair ∷ []) → IsTakenBy (state_met upto) party pair n id → (m : Moment) → m.pair ≡ pair → StepsOnEvent party m (Some told) → TellsIds true told ids → list_any (λ y. y == id) ids ≡ true
told_at_end upto party pair told ids n id ok h m is g tells =
    let s : ScriptState = state_met upto in
    let d : PartyCall = h.waits.doing in
    let e : pair ≡ (line.Board (board_line.Step party), of_event g.kind g.name g.access g.answer (Some told)) = sym is ∙ g.is in
    let right : IsRight s pair.0 pair.1 = (lawful_split upto (pair ∷ []) start ok).1.0 in
    let k = step_is s party (of_event g.kind g.name g.access g.answer (Some told)) h.waits (subst (λ (p : Pair). IsRight s p.0 p.1) e right) in
    let takes : TakesAccess s pair party d.on d.call g.access g.answer (Some told) = record { kind = g.kind; name = g.name; runs = h.waits.runs; steps = ap (λ (p : Pair). p.0) e; prints = ap (λ (p : Pair). p.1) e } in
    let replies = wait_replies (record { before = upto; pair = pair; lawful = ok }) d.on k.standing k.stands party d.call h.waits.wait g.access g.answer told takes h.waits.call in
    let met : MetAccess = record { met = k.standing.event; access = g.access } in
    let same : ids ≡ taken_by (met ∷ d.call.steps) = tells_same told ids (taken_by (met ∷ d.call.steps)) tells (subst (λ (b : Bool). TellsIds b told (taken_by (met ∷ d.call.steps))) h.waits.many replies) in
    let has : list_any (λ y. y == id) (taken_by (met ∷ d.call.steps)) ≡ true = elim h.has [
      | inl before ↦ taken_before id met d.call.steps before
      | inr now ↦ taken_now id met d.call.steps (own_take s party pair h.waits (Some told) g.kind g.name g.access g.answer e k.standing k.stands n id now)
    ] in
    ap (list_any (λ y. y == id)) same ∙ has

-- ---- the law

ended_waits : (party listener : List ℕ) (hs : List (List ℕ)) (asked : List AskedId) (ts : List Turn) (o : OpenTurn) → AllByRecursion (IsTurn party listener hs asked) ts → IsOpenTurn party listener hs asked o → AllByRecursion (λ (t : Turn). IsWaited party listener t.wait) (ts ++ turn_begun o)
ended_waits party listener hs asked [] idle k r = tt
ended_waits party listener hs asked [] (waiting m ms) k r = tt
ended_waits party listener hs asked [] (getting w gets p) k r = (r.0, tt)
ended_waits party listener hs asked (t ∷ ts) o k r = (k.0.wait, ended_waits party listener hs asked ts o k.1 r)

call_front : (party : List ℕ) (xs ys : List Moment) (s : ScriptState) → CallChain party s (xs ++ ys) → CallChain party s xs
call_front party [] ys s h = tt
call_front party (x ∷ xs) ys s h = (h.0, h.1, call_front party xs ys (left x) h.2)

-- the begin of a wait takes no id
no_take : (party listener : List ℕ) (n id : ℕ) (b m : Moment) → b ≡ m → IsWaitBegin party listener b → TakesId m.met m.pair n id → ⊥
no_take party listener n id b m e begin t =
    let k : line.Event party (request.Wait listener true mode.Try) ≡ line.Board (board_line.Step t.party) = sym (ap (λ (p : Pair). p.0) begin) ∙ ap (λ (u : Moment). u.pair.0) e ∙ t.step.steps in
    cc

pub ids_are_told : TakenIdsAreTold
ids_are_told before since party listener handles x w earlier later t c behind k n id takes =
    let m : Moment = record { met = state_met (to_taken c); pair = c.taken } in
    let tail : List Moment = tail_of x.rest in
    let waited = turn_at (λ (u : Turn). IsWaited party listener u.wait) earlier later t (subst (AllByRecursion (λ (u : Turn). IsWaited party listener u.wait)) k.turns (ended_waits party listener handles x.asked x.turns x.rest w.turns w.rest)) in
    let early : List Moment = flat_map moments_of_id x.asked ++ flat_map moments_of_turn earlier in
    let rest : List Moment = moments_of t.gets ++ (flat_map moments_of_turn later ++ tail) in
    let turns : flat_map moments_of_turn (turns_of x) ≡ flat_map moments_of_turn earlier ++ (moments_of_turn t ++ flat_map moments_of_turn later) = ap (flat_map moments_of_turn) k.turns ∙ flat_map-append moments_of_turn earlier (t ∷ later) in
    let place : own party (moments (state_met before) since) ≡ early ++ (moments_of_wait t.wait ++ rest) =
    w.own ∙ watcher_moments x ∙ ap (λ (ms : List Moment). flat_map moments_of_id x.asked ++ (ms ++ tail)) turns
    ∙ regroup (flat_map moments_of_id x.asked) (flat_map moments_of_turn earlier) (moments_of_wait t.wait) (moments_of t.gets) (flat_map moments_of_turn later) tail in
    let l = lawful_split before since start w.lawful in
    let all = subst (CallChain party (state_met before)) place (call_chain party since (state_met before) l.1 (rounds.sound_at before l.0)) in
    let s : ScriptState = end_of (state_met before) early in
    let chain = call_front party (moments_of_wait t.wait) rest s (call_split party early (moments_of_wait t.wait ++ rest) (state_met before) all) in
    let begun = begun_waits t.wait.begun party listener waited.begun chain.1 in
    let taken_by_wait = after_begin t.wait.begun t.wait.steps t.wait.ended k.done m k.still begun chain.2 waited.steps k.wait waited.begun takes in
    let last : own party (moments (state_met before) since) ≡ (early ++ (t.wait.begun ∷ t.wait.steps)) ++ t.wait.ended ∷ rest = place ∙ at_last early t.wait.begun t.wait.steps t.wait.ended rest in
    let cut = cut_at party since (state_met before) (early ++ (t.wait.begun ∷ t.wait.steps)) t.wait.ended rest last in
    let met : t.wait.ended.met ≡ state_met (before ++ cut.pre) = cut.met ∙ sym (state_append before cut.pre start) in
    let whole : before ++ since ≡ ((before ++ cut.pre) ++ t.wait.ended.pair ∷ []) ++ cut.post = ap (λ (zs : Session). before ++ zs) cut.cut ∙ sym (append_assoc (before ++ cut.pre) (t.wait.ended.pair ∷ []) cut.post ∙ append_assoc before cut.pre (t.wait.ended.pair ∷ cut.post)) in
    let lawful = (lawful_split ((before ++ cut.pre) ++ t.wait.ended.pair ∷ []) cut.post start (subst IsLawful whole w.lawful)).0 in
    told_at_end (before ++ cut.pre) party t.wait.ended.pair waited.told t.wait.ids n id lawful (subst (λ (u : ScriptState). IsTakenBy u party t.wait.ended.pair n id) met taken_by_wait) t.wait.ended refl waited.ended waited.tells
  where
    regroup : (a b c d e f : List Moment) → a ++ ((b ++ ((c ++ d) ++ e)) ++ f) ≡ (a ++ b) ++ (c ++ (d ++ (e ++ f)))
    regroup a b c d e f = simp append_assoc

    at_last : (a : List Moment) (m : Moment) (ms : List Moment) (e : Moment) (r : List Moment) → a ++ ((m ∷ (ms ++ e ∷ [])) ++ r) ≡ (a ++ (m ∷ ms)) ++ e ∷ r
    at_last a m ms e r = simp append_assoc

    after_begin : (b : Moment) (ms : List Moment) (e : Moment) (done : List Moment) (m : Moment) (still : List Moment) → WaitsAt (left b).events party → CallChain party (left b) (ms ++ e ∷ []) → AllByRecursion (WaitGoesOn party) ms → b ∷ (ms ++ e ∷ []) ≡ done ++ m ∷ still → IsWaitBegin party listener b → TakesId m.met m.pair n id → IsTakenBy e.met party e.pair n id
    after_begin b ms e [] m still v c go q begin t = absurd (no_take party listener n id b m (moment_heads b m (ms ++ e ∷ []) still q).0 begin t)
    after_begin b ms e (y ∷ ys) m still v c go q begin t = track party n id ms e (left b) ys m still v c go (moment_heads b y (ms ++ e ∷ []) (ys ++ m ∷ still) q).1 t
