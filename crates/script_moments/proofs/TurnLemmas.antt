-- How the next line of a party that is driven is answered.
use Rattle.std.proofs.Common.{◌≡◌, ℕ, ◌+◌, true, List, [], ◌∷◌, ◌++◌, length, arith, refl, sym, ap, subst, ◌∙◌, Option, Some, None, inl, inr, append_assoc}
use Rattle.std.specs.Prelude.{◌⊎◌, IfSome, is_some}
use Rattle.std.specs.List.{AllByRecursion, flat_map}
use Rattle.std.proofs.lemmas.Bool.{false≢true}
use Rattle.board_cell_model.specs.declared.access.Access.{Access}
use Rattle.board_cell_model.specs.declared.access.Access.TheVariants as access
use Rattle.board_model.specs.declared.answer.Answer.{Answer}
use Rattle.board_model.specs.declared.answer.Answer.TheVariants as answer
use Rattle.board_model.specs.declared.answer.Reason.{Reason}
use Rattle.board_model.specs.declared.answer.Reply.{Reply}
use Rattle.board_model.specs.declared.answer.Reply.TheVariants as reply
use Rattle.board_model.specs.declared.line.Call.TheVariants as call
use Rattle.board_model.specs.declared.line.Line.TheVariants as board_line
use Rattle.board_model.specs.declared.value.ValueType.{ValueType}
use Rattle.board_model.specs.LawfulSession as boards
use Rattle.board_model.specs.LawfulSession.{IsOwedStep, IsReasoned, call_reason, reason_of, step_reason}
use Rattle.board_model.specs.Parties.{Party, Running, begun, running}
use Rattle.board_model.specs.Replies.{ask, latest}
use Rattle.board_model.specs.Requests.{Fetch, Request, and_then, get, id, identified, request_of, table}
use Rattle.board_model.specs.Sound.{Sound}
use Rattle.board_model.specs.Things.{Held}
use Rattle.board_model.specs.TypeTable.{value_type_of}
use Rattle.board_model.proofs.KeptLemmas.{party_here}
use Rattle.board_model.proofs.LineCases.{IsStepOf, accepted, step_of}
use Rattle.board_model.proofs.RunningLemmas.{table_is}
use Rattle.board_model.proofs.ThingLemmas.{same_to_itself}
use Rattle.script_model.specs.declared.line.ScriptLine.{ScriptLine}
use Rattle.script_model.specs.declared.line.ScriptLine.TheVariants as line
use Rattle.script_model.specs.ScriptAnswers.{ScriptAnswer, of_boards}
use Rattle.script_model.specs.ScriptTurns.{EventTurn, IsTurnAnswer, ScriptState, turn_of}
use Rattle.script_model.specs.ScriptSession.{IsLawful, IsRight, Session, start}
use Rattle.script_model.specs.SoundEvents.{IsSoundScript}
use Rattle.script_model.specs.LawsOfRules.{IsBoardAnswer, IsRuled}
use Rattle.script_model.specs.LawsOfComposition.{Pair, of_pair, state_met}
use Rattle.script_model.specs.LawsOfLines.{names}
use Rattle.script_model.proofs.CompositionLemmas.{lawful_split, sound_at}
use Rattle.script_model.proofs.LineLaws.{steps_alone}
use Rattle.script_model.proofs.RuleLemmas.{ruled}
use Rattle.script_moments.specs.Moments.{Moment, end_of, left, moments, next_moment, own}
use Rattle.script_moments.specs.Gets.{GoesOn, IsOpen, IsPart, Round, moments_of}
use Rattle.script_moments.specs.LawsOfTurns.{CallsAreBegunOrRefused, IdsAreTold, SnapshotsStepOn, StepsOn, WatchersStepOn}
use Rattle.script_moments.specs.Watchers.{AreFirstIds, AskedId, IsIdBegin, moments_of_id, moments_of_turn, moments_of_wait}
use Rattle.script_moments.proofs.ChainLemmas.{Chain, begin_alone, begin_turn_refused, chain_split, link_grows, link_leaves, own_chain}
use Rattle.script_moments.proofs.WalkLemmas.{IsRun, free_none, run_begun, run_link, run_step}
use Rattle.script_moments.proofs.GetWalks.{IsOwn, chain_grows, own_begin, own_is, own_step}
use Rattle.script_moments.proofs.RoundLemmas as rounds
use Rattle.script_moments.proofs.SessionLemmas.{all_lawful, own_more}

-- ---- a call that begins

board_begin : (o : Option Reason) (x : Answer) → IsReasoned o x → (o ≡ None → x ≡ answer.Begun) → (x ≡ answer.Begun) ⊎ ((why : Reason) × (x ≡ answer.Refused why))
board_begin None x r f = inl (f refl)
board_begin (Some why) x r f = inr (why, r)

of_board : (a : ScriptAnswer) (x : Answer) → a ≡ of_boards x → (x ≡ answer.Begun) ⊎ ((why : Reason) × (x ≡ answer.Refused why)) → (a ≡ of_boards answer.Begun) ⊎ ((why : Reason) × (a ≡ of_boards (answer.Refused why)))
of_board a x e (inl f) = inl (e ∙ ap of_boards f)
of_board a x e (inr f) = inr (f.0, e ∙ ap of_boards f.1)

pub begun_or_refused : CallsAreBegunOrRefused
begun_or_refused s party c a ok = at (turn_of s (line.Board (board_line.Begin party c))) refl (ruled s (line.Board (board_line.Begin party c)) a ok)
  where
    at : (o : Option EventTurn) → turn_of s (line.Board (board_line.Begin party c)) ≡ o → IsRuled s (line.Board (board_line.Begin party c)) a o → (a ≡ of_boards answer.Begun) ⊎ ((why : Reason) × (a ≡ of_boards (answer.Refused why)))
    at (Some w) e k =
        let r = begin_turn_refused s party c w e in
        inr (r.0, subst (λ (t : EventTurn). IsTurnAnswer s.events t a) r.1 k)
    at None e k = of_board a k.answer k.is (board_begin (reason_of s.boards (board_line.Begin party c)) k.answer k.right.reason k.right.owed)

-- ---- a step of a call that runs

step_answer : (r : Running) (b : Answer) → IsOwedStep (running r) b → (x : Access) × (told : Option Reply) × (b ≡ answer.Step x told)
step_answer r answer.Begun h = absurd h
step_answer r (answer.Refused why) h = absurd h
step_answer r (answer.Step x told) h = (x, told, refl)
step_answer r answer.Gone h = absurd h
step_answer r (answer.Words ws) h = absurd h

pub record IsStepAnswer (s : boards.State) (party : List ℕ) (r : Running) (a : ScriptAnswer) : Type 0 where
  pub access : Access
  pub told : Option Reply
  pub is : a ≡ of_boards (answer.Step access told)
  pub step : IsStepOf s party r access told

step_answered : (s : ScriptState) (count : ℕ) (party : List ℕ) (r : Running) (a : ScriptAnswer) → IsSoundScript s count → s.boards.parties party ≡ running r → IsRight s (line.Board (board_line.Step party)) a → IsStepAnswer s.boards party r a
step_answered s count party r a sound runs ok =
    let turn = steps_alone s count party r sound runs in
    let k : IsBoardAnswer s (board_line.Step party) a = subst (IsRuled s (line.Board (board_line.Step party)) a) turn (ruled s (line.Board (board_line.Step party)) a ok) in
    let free : step_reason (s.boards.parties party) ≡ None = ap step_reason runs in
    let owes : IsOwedStep (running r) k.answer = subst (λ (x : Party). IsOwedStep x k.answer) runs (k.right.owed free) in
    let x = step_answer r k.answer owes in
    let right : boards.IsRight s.boards (board_line.Step party) (answer.Step x.0 x.1) = subst (boards.IsRight s.boards (board_line.Step party)) x.2 k.right in
    record { access = x.0; told = x.1; is = k.is ∙ ap of_boards x.2; step = step_of s.boards party r x.0 x.1 runs right }

pub pair_is : (p : Pair) (l : ScriptLine) (a : ScriptAnswer) → p.0 ≡ l → p.1 ≡ a → p ≡ (l, a)
pair_is p l a e f = ap (λ (k : ScriptLine). (k, p.1)) e ∙ ap (λ (b : ScriptAnswer). (l, b)) f

-- ---- a get that runs

got_or_not : (s : boards.State) (party : List ℕ) (f : Fetch) (q : Request) (told : Option Reply) → q ≡ get f → IfSome told (λ t. t ≡ (ask s.standing s.published party q).reply) → (told ≡ None) ⊎ ((type : ValueType) × (words : List ℕ) × (g : ℕ) × (told ≡ Some (reply.Got type words g)))
got_or_not s party f q None e h = inl refl
got_or_not s party f q (Some t) e h =
    inr (value_type_of f.type, latest (s.published f.board f.entry), length (s.published f.board f.entry), ap (λ (r : Reply). Some r) (h ∙ ap (λ (p : Request). (ask s.standing s.published party p).reply) e))

steps_on : (party : List ℕ) (m : Moment) (x : Access) (told : Option Reply) → m.pair ≡ of_pair (board_line.Step party, answer.Step x told) → (told ≡ None) ⊎ ((type : ValueType) × (words : List ℕ) × (g : ℕ) × (told ≡ Some (reply.Got type words g))) → StepsOn party m
steps_on party m x told e (inl none) = inl (x, e ∙ ap (λ (t : Option Reply). of_pair (board_line.Step party, answer.Step x t)) none)
steps_on party m x told e (inr got) = inr (got.0, got.1, got.2, (x, e ∙ ap (λ (t : Option Reply). of_pair (board_line.Step party, answer.Step x t)) got.3))

-- through its steps
steps_run : (party : List ℕ) (f : Fetch) (steps : List Moment) (e : Moment) (s : ScriptState) (n : ℕ) → IsRun party f 0 n s.boards → Chain party s (steps ++ e ∷ []) → AllByRecursion (GoesOn party) steps → (k : ℕ) × IsRun party f 0 k e.met.boards
steps_run party f [] e s n r c go = (n, run_link party f 0 n s.boards e.met.boards c.0 r)
steps_run party f (m ∷ ms) e s n r c go =
    let own_m = own_step m party go.0.0 None go.0.1 c.1 in
    let run = run_link party f 0 n s.boards m.met.boards c.0 r in
    let next : IsRun party f 0 (n + 1) (left m).boards = subst (IsRun party f 0 (n + 1)) (sym own_m.state) (run_step party f 0 n m.met.boards go.0.0 run (λ z. omega arith) own_m.right) in
    steps_run party f ms e (left m) (n + 1) next c.2 go.1

open_run : (party h : List ℕ) (m : Moment) (steps : List Moment) (e : Moment) (s : ScriptState) → Chain party s (m ∷ (steps ++ e ∷ [])) → IsOpen party h (m, steps) → Sound s.boards → (f : Fetch) × (n : ℕ) × IsRun party f 0 n e.met.boards
open_run party h m steps e s c k sound =
    let own_m = own_begin m party h k.begun c.1 in
    let a = link_grows party s.boards m.met.boards c.0 sound in
    let run0 = run_begun party h m.met.boards a.sound own_m.right in
    let run : IsRun party run0.fetch 0 0 (left m).boards = subst (IsRun party run0.fetch 0 0) (sym own_m.state) (run0.run 0) in
    let on = steps_run party run0.fetch steps e (left m) 0 run c.2 k.steps in
    (run0.fetch, on.0, on.1)

-- the own moments so far, and the next one
record IsNext (before since : Session) (party : List ℕ) (early tail : List Moment) (pair : Pair) : Type 0 where
  chain : Chain party (end_of (state_met before) early) (tail ++ next_moment before since pair ∷ [])
  sound : Sound (end_of (state_met before) early).boards

next_is : (before since : Session) (party : List ℕ) (early tail : List Moment) (pair : Pair) → IsLawful (before ++ since) → own party (moments (state_met before) since) ≡ early ++ tail → IsRight (state_met (before ++ since)) pair.0 pair.1 → names party pair.0 ≡ true → IsNext before since party early tail pair
next_is before since party early tail pair ok e right on =
    let l = lawful_split before (since ++ pair ∷ []) start (all_lawful before since pair ok right) in
    let all : own party (moments (state_met before) (since ++ pair ∷ [])) ≡ early ++ (tail ++ next_moment before since pair ∷ []) = own_more before since party pair (early ++ tail) on e ∙ append_assoc early tail (next_moment before since pair ∷ []) in
    let c = chain_split party early (tail ++ next_moment before since pair ∷ []) (state_met before) (subst (Chain party (state_met before)) all (own_chain party (since ++ pair ∷ []) (state_met before) l.1)) in
    record { chain = c.1; sound = (chain_grows party early (state_met before) c.0 (rounds.sound_at before l.0)).sound }

pub step_named : (party : List ℕ) (pair : Pair) → pair.0 ≡ line.Board (board_line.Step party) → names party pair.0 ≡ true
step_named party pair e = ap (names party) e ∙ same_to_itself party

get_steps_on : (before since : Session) (party h : List ℕ) (early : List Moment) (m : Moment) (steps : List Moment) (pair : Pair) → IsLawful (before ++ since) → own party (moments (state_met before) since) ≡ early ++ m ∷ steps → IsOpen party h (m, steps) → IsRight (state_met (before ++ since)) pair.0 pair.1
    → pair.0 ≡ line.Board (board_line.Step party) → StepsOn party (next_moment before since pair)
get_steps_on before since party h early m steps pair ok e open_get right is =
    let n = next_is before since party early (m ∷ steps) pair ok e right (step_named party pair is) in
    let run = open_run party h m steps (next_moment before since pair) (end_of (state_met before) early) n.chain open_get n.sound in
    let s : ScriptState = state_met (before ++ since) in
    let k = step_answered s _ party run.2.call pair.1 (sound_at (before ++ since) ok) run.2.runs (subst (λ (l : ScriptLine). IsRight s l pair.1) is right) in
    steps_on party (next_moment before since pair) k.access k.told (pair_is pair (line.Board (board_line.Step party)) (of_boards (answer.Step k.access k.told)) is k.is)
    (got_or_not s.boards party run.0 run.2.call.request k.told run.2.request k.step.reply.reply)

part_open : (party : List ℕ) (hs : List (List ℕ)) (gets : Round) (m : Moment) (steps : List Moment) → IsPart party hs gets (Some (m, steps)) → (h : List ℕ) × IsOpen party h (m, steps)
part_open party [] [] m steps p = absurd p
part_open party (h ∷ hs) [] m steps p = (h, p)
part_open party [] (x ∷ xs) m steps p = absurd p
part_open party (h ∷ hs) (x ∷ xs) m steps p = part_open party hs xs m steps p.1

pub snapshots_step : SnapshotsStepOn
snapshots_step before since party handles done gets m steps pair h right is =
    let o = part_open party handles gets m steps h.part in
    get_steps_on before since party o.0 (flat_map moments_of done ++ moments_of gets) m steps pair h.lawful (h.own ∙ sym (append_assoc (flat_map moments_of done) (moments_of gets) (m ∷ steps))) o.1 right is

pub watchers_step : WatchersStepOn
watchers_step before since party listener handles asked turns w gets m steps pair h right is =
    let o = part_open party _ gets m steps h.rest.1 in
    get_steps_on before since party o.0 (flat_map moments_of_id asked ++ (flat_map moments_of_turn turns ++ (moments_of_wait w ++ moments_of gets))) m steps pair h.lawful
    (h.own ∙ spread (flat_map moments_of_id asked) (flat_map moments_of_turn turns) (moments_of_wait w) (moments_of gets) m steps) o.1 right is
  where
    spread : (a b c d : List Moment) (m : Moment) (e : List Moment) → a ++ (b ++ (c ++ (d ++ m ∷ e))) ≡ (a ++ (b ++ (c ++ d))) ++ m ∷ e
    spread a b c d m e = simp append_assoc

-- ---- a question for an id

abbrev pub id_call : Held → Running
id_call t = record { request = table (id t); so_far = []; passed = 0 }

id_found : (s : boards.State) (party h : List ℕ) → call_reason s.standing party (call.Id h) (request_of s.standing s.published party (call.Id h)) ≡ None → (t : Held) × (request_of s.standing s.published party (call.Id h) ≡ Some (table (id t)))
id_found s party h ok = at (identified s.standing party h) ok
  where
    at : (o : Option Held) → call_reason s.standing party (call.Id h) (and_then o (λ t. Some (table (id t)))) ≡ None → (t : Held) × (and_then o (λ t. Some (table (id t))) ≡ Some (table (id t)))
    at None k = absurd cc
    at (Some t) k = (t, refl)

pub id_begun : (s : boards.State) (party h : List ℕ) → boards.IsRight s (board_line.Begin party (call.Id h)) answer.Begun → (t : Held) × ((boards.after s (board_line.Begin party (call.Id h)) answer.Begun).parties party ≡ running (id_call t))
id_begun s party h ok =
    let why = accepted (reason_of s (board_line.Begin party (call.Id h))) answer.Begun refl ok.reason in
    let x = id_found s party h (free_none (s.parties party) _ why) in
    (x.0, party_here s.parties party (begun (request_of s.standing s.published party (call.Id h))) ∙ ap begun x.1)

pub own_id : (m : Moment) (party h : List ℕ) → IsIdBegin party h m → IsRight m.met m.pair.0 m.pair.1 → IsOwn m (board_line.Begin party (call.Id h), answer.Begun)
own_id m party h e ok = own_is m (board_line.Begin party (call.Id h), answer.Begun) e (begin_alone m.met party (call.Id h)) ok

first_open : (party : List ℕ) (hs : List (List ℕ)) (asked : List AskedId) (m : Moment) → AreFirstIds party hs asked (Some m) → (h : List ℕ) × IsIdBegin party h m
first_open party [] [] m p = absurd p
first_open party (h ∷ hs) [] m p = (h, p)
first_open party [] (x ∷ xs) m p = absurd p
first_open party (h ∷ hs) (x ∷ xs) m p = first_open party hs xs m p.1

id_told : (s : boards.State) (party : List ℕ) (t : Held) (told : Option Reply) → is_some told ≡ true → IfSome told (λ x. x ≡ (ask s.standing s.published party (table (id t))).reply) → (n : ℕ) × (told ≡ Some (reply.Id n))
id_told s party t None on h = absurd (false≢true on)
id_told s party t (Some r) on h = (_, ap (λ (x : Reply). Some x) h)

id_pair : (party : List ℕ) (pair : Pair) (x : Access) (told : Option Reply) (n : ℕ) → pair.0 ≡ line.Board (board_line.Step party) → pair.1 ≡ of_boards (answer.Step x told) → x ≡ access.Table → told ≡ Some (reply.Id n) → pair ≡ of_pair (board_line.Step party, answer.Step access.Table (Some (reply.Id n)))
id_pair party pair x told n is answers at_table tells =
    pair_is pair (line.Board (board_line.Step party)) (of_boards (answer.Step x told)) is answers
    ∙ ap (λ (y : Access). of_pair (board_line.Step party, answer.Step y told)) at_table
    ∙ ap (λ (r : Option Reply). of_pair (board_line.Step party, answer.Step access.Table r)) tells

pub ids_told : IdsAreTold
ids_told before since party handles asked m pair h right is =
    let o = first_open party handles asked m h.asked in
    let n = next_is before since party (flat_map moments_of_id asked) (m ∷ []) pair h.lawful h.own right (step_named party pair is) in
    let begin_m = own_id m party o.0 o.1 n.chain.1 in
    let t = id_begun m.met.boards party o.0 begin_m.right in
    let run : (left m).boards.parties party ≡ running (id_call t.0) = ap (λ (x : boards.State). x.parties party) begin_m.state ∙ t.1 in
    let s : ScriptState = state_met (before ++ since) in
    let first = link_grows party (end_of (state_met before) (flat_map moments_of_id asked)).boards m.met.boards n.chain.0 n.sound in
    let sound_left : Sound (left m).boards = (chain_grows party (m ∷ []) (end_of (state_met before) (flat_map moments_of_id asked)) (n.chain.0, n.chain.1, tt) n.sound).sound in
    let still = (link_leaves party (left m).boards s.boards n.chain.2.0 sound_left).runs (id_call t.0) run in
    let k = step_answered s _ party (record (id_call t.0) { passed = still.0 }) pair.1 (sound_at (before ++ since) h.lawful) still.1 (subst (λ (l : ScriptLine). IsRight s l pair.1) is right) in
    let reply_is = id_told s.boards party t.0 k.told k.step.reply.last k.step.reply.reply in
    (reply_is.0, id_pair party pair k.access k.told reply_is.0 is k.is (table_is k.access k.step.next) reply_is.1)
