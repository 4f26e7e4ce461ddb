-- The gets of a watcher's handle are of one entry: its own lines move nothing that it holds.
use Rattle.std.proofs.Common.{◌≡◌, ℕ, true, List, [], ◌∷◌, ◌++◌, refl, sym, ap, subst, ◌∙◌, Option, Some, None}
use Rattle.std.specs.List.{AllByRecursion, flat_map}
use Rattle.std.specs.Str.{bytes_eq}
use Rattle.board_model.proofs.ListLemmas.{same_bytes}
use Rattle.board_cell_model.specs.declared.access.Access.TheVariants as access
use Rattle.board_model.specs.declared.answer.Answer.TheVariants as answer
use Rattle.board_model.specs.declared.answer.Reply.TheVariants as reply
use Rattle.board_model.specs.declared.line.Line.TheVariants as board_line
use Rattle.board_model.specs.LawfulSession as boards
use Rattle.board_model.specs.Parties.{Running, running}
use Rattle.board_model.specs.Requests.{Fetch}
use Rattle.board_model.specs.Sound.{Sound}
use Rattle.board_model.specs.Things.{Held, thing_of}
use Rattle.script_model.specs.declared.line.EventRequest.{EventRequest}
use Rattle.script_model.specs.declared.line.EventRequest.TheVariants as request
use Rattle.script_model.specs.declared.line.ScriptLine.{ScriptLine}
use Rattle.script_model.specs.declared.line.ScriptLine.TheVariants as line
use Rattle.script_model.specs.declared.reply.EventReply.{EventReply}
use Rattle.script_model.specs.ScriptAnswers.{ScriptAnswer, of_boards, of_event}
use Rattle.script_model.specs.ScriptTurns.{EventTurn, ScriptState, turn_of}
use Rattle.script_model.specs.ScriptSession.{IsRight, after, after_turn, start}
use Rattle.script_model.specs.LawsOfRules.{IsRuled}
use Rattle.script_model.specs.LawsOfComposition.{Pair, state_met}
use Rattle.script_model.proofs.CompositionLemmas.{lawful_split}
use Rattle.script_model.proofs.RuleLemmas.{ruled}
use Rattle.board_event_model.specs.declared.call.WaitMode.TheVariants as mode
use Rattle.script_moments.specs.Moments.{Moment, end_of, left}
use Rattle.script_moments.specs.Gets.{Get, IsGet, IsPart, NamedEntry, Round, moments_of, moments_of_get, named_entry}
use Rattle.script_moments.specs.Reports.{entry_got}
use Rattle.script_moments.specs.Watchers.{AreAskedIds, AskedId, IsAskedId, IsWaitBegin, IsWaited, StepsOnEvent, Turn, WaitGoesOn, Waited, calls, gets_in_turn, gets_of_handle, moments_of_id, moments_of_turn, moments_of_wait, turns_of}
use Rattle.script_moments.specs.LawsOfWatchers.{WatchersKeepEntries}
use Rattle.script_moments.proofs.ChainLemmas.{Chain, Grows, chain_split, end_append, grows_more, grows_same, link_leaves, own_chain}
use Rattle.script_moments.proofs.WalkLemmas.{after_step_is}
use Rattle.script_moments.proofs.GetWalks.{SameThings, chain_grows, get_walk, own_step}
use Rattle.script_moments.proofs.RoundLemmas.{end_of_get, sound_at}
use Rattle.script_moments.proofs.CountLemmas.{IsNamedBy, named_is}
use Rattle.script_moments.proofs.TurnLemmas.{id_begun, id_call, own_id}
use Rattle.script_moments.proofs.WatchLemmas.{HasPart, all_append, ended_parts, one_get, tail_of, watcher_moments}

-- ---- own moments that move nothing that the party holds

-- what the party holds is the same after these moments, wherever they begin
abbrev KeepsThings : List ℕ → List Moment → Type 0
KeepsThings party ms = (s : ScriptState) → Chain party s ms → Sound s.boards → SameThings party s.boards (end_of s ms).boards

keeps_none : (party : List ℕ) → KeepsThings party []
keeps_none party s c sound name = refl

keeps_both : (party : List ℕ) (xs ys : List Moment) → KeepsThings party xs → KeepsThings party ys → KeepsThings party (xs ++ ys)
keeps_both party xs ys h k s c sound name =
    let cs = chain_split party xs ys s c in
    let mid = (chain_grows party xs s cs.0 sound).sound in
    ap (λ (t : ScriptState). thing_of t.boards.standing.tables.things party name) (end_append xs ys s) ∙ k (end_of s xs) cs.1 mid name ∙ h s cs.0 sound name

-- a moment after which the boards stand as before it
keeps_one : (party : List ℕ) (m : Moment) → (IsRight m.met m.pair.0 m.pair.1 → (left m).boards ≡ m.met.boards) → KeepsThings party (m ∷ [])
keeps_one party m f s c sound name =
    ap (λ (t : boards.State). thing_of t.standing.tables.things party name) (f c.1) ∙ (link_leaves party s.boards m.met.boards c.0 sound).holds.things name

-- ---- waits

moved_by : (m : Moment) (l : ScriptLine) (a : ScriptAnswer) → m.pair ≡ (l, a) → ((o : Option EventTurn) → IsRuled m.met l a o → (after_turn m.met l a o).boards ≡ m.met.boards) → IsRight m.met m.pair.0 m.pair.1 → (left m).boards ≡ m.met.boards
moved_by m l a e f ok =
    let right : IsRight m.met l a = subst (λ (p : Pair). IsRight m.met p.0 p.1) e ok in
    ap (λ (p : Pair). (after m.met p.0 p.1).boards) e ∙ f (turn_of m.met l) (ruled m.met l a right)

keeps_begin : (party listener : List ℕ) (m : Moment) → IsWaitBegin party listener m → KeepsThings party (m ∷ [])
keeps_begin party listener m b = keeps_one party m (moved_by m (line.Event party q) (of_boards answer.Begun) b at)
  where
    q : EventRequest
    q = request.Wait listener true mode.Try

    at : (o : Option EventTurn) → IsRuled m.met (line.Event party q) (of_boards answer.Begun) o → (after_turn m.met (line.Event party q) (of_boards answer.Begun) o).boards ≡ m.met.boards
    at (Some t) k = refl
    at None k = absurd k

keeps_step : (party : List ℕ) (m : Moment) (told : Option EventReply) → StepsOnEvent party m told → KeepsThings party (m ∷ [])
keeps_step party m told x = keeps_one party m (moved_by m (line.Board (board_line.Step party)) (of_event x.kind x.name x.access x.answer told) x.is at)
  where
    at : (o : Option EventTurn) → IsRuled m.met (line.Board (board_line.Step party)) (of_event x.kind x.name x.access x.answer told) o → (after_turn m.met (line.Board (board_line.Step party)) (of_event x.kind x.name x.access x.answer told) o).boards ≡ m.met.boards
    at (Some t) k = refl
    at None k = refl

keeps_steps : (party : List ℕ) (ms : List Moment) → AllByRecursion (WaitGoesOn party) ms → KeepsThings party ms
keeps_steps party [] k = keeps_none party
keeps_steps party (m ∷ ms) k = keeps_both party (m ∷ []) ms (keeps_step party m None k.0) (keeps_steps party ms k.1)

keeps_wait : (party listener : List ℕ) (x : Waited) → IsWaited party listener x → KeepsThings party (moments_of_wait x)
keeps_wait party listener x k =
    keeps_both party (x.begun ∷ []) (x.steps ++ x.ended ∷ []) (keeps_begin party listener x.begun k.begun)
    (keeps_both party x.steps (x.ended ∷ []) (keeps_steps party x.steps k.steps) (keeps_step party x.ended (Some k.told) k.ended))

-- ---- questions for ids

keeps_id : (party h : List ℕ) (x : AskedId) → IsAskedId party h x → KeepsThings party (moments_of_id x)
keeps_id party h x k s c sound name =
    let mid : ScriptState = left x.begun in
    let own = own_id x.begun party h k.begun c.1 in
    let t = id_begun x.begun.met.boards party h own.right in
    let run : mid.boards.parties party ≡ running (id_call t.0) = ap (λ (u : boards.State). u.parties party) own.state ∙ t.1 in
    let sound_mid : Sound mid.boards = (chain_grows party (x.begun ∷ []) s (c.0, c.1, tt) sound).sound in
    let on = link_leaves party mid.boards x.ended.met.boards c.2.0 sound_mid in
    let still = on.runs (id_call t.0) run in
    let r : Running = record (id_call t.0) { passed = still.0 } in
    let step = own_step x.ended party access.Table (Some (reply.Id x.id)) k.ended c.2.1 in
    let moved = after_step_is x.ended.met.boards party r access.Table (Some (reply.Id x.id)) still.1 in
    let things : boards.State → Option Held = λ (u : boards.State). thing_of u.standing.tables.things party name in
    ap things step.state
    ∙ ap things moved
    ∙ on.holds.things name
    ∙ ap things own.state
    ∙ (link_leaves party s.boards x.begun.met.boards c.0 sound).holds.things name

keeps_ids : (party : List ℕ) (hs : List (List ℕ)) (xs : List AskedId) → AreAskedIds party hs xs → KeepsThings party (flat_map moments_of_id xs)
keeps_ids party [] [] k = keeps_none party
keeps_ids party [] (x ∷ xs) k = absurd k
keeps_ids party (h ∷ hs) [] k = absurd k
keeps_ids party (h ∷ hs) (x ∷ xs) k = keeps_both party (moments_of_id x) (flat_map moments_of_id xs) (keeps_id party h x k.0) (keeps_ids party hs xs k.1)

-- ---- gets

keeps_get : (party h : List ℕ) (x : Get) → IsGet party h x → KeepsThings party (moments_of_get x)
keeps_get party h x k s c sound name = ap (λ (t : ScriptState). thing_of t.boards.standing.tables.things party name) (end_of_get x s) ∙ (get_walk party h s x c k sound).things name

keeps_gets : (party : List ℕ) (hs : List (List ℕ)) (xs : Round) (o : Option (Moment × List Moment)) → IsPart party hs xs o → KeepsThings party (moments_of xs)
keeps_gets party hs [] o k = keeps_none party
keeps_gets party [] (x ∷ xs) o k = absurd k
keeps_gets party (h ∷ hs) (x ∷ xs) o k = keeps_both party (moments_of_get x) (moments_of xs) (keeps_get party h x k.0) (keeps_gets party hs xs o k.1)

-- ---- the entry that a get goes to

same_entry : (n m : NamedEntry) → n.board ≡ m.board → n.entry ≡ m.entry → n.words ≡ m.words → n ≡ m
same_entry n m b e w =
    ap (λ (i : ℕ). record { board = i; entry = n.entry; words = n.words }) b
    ∙ ap (λ (i : ℕ). record { board = m.board; entry = i; words = n.words }) e
    ∙ ap (λ (i : ℕ). record { board = m.board; entry = m.entry; words = i }) w

one_entry : (n m : NamedEntry) (f : Fetch) → IsNamedBy n f → IsNamedBy m f → n ≡ m
one_entry n m f h k = same_entry n m (sym h.board ∙ k.board) (sym h.entry ∙ k.entry) (sym h.words ∙ k.words)

module _ (s0 : ScriptState) (sound0 : Sound s0.boards) (party handle : List ℕ) where
  abbrev IsKept : Get → Type 0
  IsKept r = entry_got party handle r ≡ named_entry s0 party handle

  -- a state to which the party's things came unmoved
  record Reaches (s : ScriptState) : Type 0 where
    grows : Grows s0.boards s.boards
    same : SameThings party s0.boards s.boards

  reach_on : (s : ScriptState) (ms : List Moment) → Reaches s → Chain party s ms → KeepsThings party ms → Reaches (end_of s ms)
  reach_on s ms r c k = record {
    grows = grows_more s0.boards s.boards (end_of s ms).boards r.grows (chain_grows party ms s c r.grows.sound);
    same = λ name. k s c r.grows.sound name ∙ r.same name;
  }

  get_kept : (s : ScriptState) (x : Get) → Reaches s → Chain party s (moments_of_get x) → IsGet party handle x → IsKept x
  get_kept s x r c k =
      let w = get_walk party handle s x c k r.grows.sound in
      let u : ScriptState = x.begun.met in
      let to = grows_more s0.boards s.boards u.boards r.grows w.to_begin in
      let here = named_is u party handle u.boards w.fetch to.sound (grows_same u.boards to.sound) (λ name. refl) w.asked in
      let there = named_is s0 party handle u.boards w.fetch sound0 to (λ name. w.before name ∙ r.same name) w.asked in
      one_entry (named_entry u party handle) (named_entry s0 party handle) w.fetch here there

  gets_kept : (hs : List (List ℕ)) (xs : Round) (o : Option (Moment × List Moment)) (s : ScriptState) → IsPart party hs xs o → Chain party s (moments_of xs) → Reaches s → AllByRecursion IsKept (gets_of_handle handle hs xs)
  gets_kept [] xs o s k c r = tt
  gets_kept (h ∷ hs) [] o s k c r = tt
  gets_kept (h ∷ hs) (x ∷ xs) o s k c r =
      let cs = chain_split party (moments_of_get x) (moments_of xs) s c in
      let rest = gets_kept hs xs o (end_of s (moments_of_get x)) k.1 cs.1 (reach_on s (moments_of_get x) r cs.0 (keeps_get party h x k.0)) in
      one_get IsKept party handle (bytes_eq h handle) h x (gets_of_handle handle hs xs) (same_bytes h handle) k.0 (λ g. get_kept s x r cs.0 g) rest

  turns_kept : (hs : List (List ℕ)) (asked : List AskedId) (ts : List Turn) (s : ScriptState) → AllByRecursion (HasPart party hs asked) ts → Chain party s (flat_map moments_of_turn ts) → Reaches s → AllByRecursion IsKept (flat_map (gets_in_turn handle hs asked) ts)
  turns_kept hs asked [] s k c r = tt
  turns_kept hs asked (t ∷ ts) s k c r =
      let called : List (List ℕ) = calls hs asked t.wait.ids in
      let waits = keeps_wait party k.0.listener t.wait k.0.wait in
      let cs = chain_split party (moments_of_turn t) (flat_map moments_of_turn ts) s c in
      let ws = chain_split party (moments_of_wait t.wait) (moments_of t.gets) s cs.0 in
      let here = gets_kept called t.gets k.0.runs (end_of s (moments_of_wait t.wait)) k.0.part ws.1 (reach_on s (moments_of_wait t.wait) r ws.0 waits) in
      let on = reach_on s (moments_of_turn t) r cs.0 (keeps_both party (moments_of_wait t.wait) (moments_of t.gets) waits (keeps_gets party called t.gets k.0.runs k.0.part)) in
      all_append IsKept (gets_in_turn handle hs asked t) (flat_map (gets_in_turn handle hs asked) ts) here (turns_kept hs asked ts (end_of s (moments_of_turn t)) k.1 cs.1 on)

pub entries_kept : WatchersKeepEntries
entries_kept before since party listener hs x w handle =
    let s0 : ScriptState = state_met before in
    let l = lawful_split before since start w.lawful in
    let sound0 = sound_at before l.0 in
    let ids : List Moment = flat_map moments_of_id x.asked in
    let turns : List Moment = flat_map moments_of_turn (turns_of x) in
    let chain : Chain party s0 (ids ++ (turns ++ tail_of x.rest)) = subst (Chain party s0) (w.own ∙ watcher_moments x) (own_chain party since s0 l.1) in
    let cs = chain_split party ids (turns ++ tail_of x.rest) s0 chain in
    let ts = chain_split party turns (tail_of x.rest) (end_of s0 ids) cs.1 in
    let from : Reaches s0 sound0 party handle s0 = record { grows = grows_same s0.boards sound0; same = λ name. refl } in
    let opened = reach_on s0 sound0 party handle s0 ids from cs.0 (keeps_ids party hs x.asked w.asked) in
    turns_kept s0 sound0 party handle hs x.asked (turns_of x) (end_of s0 ids) (ended_parts party listener hs x.asked x.turns x.rest w.turns w.rest) ts.0 opened
