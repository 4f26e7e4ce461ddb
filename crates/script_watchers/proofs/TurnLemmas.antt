-- The answers that a watcher meets, and the lines that it is given.
use Rattle.std.proofs.Common.{◌≡◌, ℕ, ◌≤◌, Bool, true, false, List, [], ◌∷◌, ◌++◌, length, length-append, arith, eqb, refl, sym, ap, subst, ◌∙◌, inl, inr, Some, None}
use Rattle.std.specs.Prelude.{◌⊎◌, codes, filter, if◌then◌else◌, not}
use Rattle.std.specs.List.{AllByRecursion, list_any}
use Rattle.std.specs.Str.{bytes_eq}
use Rattle.board_model.specs.declared.answer.Answer.TheVariants as answer
use Rattle.board_model.specs.declared.answer.Reply.TheVariants as reply
use Rattle.board_model.specs.LineGrammar.{is_name}
use Rattle.script_model.specs.declared.reply.EventReply.{EventReply}
use Rattle.script_model.specs.ScriptAnswers.{IsScriptAnswer, ScriptAnswer, is_refused, of_boards, of_event, script_answer_line, script_answer_text}
use Rattle.script_model.specs.ScriptGrammar.{IsScriptLine, SpellsLine, script_spell}
use Rattle.script_model.specs.ScriptSession.{IsRight, Session}
use Rattle.script_model.specs.LawsOfComposition.{Pair, state_met}
use Rattle.script_model.specs.LawsOfEvents.{TellsIds}
use Rattle.script_moments.specs.Moments.{Moment, next_moment}
use Rattle.script_moments.specs.LawsOfTurns.{StepsOn}
use Rattle.script_moments.specs.Watchers.{AskedId, IsWatcher, OpenTurn, StepsOnEvent, WaitGoesOn, called, each_once, getting, idle, waiting}
use Rattle.script_moments.specs.WatcherLines.{watcher_at}
use Rattle.script_moments.proofs.TurnLemmas.{watchers_step}
use Rattle.script_moments.proofs.WaitLemmas.{waits_step}
use Rattle.script_exchanges.specs.DrivenParties.{Got, got_by}
use Rattle.script_watches.specs.Watchings.{Watching, called_by, ids_by, line_at, next_handle, next_line}
use Rattle.script_watches.proofs.WatchingLemmas.{HasRoom, IsSound, next_pair}
use Rattle.script_watchers.specs.declared.watch.Phase.{Phase}
use Rattle.script_watchers.specs.declared.watch.Watch.{Watch}
use Rattle.script_watchers.specs.ToldIds.{told_ids}
use Rattle.script_watchers.specs.Watches.{Fits, FitsGet, FitsRest, HasNext, HasNextAt, IsPhase, Keeps}
use Rattle.script_feed.proofs.GivenLemmas.{named_at, short_name}
use Rattle.script_watchers.proofs.ToldIdLemmas.{wait_goes, wait_told}

-- ---- a handle that is called for is left

room_in : (c : Watch) (x : Watching) (o : OpenTurn) → IsPhase c x o → HasRoom x o → HasNext c
room_in c x idle k room = subst (λ (p : Phase). HasNextAt p c.got (length c.calls.items)) (sym k) tt
room_in c x (waiting begun steps) k room = subst (λ (p : Phase). HasNextAt p c.got (length c.calls.items)) (sym k) tt
room_in c x (getting w gets None) k room = subst (λ (p : Phase). HasNextAt p c.got (length c.calls.items)) (sym k.phase_is) (omega (arith, room, k.got, ap (λ (l : List (List ℕ)). length l) k.calls))
room_in c x (getting w gets (Some get)) k room = subst (λ (p : Phase). HasNextAt p c.got (length c.calls.items)) (sym k.phase_is) (omega (arith, room, k.got, ap (λ (l : List (List ℕ)). length l) k.calls))

pub room_of : (c : Watch) (x : Watching) → Keeps c x → HasRoom x x.watcher.rest → HasNext c
room_of c x k room = room_in c x x.watcher.rest k.phase room

-- ---- the next line is one of the grammar

abbrev AreNamed : List (List ℕ) → Type 0
AreNamed hs = AllByRecursion (λ h. is_name h ≡ true) hs

named_called : (hs : List (List ℕ)) (xs : List AskedId) (ids : List ℕ) → AreNamed hs → AreNamed (called hs xs ids)
named_called [] xs ids h = tt
named_called (n ∷ hs) [] ids h = tt
named_called (n ∷ hs) (x ∷ xs) ids h = at (list_any (λ i. eqb i x.id) ids) (named_called hs xs ids h.1)
  where
    at : (b : Bool) → AreNamed (called hs xs ids) → AreNamed (if b then n ∷ called hs xs ids else called hs xs ids)
    at true k = (h.0, k)
    at false k = k

named_filter : (p : List ℕ → Bool) (hs : List (List ℕ)) → AreNamed hs → AreNamed (filter p hs)
named_filter p [] h = tt
named_filter p (n ∷ hs) h = at (p n) (named_filter p hs h.1)
  where
    at : (b : Bool) → AreNamed (filter p hs) → AreNamed (if b then n ∷ filter p hs else filter p hs)
    at true k = (h.0, k)
    at false k = k

named_once : (hs : List (List ℕ)) → AreNamed hs → AreNamed (each_once hs)
named_once [] h = tt
named_once (n ∷ hs) h = (h.0, named_filter (λ g. not (bytes_eq g n)) (each_once hs) (named_once hs h.1))

next_is_line : (party : List ℕ) (x : Watching) (o : OpenTurn) → is_name party ≡ true → is_name x.listener ≡ true → AreNamed x.handles → HasRoom x o → IsScriptLine (line_at party x o)
next_is_line party x idle p l h room = (p, l)
next_is_line party x (waiting begun steps) p l h room = p
next_is_line party x (getting w gets None) p l h room = (p, (named_at (called_by x w) (length gets) (named_once (called x.handles x.watcher.asked w.ids) (named_called x.handles x.watcher.asked w.ids h)) room, tt))
next_is_line party x (getting w gets (Some get)) p l h room = p

next_is_short : (party : List ℕ) (x : Watching) (o : OpenTurn) → length party ≤ 16 → length x.listener ≤ 16 → AreNamed x.handles → HasRoom x o → length (script_spell (line_at party x o)) ≤ 4096
next_is_short party x idle p l h room = omega (arith, p, l, length-append (codes "begin") (32 ∷ (party ++ 32 ∷ (codes "wait" ++ 32 ∷ (x.listener ++ 32 ∷ (codes "all" ++ 32 ∷ codes "try"))))), length-append party (32 ∷ (codes "wait" ++ 32 ∷ (x.listener ++ 32 ∷ (codes "all" ++ 32 ∷ codes "try")))), length-append (codes "wait") (32 ∷ (x.listener ++ 32 ∷ (codes "all" ++ 32 ∷ codes "try"))), length-append x.listener (32 ∷ (codes "all" ++ 32 ∷ codes "try")))
next_is_short party x (waiting begun steps) p l h room = omega (arith, p, length-append (codes "step") (32 ∷ party))
next_is_short party x (getting w gets None) p l h room =
    let handle : List ℕ = next_handle x w gets in
    let short = short_name handle (named_at (called_by x w) (length gets) (named_once (called x.handles x.watcher.asked w.ids) (named_called x.handles x.watcher.asked w.ids h)) room) in
    omega (arith, p, short, length-append (codes "begin") (32 ∷ (party ++ 32 ∷ (codes "get" ++ 32 ∷ handle))), length-append party (32 ∷ (codes "get" ++ 32 ∷ handle)), length-append (codes "get") (32 ∷ handle))
next_is_short party x (getting w gets (Some get)) p l h room = omega (arith, p, length-append (codes "step") (32 ∷ party))

pub next_spelled : (c : Watch) (party : List ℕ) (x : Watching) (bytes : List ℕ) → Keeps c x → HasRoom x x.watcher.rest → is_name party ≡ true → bytes ≡ script_spell (next_line party x) → SpellsLine bytes (next_line party x)
next_spelled c party x bytes k room named e = record {
  line = next_is_line party x x.watcher.rest named k.named k.handles room;
  bytes = e;
  short = subst (λ (l : List ℕ). length l ≤ 4096) (sym e) (next_is_short party x x.watcher.rest (short_name party named) (short_name x.listener k.named) k.handles room);
}

-- ---- a right answer fits

-- a step of a wait
wait_fits : (party : List ℕ) (m : Moment) → WaitGoesOn party m ⊎ ((told : EventReply) × (ids : List ℕ) × StepsOnEvent party m (Some told) × TellsIds true told ids) → IsScriptAnswer m.pair.1 → told_ids (script_answer_text m.pair.1) ≡ ids_by m.pair.1
wait_fits party m (inl g) ok =
    let e : m.pair.1 ≡ of_event g.kind g.name g.access g.answer None = ap (λ (p : Pair). p.1) g.is in
    ap (λ (a : ScriptAnswer). told_ids (script_answer_text a)) e ∙ wait_goes g.kind g.name g.access g.answer (subst IsScriptAnswer e ok) ∙ sym (ap ids_by e)
wait_fits party m (inr g) ok =
    let e : m.pair.1 ≡ of_event g.2.kind g.2.name g.2.access g.2.answer (Some g.0) = ap (λ (p : Pair). p.1) g.2.is in
    ap (λ (a : ScriptAnswer). told_ids (script_answer_text a)) e ∙ wait_told g.2.kind g.2.name g.2.access g.2.answer g.0 g.1 (subst IsScriptAnswer e ok) g.3 ∙ sym (ap ids_by e)

-- a step of a get
get_fits : (party : List ℕ) (m : Moment) → StepsOn party m → IsScriptAnswer m.pair.1 → FitsGet m.pair.1
get_fits party m (inl g) ok =
    let e : m.pair.1 ≡ of_boards (answer.Step g.0 None) = ap (λ (p : Pair). p.1) g.1 in
    inl (ap got_by e, (g.0, subst IsScriptAnswer e ok, ap script_answer_line e))
get_fits party m (inr g) ok =
    let got : Got = record { type = g.0; words = g.1; generation = g.2 } in
    let e : m.pair.1 ≡ of_boards (answer.Step g.3.0 (Some (reply.Got g.0 g.1 g.2))) = ap (λ (p : Pair). p.1) g.3.1 in
    inr (got, ap got_by e, (g.3.0, subst IsScriptAnswer e ok, ap script_answer_line e))

module _ (party : List ℕ) (x : Watching) (a : ScriptAnswer) (since : Session) (k : IsWatcher x.before since party x.listener x.handles x.watcher) (right : IsRight (state_met (x.before ++ since)) (next_line party x) a) where
  at_rest : (o : OpenTurn) → x.watcher.rest ≡ o → IsWatcher x.before since party x.listener x.handles (watcher_at x.watcher.asked x.watcher.turns o)
  at_rest o e = subst (λ (r : OpenTurn). IsWatcher x.before since party x.listener x.handles (watcher_at x.watcher.asked x.watcher.turns r)) e k

  rest_fits : (o : OpenTurn) → x.watcher.rest ≡ o → FitsRest o a
  rest_fits idle e = tt
  rest_fits (waiting begun steps) e = wait_fits party (next_moment x.before since (next_pair party x a)) (waits_step x.before since party x.listener x.handles x.watcher.asked x.watcher.turns begun steps (next_pair party x a) (at_rest (waiting begun steps) e) right (ap (line_at party x) e)) right.answer
  rest_fits (getting w gets None) e = tt
  rest_fits (getting w gets (Some get)) e = get_fits party (next_moment x.before since (next_pair party x a)) (watchers_step x.before since party x.listener x.handles x.watcher.asked x.watcher.turns w gets get.0 get.1 (next_pair party x a) (at_rest (getting w gets (Some get)) e) right (ap (line_at party x) e)) right.answer

pub right_fits : (fed : Session) (party : List ℕ) (x : Watching) (a : ScriptAnswer) → IsSound fed party x → IsRight (state_met fed) (next_line party x) a → Fits x a
right_fits fed party x a h right = at (is_refused a) refl
  where
    at : (b : Bool) → is_refused a ≡ b → Fits x a
    at true e = inl e
    at false e = inr (e, rest_fits party x a h.since h.watcher (subst (λ (s : Session). IsRight (state_met s) (next_line party x) a) h.fed_is right) x.watcher.rest refl)
