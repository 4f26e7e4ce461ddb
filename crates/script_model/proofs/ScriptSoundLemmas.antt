-- Each right line of a script keeps the facts on events.
use Rattle.std.proofs.Common.{arith, ◌≡◌, ℕ, ◌+◌, ◌<◌, ◌^◌, Bool, true, false, refl, sym, ◌∙◌, ap, inl, inr, subst, Some, None, Option, List, [], ◌∷◌, length}
use Rattle.std.specs.Prelude.{if◌then◌else◌, ◌||◌, IsSomeAnd, is_some, ⊤}
use Rattle.std.specs.Str.{bytes_eq}
use Rattle.std.proofs.lemmas.Bool.{false≢true}
use Rattle.board_event_model.specs.declared.access.EventAccess.{EventAccess}
use Rattle.board_event_model.specs.declared.access.EventAnswer.{EventAnswer}
use Rattle.board_event_model.specs.declared.kind.EventKind.{EventKind}
use Rattle.board_event_model.specs.EventMemory.{Event}
use Rattle.board_event_model.specs.EventSessions.{EventSession, PartyCall, StandingEvent, do_at, event_of, stepped_on, took_step}
use Rattle.board_event_model.proofs.SetLemmas.{either}
use Rattle.board_event_model.proofs.SoundLemmas.{none_some, some_same}
use Rattle.board_cell_model.specs.declared.access.Access.{Access}
use Rattle.board_cell_model.specs.declared.access.Access.TheVariants as access
use Rattle.board_model.specs.declared.answer.Answer.{Answer}
use Rattle.board_model.specs.declared.answer.Answer.TheVariants as answer
use Rattle.board_model.specs.declared.answer.Reply.{Reply}
use Rattle.board_model.specs.declared.line.Line.{Line}
use Rattle.board_model.specs.declared.line.Line.TheVariants as board_line
use Rattle.board_model.specs.Parties.{Party, free, gone, notice, running, with_party}
use Rattle.board_model.specs.LawfulSession as boards
use Rattle.script_model.specs.declared.line.ScriptLine.{ScriptLine}
use Rattle.script_model.specs.declared.line.ScriptLine.TheVariants as line
use Rattle.script_model.specs.ScriptAnswers.{ScriptAnswer, of_boards, of_event}
use Rattle.script_model.specs.ScriptEvents.{EventAsk, EventTask, EventThing, IsEventAccess, IsStepOf, ScriptEvents, act, ask, ask_made, event_let_go, events_abandoned, let_go_from, listener, notifier, event_number, opened, opened_with, runs_on_events, step_made, to_listen, to_notify, with_ask, with_listener, notifier_more}
use Rattle.script_model.specs.ScriptGrammar.{IsScriptLine}
use Rattle.script_model.specs.ScriptTurns.{EventTurn, IsTurnAnswer, ScriptState, begins, board_turn, drops, expires, refused, steps, task_begun, turn_of, turned}
use Rattle.script_model.specs.LawsOfRules.{IsRuled}
use Rattle.script_model.specs.ScriptSession.{IsLawfulFrom, IsRight, Session, after, after_boards, after_turn, start, state_after}
use Rattle.script_model.specs.SoundEvents.{AreNumbered, AreSoundEvents, IsFormedAsk, IsNamed, IsSoundScript, name_asked}
use Rattle.script_model.specs.LawsOfSound.{NamesAgree, SessionsAreSound, StaysSound}
use Rattle.script_model.proofs.EachLemmas.{event_in}
use Rattle.script_model.proofs.TurnLemmas.{asks, asks_no_more, call_begun, call_ended, call_stepped, grown, if_cases, other_text, party_abandoned, put_other, same_text, text_itself}
use Rattle.script_model.proofs.NotifierLemmas.{is_notified, one_of}
use Rattle.script_model.proofs.HolderLemmas.{listener_dropped, listener_made, notifier_dropped, notifier_made}
use Rattle.script_model.proofs.NumberedLemmas.{line_keeps}
use Rattle.script_model.proofs.RuleLemmas.{ruled}
use Rattle.script_model.proofs.TaskLemmas.{IsIdle, IsTask, IsTurn, turn_is}

-- ---- a listener or notifier that was asked for

-- the events where the party asks for nothing
abbrev asking_none : ScriptEvents → List ℕ → ScriptEvents
asking_none x party = record x { asked = with_ask x.asked party None }

asks_none : (x : ScriptEvents) (party : List ℕ) → (asking_none x party).asked party ≡ None
asks_none x party = rw (text_itself party) refl

opened_found : (x : ScriptEvents) (c : ℕ) (party name : List ℕ) (n : ℕ) (o : Option Event) → event_of x.session.stands n ≡ o → IsSomeAnd o (λ e. x.names e.kind e.name ≡ Some n) → x.things party name ≡ None → x.session.doing party ≡ None → AreSoundEvents x c → AreSoundEvents (asking_none (opened_with x party name n o) party) (c + 1)
opened_found x c party name n None found named unheld idle h = absurd named
opened_found x c party name n (Some e) found named unheld idle h =
    elim e.held as (λ b. AreSoundEvents (asking_none (if b then notifier_more x party name n e else x) party) (c + 1)) [
      | true ↦ notifier_made (asking_none x party) c party name n e found named unheld (asks_none x party) idle (asks_no_more x c party h)
      | false ↦ grown (asking_none x party) c (asks_no_more x c party h)
    ]

-- the event that has a name is the one of its name
named_so : (x : ScriptEvents) (k : EventKind) (text : List ℕ) (n : ℕ) (o : Option Event) → x.names k text ≡ Some n → IsSomeAnd o (IsNamed k text) → IsSomeAnd o (λ e. x.names e.kind e.name ≡ Some n)
named_so x k text n None is h = absurd h
named_so x k text n (Some e) is h = ap (λ (j : EventKind). x.names j e.name) h.kind ∙ ap (x.names k) h.name_is ∙ is

opened_sound : (x : ScriptEvents) (c : ℕ) (party name : List ℕ) (k : EventKind) (event : List ℕ) (o : Option ℕ) → x.names k event ≡ o → x.things party name ≡ None → x.session.doing party ≡ None → AreSoundEvents x c → AreSoundEvents (asking_none (opened x party name o) party) (c + 1)
opened_sound x c party name k event None is unheld idle h = grown (asking_none x party) c (asks_no_more x c party h)
opened_sound x c party name k event (Some n) is unheld idle h =
    opened_found x c party name n (event_of x.session.stands n) refl (named_so x k event n (event_of x.session.stands n) is (h.names k event n is)) unheld idle h

none_of : (o : Option ℕ) → is_some o ≡ false → o ≡ None
none_of None e = refl
none_of (Some n) e = absurd cc

ask_sound : (x : ScriptEvents) (c : ℕ) (party : List ℕ) (q : EventAsk) → IsFormedAsk q → x.things party (name_asked q) ≡ None → x.session.doing party ≡ None → AreSoundEvents x c → AreSoundEvents (asking_none (ask_made x party q) party) (c + 1)
ask_sound x c party (to_listen name k event max) formed unheld idle h =
    elim (is_some (x.names k event)) as (λ b. is_some (x.names k event) ≡ b → AreSoundEvents (asking_none (if b then x else with_listener x party name k event max) party) (c + 1)) [
      | true ↦ λ taken. grown (asking_none x party) c (asks_no_more x c party h)
      | false ↦ λ unnamed. listener_made (asking_none x party) c party name k event max formed.0 formed.1 (none_of (x.names k event) unnamed) unheld (asks_none x party) idle (asks_no_more x c party h)
    ] refl
ask_sound x c party (to_notify name k event) formed unheld idle h = opened_sound x c party name k event (x.names k event) refl unheld idle h

-- ---- a step

access_sound : (x : ScriptEvents) (c : ℕ) (party : List ℕ) (d : PartyCall) (o : Option StandingEvent) (a : ScriptAnswer) → x.session.doing party ≡ Some d → x.session.stands d.on ≡ o → IsSomeAnd (event_in o) (λ e. IsEventAccess e d.call a) → AreSoundEvents x c → AreSoundEvents (step_made x party None a) (c + 1)
access_sound x c party d None a doing stands ok h = absurd ok
access_sound x c party d (Some st) a doing stands ok h =
    subst (λ (b : ScriptAnswer). AreSoundEvents (step_made x party None b) (c + 1)) (sym ok.printed) (call_stepped x c party _ ok.answer d st doing stands refl ok.right h)

step_sound : (x : ScriptEvents) (c : ℕ) (party : List ℕ) (o : Option EventAsk) (d : Option PartyCall) (a : ScriptAnswer) → x.asked party ≡ o → x.session.doing party ≡ d → IsStepOf x o d a → AreSoundEvents x c → AreSoundEvents (step_made x party o a) (c + 1)
step_sound x c party (Some q) d a asked doing ok h = ask_sound x c party q (h.asked party q asked) (h.unheld party q asked) (h.apart party q asked) h
step_sound x c party None None a asked doing ok h = absurd ok
step_sound x c party None (Some d) a asked doing ok h = access_sound x c party d (x.session.stands d.on) a doing refl ok h

-- ---- a drop

let_go_sound : (x : ScriptEvents) (c : ℕ) (party name : List ℕ) (t : EventThing) (o : Option Event) → event_of x.session.stands (event_number t) ≡ o → x.things party name ≡ Some t → x.session.doing party ≡ None → AreSoundEvents x c → AreSoundEvents (let_go_from x party name t o) (c + 1)
let_go_sound x c party name t None found holds idle h = grown x c h
let_go_sound x c party name (listener k) (Some e) found holds idle h = listener_dropped x c party name k e found holds idle h
let_go_sound x c party name (notifier k) (Some e) found holds idle h = notifier_dropped x c party name k e found holds idle h

drop_sound : (x : ScriptEvents) (c : ℕ) (party name : List ℕ) (o : Option EventThing) → x.things party name ≡ o → x.session.doing party ≡ None → AreSoundEvents x c → AreSoundEvents (event_let_go x party name o) (c + 1)
drop_sound x c party name None holds idle h = grown x c h
drop_sound x c party name (Some t) holds idle h = let_go_sound x c party name t _ refl holds idle h

-- ---- a turn

task_sound : (x : ScriptEvents) (c : ℕ) (party : List ℕ) (t : EventTask) → IsIdle x party → IsTask x party t → AreSoundEvents x c → AreSoundEvents (task_begun x party t) (c + 1)
task_sound x c party (ask q) idle task h = grown _ c (asks x c party (Some q) (λ p e. subst (λ (r : EventAsk). (x.session.doing party ≡ None) × IsFormedAsk r × (x.things party (name_asked r) ≡ None)) (some_same _ p e) (idle.doing, task.0, task.1)) h)
task_sound x c party (act n f) idle task h = grown _ c (call_begun x c party n f idle.asked task.0 task.1 h)

turn_sound : (s : ScriptState) (c : ℕ) (t : EventTurn) (a : ScriptAnswer) → IsTurn s t → IsTurnAnswer s.events t a → AreSoundEvents s.events c → AreSoundEvents (turned s.events t a) (c + 1)
turn_sound s c (refused why) a is ok h = grown s.events c h
turn_sound s c (begins party t) a is ok h = task_sound s.events c party t is.0 is.2 h
turn_sound s c (steps party) a is ok h = step_sound s.events c party (s.events.asked party) (s.events.session.doing party) a refl refl ok h
turn_sound s c (drops party name) a is ok h = drop_sound s.events c party name (s.events.things party name) refl is.0.doing h
turn_sound s c (expires party) a is ok h = grown _ c (call_ended s.events c party is.0 h)

-- ---- what other parties do

others_are : (x y : ScriptEvents) (party : List ℕ) → ((p : List ℕ) → (p ≡ party → ⊥) → y.asked p ≡ x.asked p) → ((p : List ℕ) → (p ≡ party → ⊥) → y.session.doing p ≡ x.session.doing p) → (p : List ℕ) → (p ≡ party → ⊥) → runs_on_events y p ≡ runs_on_events x p
others_are x y party asked doing p apart = ap (λ (o : Option EventAsk). is_some o || is_some (y.session.doing p)) (asked p apart) ∙ ap (λ (o : Option PartyCall). is_some (x.asked p) || is_some o) (doing p apart)

others_doing : (s : EventSession) (party : List ℕ) (x : Option PartyCall) (p : List ℕ) → (p ≡ party → ⊥) → do_at s.doing party x p ≡ s.doing p
others_doing s party x p apart = put_other s.doing party x p apart

pub step_doing : (s : EventSession) (party : List ℕ) (a : EventAccess) (b : EventAnswer) (o : Option PartyCall) (p : List ℕ) → (p ≡ party → ⊥) → (stepped_on s party a b o).doing p ≡ s.doing p
step_doing s party a b None p apart = refl
step_doing s party a b (Some d) p apart = of (event_of s.stands d.on)
  where
    of : (e : Option Event) → (took_step s party a b d e).doing p ≡ s.doing p
    of None = refl
    of (Some e) = others_doing s party _ p apart

opened_doing : (x : ScriptEvents) (party name : List ℕ) (n : ℕ) (o : Option Event) → ((opened_with x party name n o).session.doing ≡ x.session.doing) × ((opened_with x party name n o).asked ≡ x.asked)
opened_doing x party name n None = (refl, refl)
opened_doing x party name n (Some e) =
    elim e.held as (λ b. ((if b then notifier_more x party name n e else x).session.doing ≡ x.session.doing) × ((if b then notifier_more x party name n e else x).asked ≡ x.asked)) [ true ↦ (refl, refl) | false ↦ (refl, refl) ]

pub ask_doing : (x : ScriptEvents) (party : List ℕ) (q : EventAsk) → ((ask_made x party q).session.doing ≡ x.session.doing) × ((ask_made x party q).asked ≡ x.asked)
ask_doing x party (to_listen name k event max) =
    elim (is_some (x.names k event)) as (λ b. ((if b then x else with_listener x party name k event max).session.doing ≡ x.session.doing) × ((if b then x else with_listener x party name k event max).asked ≡ x.asked)) [ true ↦ (refl, refl) | false ↦ (refl, refl) ]
ask_doing x party (to_notify name k event) = of (x.names k event)
  where
    of : (o : Option ℕ) → ((opened x party name o).session.doing ≡ x.session.doing) × ((opened x party name o).asked ≡ x.asked)
    of None = (refl, refl)
    of (Some n) = opened_doing x party name n (event_of x.session.stands n)

step_others : (x : ScriptEvents) (party : List ℕ) (o : Option EventAsk) (a : ScriptAnswer) (p : List ℕ) → (p ≡ party → ⊥) → runs_on_events (step_made x party o a) p ≡ runs_on_events x p
step_others x party (Some q) a p apart =
    let e = ask_doing x party q in
    others_are x (asking_none (ask_made x party q) party) party (λ r other. put_other (ask_made x party q).asked party None r other ∙ ap (λ (f : List ℕ → Option EventAsk). f r) e.1) (λ r other. ap (λ (f : List ℕ → Option PartyCall). f r) e.0) p apart
step_others x party None (of_event k name a b told) p apart = others_are x (step_made x party None (of_event k name a b told)) party (λ r other. refl) (step_doing x.session party a b (x.session.doing party)) p apart
step_others x party None a p apart = refl

let_go_doing : (x : ScriptEvents) (party name : List ℕ) (t : EventThing) (o : Option Event) (p : List ℕ) → runs_on_events (let_go_from x party name t o) p ≡ runs_on_events x p
let_go_doing x party name t None p = refl
let_go_doing x party name (listener n) (Some e) p = refl
let_go_doing x party name (notifier n) (Some e) p = refl

drop_doing : (x : ScriptEvents) (party name : List ℕ) (o : Option EventThing) (p : List ℕ) → runs_on_events (event_let_go x party name o) p ≡ runs_on_events x p
drop_doing x party name None p = refl
drop_doing x party name (Some t) p = let_go_doing x party name t _ p

task_others : (x : ScriptEvents) (party : List ℕ) (t : EventTask) (p : List ℕ) → (p ≡ party → ⊥) → runs_on_events (task_begun x party t) p ≡ runs_on_events x p
task_others x party (ask q) p apart = others_are x (task_begun x party (ask q)) party (λ r other. put_other x.asked party (Some q) r other) (λ r other. refl) p apart
task_others x party (act n c) p apart = others_are x (task_begun x party (act n c)) party (λ r other. refl) (others_doing x.session party _) p apart

-- a party that runs is another, which ran and is free, or this, which is free
frees : (s : ScriptState) (y : ScriptEvents) (party : List ℕ) → s.boards.parties party ≡ free → ((p : List ℕ) → (p ≡ party → ⊥) → runs_on_events y p ≡ runs_on_events s.events p) → ((p : List ℕ) → runs_on_events s.events p ≡ true → s.boards.parties p ≡ free) → (p : List ℕ) → runs_on_events y p ≡ true → s.boards.parties p ≡ free
frees s y party is_free others old p runs =
    elim (either (bytes_eq p party)) [
      | inl same ↦ ap s.boards.parties (same_text p party same) ∙ is_free
      | inr apart ↦ old p (sym (others p (λ e. false≢true (sym apart ∙ ap (bytes_eq p) (sym e) ∙ text_itself p))) ∙ runs)
    ]

turn_free : (s : ScriptState) (t : EventTurn) (a : ScriptAnswer) → IsTurn s t → ((p : List ℕ) → runs_on_events s.events p ≡ true → s.boards.parties p ≡ free) → (p : List ℕ) → runs_on_events (turned s.events t a) p ≡ true → s.boards.parties p ≡ free
turn_free s (refused why) a is old p runs = old p runs
turn_free s (begins party t) a is old p runs = frees s (task_begun s.events party t) party is.1 (task_others s.events party t) old p runs
turn_free s (steps party) a is old p runs = frees s (step_made s.events party (s.events.asked party) a) party (old party is) (step_others s.events party (s.events.asked party) a) old p runs
turn_free s (drops party name) a is old p runs = old p (sym (drop_doing s.events party name (s.events.things party name) p) ∙ runs)
turn_free s (expires party) a is old p runs =
    frees s (turned s.events (expires party) a) party (old party is.1) (others_are s.events (turned s.events (expires party) a) party (λ r other. refl) (others_doing s.events.session party None)) old p runs

-- ---- a line of boards

-- what is known of a line that is the boards' alone
abbrev IsAlone : ScriptEvents → Line → Type 0
IsAlone x (board_line.Begin party c) = runs_on_events x party ≡ false
IsAlone x (board_line.Step party) = runs_on_events x party ≡ false
IsAlone x (board_line.Release party name) = ⊤
IsAlone x (board_line.Abandon party) = ⊤
IsAlone x (board_line.Words board) = ⊤

alone_is : (s : ScriptState) (l : Line) → board_turn s l ≡ None → IsAlone s.events l
alone_is s (board_line.Begin party c) e =
    elim (if_cases (runs_on_events s.events party) _ _ None e) [ inl is ↦ absurd (none_some _ (sym is.1)) | inr is ↦ is.0 ]
alone_is s (board_line.Step party) e =
    elim (if_cases (runs_on_events s.events party) _ _ None e) [ inl is ↦ absurd (none_some _ (sym is.1)) | inr is ↦ is.0 ]
alone_is s (board_line.Release party name) e = tt
alone_is s (board_line.Abandon party) e = tt
alone_is s (board_line.Words board) e = tt

boards_sound : (x : ScriptEvents) (c : ℕ) (l : Line) (a : Answer) → AreSoundEvents x c → AreSoundEvents (after_boards x l a) (c + 1)
boards_sound x c (board_line.Abandon party) answer.Gone h = party_abandoned x c party h
boards_sound x c l a h = grown x c h

-- the parties of which this holds are free
abbrev AreFree : (List ℕ → Bool) → (List ℕ → Party) → Type 0
AreFree runs parties = (p : List ℕ) → runs p ≡ true → parties p ≡ free

-- one party is something else, and doesn't run
other_free : (runs : List ℕ → Bool) (parties : List ℕ → Party) (party : List ℕ) (x : Party) → runs party ≡ false → AreFree runs parties → AreFree runs (with_party parties party x)
other_free runs parties party x not old p is = put_party (λ e. false≢true (sym not ∙ ap runs (sym e) ∙ is)) ∙ old p is
  where
    put_party : (p ≡ party → ⊥) → with_party parties party x p ≡ parties p
    put_party h = rw (other_text p party h) refl

notice_free : (a : Access) → notice a free ≡ free
notice_free (access.Read board word value) = refl
notice_free (access.Write board word value) = refl
notice_free access.Table = refl

noticed_free : (runs : List ℕ → Bool) (parties : List ℕ → Party) (a : Access) → AreFree runs parties → AreFree runs (λ p. notice a (parties p))
noticed_free runs parties a old p is = ap (notice a) (old p is) ∙ notice_free a

step_free : (runs : List ℕ → Bool) (s : boards.State) (party : List ℕ) (x : Party) (a : Access) (told : Option Reply) → runs party ≡ false → AreFree runs s.parties → AreFree runs (boards.after_step s party x a told).parties
step_free runs s party free a told not old = old
step_free runs s party (running r) a None not old = other_free runs (λ p. notice a (s.parties p)) party _ not (noticed_free runs s.parties a old)
step_free runs s party (running r) a (Some t) not old = other_free runs (λ p. notice a (s.parties p)) party free not (noticed_free runs s.parties a old)
step_free runs s party gone a told not old = old

-- an abandoned party runs nothing
abandoned_runs : (x : ScriptEvents) (party p : List ℕ) → runs_on_events (events_abandoned x party) p ≡ true → (bytes_eq p party ≡ false) × (runs_on_events x p ≡ true)
abandoned_runs x party p h =
    of (bytes_eq p party) h
  where
    of : (b : Bool) → (is_some (if b then None else x.asked p) || is_some (if b then None else x.session.doing p)) ≡ true → (b ≡ false) × (runs_on_events x p ≡ true)
    of true h = absurd (false≢true h)
    of false h = (refl, h)

abandoned_free : (x : ScriptEvents) (parties : List ℕ → Party) (party : List ℕ) → AreFree (runs_on_events x) parties → AreFree (runs_on_events (events_abandoned x party)) (with_party parties party gone)
abandoned_free x parties party old p h = let w = abandoned_runs x party p h in rw w.0 (old p w.1)

boards_free : (s : boards.State) (x : ScriptEvents) (l : Line) (a : Answer) → IsAlone x l → AreFree (runs_on_events x) s.parties → AreFree (runs_on_events (after_boards x l a)) (boards.after s l a).parties
boards_free s x (board_line.Begin party c) answer.Begun not old = other_free (runs_on_events x) s.parties party _ not old
boards_free s x (board_line.Begin party c) (answer.Refused why) not old = old
boards_free s x (board_line.Begin party c) (answer.Step a told) not old = old
boards_free s x (board_line.Begin party c) answer.Gone not old = old
boards_free s x (board_line.Begin party c) (answer.Words ws) not old = old
boards_free s x (board_line.Step party) (answer.Step a told) not old = step_free (runs_on_events x) s party (s.parties party) a told not old
boards_free s x (board_line.Step party) answer.Begun not old = old
boards_free s x (board_line.Step party) (answer.Refused why) not old = old
boards_free s x (board_line.Step party) answer.Gone not old = old
boards_free s x (board_line.Step party) (answer.Words ws) not old = old
boards_free s x (board_line.Release party name) answer.Begun not old = old
boards_free s x (board_line.Release party name) (answer.Refused why) not old = old
boards_free s x (board_line.Release party name) (answer.Step a told) not old = old
boards_free s x (board_line.Release party name) answer.Gone not old = old
boards_free s x (board_line.Release party name) (answer.Words ws) not old = old
boards_free s x (board_line.Abandon party) answer.Gone not old = abandoned_free x s.parties party old
boards_free s x (board_line.Abandon party) answer.Begun not old = old
boards_free s x (board_line.Abandon party) (answer.Refused why) not old = old
boards_free s x (board_line.Abandon party) (answer.Step a told) not old = old
boards_free s x (board_line.Abandon party) (answer.Words ws) not old = old
boards_free s x (board_line.Words board) answer.Begun not old = old
boards_free s x (board_line.Words board) (answer.Refused why) not old = old
boards_free s x (board_line.Words board) (answer.Step a told) not old = old
boards_free s x (board_line.Words board) answer.Gone not old = old
boards_free s x (board_line.Words board) (answer.Words ws) not old = old

-- ---- a line

numbered : (s : ScriptState) (l : ScriptLine) (a : ScriptAnswer) (c : ℕ) (o : Option EventTurn) → turn_of s l ≡ o → IsScriptLine l → IsRuled s l a o → IsSoundScript s c → c + 1 < 2 ^ 63 → AreNumbered (after_turn s l a o).events.session
numbered s l a c o e formed ok h few = let less : c < 2 ^ 63 = omega arith in line_keeps s l a c o e formed ok h.events less (h.numbers less)

ruled_sound : (s : ScriptState) (l : ScriptLine) (a : ScriptAnswer) (c : ℕ) (o : Option EventTurn) → turn_of s l ≡ o → IsScriptLine l → IsRuled s l a o → IsSoundScript s c → IsSoundScript (after_turn s l a o) (c + 1)
ruled_sound s l a c (Some t) e formed ok h =
    let is = turn_is s c l t formed h.events e in
    record {
      events = turn_sound s c t a is ok h.events;
      numbers = numbered s l a c (Some t) e formed ok h;
      free = turn_free s t a is h.free;
    }
ruled_sound s (line.Board l) a c None e formed ok h =
    subst (λ (b : ScriptAnswer). IsSoundScript (after_turn s (line.Board l) b None) (c + 1)) (sym ok.is) (record {
      events = boards_sound s.events c l ok.answer h.events;
      numbers = numbered s (line.Board l) (of_boards ok.answer) c None e formed (record { answer = ok.answer; right = ok.right; is = refl }) h;
      free = boards_free s.boards s.events l ok.answer (alone_is s l e) h.free;
    })
ruled_sound s (line.Event party q) a c None e formed ok h = absurd ok
ruled_sound s (line.Expire party) a c None e formed ok h = absurd ok

pub script_after : (s : ScriptState) (l : ScriptLine) (a : ScriptAnswer) (n : ℕ) → IsRight s l a → IsSoundScript s n → IsSoundScript (after s l a) (n + 1)
script_after s l a n right h = ruled_sound s l a n (turn_of s l) refl right.line (ruled s l a right) h

pub script_start : IsSoundScript start 0
script_start = record {
  events = record {
    session = record { lines = []; allowed = tt; is = refl };
    numbered = λ n st e. absurd (none_some _ e);
    things = λ p n t e. absurd (none_some _ e);
    single = λ p m n k e f. absurd (none_some _ e);
    calls = λ p d e. absurd (none_some _ e);
    names = λ k text n e. absurd (none_some _ e);
    holders = λ n st e. absurd (none_some _ e);
    listeners = λ n st e. absurd (none_some _ e);
    notifiers = λ n st e. absurd (none_some _ e);
    apart = λ p q e. absurd (none_some _ e);
    asked = λ p q e. absurd (none_some _ e);
    unheld = λ p q e. absurd (none_some _ e);
    formed = λ n st e. absurd (none_some _ e);
    made = omega arith;
    taken = omega arith;
  };
  numbers = λ few. record { queues = λ n st e. absurd (none_some _ e); calls = λ p d e. absurd (none_some _ e) };
  free = λ p e. absurd (false≢true e);
}

pub script_from : (s : ScriptState) (n : ℕ) (pairs : Session) → IsSoundScript s n → IsLawfulFrom s pairs → IsSoundScript (state_after s pairs) (n + length pairs)
script_from s n [] h ok = subst (IsSoundScript s) (omega arith) h
script_from s n (pair ∷ pairs) h ok = subst (IsSoundScript (state_after (after s pair.0 pair.1) pairs)) (omega arith) (script_from (after s pair.0 pair.1) (n + 1) pairs (script_after s pair.0 pair.1 n ok.0 h) ok.1)

pub stays_sound : StaysSound
stays_sound = record { at_start = script_start; after = script_after }

pub sessions_sound : SessionsAreSound
sessions_sound pairs ok = subst (IsSoundScript (state_after start pairs)) (omega arith) (script_from start 0 pairs script_start ok)

pub names_agree : NamesAgree
names_agree = record {
  by_name = λ s count h. h.events.names;
  by_event = λ s count h. h.events.holders;
  by_thing = λ s count h p name n e. h.events.things p name (listener n) e;
  by_listener = λ s count h. h.events.listeners;
  by_notifier = λ s count h p name n is. is_notified s.events count h.events p name n (s.events.session.stands n) refl is;
  by_count = λ s count h n st stands some. one_of st.event.notifiers n s.events.things some (h.events.notifiers n st stands);
  by_notifiers = λ s count h. h.events.notifiers;
}
