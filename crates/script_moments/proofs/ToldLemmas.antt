-- What a party knows of its waits, by the laws of printed steps, replies and expiries.
use Rattle.std.proofs.Common.{◌≡◌, ℕ, List, [], ◌∷◌, ◌++◌, refl, sym, ap, subst, Option, Some, None, append_assoc}
use Rattle.board_event_model.specs.declared.access.EventAccess.{EventAccess}
use Rattle.board_event_model.specs.declared.access.EventAnswer.{EventAnswer}
use Rattle.board_event_model.specs.declared.kind.EventKind.{EventKind}
use Rattle.board_event_model.specs.EventCalls.{EventCall, a_notify, a_wait, call_of}
use Rattle.script_model.specs.declared.reply.EventReply.{EventReply}
use Rattle.script_model.specs.declared.reply.EventReply.TheVariants as reply
use Rattle.script_model.specs.ScriptTurns.{ScriptState}
use Rattle.script_model.specs.ScriptSession.{IsLawful, start}
use Rattle.script_model.specs.LawsOfComposition.{Pair}
use Rattle.script_model.specs.LawsOfEvents.{Last, at_last}
use Rattle.script_model.specs.LawsOfReplies.{ExpiriesAreTrue, IsEventStep, IsExpiredWait, IsTrue, PrintedStepsAreTaken, PrintsAccess, RepliesAreTrue, TellsTruth, moment_of}
use Rattle.script_model.proofs.CompositionLemmas.{lawful_split}
use Rattle.script_moments.specs.Moments.{Moment}
use Rattle.script_moments.specs.Watchers.{StepsOnEvent}
use Rattle.script_moments.specs.LawsOfWaits.{IsLawfulMoment, MissedNone, TookItself, WaitsTellTruth}

-- the session up to the moment
last_of : (m : Moment) → IsLawfulMoment m → Last
last_of m k = record {
  before = k.before;
  pair = m.pair;
  lawful = (lawful_split (k.before ++ m.pair ∷ []) k.behind start (subst IsLawful (sym (append_assoc k.before (m.pair ∷ []) k.behind)) k.lawful)).0;
}

prints : (m : Moment) (party : List ℕ) (told : Option EventReply) (p : StepsOnEvent party m told) → PrintsAccess m.pair party p.access p.answer told
prints m party told p = record { kind = p.kind; name = p.name; steps = ap (λ (x : Pair). x.0) p.is; prints = ap (λ (x : Pair). x.1) p.is }

took_itself : (s : ScriptState) (party : List ℕ) (kind : EventKind) (name : List ℕ) (a : EventAccess) (b : EventAnswer) (id : ℕ) → TellsTruth s party kind name a b (reply.Id id) → TookItself s party kind name a id
took_itself s party kind name a b id t = of (call_of t.step.of.doing.call) refl t.holds
  where
    of : (c : EventCall) → call_of t.step.of.doing.call ≡ c → IsTrue (moment_of s party t.step.of) t.step.of.doing.call a c (reply.Id id) → TookItself s party kind name a id
    of (a_notify n) is h = absurd h
    of (a_wait w) is h = record { of = t.step.of; kind_is = t.step.kind_is; name_is = t.step.name_is; wait = w; waits = is; one = h.0; took = h.1 }

missed_none : (s : ScriptState) (party : List ℕ) → IsExpiredWait s party → MissedNone s party
missed_none s party w = record {
  of = w.of;
  wait = w.wait;
  waits = w.waits;
  timed = w.timed;
  none = w.expired.none;
  bits = λ bits many. w.expired.all bits w.wait w.waits many;
  list = w.expired.list;
}

pub tell_truth : PrintedStepsAreTaken → RepliesAreTrue → ExpiriesAreTrue → WaitsTellTruth
unfolding last_of prints
tell_truth steps replies expiries = record {
  goes_on = λ m party k p. subst (λ (s : ScriptState). IsEventStep s party p.kind p.name p.access p.answer None) (sym k.met) (steps (last_of m k) party p.access p.answer None (prints m party None p));
  takes = λ m party id k p.
      let t = replies (last_of m k) party p.access p.answer (reply.Id id) (prints m party (Some (reply.Id id)) p) in
      subst (λ (s : ScriptState). TookItself s party p.kind p.name p.access id) (sym k.met) (took_itself (at_last (last_of m k)) party p.kind p.name p.access p.answer id t);
  misses = λ m party k is.
      let w = expiries (last_of m k) party (ap (λ (x : Pair). x.0) is) (ap (λ (x : Pair). x.1) is) in
      subst (λ (s : ScriptState). MissedNone s party) (sym k.met) (missed_none (at_last (last_of m k)) party w);
}
