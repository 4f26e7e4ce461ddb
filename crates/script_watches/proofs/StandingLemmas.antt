-- A party that isn't gone stays so with what a watcher gives it.
use Rattle.std.proofs.Common.{◌≡◌, ℕ, List, refl, sym, ap, subst, ◌∙◌, Option, Some, None}
use Rattle.board_event_model.specs.declared.access.EventAccess.{EventAccess}
use Rattle.board_event_model.specs.declared.access.EventAnswer.{EventAnswer}
use Rattle.board_event_model.specs.declared.kind.EventKind.{EventKind}
use Rattle.board_model.specs.declared.answer.Answer.{Answer}
use Rattle.board_model.specs.declared.answer.Answer.TheVariants as answer
use Rattle.board_model.specs.declared.line.Call.TheVariants as call
use Rattle.board_model.specs.declared.line.Line.TheVariants as board_line
use Rattle.board_model.specs.LawfulSession as boards
use Rattle.board_model.specs.Parties.{begun}
use Rattle.board_model.specs.Requests.{Request, request_of}
use Rattle.board_model.proofs.KeptLemmas.{party_here}
use Rattle.script_model.specs.declared.line.EventRequest.{EventRequest}
use Rattle.script_model.specs.declared.line.ScriptLine.TheVariants as line
use Rattle.script_model.specs.declared.reply.EventReply.{EventReply}
use Rattle.script_model.specs.ScriptAnswers.{ScriptAnswer, of_boards, of_event}
use Rattle.script_model.specs.ScriptTurns.{EventTurn, turn_of}
use Rattle.script_model.specs.ScriptSession.{IsRight, after, after_turn}
use Rattle.script_model.specs.LawsOfComposition.{Pair}
use Rattle.script_model.specs.LawsOfRules.{IsRuled}
use Rattle.script_model.proofs.RuleLemmas.{ruled}
use Rattle.script_moments.specs.Moments.{Moment, left}
use Rattle.script_moments.specs.Watchers.{IsIdBegin}
use Rattle.script_moments.proofs.ChainLemmas.{begin_alone}
use Rattle.script_moments.proofs.GetWalks.{own_is}
use Rattle.script_snapshots.proofs.AliveLemmas.{IsThere}

-- ---- a question for an id

begun_there : (o : Option Request) → IsThere (begun o)
begun_there None g = cc
begun_there (Some q) g = cc

pub id_alive : (m : Moment) (party h : List ℕ) → IsIdBegin party h m → IsRight m.met m.pair.0 m.pair.1 → IsThere ((left m).boards.parties party)
id_alive m party h is right =
    let o = own_is m (board_line.Begin party (call.Id h), answer.Begun) is (begin_alone m.met party (call.Id h)) right in
    let s : boards.State = m.met.boards in
    let x : Option Request = request_of s.standing s.published party (call.Id h) in
    let e : (left m).boards.parties party ≡ begun x = ap (λ (t : boards.State). t.parties party) o.state ∙ party_here s.parties party (begun x) in
    subst IsThere (sym e) (begun_there x)

-- ---- lines of events

-- a call on events leaves the boards
pub call_leaves : (m : Moment) (party : List ℕ) (q : EventRequest) (a : ScriptAnswer) → m.pair ≡ (line.Event party q, a) → (left m).boards ≡ m.met.boards
call_leaves m party q a e = ap (λ (p : Pair). (after m.met p.0 p.1).boards) e

no_board : (k : EventKind) (name : List ℕ) (x : EventAccess) (b : EventAnswer) (told : Option EventReply) (y : Answer) → of_event k name x b told ≡ of_boards y → ⊥
no_board k name x b told y e = cc

-- and so does a step on an event
pub step_leaves : (m : Moment) (party : List ℕ) (k : EventKind) (name : List ℕ) (x : EventAccess) (b : EventAnswer) (told : Option EventReply) → m.pair ≡ (line.Board (board_line.Step party), of_event k name x b told) → IsRight m.met m.pair.0 m.pair.1 → (left m).boards ≡ m.met.boards
step_leaves m party k name x b told e right =
    ap (λ (p : Pair). (after m.met p.0 p.1).boards) e ∙ at (turn_of m.met (line.Board (board_line.Step party))) (ruled m.met (line.Board (board_line.Step party)) (of_event k name x b told) (subst (λ (p : Pair). IsRight m.met p.0 p.1) e right))
  where
    at : (o : Option EventTurn) → IsRuled m.met (line.Board (board_line.Step party)) (of_event k name x b told) o → (after_turn m.met (line.Board (board_line.Step party)) (of_event k name x b told) o).boards ≡ m.met.boards
    at (Some t) r = refl
    at None r = absurd (no_board k name x b told r.answer r.is)
