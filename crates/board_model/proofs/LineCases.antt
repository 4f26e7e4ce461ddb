-- What a right line can do.
use Rattle.std.proofs.Common.{◌≡◌, Bool, true, false, List, refl, ap, subst, Option, Some, None}
use Rattle.std.specs.Prelude.{ℕ}
use Rattle.board_cell_model.specs.declared.access.Access.{Access}
use Rattle.board_model.specs.declared.answer.Answer.{Answer}
use Rattle.board_model.specs.declared.answer.Answer.TheVariants as answer
use Rattle.board_model.specs.declared.answer.Reason.{Reason}
use Rattle.board_model.specs.declared.answer.Reply.{Reply}
use Rattle.board_model.specs.declared.line.Call.{Call}
use Rattle.board_model.specs.declared.line.Line.{Line}
use Rattle.board_model.specs.declared.line.Line.TheVariants as line
use Rattle.board_model.specs.LineGrammar.{IsLine}
use Rattle.board_cell_model.specs.OwedAccesses.{owed_of}
use Rattle.board_model.specs.Requests.{request_of}
use Rattle.board_model.specs.Replies.{dropped}
use Rattle.board_model.specs.Memory.{IsStanding}
use Rattle.board_model.specs.Parties.{Party, Running, begun, free, gone, owed, running, with_party}
use Rattle.board_model.specs.LawfulSession.{IsOwedStep, IsReasoned, IsRight, IsTold, IsToldStep, State, after, after_step, free_reason, reason_of, step_reason, stepped}

-- ---- lines that are accepted

abbrev is_refusal : Answer → Bool
is_refusal answer.Begun = false
is_refusal (answer.Refused why) = true
is_refusal (answer.Step a told) = false
is_refusal answer.Gone = false
is_refusal (answer.Words words) = false

-- another answer than a refusal is to a line that is accepted
pub accepted : (o : Option Reason) (a : Answer) → is_refusal a ≡ false → IsReasoned o a → o ≡ None
accepted None a f h = refl
accepted (Some why) a f h =
    let e : is_refusal a ≡ true = ap is_refusal h in
    absurd cc

pub party_free : (x : Party) (o : Option Reason) → free_reason x o ≡ None → x ≡ free
party_free free o e = refl
party_free (running r) o e = absurd cc
party_free gone o e = absurd cc

-- ---- steps

-- a right step of a running call
pub record IsStepOf (s : State) (party : List ℕ) (r : Running) (a : Access) (told : Option Reply) : Type 0 where
  pub next : owed_of a ≡ owed r.request r.so_far
  pub word : IsStanding s.memory a
  pub reply : IsTold s party r a told

pub step_of : (s : State) (party : List ℕ) (r : Running) (a : Access) (told : Option Reply) → s.parties party ≡ running r → IsRight s (line.Step party) (answer.Step a told) → IsStepOf s party r a told
step_of s party r a told e h =
    let n : step_reason (s.parties party) ≡ None = ap step_reason e in
    record {
      next = subst (λ (x : Party). IsOwedStep x (answer.Step a told)) e (h.owed n);
      word = h.word n;
      reply = subst (λ (x : Party). IsToldStep s party x (answer.Step a told)) e (h.reply n);
    }

-- ---- what follows

-- a property of the state after a right line: from what such a line can do
pub after_cases : (P : State → Type 0) (s : State) (l : Line) (a : Answer) → IsRight s l a
    → P s
    → ((party : List ℕ) (c : Call) → IsLine (line.Begin party c) → reason_of s (line.Begin party c) ≡ None → P (record s { parties = with_party s.parties party (begun (request_of s.standing s.published party c)) }))
    → ((party : List ℕ) → P (record s { parties = with_party s.parties party gone }))
    → ((party name : List ℕ) → s.parties party ≡ free → P (record s { standing = dropped s.standing party name }))
    → ((party : List ℕ) (r : Running) (x : Access) → s.parties party ≡ running r → IsStepOf s party r x None → P (stepped s party r x None))
    → ((party : List ℕ) (r : Running) (x : Access) (t : Reply) → s.parties party ≡ running r → IsStepOf s party r x (Some t) → P (stepped s party r x (Some t)))
    → P (after s l a)
after_cases P s (line.Begin party c) answer.Begun h p0 p1 p2 p3 p4 p5 = p1 party c h.line (accepted (reason_of s (line.Begin party c)) answer.Begun refl h.reason)
after_cases P s (line.Begin party c) (answer.Refused why) h p0 p1 p2 p3 p4 p5 = p0
after_cases P s (line.Begin party c) (answer.Step x told) h p0 p1 p2 p3 p4 p5 = p0
after_cases P s (line.Begin party c) answer.Gone h p0 p1 p2 p3 p4 p5 = p0
after_cases P s (line.Begin party c) (answer.Words words) h p0 p1 p2 p3 p4 p5 = p0
after_cases P s (line.Step party) answer.Begun h p0 p1 p2 p3 p4 p5 = p0
after_cases P s (line.Step party) (answer.Refused why) h p0 p1 p2 p3 p4 p5 = p0
after_cases P s (line.Step party) (answer.Step x told) h p0 p1 p2 p3 p4 p5 = at (s.parties party) refl told h
  where
    at : (y : Party) → s.parties party ≡ y → (told : Option Reply) → IsRight s (line.Step party) (answer.Step x told) → P (after_step s party y x told)
    at free e told h = p0
    at gone e told h = p0
    at (running r) e None h = p4 party r x e (step_of s party r x None e h)
    at (running r) e (Some t) h = p5 party r x t e (step_of s party r x (Some t) e h)
after_cases P s (line.Step party) answer.Gone h p0 p1 p2 p3 p4 p5 = p0
after_cases P s (line.Step party) (answer.Words words) h p0 p1 p2 p3 p4 p5 = p0
after_cases P s (line.Release party name) answer.Begun h p0 p1 p2 p3 p4 p5 = p0
after_cases P s (line.Release party name) (answer.Refused why) h p0 p1 p2 p3 p4 p5 = p0
after_cases P s (line.Release party name) (answer.Step x told) h p0 p1 p2 p3 p4 p5 = p3 party name (party_free (s.parties party) _ (accepted (reason_of s (line.Release party name)) (answer.Step x told) refl h.reason))
after_cases P s (line.Release party name) answer.Gone h p0 p1 p2 p3 p4 p5 = p0
after_cases P s (line.Release party name) (answer.Words words) h p0 p1 p2 p3 p4 p5 = p0
after_cases P s (line.Abandon party) answer.Begun h p0 p1 p2 p3 p4 p5 = p0
after_cases P s (line.Abandon party) (answer.Refused why) h p0 p1 p2 p3 p4 p5 = p0
after_cases P s (line.Abandon party) (answer.Step x told) h p0 p1 p2 p3 p4 p5 = p0
after_cases P s (line.Abandon party) answer.Gone h p0 p1 p2 p3 p4 p5 = p2 party
after_cases P s (line.Abandon party) (answer.Words words) h p0 p1 p2 p3 p4 p5 = p0
after_cases P s (line.Words n) answer.Begun h p0 p1 p2 p3 p4 p5 = p0
after_cases P s (line.Words n) (answer.Refused why) h p0 p1 p2 p3 p4 p5 = p0
after_cases P s (line.Words n) (answer.Step x told) h p0 p1 p2 p3 p4 p5 = p0
after_cases P s (line.Words n) answer.Gone h p0 p1 p2 p3 p4 p5 = p0
after_cases P s (line.Words n) (answer.Words words) h p0 p1 p2 p3 p4 p5 = p0
