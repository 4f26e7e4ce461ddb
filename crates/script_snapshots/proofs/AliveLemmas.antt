-- A party that isn't gone: lines of others leave it so, and so do its own gets; its abandonment isn't refused.
use Rattle.std.proofs.Common.{◌≡◌, ℕ, false, List, [], ◌∷◌, ◌++◌, refl, sym, ap, subst, ◌∙◌, Option, Some, None}
use Rattle.board_cell_model.specs.declared.access.Access.{Access}
use Rattle.board_model.specs.declared.answer.Answer.{Answer}
use Rattle.board_model.specs.declared.answer.Answer.TheVariants as answer
use Rattle.board_model.specs.declared.answer.Reply.{Reply}
use Rattle.board_model.specs.declared.line.Call.TheVariants as call
use Rattle.board_model.specs.declared.line.Line.TheVariants as board_line
use Rattle.board_model.specs.LawfulSession as boards
use Rattle.board_model.specs.LawfulSession.{IsReasoned, abandon_reason, after_step}
use Rattle.board_model.specs.Parties.{Party, Running, begun, free, gone, notice, running}
use Rattle.board_model.specs.Requests.{Request, request_of}
use Rattle.board_model.proofs.KeptLemmas.{party_here}
use Rattle.script_model.specs.declared.line.ScriptLine.TheVariants as line
use Rattle.script_model.specs.ScriptAnswers.{ScriptAnswer, is_refused, of_boards}
use Rattle.script_model.specs.ScriptTurns.{ScriptState}
use Rattle.script_model.specs.ScriptSession.{IsLawful, IsRight, Session, after}
use Rattle.script_model.specs.LawsOfComposition.{Pair, of_pair, state_met}
use Rattle.script_model.specs.LawsOfLines.{names}
use Rattle.script_model.specs.LawsOfRules.{IsBoardAnswer}
use Rattle.script_model.proofs.LineLaws.{lines_leave}
use Rattle.script_model.proofs.RuleLemmas.{ruled}
use Rattle.script_moments.specs.Moments.{Moment, left}
use Rattle.script_moments.proofs.GetWalks.{own_begin, own_step}
use Rattle.script_moments.proofs.RoundLemmas.{sound_at}
use Rattle.script_snapshots.proofs.FedLemmas.{met_more}

-- the party isn't gone
abbrev pub IsThere : Party → Type 0
IsThere x = x ≡ gone → ⊥

abbrev pub IsAlive : Session → List ℕ → Type 0
IsAlive fed party = IsThere ((state_met fed).boards.parties party)

-- ---- lines of others

left_there : (old new : Party) → (old ≡ free → new ≡ free) → ((r : Running) → old ≡ running r → (n : ℕ) × (new ≡ running (record r { passed = n }))) → IsThere old → IsThere new
left_there free new stays runs there g = let e = stays refl in cc
left_there (running r) new stays runs there g = let e = (runs r refl).1 in cc
left_there gone new stays runs there g = there refl

pub others_leave_alive : (fed : Session) (party : List ℕ) (pair : Pair) → IsLawful fed → IsRight (state_met fed) pair.0 pair.1 → names party pair.0 ≡ false → IsAlive fed party → IsAlive (fed ++ pair ∷ []) party
others_leave_alive fed party pair ok right off alive =
    let s : ScriptState = state_met fed in
    let k = (lines_leave s pair.0 pair.1 party (sound_at fed ok) right off).boards in
    let there : IsThere ((after s pair.0 pair.1).boards.parties party) = left_there (s.boards.parties party) ((after s pair.0 pair.1).boards.parties party) k.stays_free k.runs alive in
    subst (λ (t : ScriptState). IsThere (t.boards.parties party)) (sym (met_more fed pair)) there

-- ---- own gets

begun_there : (o : Option Request) → IsThere (begun o)
begun_there None g = cc
begun_there (Some q) g = cc

pub begin_alive : (m : Moment) (party h : List ℕ) → m.pair ≡ of_pair (board_line.Begin party (call.Get h None), answer.Begun) → IsRight m.met m.pair.0 m.pair.1 → IsThere ((left m).boards.parties party)
begin_alive m party h is right =
    let o = own_begin m party h is right in
    let s : boards.State = m.met.boards in
    let x : Option Request = request_of s.standing s.published party (call.Get h None) in
    let e : (left m).boards.parties party ≡ begun x = ap (λ (t : boards.State). t.parties party) o.state ∙ party_here s.parties party (begun x) in
    subst IsThere (sym e) (begun_there x)

stepped_there : (s : boards.State) (party : List ℕ) (x : Party) (a : Access) (told : Option Reply) → s.parties party ≡ x → IsThere x → IsThere ((after_step s party x a told).parties party)
stepped_there s party free a told e there g = let k : free ≡ gone = sym e ∙ g in cc
stepped_there s party (running r) a None e there g =
    let k : running (record r { so_far = r.so_far ++ a ∷ [] }) ≡ gone = sym (party_here (λ p. notice a (s.parties p)) party (running (record r { so_far = r.so_far ++ a ∷ [] }))) ∙ g in
    cc
stepped_there s party (running r) a (Some t) e there g =
    let k : free ≡ gone = sym (party_here (λ p. notice a (s.parties p)) party free) ∙ g in
    cc
stepped_there s party gone a told e there g = there refl

pub step_alive : (m : Moment) (party : List ℕ) (a : Access) (told : Option Reply) → m.pair ≡ of_pair (board_line.Step party, answer.Step a told) → IsRight m.met m.pair.0 m.pair.1 → IsThere (m.met.boards.parties party) → IsThere ((left m).boards.parties party)
step_alive m party a told is right there =
    let o = own_step m party a told is right in
    let s : boards.State = m.met.boards in
    subst (λ (t : boards.State). IsThere (t.parties party)) (sym o.state) (stepped_there s party (s.parties party) a told refl there)

-- ---- abandonments

not_refused : (x : Party) (b : Answer) → IsThere x → IsReasoned (abandon_reason x) b → is_refused (of_boards b) ≡ false
not_refused free answer.Begun there k = refl
not_refused free (answer.Refused why) there k = absurd k
not_refused free (answer.Step a told) there k = refl
not_refused free answer.Gone there k = refl
not_refused free (answer.Words ws) there k = refl
not_refused (running r) answer.Begun there k = refl
not_refused (running r) (answer.Refused why) there k = absurd k
not_refused (running r) (answer.Step a told) there k = refl
not_refused (running r) answer.Gone there k = refl
not_refused (running r) (answer.Words ws) there k = refl
not_refused gone b there k = absurd (there refl)

-- the abandonment of a party that isn't gone isn't refused
pub abandon_accepted : (s : ScriptState) (party : List ℕ) (a : ScriptAnswer) → IsRight s (line.Board (board_line.Abandon party)) a → IsThere (s.boards.parties party) → is_refused a ≡ false
abandon_accepted s party a right there =
    let k : IsBoardAnswer s (board_line.Abandon party) a = ruled s (line.Board (board_line.Abandon party)) a right in
    ap is_refused k.is ∙ not_refused (s.boards.parties party) k.answer there k.right.reason
