-- Gets after waits, by the boards' part of a session.
use Rattle.std.proofs.Common.{◌≡◌, ℕ, ◌+◌, ◌≤◌, refl, sym, ◌∙◌, ap, inl, inr, subst, None, Option, List, [], ◌∷◌, ◌++◌, length, append_assoc}
use Rattle.board_event_model.proofs.SetLemmas.{either}
use Rattle.board_model.specs.declared.answer.Answer.{Answer}
use Rattle.board_model.specs.declared.line.Line.{Line}
use Rattle.board_model.specs.declared.line.Line.TheVariants as board_line
use Rattle.board_model.specs.LawfulSession as boards
use Rattle.board_model.specs.LawsOfSessions.{IsGot, IsPublished, Pairs, at_two}
use Rattle.board_model.specs.Parties.{Running, free, running}
use Rattle.board_model.proofs.SessionLaws.{later}
use Rattle.script_model.specs.declared.line.ScriptLine.TheVariants as line
use Rattle.script_model.specs.ScriptAnswers.{of_boards}
use Rattle.script_model.specs.ScriptEvents.{runs_on_events}
use Rattle.script_model.specs.ScriptTurns.{EventTurn, ScriptState, turn_of}
use Rattle.script_model.specs.ScriptSession.{IsLawful, IsLawfulFrom, Session, after, start, state_after}
use Rattle.script_model.specs.SoundEvents.{IsSoundScript}
use Rattle.script_model.specs.Parts.{board_part, part_of}
use Rattle.script_model.specs.LawsOfComposition.{EndsGet, EndsPublication, NotifiedGetsAreFresh, Pair, state_met, of_pair, to_asked, to_begun, to_got, to_notified, to_published, to_taken}
use Rattle.script_model.proofs.PartLemmas.{board_part_leads, boards_law_holds}
use Rattle.script_model.proofs.ScriptSoundLemmas.{script_start, script_from}

-- ---- sessions in parts

pub lawful_split : (xs ys : Session) (s : ScriptState) → IsLawfulFrom s (xs ++ ys) → IsLawfulFrom s xs × IsLawfulFrom (state_after s xs) ys
lawful_split [] ys s h = (tt, h)
lawful_split (x ∷ xs) ys s h =
    let k = lawful_split xs ys (after s x.0 x.1) h.1 in
    ((h.0, k.0), k.1)

pub part_append : (xs ys : Session) (s : ScriptState) → board_part s (xs ++ ys) ≡ board_part s xs ++ board_part (state_after s xs) ys
part_append [] ys s = refl
part_append (x ∷ xs) ys s =
    ap (λ (zs : boards.Session). part_of (turn_of s x.0) x.0 x.1 ++ zs) (part_append xs ys (after s x.0 x.1))
    ∙ sym (append_assoc (part_of (turn_of s x.0) x.0 x.1) (board_part (after s x.0 x.1) xs) (board_part (state_after (after s x.0 x.1) xs) ys))

-- every lawful session leads to a sound state
pub sound_at : (pairs : Session) → IsLawful pairs → IsSoundScript (state_met pairs) (0 + length pairs)
sound_at pairs ok = script_from start 0 pairs script_start ok

-- a step of a party whose call on boards runs is the boards' alone
pub alone_step : (s : ScriptState) (c : ℕ) (party : List ℕ) (r : Running) → IsSoundScript s c → s.boards.parties party ≡ running r → turn_of s (line.Board (board_line.Step party)) ≡ None
alone_step s c party r sound runs =
    elim (either (runs_on_events s.events party)) [
      | inl busy ↦ absurd (not_free (sym (sound.free party busy) ∙ runs))
      | inr idle ↦ rw idle refl
    ]
  where
    not_free : free ≡ running r → ⊥
    not_free e = cc

-- such a pair is one of the boards' part
step_part : (s : ScriptState) (c : ℕ) (pair : Pair) (x : Line × Answer) (party : List ℕ) (r : Running) (rest : Session) → IsSoundScript s c → pair ≡ of_pair x → x.0 ≡ board_line.Step party → s.boards.parties party ≡ running r → board_part s (pair ∷ rest) ≡ x ∷ board_part (after s pair.0 pair.1) rest
step_part s c pair x party r rest sound is by runs =
    let turn : turn_of s (line.Board x.0) ≡ None = ap (λ (l : Line). turn_of s (line.Board l)) by ∙ alone_step s c party r sound runs in
    let part : part_of (turn_of s (line.Board x.0)) (line.Board x.0) (of_boards x.1) ≡ x ∷ [] = ap (λ (o : Option EventTurn). part_of o (line.Board x.0) (of_boards x.1)) turn in
    ap (λ (p : Pair). part_of (turn_of s p.0) p.0 p.1 ++ board_part (after s pair.0 pair.1) rest) is ∙ ap (λ (zs : boards.Session). zs ++ board_part (after s pair.0 pair.1) rest) part

-- a session that goes on past a pair
pub record GoesPast (xs : Session) (x : Pair) (zs : Session) : Type 0 where
  pub rest : Session
  pub is : zs ≡ xs ++ x ∷ rest

pub past_more : (xs : Session) (x : Pair) (zs ys : Session) → GoesPast xs x zs → GoesPast xs x (zs ++ ys)
past_more xs x zs ys h = record { rest = h.rest ++ ys; is = ap (λ (w : Session). w ++ ys) h.is ∙ append_assoc xs (x ∷ h.rest) ys }

-- ---- no get of a script is stale

pub script_later : (xs ys : Session) (one two : Pair) (b i g h : ℕ) (words more : List ℕ) (reader : List ℕ) → IsLawful ((xs ++ one ∷ ys) ++ two ∷ []) → EndsPublication (state_met xs) one b i words g → EndsGet (state_met (xs ++ one ∷ ys)) two reader b i more h → (g ≤ h) × (g ≡ h → words ≡ more)
script_later xs ys one two b i g h words more reader ok pub_ends get_ends =
    let whole = lawful_split (xs ++ one ∷ ys) (two ∷ []) start ok in
    let first = lawful_split xs (one ∷ ys) start whole.0 in
    let p1 = pub_ends.publication in
    let p2 = get_ends.got in
    let lead1 = board_part_leads start xs first.0 in
    let lead2 = board_part_leads start (xs ++ one ∷ ys) whole.0 in
    let part1 : board_part (state_met xs) (one ∷ ys) ≡ pub_ends.ends ∷ board_part (after (state_met xs) one.0 one.1) ys = step_part (state_met xs) _ one pub_ends.ends p1.party p1.call ys (sound_at xs first.0) pub_ends.is p1.line p1.runs in
    let part2 : board_part (state_met (xs ++ one ∷ ys)) (two ∷ []) ≡ get_ends.ends ∷ [] = step_part (state_met (xs ++ one ∷ ys)) _ two get_ends.ends p2.party p2.call [] (sound_at (xs ++ one ∷ ys) whole.0) get_ends.is p2.line p2.runs in
    let before : boards.Session = board_part start xs in
    let between : boards.Session = board_part (after (state_met xs) one.0 one.1) ys in
    let upto : board_part start (xs ++ one ∷ ys) ≡ before ++ pub_ends.ends ∷ between = part_append xs (one ∷ ys) start ∙ ap (λ (zs : boards.Session). before ++ zs) part1 in
    let all : board_part start ((xs ++ one ∷ ys) ++ two ∷ []) ≡ before ++ (pub_ends.ends ∷ (between ++ get_ends.ends ∷ [])) =
    part_append (xs ++ one ∷ ys) (two ∷ []) start
    ∙ ap (λ (zs : boards.Session). board_part start (xs ++ one ∷ ys) ++ zs) part2
    ∙ ap (λ (zs : boards.Session). zs ++ get_ends.ends ∷ []) upto
    ∙ append_assoc before (pub_ends.ends ∷ between) (get_ends.ends ∷ []) in
    let pairs : Pairs = record {
      before = before;
      one = pub_ends.ends;
      between = between;
      two = get_ends.ends;
      lawful = subst boards.IsLawful all (boards_law_holds ((xs ++ one ∷ ys) ++ two ∷ []) ok).lawful;
    } in
    let state2 : at_two pairs ≡ (state_met (xs ++ one ∷ ys)).boards = ap (boards.state_after boards.start) (sym upto) ∙ lead2.state in
    later pairs b i g h words more
    (subst (λ (s : boards.State). IsPublished s pub_ends.ends b i words g) (sym lead1.state) p1)
    (subst (λ (s : boards.State). IsGot s get_ends.ends b i more h) (sym state2) p2)

-- ---- the law

pub notified_gets_fresh : NotifiedGetsAreFresh
notified_gets_fresh c b i n id g h words more k =
    let to_got_is : GoesPast (to_published c) c.published (to_got c) =
    past_more (to_published c) c.published (to_asked c) (c.asked ∷ c.before_got)
    (past_more (to_published c) c.published (to_taken c) (c.taken ∷ c.before_asked)
    (past_more (to_published c) c.published (to_notified c) (c.notified ∷ c.before_taken)
    (past_more (to_published c) c.published (to_begun c) (c.begun ∷ c.before_notified)
    (record { rest = c.before_begun; is = refl })))) in
    script_later (to_published c) to_got_is.rest c.published c.got b i g h words more k.reader
    (subst (λ (zs : Session). IsLawful (zs ++ c.got ∷ [])) to_got_is.is k.lawful)
    k.published
    (subst (λ (zs : Session). EndsGet (state_met zs) c.got k.reader b i more h) to_got_is.is k.got)
