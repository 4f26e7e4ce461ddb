-- Right answers are of the answer grammar, and each line has one.
use Rattle.std.proofs.Common.{◌≡◌, ℕ, ◌+◌, ◌^◌, ◌<◌, Bool, true, false, List, [], ◌∷◌, ◌++◌, length, get_or, arith, refl, sym, ap, subst, ◌∙◌, append_assoc, Option, Some, None}
use Rattle.std.specs.Prelude.{is_some, IfSome, if◌then◌else◌}
use Rattle.std.specs.List.{AllByRecursion}
use Rattle.std.proofs.lemmas.List.{append-nil, length_push}
use Rattle.std.proofs.lemmas.Option.{slice_get-get_or}
use Rattle.board_cell_model.specs.declared.access.Access.{Access}
use Rattle.board_cell_model.specs.declared.access.Access.TheVariants as access
use Rattle.board_model.specs.declared.answer.Answer.{Answer}
use Rattle.board_model.specs.declared.answer.Answer.TheVariants as answer
use Rattle.board_model.specs.declared.answer.Reason.{Reason}
use Rattle.board_model.specs.declared.answer.Reply.{Reply}
use Rattle.board_model.specs.declared.answer.Reply.TheVariants as reply
use Rattle.board_model.specs.declared.line.Line.{Line}
use Rattle.board_model.specs.declared.line.Line.TheVariants as line
use Rattle.board_model.specs.LineGrammar.{IsNumber, IsLine}
use Rattle.board_model.specs.AnswerGrammar.{IsAccess, IsAnswer, IsReply}
use Rattle.board_cell_model.specs.OwedAccesses.{Owed, owed_of, to_read, to_table, to_write}
use Rattle.board_model.specs.Replies.{ask}
use Rattle.board_model.specs.Memory.{IsStanding}
use Rattle.board_model.specs.Parties.{Party, Running, free, gone, is_done, owed, running}
use Rattle.board_model.specs.LawfulSession.{IsLawful, IsLawfulFrom, after, IsOwedStep, IsReasoned, IsToldStep, Session, State, reason_of, start, state_after, step_reason}
use Rattle.board_model.specs.Sound.{Sound}
use Rattle.board_model.specs.LawsOfBounds.{AreNumbers, IsWithin}
use Rattle.board_model.specs.LawsOfForms.{AreFormed, EachLineHasAnAnswer, EachScriptHasASession, IsFormedParty, IsRightButForm, RightAnswersAreOfTheGrammar}
use Rattle.board_model.specs.LawsOfAnswers.{lines_asked}
use Rattle.board_model.proofs.BoundLaws.{read_in_board, write_in_board}
use Rattle.board_model.proofs.DrawLemmas.{session_within}
use Rattle.board_model.proofs.NumberLemmas.{owed_numbers, session_numbers}
use Rattle.board_model.proofs.RunningLemmas.{read_gives, runs}
use Rattle.board_model.proofs.LineCases.{accepted}
use Rattle.board_model.proofs.SoundLemmas.{sound_session}
use Rattle.board_model.proofs.KeptFormLemmas.{session_formed}
use Rattle.board_model.proofs.ReplyFormLemmas.{memory_told, reply_told}

-- ---- what holds of a state, after a session of n lines

record IsShort (s : State) (n : ℕ) : Type 0 where
  pub sound : Sound s
  pub within : IsWithin s n
  pub few : n < 2 ^ 63
  pub numbers : AreNumbers s
  pub forms : AreFormed s n

short_session : (pairs : Session) → IsLawful pairs → length pairs < 2 ^ 63 → IsShort (state_after start pairs) (length pairs)
short_session pairs h lt = record { sound = sound_session pairs h; within = session_within pairs h; few = lt; numbers = session_numbers pairs h lt; forms = session_formed pairs h }

-- ---- the form of an answer

-- an owed access is of the grammar
access_told : (s : State) (n : ℕ) → IsShort s n → (party : List ℕ) (r : Running) (a : Access) → s.parties party ≡ running r → owed_of a ≡ owed r.request r.so_far → IsStanding s.memory a → IsAccess a
access_told s n h party r access.Table run e st = tt
access_told s n h party r (access.Read b i v) run e st =
    let x = read_in_board s party r b i h.sound run (sym e) in
    (omega (arith, x.drawn, h.within.boards, h.few), omega (arith, x.inside, x.few), subst IsNumber (read_gives (s.memory b) i v st) (h.numbers.words b i))
access_told s n h party r (access.Write b i v) run e st =
    let x = write_in_board s party r b i v h.sound run (sym e) in
    (omega (arith, x.drawn, h.within.boards, h.few), omega (arith, x.inside, x.few), owed_numbers s party r b i v n h.sound h.within h.few h.numbers run (sym e))

told_form : (told : Option Reply) (t : Reply) → IfSome told (λ x. x ≡ t) → IsReply t → IfSome told IsReply
told_form None t h k = tt
told_form (Some x) t h k = subst IsReply (sym h) k

step_form : (s : State) (n : ℕ) → IsShort s n → (party : List ℕ) (x : Party) → s.parties party ≡ x → (a : Access) (told : Option Reply) → IsOwedStep x (answer.Step a told) → IsStanding s.memory a → IsToldStep s party x (answer.Step a told) → IsAnswer (answer.Step a told)
step_form s n h party free e a told o w t = absurd o
step_form s n h party gone e a told o w t = absurd o
step_form s n h party (running r) e a told o w t =
    let f : IsFormedParty n party (running r) = subst (λ (y : Party). IsFormedParty n party y) e (h.forms.parties party) in
    let k : IsReply (ask s.standing s.published party r.request).reply = reply_told s h.sound n h.within h.few h.numbers h.forms party r r.request f.1 (runs s party r r.request h.sound e refl) in
    (access_told s n h party r a e o w, told_form told (ask s.standing s.published party r.request).reply t.reply k)

listed_step : (x : Party) (ws : List ℕ) → IsOwedStep x (answer.Words ws) → ⊥
listed_step free ws o = o
listed_step gone ws o = o
listed_step (running r) ws o = o

right_form : (s : State) (n : ℕ) → IsShort s n → (l : Line) (a : Answer) → IsRightButForm s l a → IsAnswer a
right_form s n h l answer.Begun r = tt
right_form s n h l (answer.Refused why) r = tt
right_form s n h l answer.Gone r = tt
right_form s n h (line.Begin party c) (answer.Step a told) r = absurd (cc (r.owed (accepted (reason_of s (line.Begin party c)) (answer.Step a told) refl r.reason)))
right_form s n h (line.Step party) (answer.Step a told) r =
    let e = accepted (reason_of s (line.Step party)) (answer.Step a told) refl r.reason in
    step_form s n h party (s.parties party) refl a told (r.owed e) (r.word e) (r.reply e)
right_form s n h (line.Release party name) (answer.Step a told) r =
    let e : answer.Step a told ≡ answer.Step access.Table (Some reply.Done) = r.owed (accepted (reason_of s (line.Release party name)) (answer.Step a told) refl r.reason) in
    subst IsAnswer (sym e) (tt, tt)
right_form s n h (line.Abandon party) (answer.Step a told) r = absurd (cc (r.owed (accepted (reason_of s (line.Abandon party)) (answer.Step a told) refl r.reason)))
right_form s n h (line.Words b) (answer.Step a told) r = absurd (r.owed (accepted (reason_of s (line.Words b)) (answer.Step a told) refl r.reason))
right_form s n h (line.Begin party c) (answer.Words ws) r = absurd (cc (r.owed (accepted (reason_of s (line.Begin party c)) (answer.Words ws) refl r.reason)))
right_form s n h (line.Step party) (answer.Words ws) r = absurd (listed_step (s.parties party) ws (r.owed (accepted (reason_of s (line.Step party)) (answer.Words ws) refl r.reason)))
right_form s n h (line.Release party name) (answer.Words ws) r = absurd (cc (r.owed (accepted (reason_of s (line.Release party name)) (answer.Words ws) refl r.reason)))
right_form s n h (line.Abandon party) (answer.Words ws) r = absurd (cc (r.owed (accepted (reason_of s (line.Abandon party)) (answer.Words ws) refl r.reason)))
right_form s n h (line.Words b) (answer.Words ws) r =
    let e : ws ≡ s.memory b = r.word (accepted (reason_of s (line.Words b)) (answer.Words ws) refl r.reason) in
    subst (AllByRecursion IsNumber) (sym e) (memory_told s h.sound n h.within h.few h.numbers h.forms b)

pub right_answer_form : RightAnswersAreOfTheGrammar
right_answer_form pairs l a h lt r = right_form (state_after start pairs) (length pairs) (short_session pairs h lt) l a r

-- ---- an answer

-- the access that is owed, with the word that stands
record IsThere (s : State) (r : Running) : Type 0 where
  pub access : Access
  pub owes : owed_of access ≡ owed r.request r.so_far
  pub stands : IsStanding s.memory access

there : (s : State) → Sound s → (party : List ℕ) (r : Running) → s.parties party ≡ running r → (o : Owed) → owed r.request r.so_far ≡ o → IsThere s r
there s sound party r run to_table e = record { access = access.Table; owes = sym e; stands = tt }
there s sound party r run (to_read b i) e =
    let x = read_in_board s party r b i sound run e in
    record { access = access.Read b i (get_or (s.memory b) i 0); owes = sym e; stands = slice_get-get_or (s.memory b) i 0 x.inside }
there s sound party r run (to_write b i v) e = record { access = access.Write b i v; owes = sym e; stands = tt }

-- a reply where the access is the last
abbrev told_by : Bool → Reply → Option Reply
told_by z t = if z then Some t else None

told_last : (z : Bool) (t : Reply) → is_some (told_by z t) ≡ z
told_last true t = refl
told_last false t = refl

told_right : (z : Bool) (t : Reply) → IfSome (told_by z t) (λ x. x ≡ t)
told_right true t = refl
told_right false t = tt

abbrev HasAnswer : State → Line → Type 0
HasAnswer s l = (a : Answer) × IsRightButForm s l a

no_none : {P : Type 0} (why : Reason) → Some why ≡ None → P
no_none why e = absurd cc

refused_right : (s : State) (l : Line) (why : Reason) → IsLine l → reason_of s l ≡ Some why → HasAnswer s l
refused_right s l why h e = (
  answer.Refused why,
  record {
    line = h;
    reason = subst (λ (o : Option Reason). IsReasoned o (answer.Refused why)) (sym e) refl;
    owed = λ n. no_none why (sym e ∙ n);
    word = λ n. no_none why (sym e ∙ n);
    reply = λ n. no_none why (sym e ∙ n);
  },
)

step_answer : (s : State) → Sound s → (party : List ℕ) → IsLine (line.Step party) → (x : Party) → s.parties party ≡ x → step_reason x ≡ None → HasAnswer s (line.Step party)
step_answer s sound party h free e n = absurd cc
step_answer s sound party h gone e n = absurd cc
step_answer s sound party h (running r) e n =
    let t = there s sound party r e (owed r.request r.so_far) refl in
    let z : Bool = is_done r.request (r.so_far ++ t.access ∷ []) in
    let k : Option Reply = told_by (is_done r.request (r.so_far ++ t.access ∷ [])) (ask s.standing s.published party r.request).reply in (
      answer.Step t.access k,
      record {
        line = h;
        reason = subst (λ (o : Option Reason). IsReasoned o (answer.Step t.access k)) (sym (ap step_reason e)) tt;
        owed = λ _. subst (λ (y : Party). IsOwedStep y (answer.Step t.access k)) (sym e) t.owes;
        word = λ _. t.stands;
        reply = λ _. subst (λ (y : Party). IsToldStep s party y (answer.Step t.access k)) (sym e) (record {
          last = told_last (is_done r.request (r.so_far ++ t.access ∷ [])) (ask s.standing s.published party r.request).reply;
          reply = told_right (is_done r.request (r.so_far ++ t.access ∷ [])) (ask s.standing s.published party r.request).reply;
        });
      },
    )

accepted_answer : (s : State) → Sound s → (l : Line) → IsLine l → reason_of s l ≡ None → HasAnswer s l
accepted_answer s sound (line.Begin party c) h e = (answer.Begun, record { line = h; reason = subst (λ (o : Option Reason). IsReasoned o answer.Begun) (sym e) tt; owed = λ _. refl; word = λ _. tt; reply = λ _. tt })
accepted_answer s sound (line.Step party) h e = step_answer s sound party h (s.parties party) refl e
accepted_answer s sound (line.Release party name) h e = (
  answer.Step access.Table (Some reply.Done),
  record { line = h; reason = subst (λ (o : Option Reason). IsReasoned o (answer.Step access.Table (Some reply.Done))) (sym e) tt; owed = λ _. refl; word = λ _. tt; reply = λ _. tt },
)
accepted_answer s sound (line.Abandon party) h e = (answer.Gone, record { line = h; reason = subst (λ (o : Option Reason). IsReasoned o answer.Gone) (sym e) tt; owed = λ _. refl; word = λ _. tt; reply = λ _. tt })
accepted_answer s sound (line.Words b) h e = (answer.Words (s.memory b), record { line = h; reason = subst (λ (o : Option Reason). IsReasoned o (answer.Words (s.memory b))) (sym e) tt; owed = λ _. tt; word = λ _. refl; reply = λ _. tt })

some_answer : (s : State) → Sound s → (l : Line) → IsLine l → HasAnswer s l
some_answer s sound l h = at (reason_of s l) refl
  where
    at : (o : Option Reason) → reason_of s l ≡ o → HasAnswer s l
    at (Some why) e = refused_right s l why h e
    at None e = accepted_answer s sound l h e

pub each_line : EachLineHasAnAnswer
each_line pairs l h lt line =
    let s : State = state_after start pairs in
    let k = short_session pairs h lt in
    let a = some_answer (state_after start pairs) k.sound l line in
    let f : IsAnswer a.0 = right_form (state_after start pairs) (length pairs) k l a.0 a.1 in
    (a.0, record { line = line; answer = f; reason = a.1.reason; owed = a.1.owed; word = a.1.word; reply = a.1.reply })

-- ---- a session

lawful_join : (xs ys : Session) (s : State) → IsLawfulFrom s xs → IsLawfulFrom (state_after s xs) ys → IsLawfulFrom s (xs ++ ys)
lawful_join [] ys s h k = k
lawful_join (x ∷ xs) ys s h k = (h.0, lawful_join xs ys (after s x.0 x.1) h.1 k)

abbrev GoesOn : Session → List Line → Type 0
GoesOn pairs lines = (more : Session) × IsLawful (pairs ++ more) × (lines_asked more ≡ lines)

goes_on : (lines : List Line) (pairs : Session) → IsLawful pairs → length pairs + length lines < 2 ^ 63 → AllByRecursion IsLine lines → GoesOn pairs lines
goes_on [] pairs h lt a = ([], subst IsLawful (sym (append-nil pairs)) h, refl)
goes_on (l ∷ ls) pairs h lt a =
    let x = each_line pairs l h (omega (arith, lt)) a.0 in
    let next : IsLawful (pairs ++ (l, x.0) ∷ []) = lawful_join pairs ((l, x.0) ∷ []) start h (x.1, tt) in
    let n : length (pairs ++ (l, x.0) ∷ []) ≡ length pairs + 1 = length_push pairs (l, x.0) in
    let k = goes_on ls (pairs ++ (l, x.0) ∷ []) next (omega (arith, n, lt)) a.1 in
    ((l, x.0) ∷ k.0, subst IsLawful (append_assoc pairs ((l, x.0) ∷ []) k.0) k.1, ap (λ (z : List Line). l ∷ z) k.2)

pub each_script : EachScriptHasASession
each_script lines a lt = goes_on lines [] tt (omega (arith, lt)) a
