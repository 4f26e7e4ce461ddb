-- Pairs that were read, and what is still to come.
use Rattle.std.proofs.Common.{◌≡◌, ℕ, ◌+◌, ◌-◌, ◌*◌, ◌<◌, ◌≤◌, List, [], ◌∷◌, ◌++◌, length, take, arith, refl, sym, ap, subst, ◌∙◌, append_assoc, inl, inr, Option, Some, None}
use Rattle.std.specs.Prelude.{⊤}
use Rattle.std.specs.Io.KnownBytes.{IsAtEnd, prepend_known}
use Rattle.std.proofs.lemmas.List.{append-nil, length-append, take-append-le, take_all}
use Rattle.board_model.specs.Lines.{TakesLine, lines_of}
use Rattle.script_model.specs.declared.line.ScriptLine.{ScriptLine}
use Rattle.script_model.specs.ScriptGrammar.{SpellsLine}
use Rattle.script_model.specs.ScriptAnswers.{ScriptAnswer, script_answer_text}
use Rattle.script_model.specs.ScriptSession.{IsLawful, IsRight, Session, start, state_after}
use Rattle.script_model.specs.ScriptTurns.{ScriptState}
use Rattle.script_loop.specs.Machines.{SpellsNone, StandsFor}
use Rattle.script_loop.specs.Reader.{HasMore}
use Rattle.script_loop.proofs.LineLemmas.{some_lines}
use Rattle.script_loop.proofs.RunLemmas.{length_more, state_more}
use Rattle.script_rules.specs.declared.rule.Rule.{Rule}
use Rattle.script_rules.specs.declared.rule.Rule.TheVariants as rule
use Rattle.script_rules.specs.PrintedAnswers.{SpellsAnswer, printed_of}
use Rattle.script_rules.specs.BrokenRules.{Breaks, Differs, IsLineText, broken_rule}
use Rattle.script_rules.specs.SessionPairs.{SpellsPairs, next_line}
use Rattle.script_rules.proofs.GroupLemmas.{not_answer, not_line}
use Rattle.script_rules.proofs.RightPrintedLemmas.{right_printed}
use Rattle.script_rules.proofs.VerdictLemmas.{lawful_push, sessions_go_on}
use Rattle.script_pairs.specs.declared.pair_lines.Found.{Found}
use Rattle.script_pairs.specs.declared.pair_lines.Found.TheVariants as found
use Rattle.script_pairs.specs.PairLines.{HasLonger, IsFound, IsLonger}
use Rattle.script_pairs.specs.Checks.{AreLawfulIn, BreaksIn, GoesOnIn, HasTold, IsBroken}

-- the first lines are the pairs of the session, and the others are those of what is left
pub record ReadPairs (bytes left : List ℕ) (session : Session) : Type 0 where
  pub lines : List (List ℕ)
  pub all : lines_of bytes ≡ lines ++ lines_of left
  pub spelled : SpellsPairs 1 lines session

-- the same, where the bytes are known
abbrev pub HasRead : Option (List ℕ) → Option (List ℕ) → Session → Type 0
HasRead None left session = ⊤
HasRead (Some bytes) None session = ⊥
HasRead (Some bytes) (Some left) session = ReadPairs bytes left session

-- so many pairs were judged and are lawful, and the rest is left
pub record HasJudged {T : Type 0} (stands : T → ℕ → ScriptState → Type 0) (t : T) (count : ℕ) (bytes left : Option (List ℕ)) : Type 0 where
  pub session : Session
  pub lawful : IsLawful session
  pub state : stands t (length session) (state_after start session)
  pub counted : length session ≡ count
  pub read : HasRead bytes left session

-- nothing was read yet
reads_on : (bytes : Option (List ℕ)) (hand : List ℕ) → hand ≡ [] → HasRead bytes (prepend_known hand bytes) []
reads_on None hand e = tt
reads_on (Some bs) hand e = let same : hand ++ bs ≡ bs = rw e refl in record { lines = []; all = sym (ap lines_of same); spelled = tt }

pub begins : {T : Type 0} (stands : T → ℕ → ScriptState → Type 0) (t : T) (bytes : Option (List ℕ)) (hand : List ℕ) → hand ≡ [] → stands t 0 start → HasJudged stands t 0 bytes (prepend_known hand bytes)
begins stands t bytes hand e h = record { session = []; lawful = tt; state = h; counted = refl; read = reads_on bytes hand e }

pub stands_for : {T : Type 0} (stands : T → ℕ → ScriptState → Type 0) (t : T) (count limit : ℕ) (bytes left : Option (List ℕ)) → count < limit → limit ≤ 4294967295 → (j : HasJudged stands t count bytes left) → StandsFor stands t j.session
stands_for stands t count limit bytes left lt few j = record { lawful = j.lawful; few = omega (arith, j.counted, lt, few); state = j.state }

-- ---- the session ends

lawful_read : (bytes left : Option (List ℕ)) (session : Session) → HasRead bytes left session → IsLawful session → IsAtEnd left → AreLawfulIn bytes (length session)
lawful_read None left session r ok e = tt
lawful_read (Some bs) None session r ok e = absurd r
lawful_read (Some bs) (Some ls) session r ok e =
    let none : lines_of ls ≡ [] = rw e refl in
    let all : lines_of bs ≡ r.lines = r.all ∙ rw none (append-nil r.lines) in
    record { session = session; lawful = ok; spelled = subst (λ (x : List (List ℕ)). SpellsPairs 1 x session) (sym all) r.spelled; counted = refl }

pub is_lawful : {T : Type 0} (stands : T → ℕ → ScriptState → Type 0) (t : T) (count : ℕ) (bytes left : Option (List ℕ)) → HasJudged stands t count bytes left → IsAtEnd left → AreLawfulIn bytes count
is_lawful stands t count bytes left j e = subst (AreLawfulIn bytes) j.counted (lawful_read bytes left j.session j.read j.lawful e)

-- ---- a pair breaks a rule

-- a line is left that begins a pair which breaks the rule
breaks_read : (bytes : Option (List ℕ)) (left : List ℕ) (session : Session) (text : List ℕ) (rest : List (List ℕ)) (r : Rule) → HasRead bytes (Some left) session → IsLawful session → lines_of left ≡ text ∷ rest → Breaks (state_after start session) (length session + 1) text (next_line rest) r → BreaksIn bytes (length session + 1) r
breaks_read None left session text rest r h ok e b = tt
breaks_read (Some bs) left session text rest r h ok e b = record {
  before = h.lines;
  text = text;
  rest = rest;
  cut = h.all ∙ ap (λ (x : List (List ℕ)). h.lines ++ x) e;
  session = session;
  lawful = ok;
  spelled = h.spelled;
  number = refl;
  breaks = b;
}

unread_breaks : (bytes : Option (List ℕ)) (session : Session) (n : ℕ) (r : Rule) → HasRead bytes None session → BreaksIn bytes n r
unread_breaks None session n r h = tt
unread_breaks (Some bs) session n r h = absurd h

-- the line is outside the grammar: too long, or none
line_long : (bytes left : Option (List ℕ)) (session : Session) → HasRead bytes left session → IsLawful session → HasLonger 4096 left → BreaksIn bytes (length session + 1) rule.Line
line_long bytes None session h ok k = unread_breaks bytes session _ rule.Line h
line_long bytes (Some l) session h ok k = breaks_read bytes l session k.line k.more rule.Line h ok k.lines (λ (x : (l : ScriptLine) × SpellsLine k.line l). omega (arith, k.long, x.1.short))

line_none : (bytes left rest : Option (List ℕ)) (session : Session) (text : List ℕ) → HasRead bytes left session → IsLawful session → TakesLine left rest text → SpellsNone text → BreaksIn bytes (length session + 1) rule.Line
line_none bytes None rest session text h ok t none = unread_breaks bytes session _ rule.Line h
line_none bytes (Some l) None session text h ok t none = absurd t
line_none bytes (Some l) (Some rest) session text h ok t none = breaks_read bytes l session text (lines_of rest) rule.Line h ok t (λ (x : (l : ScriptLine) × SpellsLine text l). none x.0 x.1)

module _ {T : Type 0} (stands : T → ℕ → ScriptState → Type 0) (t : T) (count : ℕ) (bytes left : Option (List ℕ)) (j : HasJudged stands t count bytes left) where
  numbered : (r : Rule) → BreaksIn bytes (length j.session + 1) r → BreaksIn bytes (count + 1) r
  numbered r b = subst (λ (n : ℕ). BreaksIn bytes (n + 1) r) j.counted b

  pub is_long : HasLonger 4096 left → BreaksIn bytes (count + 1) rule.Line
  is_long k = numbered rule.Line (line_long bytes left j.session j.read j.lawful k)

  pub is_no_line : (rest : Option (List ℕ)) (text : List ℕ) → TakesLine left rest text → SpellsNone text → BreaksIn bytes (count + 1) rule.Line
  is_no_line rest text k none = numbered rule.Line (line_none bytes left rest j.session text j.read j.lawful k none)

-- ---- the answer

-- the line was taken, and its answer is what follows
abbrev pub IsNext : Option (List ℕ) → Option (List ℕ) → Type 0
IsNext None answer = ⊤
IsNext (Some mid) answer = next_line (lines_of mid) ≡ answer

-- a line of the grammar, whose answer breaks the rule
answer_breaks : (bytes left mid : Option (List ℕ)) (session : Session) (text : List ℕ) (answer : Option (List ℕ)) (r : Rule) → HasRead bytes left session → IsLawful session → TakesLine left mid text → IsNext mid answer → Breaks (state_after start session) (length session + 1) text answer r → BreaksIn bytes (length session + 1) r
answer_breaks bytes None mid session text answer r h ok t e b = unread_breaks bytes session _ r h
answer_breaks bytes (Some l) None session text answer r h ok t e b = absurd t
answer_breaks bytes (Some l) (Some m) session text answer r h ok t e b = breaks_read bytes l session text (lines_of m) r h ok t (subst (λ (a : Option (List ℕ)). Breaks (state_after start session) (length session + 1) text a r) (sym e) b)

-- the first line that was taken is the next
next_taken : (mid rest : Option (List ℕ)) (answer : List ℕ) → TakesLine mid rest answer → IsNext mid (Some answer)
next_taken None rest answer t = tt
next_taken (Some m) None answer t = absurd t
next_taken (Some m) (Some r) answer t = ap next_line t

-- an answer that is none: missing, too long, or outside the grammar
no_next : (m : List ℕ) → m ≡ [] → next_line (lines_of m) ≡ None
no_next m e = rw e refl

missing : (bytes left mid : Option (List ℕ)) (session : Session) (text : List ℕ) → HasRead bytes left session → IsLawful session → TakesLine left mid text → IsLineText text → IsAtEnd mid → BreaksIn bytes (length session + 1) rule.Answer
missing bytes left None session text h ok t l e = answer_breaks bytes left None session text None rule.Answer h ok t tt (l, λ (x : ⊥). x)
missing bytes left (Some m) session text h ok t l e = answer_breaks bytes left (Some m) session text None rule.Answer h ok t (no_next m e) (l, λ (x : ⊥). x)

longer_next : (most : ℕ) (m : List ℕ) (k : IsLonger most m) → next_line (lines_of m) ≡ Some k.line
longer_next most m k = ap next_line k.lines

too_long : (bytes left mid : Option (List ℕ)) (session : Session) (text : List ℕ) (n : ℕ) → n ≡ length session + 1 → HasRead bytes left session → IsLawful session → TakesLine left mid text → IsLineText text → HasLonger (1048576 + 17 * n) mid → BreaksIn bytes (length session + 1) rule.Answer
too_long bytes left None session text n is h ok t l k = answer_breaks bytes left None session text None rule.Answer h ok t tt (l, λ (x : ⊥). x)
too_long bytes left (Some m) session text n is h ok t l k =
    let long : IsLonger (1048576 + 17 * (length session + 1)) m = subst (λ (i : ℕ). IsLonger (1048576 + 17 * i) m) is k in
    answer_breaks bytes left (Some m) session text (Some long.line) rule.Answer h ok t (longer_next (1048576 + 17 * (length session + 1)) m long) (l, λ (x : SpellsAnswer (length session + 1) long.line). omega (arith, x.short, long.long))

module _ {T : Type 0} (stands : T → ℕ → ScriptState → Type 0) (t : T) (count : ℕ) (bytes left mid : Option (List ℕ)) (text : List ℕ) (j : HasJudged stands t count bytes left) (took : TakesLine left mid text) (l : ScriptLine) (spelled : SpellsLine text l) where
  count_is : count + 1 ≡ length j.session + 1
  count_is = ap (λ n. n + 1) (sym j.counted)

  pub is_missing : IsAtEnd mid → BreaksIn bytes (count + 1) rule.Answer
  is_missing e = numbered stands t count bytes left j rule.Answer (missing bytes left mid j.session text j.read j.lawful took (l, spelled) e)

  pub is_too_long : HasLonger (1048576 + 17 * (count + 1)) mid → BreaksIn bytes (count + 1) rule.Answer
  is_too_long k = numbered stands t count bytes left j rule.Answer (too_long bytes left mid j.session text (count + 1) count_is j.read j.lawful took (l, spelled) k)

  pub is_no_answer : (rest : Option (List ℕ)) (answer : List ℕ) → TakesLine mid rest answer → (SpellsAnswer (count + 1) answer → ⊥) → BreaksIn bytes (count + 1) rule.Answer
  is_no_answer rest answer k none =
      numbered stands t count bytes left j rule.Answer (answer_breaks bytes left mid j.session text (Some answer) rule.Answer j.read j.lawful took (next_taken mid rest answer k)
      ((l, spelled), λ (x : SpellsAnswer (length j.session + 1) answer). none (subst (λ (n : ℕ). SpellsAnswer n answer) (sym count_is) x)))

  -- nothing follows the line, or what is too long for an answer
  pub is_unanswered : (f : Found) (most : ℕ) (rest : Option (List ℕ)) (answer : List ℕ) → most ≡ 1048576 + 17 * (count + 1) → IsFound f most answer mid rest → (f ≡ found.Line → ⊥) → BreaksIn bytes (count + 1) rule.Answer
  is_unanswered found.Line most rest answer e h none = absurd (none refl)
  is_unanswered found.Long most rest answer e h none = is_too_long (subst (λ (m : ℕ). HasLonger m mid) e h)
  is_unanswered found.End most rest answer e h none = is_missing h

  -- the answer differs from the right one
  differs : (new : T) (line printed : List ℕ) (r : Rule) → (k : HasTold stands new j.session l line) → SpellsAnswer (count + 1) printed → broken_rule l (script_answer_text k.answer) printed ≡ Some r → Differs (state_after start j.session) (length j.session + 1) text (Some printed) r
  differs new line printed r k formed e = record {
    line = l;
    spelled = spelled;
    formed = subst (λ (n : ℕ). SpellsAnswer n printed) count_is formed;
    right = k.answer;
    is_right = k.right;
    printed = printed;
    is = refl;
    broken = e;
  }

-- where the answer differs it breaks that rule
differs_breaks : (s : ScriptState) (n : ℕ) (text : List ℕ) (answer : Option (List ℕ)) (r : Rule) → Differs s n text answer r → Breaks s n text answer r
differs_breaks s n text answer rule.Line h = absurd (not_line h.line (script_answer_text h.right) h.printed h.broken)
differs_breaks s n text answer rule.Answer h = absurd (not_answer h.line (script_answer_text h.right) h.printed h.broken)
differs_breaks s n text answer rule.Reason h = h
differs_breaks s n text answer rule.Owed h = h
differs_breaks s n text answer rule.Word h = h
differs_breaks s n text answer rule.Event h = h
differs_breaks s n text answer rule.Reply h = h

-- the pair was read
pair_read : (bytes left mid rest : Option (List ℕ)) (session : Session) (text answer : List ℕ) (l : ScriptLine) (right : ScriptAnswer) → HasRead bytes left session → IsLawful session → TakesLine left mid text → TakesLine mid rest answer → SpellsLine text l → IsRight (state_after start session) l right → answer ≡ script_answer_text right → SpellsAnswer (1 + length session) answer
    → HasRead bytes rest (session ++ (l, right) ∷ [])
pair_read None left mid rest session text answer l right h ok t u spelled is_right e k = tt
pair_read (Some bs) None mid rest session text answer l right h ok t u spelled is_right e k = absurd h
pair_read (Some bs) (Some ls) None rest session text answer l right h ok t u spelled is_right e k = absurd t
pair_read (Some bs) (Some ls) (Some ms) None session text answer l right h ok t u spelled is_right e k = absurd u
pair_read (Some bs) (Some ls) (Some ms) (Some rs) session text answer l right h ok t u spelled is_right e k = record {
  lines = h.lines ++ text ∷ answer ∷ [];
  all = h.all ∙ ap (λ (x : List (List ℕ)). h.lines ++ x) (t ∙ ap (λ (x : List (List ℕ)). text ∷ x) u) ∙ sym (append_assoc h.lines (text ∷ answer ∷ []) (lines_of rs));
  spelled = (sessions_go_on 1 h.lines session text answer l right ok h.spelled spelled is_right e k).1;
}

-- a right answer that is short enough is an answer
spelled_right : (session : Session) (l : ScriptLine) (right : ScriptAnswer) (n : ℕ) (text : List ℕ) → IsLawful session → IsRight (state_after start session) l right → text ≡ script_answer_text right → length text ≤ 1048576 + 17 * n → SpellsAnswer n text
spelled_right session l right n text ok is_right e short =
    let k = right_printed session l right ok is_right in
    record { printed = printed_of right; formed = k.formed; bytes = e ∙ k.text; short = short }

module _ {T : Type 0} (stands : T → ℕ → ScriptState → Type 0) (t new : T) (count : ℕ) (bytes left mid rest : Option (List ℕ)) (text answer line right : List ℕ) (j : HasJudged stands t count bytes left) (took : TakesLine left mid text) (l : ScriptLine) (spelled : SpellsLine text l) (answered : TakesLine mid rest answer) (k : HasTold stands new j.session l line) (is : right ≡ script_answer_text k.answer) where
  other_breaks : (r : Rule) → SpellsAnswer (count + 1) answer → broken_rule l right answer ≡ Some r → BreaksIn bytes (count + 1) r
  other_breaks r formed e =
      let d = differs stands t count bytes left mid text j took l spelled new line answer r k formed (subst (λ (x : List ℕ). broken_rule l x answer ≡ Some r) is e) in
      numbered stands t count bytes left j r (answer_breaks bytes left mid j.session text (Some answer) r j.read j.lawful took (next_taken mid rest answer answered) (differs_breaks (state_after start j.session) (length j.session + 1) text (Some answer) r d))

  pub is_broken : (r : Rule) → IsBroken l right (count + 1) answer r → BreaksIn bytes (count + 1) r
  is_broken r (inl h) = subst (BreaksIn bytes (count + 1)) (sym h.1) (is_no_answer stands t count bytes left mid text j took l spelled rest answer answered h.0)
  is_broken r (inr h) = other_breaks r h.0 h.1

  -- one right pair more
  pub goes_on : (most : ℕ) → most ≡ 1048576 + 17 * (count + 1) → length answer ≤ most → right ≡ answer → HasJudged stands new (count + 1) bytes rest
  goes_on most m short e =
      let same : answer ≡ script_answer_text k.answer = sym e ∙ is in
      let formed : SpellsAnswer (1 + length j.session) answer = spelled_right j.session l k.answer (1 + length j.session) answer j.lawful k.right same (omega (arith, short, m, j.counted)) in
      let p : ScriptLine × ScriptAnswer = (l, k.answer) in
      record {
        session = j.session ++ p ∷ [];
        lawful = lawful_push j.session start p j.lawful k.right;
        state = subst (λ n. stands new n (state_after start (j.session ++ p ∷ []))) (sym (length_more j.session p)) (subst (stands new (length j.session + 1)) (sym (state_more start j.session p)) k.state);
        counted = length_more j.session p ∙ ap (λ n. n + 1) j.counted;
        read = pair_read bytes left mid rest j.session text answer l k.answer j.read j.lawful took answered spelled k.right same formed;
      }

-- ---- another line follows

more_lines : (lines : List (List ℕ)) → 0 < length lines → (x : List ℕ) × (more : List (List ℕ)) × (lines ≡ x ∷ more)
more_lines [] lt = absurd (omega arith)
more_lines (x ∷ more) lt = (x, more, refl)

past_read : (limit : ℕ) (bytes left : Option (List ℕ)) (session : Session) → HasRead bytes left session → IsLawful session → length session ≡ limit → HasMore left → GoesOnIn limit bytes
past_read limit None left session h ok e more = tt
past_read limit (Some bs) None session h ok e more = absurd h
past_read limit (Some bs) (Some ls) session h ok e more =
    let m = more_lines (lines_of ls) (some_lines ls more) in
    record {
      before = h.lines;
      next = m.0;
      more = m.1;
      cut = h.all ∙ ap (λ (x : List (List ℕ)). h.lines ++ x) m.2;
      lawful = record { session = session; lawful = ok; spelled = h.spelled; counted = e };
    }

pub is_past : {T : Type 0} (stands : T → ℕ → ScriptState → Type 0) (t : T) (count limit : ℕ) (bytes left : Option (List ℕ)) → HasJudged stands t count bytes left → count ≡ limit → HasMore left → GoesOnIn limit bytes
is_past stands t count limit bytes left j e more = past_read limit bytes left j.session j.read j.lawful (j.counted ∙ e) more

-- a line without its newline
pub cut_line : (line text : List ℕ) → line ≡ text ++ 10 ∷ [] → take (length line - 1) line ≡ text
cut_line line text e =
    let n : length line - 1 ≡ length text = omega (arith, ap length e, length-append text (10 ∷ [])) in
    rw (n, e) (take-append-le (length text) text (10 ∷ []) (omega arith) ∙ take_all (length text) text (omega arith))
