-- Runs that go on, and that end.
use Rattle.std.proofs.Common.{◌≡◌, ℕ, ◌+◌, ◌<◌, ◌≤◌, List, [], ◌∷◌, ◌++◌, length, take, arith, refl, sym, ap, subst, ◌∙◌, append_assoc, Option, Some, None}
use Rattle.std.specs.Prelude.{IsSomeAnd, slice_get}
use Rattle.std.specs.Io.KnownBytes.{Appends, IsAtEnd, Keeps, prepend_known}
use Rattle.std.proofs.KnownBytes.{Appends-trans, Appends-nil}
use Rattle.std.proofs.lemmas.List.{append-nil, length-append}
use Rattle.std.proofs.Math.Seq.{take-append-add}
use Rattle.board_model.specs.Lines.{lines_of, TakesLine}
use Rattle.script_model.specs.declared.line.ScriptLine.{ScriptLine}
use Rattle.script_model.specs.ScriptAnswers.{ScriptAnswer, script_answer_line}
use Rattle.script_model.specs.ScriptGrammar.{SpellsLine}
use Rattle.script_model.specs.ScriptSession.{Session, start, after, state_after, IsLawfulFrom, IsRight}
use Rattle.script_model.specs.ScriptTurns.{ScriptState}
use Rattle.script_model.specs.ScriptOutput.{AreLinesOf, BeginsWith, Fed, FollowedBy, GoesOnAfter, LeavesGrammarAfter, SpellsAll, output_of}
use Rattle.script_loop.specs.Reader.{HasLongLine, HasMore}
use Rattle.script_loop.proofs.LineLemmas.{some_lines}
use Rattle.script_loop.specs.Runs.{HasNextLine, IsBadAt, IsPast, IsRunOf, IsSpent, IsWanting, IsWriteCut, SomeWants, Stream}
use Rattle.script_loop.specs.Machines.{HasAnswered, HasRun, SpellsNone, StandsFor}

-- ---- a session with one more pair

pub lawful_more : (s : ScriptState) (ps : Session) (p : ScriptLine × ScriptAnswer) → IsLawfulFrom s ps → IsRight (state_after s ps) p.0 p.1 → IsLawfulFrom s (ps ++ p ∷ [])
lawful_more s [] p h r = (r, tt)
lawful_more s (q ∷ ps) p h r = (h.0, lawful_more (after s q.0 q.1) ps p h.1 r)

pub state_more : (s : ScriptState) (ps : Session) (p : ScriptLine × ScriptAnswer) → state_after s (ps ++ p ∷ []) ≡ after (state_after s ps) p.0 p.1
state_more s [] p = refl
state_more s (q ∷ ps) p = state_more (after s q.0 q.1) ps p

pub spells_more : (ls : List (List ℕ)) (ps : Session) (b : List ℕ) (p : ScriptLine × ScriptAnswer) → SpellsAll ls ps → SpellsLine b p.0 → SpellsAll (ls ++ b ∷ []) (ps ++ p ∷ [])
spells_more [] [] b p h s = (s, tt)
spells_more (l ∷ ls) (q ∷ ps) b p h s = (h.0, spells_more ls ps b p h.1 s)
spells_more [] (q ∷ ps) b p h s = absurd h
spells_more (l ∷ ls) [] b p h s = absurd h

pub output_more : (ps : Session) (p : ScriptLine × ScriptAnswer) → output_of (ps ++ p ∷ []) ≡ output_of ps ++ script_answer_line p.1
output_more [] p = append-nil (script_answer_line p.1)
output_more (q ∷ ps) p = ap (λ (x : List ℕ). script_answer_line q.1 ++ x) (output_more ps p) ∙ sym (append_assoc (script_answer_line q.1) (output_of ps) (script_answer_line p.1))

pub length_more : (ps : Session) (p : ScriptLine × ScriptAnswer) → length (ps ++ p ∷ []) ≡ length ps + 1
length_more ps p = length-append ps (p ∷ [])

pub fed_more : (input left rest : Option (List ℕ)) (ps : Session) (b : List ℕ) (p : ScriptLine × ScriptAnswer) → Fed input left ps → TakesLine left rest b → SpellsLine b p.0 → Fed input rest (ps ++ p ∷ [])
fed_more None left rest ps b p f t s = tt
fed_more (Some i) None rest ps b p f t s = absurd f
fed_more (Some i) (Some l) None ps b p f t s = absurd t
fed_more (Some i) (Some l) (Some r) ps b p f t s = record {
  lines = f.lines ++ b ∷ [];
  all = f.all ∙ ap (λ (x : List (List ℕ)). f.lines ++ x) t ∙ sym (append_assoc f.lines (b ∷ []) (lines_of r));
  spelled = spells_more f.lines ps b p f.spelled s;
}

-- ---- where the input is known, what is left says what follows

pub fed_begins : (input left : Option (List ℕ)) (ps : Session) → Fed input left ps → BeginsWith input ps
fed_begins None left ps f = tt
fed_begins (Some i) None ps f = absurd f
fed_begins (Some i) (Some l) ps f = (lines_of l, f)

fed_kept : (input left now : Option (List ℕ)) (ps : Session) → Fed input left ps → Keeps left now → Fed input now ps
fed_kept None left now ps f k = tt
fed_kept (Some i) None now ps f k = absurd f
fed_kept (Some i) (Some l) None ps f k = absurd k
fed_kept (Some i) (Some l) (Some n) ps f k = subst (λ (x : List ℕ). Fed (Some i) (Some x) ps) (sym k) f

fed_all : (input left : Option (List ℕ)) (ps : Session) → Fed input left ps → IsAtEnd left → AreLinesOf input ps
fed_all None left ps f e = tt
fed_all (Some i) None ps f e = absurd f
fed_all (Some i) (Some l) ps f e =
    let none : lines_of l ≡ [] = rw e refl in
    let all : lines_of i ≡ f.lines = f.all ∙ rw none (append-nil f.lines) in
    subst (λ (x : List (List ℕ)). SpellsAll x ps) (sym all) f.spelled

follows : (i : List ℕ) (ps : Session) (more now : List (List ℕ)) → FollowedBy i ps more → more ≡ now → FollowedBy i ps now
follows i ps more now f e = subst (FollowedBy i ps) e f

fed_leaves : (input left rest : Option (List ℕ)) (ps : Session) (b : List ℕ) → Fed input left ps → TakesLine left rest b → SpellsNone b → LeavesGrammarAfter input ps
fed_leaves None left rest ps b f t none = tt
fed_leaves (Some i) None rest ps b f t none = absurd f
fed_leaves (Some i) (Some l) None ps b f t none = absurd t
fed_leaves (Some i) (Some l) (Some r) ps b f t none = (b, lines_of r, follows i ps (lines_of l) (b ∷ lines_of r) f t, none)

abbrev FirstIsLong : List (List ℕ) → Type 0
FirstIsLong ls = (x : List ℕ) × (more : List (List ℕ)) × (ls ≡ x ∷ more) × (4096 < length x)

first_long : (ls : List (List ℕ)) → IsSomeAnd (slice_get ls 0) (λ line. 4096 < length line) → FirstIsLong ls
first_long [] h = absurd h
first_long (x ∷ more) h = (x, more, refl, h)

fed_long : (input left : Option (List ℕ)) (ps : Session) → Fed input left ps → HasLongLine left → LeavesGrammarAfter input ps
fed_long None left ps f h = tt
fed_long (Some i) None ps f h = absurd f
fed_long (Some i) (Some l) ps f h =
    let g = first_long (lines_of l) h in
    (g.0, g.1, follows i ps (lines_of l) (g.0 ∷ g.1) f g.2, λ x s. omega (arith, s.short, g.3))

some_first : (i : List ℕ) (ps : Session) (ls : List (List ℕ)) → FollowedBy i ps ls → 0 < length ls → GoesOnAfter (Some i) ps
some_first i ps [] f lt = absurd (omega arith)
some_first i ps (x ∷ more) f lt = (x, more, f)

fed_goes_on : (input left : Option (List ℕ)) (ps : Session) → Fed input left ps → HasMore left → GoesOnAfter input ps
fed_goes_on None left ps f h = tt
fed_goes_on (Some i) None ps f h = absurd f
fed_goes_on (Some i) (Some l) ps f h = some_first i ps (lines_of l) f (some_lines l h)

fed_next : (input left rest : Option (List ℕ)) (ps : Session) (b : List ℕ) → Fed input left ps → TakesLine left rest b → HasNextLine input ps b
fed_next None left rest ps b f t = tt
fed_next (Some i) None rest ps b f t = absurd f
fed_next (Some i) (Some l) None ps b f t = absurd t
fed_next (Some i) (Some l) (Some r) ps b f t = (lines_of r, follows i ps (lines_of l) (b ∷ lines_of r) f t)

-- ---- runs

unfoldable pub starts : {M : Type 0} (stands : M → ℕ → ScriptState → Type 0) (m : M) (input before : Option (List ℕ)) (hand : List ℕ) → hand ≡ [] → stands m 0 start → HasRun stands m 0 input (prepend_known hand input) before before
starts stands m None before hand e h = record { session = []; lawful = tt; state = h; counted = refl; fed = tt; output = Appends-nil before }
starts stands m (Some i) before hand e h =
    let same : hand ++ i ≡ i = rw e refl in
    record { session = []; lawful = tt; state = h; counted = refl; fed = record { lines = []; all = sym (ap lines_of same); spelled = tt }; output = Appends-nil before }

-- the machine of a run that is not long stands for its session
pub stands_for : {M : Type 0} (stands : M → ℕ → ScriptState → Type 0) (m : M) (count limit : ℕ) (input left before held : Option (List ℕ)) → count < limit → limit ≤ 4294967295 → (r : HasRun stands m count input left before held) → StandsFor stands m r.session
stands_for stands m count limit input left before held lt few r = record { lawful = r.lawful; few = omega (arith, r.counted, lt, few); state = r.state }

unfoldable pub goes_on : {M : Type 0} (stands : M → ℕ → ScriptState → Type 0) (m new : M) (count : ℕ) (input left rest before held now : Option (List ℕ)) (b text : List ℕ) → (r : HasRun stands m count input left before held) → TakesLine left rest b → HasAnswered stands new r.session b text → Appends held now text → HasRun stands new (count + 1) input rest before now
goes_on stands m new count input left rest before held now b text r t a w =
    let p : ScriptLine × ScriptAnswer = (a.line, a.answer) in
    let w2 : Appends held now (script_answer_line a.answer) = subst (Appends held now) a.told w in
    record {
      session = r.session ++ p ∷ [];
      lawful = lawful_more start r.session p r.lawful a.right;
      state = subst (λ n. stands new n (state_after start (r.session ++ p ∷ []))) (sym (length_more r.session p)) (subst (stands new (length r.session + 1)) (sym (state_more start r.session p)) a.state);
      counted = length_more r.session p ∙ ap (λ k. k + 1) r.counted;
      fed = fed_more input left rest r.session b p r.fed t a.spelled;
      output = subst (Appends before now) (sym (output_more r.session p)) (Appends-trans before held now (output_of r.session) (script_answer_line a.answer) r.output w2);
    }

-- ---- what a run comes to

module _ {M : Type 0} (stands : M → ℕ → ScriptState → Type 0) (m : M) (count limit : ℕ) (source sink : Stream) (left : Option (List ℕ)) (r : HasRun stands m count source.before left sink.before sink.after) where
  pub ends : count ≤ limit → IsAtEnd left → IsRunOf limit source sink
  ends few e = record {
    session = r.session;
    lawful = r.lawful;
    lines = fed_all source.before left r.session r.fed e;
    few = omega (arith, r.counted, few);
    output = r.output;
  }

  pub bad_at : (rest : Option (List ℕ)) (b : List ℕ) → count < limit → TakesLine left rest b → SpellsNone b → IsBadAt (count + 1) limit source sink
  bad_at rest b lt t none = record {
    session = r.session;
    lawful = r.lawful;
    lines = fed_leaves source.before left rest r.session b r.fed t none;
    number = ap (λ k. k + 1) (sym r.counted);
    allowed = omega (arith, lt);
    output = r.output;
  }

  pub long_at : count < limit → HasLongLine left → IsBadAt (count + 1) limit source sink
  long_at lt h = record {
    session = r.session;
    lawful = r.lawful;
    lines = fed_long source.before left r.session r.fed h;
    number = ap (λ k. k + 1) (sym r.counted);
    allowed = omega (arith, lt);
    output = r.output;
  }

  pub is_past : count ≡ limit → HasMore left → IsPast limit source sink
  is_past all h = record {
    session = r.session;
    lawful = r.lawful;
    lines = fed_goes_on source.before left r.session r.fed h;
    full = r.counted ∙ all;
    output = r.output;
  }

  pub is_spent : count ≤ limit → IsSpent limit source sink
  is_spent few = record {
    session = r.session;
    lawful = r.lawful;
    lines = fed_begins source.before left r.session r.fed;
    few = omega (arith, r.counted, few);
    output = r.output;
  }

-- a machine that stands for the lines so far wants memory for the next one
pub wanting : {M : Type 0} (stands : M → ℕ → ScriptState → Type 0) (wants : M → List ℕ → Type 0) (m : M) (count limit : ℕ) (source sink : Stream) (left rest : Option (List ℕ)) (b : List ℕ) → (r : HasRun stands m count source.before left sink.before sink.after) → count < limit → TakesLine left rest b → wants m b → IsWanting (SomeWants stands wants) limit source sink
wanting stands wants m count limit source sink left rest b r lt t w = record {
  session = r.session;
  lawful = r.lawful;
  few = omega (arith, r.counted, lt);
  output = r.output;
  line = b;
  next = fed_next source.before left rest r.session b r.fed t;
  wants = (m, r.state, w);
}

-- nothing was run
spent_on : (input : Option (List ℕ)) → BeginsWith input []
spent_on None = tt
spent_on (Some i) = (lines_of i, record { lines = []; all = refl; spelled = tt })

pub spent_at_once : (limit : ℕ) (source sink : Stream) → sink.after ≡ sink.before → IsSpent limit source sink
spent_at_once limit source sink same = record {
  session = [];
  lawful = tt;
  lines = spent_on source.before;
  few = omega arith;
  output = subst (λ (x : Option (List ℕ)). Appends sink.before x []) (sym same) (Appends-nil sink.before);
}

-- a front of what is written behind is a front of all
fronts : (all text : List ℕ) (n : ℕ) → all ++ take n text ≡ take (length all + n) (all ++ text)
fronts all text n = sym (take-append-add all text n)

pub write_cut : {M : Type 0} (stands : M → ℕ → ScriptState → Type 0) (m new : M) (count limit : ℕ) (source sink : Stream) (left rest held : Option (List ℕ)) (b text : List ℕ) (n : ℕ) → (r : HasRun stands m count source.before left sink.before held) → count < limit → TakesLine left rest b → HasAnswered stands new r.session b text → n < length text → Appends held sink.after (take n text) → IsWriteCut limit source sink
write_cut stands m new count limit source sink left rest held b text n r lt t a short w =
    let p : ScriptLine × ScriptAnswer = (a.line, a.answer) in
    let w2 : Appends held sink.after (take n (script_answer_line a.answer)) = subst (λ (x : List ℕ). Appends held sink.after (take n x)) a.told w in
    let all : Appends sink.before sink.after (output_of r.session ++ take n (script_answer_line a.answer)) = Appends-trans sink.before held sink.after (output_of r.session) (take n (script_answer_line a.answer)) r.output w2 in
    record {
      session = r.session ++ p ∷ [];
      lawful = lawful_more start r.session p r.lawful a.right;
      lines = fed_begins source.before rest (r.session ++ p ∷ []) (fed_more source.before left rest r.session b p r.fed t a.spelled);
      few = omega (arith, length_more r.session p, r.counted, lt);
      written = length (output_of r.session) + n;
      cut = omega (arith, short, ap length a.told, ap length (output_more r.session p), length-append (output_of r.session) (script_answer_line a.answer));
      output = subst (λ (x : List ℕ). Appends sink.before sink.after (take (length (output_of r.session) + n) x)) (sym (output_more r.session p)) (subst (Appends sink.before sink.after) (fronts (output_of r.session) (script_answer_line a.answer) n) all);
    }
