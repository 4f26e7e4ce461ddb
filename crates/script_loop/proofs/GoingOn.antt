-- A run with its reader and its sink: whole lines so far, and the room that is left.
use Rattle.std.proofs.Common.{◌≡◌, ℕ, ◌+◌, ◌-◌, ◌<◌, ◌≤◌, Bool, false, List, [], ◌∷◌, ◌++◌, length, arith, sym, ap, subst, ◌∙◌, inl, inr, Option, Some, None}
use Rattle.std.specs.Io.KnownBytes.{Appends, Keeps, prepend_known}
use Rattle.std.proofs.lemmas.List.{length-append}
use Rattle.board_model.specs.Lines.{IsOneLine, TakesLine}
use Rattle.script_loop.specs.Reader.{IsShortLine}
use Rattle.script_model.specs.declared.line.ScriptLine.{ScriptLine}
use Rattle.script_model.specs.ScriptAnswers.{ScriptAnswer, script_answer_line}
use Rattle.script_model.specs.ScriptSession.{IsLawful, Session, start}
use Rattle.script_model.specs.ScriptTurns.{ScriptState}
use Rattle.script_model.specs.ScriptOutput.{BeginsWith, output_of}
use Rattle.script_loop.specs.Machines.{HasAnswered, HasRun}
use Rattle.script_loop.specs.Runs.{FitsInto, IsReadCut, StopsForMemory, Stream}
use Rattle.script_loop.specs.WholeLines.{HasWholeLines, LosesLine}
use Rattle.script_loop.proofs.LineLemmas.{takes_line}
use Rattle.script_loop.proofs.Pieces.{more_gone, none_gone}
use Rattle.script_loop.proofs.RunLemmas.{fed_begins, fed_more, goes_on, lawful_more, length_more, output_more, starts}
use Rattle.script_loop.proofs.WholeLemmas.{whole_kept, whole_more, whole_start}

-- how far a run has come; while the source's end isn't told each line stood with its newline, and the sink takes what is left of its room
pub record HasRunOn {M : Type 0} (stands : M → ℕ → ScriptState → Type 0) (m : M) (count : ℕ) (ended : Bool) (input left before held : Option (List ℕ)) (takes taken : ℕ → Type 0) : Type 0 where
  pub run : HasRun stands m count input left before held
  pub whole : ended ≡ false → HasWholeLines input left run.session
  pub room : (n : ℕ) → takes n → length (output_of run.session) ≤ n → taken (n - length (output_of run.session))

pub starts_on : {M : Type 0} (stands : M → ℕ → ScriptState → Type 0) (m : M) (ended : Bool) (input before : Option (List ℕ)) (takes : ℕ → Type 0) (hand : List ℕ) → hand ≡ [] → stands m 0 start → HasRunOn stands m 0 ended input (prepend_known hand input) before before takes takes
unfolding starts
starts_on stands m ended None before takes hand e h = record {
  run = starts stands m None before hand e h;
  whole = λ unended. tt;
  room = λ n t le. none_gone takes n t;
}
starts_on stands m ended (Some i) before takes hand e h = record {
  run = starts stands m (Some i) before hand e h;
  whole = λ unended. whole_start (Some i) hand e;
  room = λ n t le. none_gone takes n t;
}

-- the output is longer by the answer
output_longer : (ps : Session) (p : ScriptLine × ScriptAnswer) (text : List ℕ) → text ≡ script_answer_line p.1 → length (output_of (ps ++ p ∷ [])) ≡ length (output_of ps) + length text
output_longer ps p text told =
    ap length (output_more ps p) ∙ length-append (output_of ps) (script_answer_line p.1) ∙ ap (λ (x : List ℕ). length (output_of ps) + length x) (sym told)

pub goes_further : {M : Type 0} (stands : M → ℕ → ScriptState → Type 0) (m new : M) (count : ℕ) (was ended : Bool) (input left rest before held now : Option (List ℕ)) (takes taken later : ℕ → Type 0) (b text : List ℕ) → (r : HasRunOn stands m count was input left before held takes taken) → (ended ≡ false → was ≡ false) → LosesLine ended left rest b → IsOneLine b → HasAnswered stands new r.run.session b text → Appends held now text → ((n : ℕ) → taken n → length text ≤ n → later (n - length text)) → HasRunOn stands new (count + 1) ended input rest before now takes later
unfolding goes_on
goes_further stands m new count was ended input left rest before held now takes taken later b text r unended t one a w more =
    let p : ScriptLine × ScriptAnswer = (a.line, a.answer) in
    let out = output_of r.run.session in
    let both : length (output_of (r.run.session ++ p ∷ [])) ≡ length out + length text = output_longer r.run.session p text a.told in
    record {
      run = goes_on stands m new count input left rest before held now b text r.run (takes_line ended left rest b one t) a w;
      whole = λ e. whole_more input left rest r.run.session b p (r.whole (unended e)) (subst (λ (x : Bool). LosesLine x left rest b) e t) one a.spelled;
      room = λ n tk le.
          let first : taken (n - length out) = r.room n tk (omega (arith, both, le)) in
          let behind : later (n - length out - length text) = more (n - length out) first (omega (arith, both, le)) in
          subst (λ (x : ℕ). later (n - x)) (sym both) (more_gone later n (length out) (length text) behind);
    }

-- the source failed before its end was told
pub cut_short : {M : Type 0} (stands : M → ℕ → ScriptState → Type 0) (m : M) (count limit : ℕ) (ended : Bool) (source sink : Stream) (left : Option (List ℕ)) (takes taken : ℕ → Type 0) (part : List ℕ) → (r : HasRunOn stands m count ended source.before left sink.before sink.after takes taken) → ended ≡ false → count ≤ limit → Keeps left (prepend_known part source.after) → IsShortLine part → IsReadCut limit source sink
cut_short stands m count limit ended source sink left takes taken part r unended few k one = record {
  session = r.run.session;
  lawful = r.run.lawful;
  part = part;
  cut = one;
  lines = whole_kept source.before left (prepend_known part source.after) r.run.session (r.whole unended) k;
  few = omega (arith, r.run.counted, few);
  output = r.run.output;
}

-- the room has place for one more answer
pub fits_one_more : {M : Type 0} (stands : M → ℕ → ScriptState → Type 0) (m new : M) (count limit : ℕ) (input left rest before held : Option (List ℕ)) (b text : List ℕ) (room : ℕ) → (r : HasRun stands m count input left before held) → count < limit → TakesLine left rest b → HasAnswered stands new r.session b text → FitsInto room limit input → length (output_of r.session) + length text ≤ room
fits_one_more stands m new count limit input left rest before held b text room r lt t a fits =
    let p : ScriptLine × ScriptAnswer = (a.line, a.answer) in
    let begins : BeginsWith input (r.session ++ p ∷ []) = fed_begins input rest (r.session ++ p ∷ []) (fed_more input left rest r.session b p r.fed t a.spelled) in
    let most : length (r.session ++ p ∷ []) ≤ limit = omega (arith, length_more r.session p, r.counted, lt) in
    let all = fits (r.session ++ p ∷ []) (lawful_more start r.session p r.lawful a.right) begins most in
    omega (arith, all, output_longer r.session p text a.told)

-- where a run may stop for memory, it may for what follows
pub stops_so : (A B : Session → List ℕ → Type 0) (limit : ℕ) (source sink : Stream) → ((session : Session) (bytes : List ℕ) → IsLawful session → length session < limit → A session bytes → B session bytes) → StopsForMemory A limit source sink → StopsForMemory B limit source sink
stops_so A B limit source sink f (inl unstarted) = inl unstarted
stops_so A B limit source sink f (inr w) = inr (record {
  session = w.session;
  lawful = w.lawful;
  few = w.few;
  output = w.output;
  line = w.line;
  next = w.next;
  wants = f w.session w.line w.lawful w.few w.wants;
})
