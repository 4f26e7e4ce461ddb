-- Runs of a driver that end, and what they come to.
use Rattle.std.proofs.Common.{◌≡◌, ℕ, suc, ◌+◌, ◌<◌, ◌≤◌, Bool, false, List, [], ◌∷◌, ◌++◌, length, take, arith, refl, sym, ap, subst, ◌∙◌, Option, Some, None}
use Rattle.std.specs.Prelude.{◌≢◌, IfErr, IsSomeAnd, Result, Ok, Err, slice_get}
use Rattle.script_loop.specs.declared.error.ScriptError.{ScriptError}
use Rattle.std.specs.List.{AllByRecursion}
use Rattle.std.specs.Io.KnownBytes.{Appends, IsAtEnd, Keeps, prepend_known}
use Rattle.std.proofs.KnownBytes.{Appends-trans, Appends-nil}
use Rattle.std.proofs.lemmas.List.{append-nil, length-append}
use Rattle.std.proofs.Math.Seq.{take-append-add}
use Rattle.board_model.specs.Lines.{lines_of, TakesLine}
use Rattle.script_loop.specs.declared.error.ScriptError.TheVariants.{ReadFault, WriteFault, BadLine, TooLong, OutOfMemory}
use Rattle.script_loop.specs.Reader.{HasLongLine, IsShortLine}
use Rattle.script_loop.specs.Runs.{CountStays, CountsOn, HasFailedOnce, Stream}
use Rattle.script_loop.proofs.CompleteLemmas.{has_failed}
use Rattle.script_exchanges.specs.declared.line.Drive.{Drive}
use Rattle.script_exchanges.specs.declared.line.DriveLine.{DriveLine}
use Rattle.script_exchanges.specs.DriveGrammar.{SpellsDrive, SpellsNoDrive}
use Rattle.script_drive.specs.DriveRuns.{DriveRuns, HasNextLine, IsBadAt, IsPast, IsReadCut, IsRunOf, IsSpent, IsWanting, IsWriteCut, StopsForMemory}
use Rattle.script_drive.specs.Drivers.{HasRun, HasTold, SpellsSomeDrive}
use Rattle.script_exchanges.specs.Exchanges.{Answered, AreLinesOf, BeginsWith, Exchange, Exchanges, FollowedBy, GoesOnAfter, IsDriveScript, LeavesGrammarAfter, SpellsAll, output_of, text_of}
use Rattle.script_drive.proofs.DriveSteps.{HasRunOn, answered_more, begins, length_more, output_more, whole_kept}

-- ---- where the input is known, what is left says what follows

are_all : (d : Drive) (input left : Option (List ℕ)) (xs : Exchanges) → Answered d input left xs → IsAtEnd left → AreLinesOf d input xs
are_all d None left xs f e = tt
are_all d (Some i) None xs f e = absurd f
are_all d (Some i) (Some l) xs f e =
    let none : lines_of l ≡ [] = rw e refl in
    let all : lines_of i ≡ f.lines = f.all ∙ rw none (append-nil f.lines) in
    subst (λ (o : List (List ℕ)). SpellsAll d o xs) (sym all) f.spelled

goes_past : (d : Drive) (input left rest : Option (List ℕ)) (xs : Exchanges) (b : List ℕ) → Answered d input left xs → TakesLine left rest b → GoesOnAfter d input xs
goes_past d None left rest xs b f t = tt
goes_past d (Some i) None rest xs b f t = absurd f
goes_past d (Some i) (Some l) None xs b f t = absurd t
goes_past d (Some i) (Some l) (Some r) xs b f t = (b, lines_of r, subst (FollowedBy d i xs) t f)

leaves : (d : Drive) (input left rest : Option (List ℕ)) (xs : Exchanges) (b : List ℕ) → Answered d input left xs → TakesLine left rest b → SpellsNoDrive d b → LeavesGrammarAfter d input xs
leaves d None left rest xs b f t none = tt
leaves d (Some i) None rest xs b f t none = absurd f
leaves d (Some i) (Some l) None xs b f t none = absurd t
leaves d (Some i) (Some l) (Some r) xs b f t none = (b, lines_of r, subst (FollowedBy d i xs) t f, none)

next_line : (d : Drive) (input left rest : Option (List ℕ)) (xs : Exchanges) (b : List ℕ) → Answered d input left xs → TakesLine left rest b → HasNextLine d input xs b
next_line d None left rest xs b f t = tt
next_line d (Some i) None rest xs b f t = absurd f
next_line d (Some i) (Some l) None xs b f t = absurd t
next_line d (Some i) (Some l) (Some r) xs b f t = (lines_of r, subst (FollowedBy d i xs) t f)

-- a first line that is too long

record FirstIsLong (ls : List (List ℕ)) : Type 0 where
  first : List ℕ
  more : List (List ℕ)
  are : ls ≡ first ∷ more
  long : 4096 < length first

first_long : (ls : List (List ℕ)) → IsSomeAnd (slice_get ls 0) (λ line. 4096 < length line) → FirstIsLong ls
first_long [] h = absurd h
first_long (x ∷ more) h = record { first = x; more = more; are = refl; long = h }

too_long : (d : Drive) (b : List ℕ) → 4096 < length b → SpellsNoDrive d b
too_long d b lt = λ l s. omega (arith, s.short, lt)

leaves_long : (d : Drive) (input left : Option (List ℕ)) (xs : Exchanges) → Answered d input left xs → HasLongLine left → LeavesGrammarAfter d input xs
leaves_long d None left xs f h = tt
leaves_long d (Some i) None xs f h = absurd f
leaves_long d (Some i) (Some l) xs f h =
    let g = first_long (lines_of l) h in
    (g.first, g.more, subst (FollowedBy d i xs) g.are f, too_long d g.first g.long)

past_long : (d : Drive) (input left : Option (List ℕ)) (xs : Exchanges) → Answered d input left xs → HasLongLine left → GoesOnAfter d input xs
past_long d None left xs f h = tt
past_long d (Some i) None xs f h = absurd f
past_long d (Some i) (Some l) xs f h =
    let g = first_long (lines_of l) h in
    (g.first, g.more, subst (FollowedBy d i xs) g.are f)

-- ---- what a run comes to

module _ {M : Type 0} (d : Drive) (Lawful : Exchanges → Type 0) (stands : M → Exchanges → Type 0) (m : M) (count limit : ℕ) (source sink : Stream) (left : Option (List ℕ)) (r : HasRun d Lawful stands m count source.before left sink.before sink.after) where
  pub ends : count ≤ limit → IsAtEnd left → IsRunOf d Lawful limit source sink
  ends few e = record {
    exchanges = r.exchanges;
    lawful = r.lawful;
    lines = are_all d source.before left r.exchanges r.answered e;
    few = omega (arith, r.counted, few);
    output = r.output;
  }

  bad_so : count < limit → LeavesGrammarAfter d source.before r.exchanges → IsBadAt d Lawful (count + 1) limit source sink
  bad_so lt lines = record {
    exchanges = r.exchanges;
    lawful = r.lawful;
    lines = lines;
    number = ap (λ k. k + 1) (sym r.counted);
    allowed = omega (arith, lt);
    output = r.output;
  }

  pub bad_at : (rest : Option (List ℕ)) (b : List ℕ) → count < limit → TakesLine left rest b → SpellsNoDrive d b → IsBadAt d Lawful (count + 1) limit source sink
  bad_at rest b lt t none = bad_so lt (leaves d source.before left rest r.exchanges b r.answered t none)

  pub wanting : (rest : Option (List ℕ)) (b : List ℕ) → count < limit → TakesLine left rest b → SpellsSomeDrive d b → IsWanting d Lawful limit source sink
  wanting rest b lt t some = record {
    exchanges = r.exchanges;
    lawful = r.lawful;
    few = omega (arith, r.counted, lt);
    output = r.output;
    line = b;
    next = next_line d source.before left rest r.exchanges b r.answered t;
    spelled = some;
  }

  pub long_at : count < limit → HasLongLine left → IsBadAt d Lawful (count + 1) limit source sink
  long_at lt h = bad_so lt (leaves_long d source.before left r.exchanges r.answered h)

  past_so : count ≡ limit → GoesOnAfter d source.before r.exchanges → IsPast d Lawful limit source sink
  past_so all lines = record {
    exchanges = r.exchanges;
    lawful = r.lawful;
    lines = lines;
    full = r.counted ∙ all;
    output = r.output;
  }

  pub is_past : (rest : Option (List ℕ)) (b : List ℕ) → count ≡ limit → TakesLine left rest b → IsPast d Lawful limit source sink
  is_past rest b all t = past_so all (goes_past d source.before left rest r.exchanges b r.answered t)

  pub is_long_past : count ≡ limit → HasLongLine left → IsPast d Lawful limit source sink
  is_long_past all h = past_so all (past_long d source.before left r.exchanges r.answered h)

  pub is_spent : count ≤ limit → IsSpent d Lawful limit source sink
  is_spent few = record {
    exchanges = r.exchanges;
    lawful = r.lawful;
    lines = begins d source.before left r.exchanges r.answered;
    few = omega (arith, r.counted, few);
    output = r.output;
  }

-- nothing was run
none_yet : (d : Drive) (input : Option (List ℕ)) → BeginsWith d input []
none_yet d None = tt
none_yet d (Some i) = (lines_of i, record { lines = []; all = refl; spelled = tt })

pub spent_at_once : (d : Drive) (Lawful : Exchanges → Type 0) (limit : ℕ) (source sink : Stream) → Lawful [] → sink.after ≡ sink.before → IsSpent d Lawful limit source sink
spent_at_once d Lawful limit source sink ok same = record {
  exchanges = [];
  lawful = ok;
  lines = none_yet d source.before;
  few = omega arith;
  output = subst (λ (x : Option (List ℕ)). Appends sink.before x []) (sym same) (Appends-nil sink.before);
}

-- the source failed before its end was told
pub cut_short : {M : Type 0} (d : Drive) (Lawful : Exchanges → Type 0) (stands : M → Exchanges → Type 0) (m : M) (count limit : ℕ) (ended : Bool) (source sink : Stream) (left : Option (List ℕ)) (takes taken : ℕ → Type 0) (part : List ℕ) → (r : HasRunOn d Lawful stands m count ended source.before left sink.before sink.after takes taken) → ended ≡ false → count ≤ limit → Keeps left (prepend_known part source.after) → IsShortLine part → IsReadCut d Lawful limit source sink
cut_short d Lawful stands m count limit ended source sink left takes taken part r unended few k one = record {
  exchanges = r.run.exchanges;
  lawful = r.run.lawful;
  part = part;
  cut = one;
  lines = whole_kept d source.before left (prepend_known part source.after) r.run.exchanges (r.whole unended) k;
  few = omega (arith, r.run.counted, few);
  output = r.run.output;
}

pub write_cut : {M : Type 0} (d : Drive) (Lawful : Exchanges → Type 0) (stands : M → Exchanges → Type 0) (m new : M) (count limit : ℕ) (source sink : Stream) (left rest held : Option (List ℕ)) (b text : List ℕ) (n : ℕ) → (r : HasRun d Lawful stands m count source.before left sink.before held) → count < limit → TakesLine left rest b → HasTold d Lawful stands new r.exchanges b text → n < length text → Appends held sink.after (take n text) → IsWriteCut d Lawful limit source sink
write_cut d Lawful stands m new count limit source sink left rest held b text n r lt t a short w =
    let xs : Exchanges = r.exchanges in
    let x : Exchange = (a.line, a.is.told) in
    let w2 : Appends held sink.after (take n (text_of a.is.told)) = subst (λ (o : List ℕ). Appends held sink.after (take n o)) a.is.text_is w in
    let all : Appends sink.before sink.after (output_of xs ++ take n (text_of a.is.told)) = Appends-trans sink.before held sink.after (output_of xs) (take n (text_of a.is.told)) r.output w2 in
    let front : output_of xs ++ take n (text_of a.is.told) ≡ take (length (output_of xs) + n) (output_of (xs ++ x ∷ [])) =
    sym (take-append-add (output_of xs) (text_of a.is.told) n) ∙ ap (take (length (output_of xs) + n)) (sym (output_more xs x)) in
    record {
      exchanges = xs ++ x ∷ [];
      lawful = a.is.lawful;
      lines = begins d source.before rest (xs ++ x ∷ []) (answered_more d source.before left rest xs b x r.answered t a.spelled);
      few = omega (arith, length_more xs x, r.counted, lt);
      written = length (output_of xs) + n;
      cut = omega (arith, short, ap length a.is.text_is, ap length (output_more xs x), length-append (output_of xs) (text_of a.is.told));
      output = subst (Appends sink.before sink.after) front all;
    }

-- ---- a script of the grammar is neither outside it nor too long

abbrev IsSpelled : Drive → List ℕ → Type 0
IsSpelled d bytes = (l : DriveLine) × SpellsDrive d bytes l

spelled_behind : (d : Drive) (ls more : List (List ℕ)) (b : List ℕ) → AllByRecursion (IsSpelled d) (ls ++ b ∷ more) → IsSpelled d b
spelled_behind d [] more b h = h.0
spelled_behind d (l ∷ ls) more b h = spelled_behind d ls more b h.1

spells_length : (d : Drive) (ls : List (List ℕ)) (xs : Exchanges) → SpellsAll d ls xs → length ls ≡ length xs
spells_length d [] [] h = refl
spells_length d (l ∷ ls) (x ∷ xs) h = ap suc (spells_length d ls xs h.1)
spells_length d [] (x ∷ xs) h = absurd h
spells_length d (l ∷ ls) [] h = absurd h

not_outside : (d : Drive) (limit : ℕ) (input : Option (List ℕ)) (xs : Exchanges) → LeavesGrammarAfter d input xs → IsSomeAnd input (IsDriveScript d limit) → ⊥
not_outside d limit None xs l s = absurd s
not_outside d limit (Some i) xs l s =
    let f : FollowedBy d i xs (l.0 ∷ l.1) = l.2 in
    let w = spelled_behind d f.lines l.1 l.0 (subst (AllByRecursion (IsSpelled d)) f.all s.each) in
    l.3 w.0 w.1

not_more : (d : Drive) (limit : ℕ) (input : Option (List ℕ)) (xs : Exchanges) → GoesOnAfter d input xs → length xs ≡ limit → IsSomeAnd input (IsDriveScript d limit) → ⊥
not_more d limit None xs l full s = absurd s
not_more d limit (Some i) xs l full s =
    let f : FollowedBy d i xs (l.0 ∷ l.1) = l.2 in
    let all : length (lines_of i) ≡ length (f.lines ++ l.0 ∷ l.1) = ap (λ (o : List (List ℕ)). length o) f.all in
    omega (arith, all, length-append f.lines (l.0 ∷ l.1), spells_length d f.lines xs f.spelled, full, s.few)

-- ---- runs that end so

module _ (d : Drive) (Lawful : Exchanges → Type 0) (limit : ℕ) (source sink : Stream) where
  pub ran : CountStays source → CountStays sink → IsRunOf d Lawful limit source sink → IsAtEnd source.after → DriveRuns d Lawful limit source sink (Ok tt)
  ran reads writes run end = record { ok = run; end = end; err = tt; memory = λ e. absurd cc; complete = λ u. tt; read = λ e. absurd cc; write = λ e. absurd cc; read_told = λ n. reads; write_told = λ n. writes; read_later = omega (arith, reads); write_later = omega (arith, writes) }

  pub unread : CountsOn source → CountStays sink → IsReadCut d Lawful limit source sink → HasFailedOnce source → DriveRuns d Lawful limit source sink (Err ReadFault)
  unread reads writes cut fault = record { ok = tt; end = tt; err = cut; memory = λ e. absurd cc; complete = λ u. absurd (u.read (has_failed source fault)); read = λ e. fault; write = λ e. absurd cc; read_told = λ n. absurd (n refl); write_told = λ n. writes; read_later = reads; write_later = omega (arith, writes) }

  pub unwritten : CountStays source → CountsOn sink → IsWriteCut d Lawful limit source sink → HasFailedOnce sink → DriveRuns d Lawful limit source sink (Err WriteFault)
  unwritten reads writes cut fault = record { ok = tt; end = tt; err = cut; memory = λ e. absurd cc; complete = λ u. absurd (u.written (has_failed sink fault)); read = λ e. absurd cc; write = λ e. fault; read_told = λ n. reads; write_told = λ n. absurd (n refl); read_later = omega (arith, reads); write_later = writes }

  pub left_grammar : CountStays source → CountStays sink → (n : ℕ) → IsBadAt d Lawful n limit source sink → DriveRuns d Lawful limit source sink (Err (BadLine n))
  left_grammar reads writes n bad = record { ok = tt; end = tt; err = bad; memory = λ e. absurd cc; complete = λ u. absurd (not_outside d limit source.before bad.exchanges bad.lines u.script); read = λ e. absurd cc; write = λ e. absurd cc; read_told = λ n. reads; write_told = λ n. writes; read_later = omega (arith, reads); write_later = omega (arith, writes) }

  pub was_long : CountStays source → CountStays sink → IsPast d Lawful limit source sink → DriveRuns d Lawful limit source sink (Err TooLong)
  was_long reads writes past = record { ok = tt; end = tt; err = past; memory = λ e. absurd cc; complete = λ u. absurd (not_more d limit source.before past.exchanges past.lines past.full u.script); read = λ e. absurd cc; write = λ e. absurd cc; read_told = λ n. reads; write_told = λ n. writes; read_later = omega (arith, reads); write_later = omega (arith, writes) }

  pub gave_up : CountStays source → CountStays sink → IsSpent d Lawful limit source sink → StopsForMemory d Lawful limit source sink → DriveRuns d Lawful limit source sink (Err OutOfMemory)
  gave_up reads writes spent wants = record { ok = tt; end = tt; err = spent; memory = λ e. wants; complete = λ u. refl; read = λ e. absurd cc; write = λ e. absurd cc; read_told = λ n. reads; write_told = λ n. writes; read_later = omega (arith, reads); write_later = omega (arith, writes) }

  -- a known script is run to its end where neither a read nor a write failed
  pub complete : (result : Result (Unit {0}) ScriptError) → DriveRuns d Lawful limit source sink result → result ≢ Err ReadFault → result ≢ Err WriteFault → IsSomeAnd source.before (IsDriveScript d limit) → IfErr result (λ e. e ≡ OutOfMemory)
  complete (Ok x) runs read write script = tt
  complete (Err ReadFault) runs read write script = absurd (read refl)
  complete (Err WriteFault) runs read write script = absurd (write refl)
  complete (Err (BadLine n)) runs read write script = absurd (not_outside d limit source.before runs.err.exchanges runs.err.lines script)
  complete (Err TooLong) runs read write script = absurd (not_more d limit source.before runs.err.exchanges runs.err.lines runs.err.full script)
  complete (Err OutOfMemory) runs read write script = refl
