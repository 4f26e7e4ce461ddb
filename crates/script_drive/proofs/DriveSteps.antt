-- Runs of a driver that go on, a line at a time.
use Rattle.std.proofs.Common.{◌≡◌, ℕ, ◌+◌, ◌-◌, ◌<◌, ◌≤◌, Bool, false, List, [], ◌∷◌, ◌++◌, length, arith, refl, sym, ap, subst, ◌∙◌, append_assoc, inl, inr, Option, Some, None}
use Rattle.std.specs.List.{AllByRecursion}
use Rattle.std.specs.Io.KnownBytes.{Appends, Keeps, prepend_known}
use Rattle.std.proofs.KnownBytes.{Appends-trans, Appends-nil}
use Rattle.std.proofs.lemmas.List.{append-nil, length-append}
use Rattle.board_model.specs.Lines.{IsOneLine, lines_of, TakesLine}
use Rattle.script_loop.specs.WholeLines.{LosesLine, with_newlines}
use Rattle.script_loop.proofs.LineLemmas.{takes_line}
use Rattle.script_loop.proofs.Pieces.{more_gone, none_gone}
use Rattle.script_exchanges.specs.declared.line.Drive.{Drive}
use Rattle.script_exchanges.specs.DriveGrammar.{SpellsDrive}
use Rattle.script_drive.specs.DriveRuns.{FitsInto, HasWholeLines}
use Rattle.script_drive.specs.Drivers.{HasRun, HasTold, StandsFor}
use Rattle.script_exchanges.specs.Exchanges.{Answered, BeginsWith, Exchange, Exchanges, SpellsAll, output_of, text_of}

-- ---- one exchange more

pub spells_more : (d : Drive) (ls : List (List ℕ)) (xs : Exchanges) (b : List ℕ) (x : Exchange) → SpellsAll d ls xs → SpellsDrive d b x.0 → SpellsAll d (ls ++ b ∷ []) (xs ++ x ∷ [])
spells_more d [] [] b x h s = (s, tt)
spells_more d (l ∷ ls) (y ∷ ys) b x h s = (h.0, spells_more d ls ys b x h.1 s)
spells_more d [] (y ∷ ys) b x h s = absurd h
spells_more d (l ∷ ls) [] b x h s = absurd h

pub output_more : (xs : Exchanges) (x : Exchange) → output_of (xs ++ x ∷ []) ≡ output_of xs ++ text_of x.1
output_more [] x = append-nil (text_of x.1)
output_more (y ∷ ys) x = ap (λ (o : List ℕ). text_of y.1 ++ o) (output_more ys x) ∙ sym (append_assoc (text_of y.1) (output_of ys) (text_of x.1))

pub length_more : (xs : Exchanges) (x : Exchange) → length (xs ++ x ∷ []) ≡ length xs + 1
length_more xs x = length-append xs (x ∷ [])

pub answered_more : (d : Drive) (input left rest : Option (List ℕ)) (xs : Exchanges) (b : List ℕ) (x : Exchange) → Answered d input left xs → TakesLine left rest b → SpellsDrive d b x.0 → Answered d input rest (xs ++ x ∷ [])
answered_more d None left rest xs b x f t s = tt
answered_more d (Some i) None rest xs b x f t s = absurd f
answered_more d (Some i) (Some l) None xs b x f t s = absurd t
answered_more d (Some i) (Some l) (Some r) xs b x f t s = record {
  lines = f.lines ++ b ∷ [];
  all = f.all ∙ ap (λ (o : List (List ℕ)). f.lines ++ o) t ∙ sym (append_assoc f.lines (b ∷ []) (lines_of r));
  spelled = spells_more d f.lines xs b x f.spelled s;
}

-- ---- whole lines

all_more : (P : List ℕ → Type 0) (ls : List (List ℕ)) (b : List ℕ) → AllByRecursion P ls → P b → AllByRecursion P (ls ++ b ∷ [])
all_more P [] b h one = (one, tt)
all_more P (l ∷ ls) b h one = (h.0, all_more P ls b h.1 one)

newlines_more : (ls : List (List ℕ)) (b rest : List ℕ) → with_newlines (ls ++ b ∷ []) ++ rest ≡ with_newlines ls ++ (b ++ 10 ∷ rest)
newlines_more [] b rest = ap (λ (x : List ℕ). x ++ rest) (append-nil (b ++ 10 ∷ [])) ∙ append_assoc b (10 ∷ []) rest
newlines_more (l ∷ ls) b rest =
    append_assoc (l ++ 10 ∷ []) (with_newlines (ls ++ b ∷ [])) rest ∙ ap (λ (x : List ℕ). (l ++ 10 ∷ []) ++ x) (newlines_more ls b rest)
    ∙ sym (append_assoc (l ++ 10 ∷ []) (with_newlines ls) (b ++ 10 ∷ rest))

-- one more line was read with its newline
pub whole_more : (d : Drive) (input left rest : Option (List ℕ)) (xs : Exchanges) (b : List ℕ) (x : Exchange) → HasWholeLines d input left xs → LosesLine false left rest b → IsOneLine b → SpellsDrive d b x.0 → HasWholeLines d input rest (xs ++ x ∷ [])
whole_more d None left rest xs b x f t one s = tt
whole_more d (Some i) None rest xs b x f t one s = absurd f
whole_more d (Some i) (Some l) None xs b x f t one s = absurd t
whole_more d (Some i) (Some l) (Some r) xs b x f (inl e) one s = record {
  lines = f.lines ++ b ∷ [];
  bytes = f.bytes ∙ ap (λ (o : List ℕ). with_newlines f.lines ++ o) e ∙ sym (newlines_more f.lines b r);
  whole = all_more IsOneLine f.lines b f.whole one;
  spelled = spells_more d f.lines xs b x f.spelled s;
}
whole_more d (Some i) (Some l) (Some r) xs b x f (inr last) one s = let told = last.told in absurd cc

pub whole_kept : (d : Drive) (input left now : Option (List ℕ)) (xs : Exchanges) → HasWholeLines d input left xs → Keeps left now → HasWholeLines d input now xs
whole_kept d None left now xs f k = tt
whole_kept d (Some i) None now xs f k = absurd f
whole_kept d (Some i) (Some l) None xs f k = absurd k
whole_kept d (Some i) (Some l) (Some n) xs f k = subst (λ (o : List ℕ). HasWholeLines d (Some i) (Some o) xs) (sym k) f

-- ---- runs

pub begins : (d : Drive) (input left : Option (List ℕ)) (xs : Exchanges) → Answered d input left xs → BeginsWith d input xs
begins d None left xs f = tt
begins d (Some i) None xs f = absurd f
begins d (Some i) (Some l) xs f = (lines_of l, f)

-- how far a run has come; while the source's end isn't told each line stood with its newline, and the sink takes what is left of its room
pub record HasRunOn {M : Type 0} (d : Drive) (Lawful : Exchanges → Type 0) (stands : M → Exchanges → Type 0) (m : M) (count : ℕ) (ended : Bool) (input left before held : Option (List ℕ)) (takes taken : ℕ → Type 0) : Type 0 where
  pub run : HasRun d Lawful stands m count input left before held
  pub whole : ended ≡ false → HasWholeLines d input left run.exchanges
  pub room : (n : ℕ) → takes n → length (output_of run.exchanges) ≤ n → taken (n - length (output_of run.exchanges))

pub starts_on : {M : Type 0} (d : Drive) (Lawful : Exchanges → Type 0) (stands : M → Exchanges → Type 0) (m : M) (ended : Bool) (input before : Option (List ℕ)) (takes : ℕ → Type 0) (hand : List ℕ) → hand ≡ [] → Lawful [] → stands m [] → HasRunOn d Lawful stands m 0 ended input (prepend_known hand input) before before takes takes
starts_on d Lawful stands m ended None before takes hand e ok h = record {
  run = record { exchanges = []; lawful = ok; state = h; counted = refl; answered = tt; output = Appends-nil before };
  whole = λ unended. tt;
  room = λ n t le. none_gone takes n t;
}
starts_on d Lawful stands m ended (Some i) before takes hand e ok h =
    let same : hand ++ i ≡ i = rw e refl in record {
      run = record { exchanges = []; lawful = ok; state = h; counted = refl; answered = record { lines = []; all = sym (ap lines_of same); spelled = tt }; output = Appends-nil before };
      whole = λ unended. record { lines = []; bytes = sym same; whole = tt; spelled = tt };
      room = λ n t le. none_gone takes n t;
    }

-- the driver of a run that is not long stands for its exchanges
pub stands_for : {M : Type 0} (d : Drive) (Lawful : Exchanges → Type 0) (stands : M → Exchanges → Type 0) (m : M) (count limit : ℕ) (input left before held : Option (List ℕ)) → count < limit → limit < 4294967296 → (r : HasRun d Lawful stands m count input left before held) → StandsFor Lawful stands m r.exchanges
stands_for d Lawful stands m count limit input left before held lt few r = record { lawful = r.lawful; few = omega (arith, r.counted, lt, few); state = r.state }

-- what is told is longer by what is told of the line
output_longer : (xs : Exchanges) (x : Exchange) (text : List ℕ) → text ≡ text_of x.1 → length (output_of (xs ++ x ∷ [])) ≡ length (output_of xs) + length text
output_longer xs x text told =
    ap length (output_more xs x) ∙ length-append (output_of xs) (text_of x.1) ∙ ap (λ (t : List ℕ). length (output_of xs) + length t) (sym told)

pub goes_on : {M : Type 0} (d : Drive) (Lawful : Exchanges → Type 0) (stands : M → Exchanges → Type 0) (m new : M) (count : ℕ) (was ended : Bool) (input left rest before held now : Option (List ℕ)) (takes taken later : ℕ → Type 0) (b text : List ℕ) → (r : HasRunOn d Lawful stands m count was input left before held takes taken) → (ended ≡ false → was ≡ false) → LosesLine ended left rest b → IsOneLine b → HasTold d Lawful stands new r.run.exchanges b text → Appends held now text → ((n : ℕ) → taken n → length text ≤ n → later (n - length text)) → HasRunOn d Lawful stands new (count + 1) ended input rest before now takes later
goes_on d Lawful stands m new count was ended input left rest before held now takes taken later b text r unended t one a w more =
    let xs : Exchanges = r.run.exchanges in
    let x : Exchange = (a.line, a.is.told) in
    let w2 : Appends held now (text_of a.is.told) = subst (Appends held now) a.is.text_is w in
    let both : length (output_of (xs ++ x ∷ [])) ≡ length (output_of xs) + length text = output_longer xs x text a.is.text_is in
    let run : HasRun d Lawful stands new (count + 1) input rest before now = record {
      exchanges = xs ++ x ∷ [];
      lawful = a.is.lawful;
      state = a.is.state;
      counted = length_more xs x ∙ ap (λ k. k + 1) r.run.counted;
      answered = answered_more d input left rest xs b x r.run.answered (takes_line ended left rest b one t) a.spelled;
      output = subst (Appends before now) (sym (output_more xs x)) (Appends-trans before held now (output_of xs) (text_of a.is.told) r.run.output w2);
    } in
    record {
      run = run;
      whole = λ e. whole_more d input left rest xs b x (r.whole (unended e)) (subst (λ (v : Bool). LosesLine v left rest b) e t) one a.spelled;
      room = λ n tk le.
          let first : taken (n - length (output_of xs)) = r.room n tk (omega (arith, both, le)) in
          let behind : later (n - length (output_of xs) - length text) = more (n - length (output_of xs)) first (omega (arith, both, le)) in
          subst (λ (k : ℕ). later (n - k)) (sym both) (more_gone later n (length (output_of xs)) (length text) behind);
    }

-- the room has place for what is told of one more line
pub fits_one_more : {M : Type 0} (d : Drive) (Lawful : Exchanges → Type 0) (stands : M → Exchanges → Type 0) (m new : M) (count limit : ℕ) (input left rest before held : Option (List ℕ)) (b text : List ℕ) (room : ℕ) → (r : HasRun d Lawful stands m count input left before held) → count < limit → TakesLine left rest b → HasTold d Lawful stands new r.exchanges b text → FitsInto d Lawful room limit input → length (output_of r.exchanges) + length text ≤ room
fits_one_more d Lawful stands m new count limit input left rest before held b text room r lt t a fits =
    let xs : Exchanges = r.exchanges in
    let x : Exchange = (a.line, a.is.told) in
    let first : BeginsWith d input (xs ++ x ∷ []) = begins d input rest (xs ++ x ∷ []) (answered_more d input left rest xs b x r.answered t a.spelled) in
    let most : length (xs ++ x ∷ []) ≤ limit = omega (arith, length_more xs x, r.counted, lt) in
    let all = fits (xs ++ x ∷ []) a.is.lawful first most in
    omega (arith, all, output_longer xs x text a.is.text_is)
