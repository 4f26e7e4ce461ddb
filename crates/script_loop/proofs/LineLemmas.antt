-- The lines of bytes, from the front.
use Rattle.std.proofs.Common.{add-one, drop-cons, take-append-drop, take, drop, get_or, ◌≡◌, ℕ, suc, ◌+◌, ◌<◌, ◌≤◌, Bool, true, false, cond, eqb, List, [], ◌∷◌, ◌++◌, length, arith, refl, sym, ap, subst, ◌∙◌, append_assoc, inl, inr, IsTrue, Option, Some, None}
use Rattle.std.specs.List.{slice_split, onto_first, AllByRecursion}
use Rattle.std.proofs.lemmas.List.{append-nil, drop_all, length-append, length-take, take_all}
use Rattle.std.proofs.lemmas.List.Splits.{slice_split_at, slice_split_none, slice_split-cons_no, length-slice_split}
use Rattle.std.proofs.lemmas.List.Elements.{recursion_from_All}
use Rattle.std.specs.Io.KnownBytes.{prepend_known, Keeps, IsAtEnd}
use Rattle.board_model.specs.Lines.{IsOneLine, lines_of, whole_parts, TakesLine}
use Rattle.script_loop.specs.Reader.{HasLongLine, IsShortLine}
use Rattle.script_loop.specs.WholeLines.{LosesLine}

abbrev is_newline : ℕ → Bool
is_newline b = eqb b 10

-- parts are never none
part_of : (bs : List ℕ) → 0 < length (slice_split is_newline bs)
part_of bs = omega (arith, length-slice_split is_newline bs)

whole_more : (l : List ℕ) (parts : List (List ℕ)) → 0 < length parts → whole_parts (l ∷ parts) ≡ l ∷ whole_parts parts
whole_more l [] lt = absurd (omega arith)
whole_more l (p ∷ ps) lt = refl

-- a line with its newline
pub lines_more : (l rest : List ℕ) → IsOneLine l → lines_of (l ++ 10 ∷ rest) ≡ l ∷ lines_of rest
lines_more l rest h = ap whole_parts (slice_split_at is_newline l 10 rest h refl) ∙ whole_more l (slice_split is_newline rest) (part_of rest)

not_empty : (l : List ℕ) → 0 < length l → whole_parts (l ∷ []) ≡ l ∷ []
not_empty [] lt = absurd (omega arith)
not_empty (x ∷ xs) lt = grind arith

-- the last line
pub lines_last : (l : List ℕ) → IsOneLine l → 0 < length l → lines_of l ≡ l ∷ []
lines_last l h lt = ap whole_parts (slice_split_none is_newline l h) ∙ not_empty l lt

-- bytes in front of the first part
abbrev onto : List ℕ → List (List ℕ) → List (List ℕ)
onto l [] = l ∷ []
onto l (p ∷ ps) = (l ++ p) ∷ ps

onto_more : (x : ℕ) (l : List ℕ) (parts : List (List ℕ)) → onto_first x (onto l parts) ≡ onto (x ∷ l) parts
onto_more x l [] = refl
onto_more x l (p ∷ ps) = refl

onto_none : (parts : List (List ℕ)) → 0 < length parts → onto [] parts ≡ parts
onto_none [] lt = absurd (omega arith)
onto_none (p ∷ ps) lt = refl

split_onto : (l rest : List ℕ) → AllByRecursion (λ b. eqb b 10 ≡ false) l → slice_split is_newline (l ++ rest) ≡ onto l (slice_split is_newline rest)
split_onto [] rest h = sym (onto_none (slice_split is_newline rest) (part_of rest))
split_onto (x ∷ l) rest h = slice_split-cons_no is_newline x (l ++ rest) h.0 ∙ ap (onto_first x) (split_onto l rest h.1) ∙ onto_more x l (slice_split is_newline rest)

-- the first line of these parts has at least the bytes of l
abbrev Begins : List ℕ → List (List ℕ) → Type 0
Begins l lines = (x : List ℕ) × (more : List (List ℕ)) × (lines ≡ x ∷ more) × (length l ≤ length x)

begins : (l : List ℕ) (parts : List (List ℕ)) → 0 < length l → Begins l (whole_parts (onto l parts))
begins l [] lt = (l, [], not_empty l lt, omega arith)
begins l (p ∷ []) lt = (l ++ p, [], not_empty (l ++ p) (omega (arith, length-append l p)), omega (arith, length-append l p))
begins l (p ∷ q ∷ ps) lt = (l ++ p, whole_parts (q ∷ ps), refl, omega (arith, length-append l p))

pub long_line : (l rest : List ℕ) → IsOneLine l → 4096 < length l → HasLongLine (Some (l ++ rest))
long_line l rest h lt =
    let b = subst (λ (ps : List (List ℕ)). Begins l (whole_parts ps)) (sym (split_onto l rest (recursion_from_All (λ b. eqb b 10 ≡ false) l h))) (begins l (slice_split is_newline rest) (omega arith)) in
    rw b.2 (omega (arith, b.3))

-- a line with its newline was in hand
took_line : (ended : Bool) (s left : Option (List ℕ)) (hand line rest : List ℕ) → Keeps s (prepend_known hand left) → hand ≡ line ++ 10 ∷ rest → LosesLine ended s (prepend_known rest left) line
took_line ended None left hand line rest k e = tt
took_line ended (Some bs) None hand line rest k e = absurd k
took_line ended (Some bs) (Some ys) hand line rest k e = inl (sym k ∙ ap (λ (x : List ℕ). x ++ ys) e ∙ append_assoc line (10 ∷ rest) ys)

-- more than 4096 bytes without a newline were in hand
pub is_long : (s left : Option (List ℕ)) (hand : List ℕ) → Keeps s (prepend_known hand left) → IsOneLine hand → 4096 < length hand → HasLongLine s
is_long None left hand k h lt = tt
is_long (Some bs) None hand k h lt = absurd k
is_long (Some bs) (Some ys) hand k h lt = subst (λ (b : List ℕ). HasLongLine (Some b)) k (long_line hand ys h lt)

-- what was in hand when the source had ended
took_last : (ended : Bool) (s left : Option (List ℕ)) (hand : List ℕ) → IsTrue ended → Keeps s (prepend_known hand left) → IsAtEnd left → 0 < length hand → LosesLine ended s (prepend_known [] left) hand
took_last ended None left hand told k e lt = tt
took_last ended (Some bs) None hand told k e lt = absurd k
took_last ended (Some bs) (Some ys) hand told k e lt = inr (record {
  told = told;
  some = lt;
  all = sym k ∙ ap (λ (x : List ℕ). hand ++ x) e ∙ append-nil hand;
  none = e;
})

-- a line that is lost is the first of the lines
pub takes_line : (ended : Bool) (s rest : Option (List ℕ)) (line : List ℕ) → IsOneLine line → LosesLine ended s rest line → TakesLine s rest line
takes_line ended None rest line one t = tt
takes_line ended (Some bs) None line one t = absurd t
takes_line ended (Some bs) (Some ys) line one (inl e) = ap lines_of e ∙ lines_more line ys one
takes_line ended (Some bs) (Some ys) line one (inr l) = ap lines_of l.all ∙ lines_last line one l.some ∙ ap (λ (x : List ℕ). line ∷ lines_of x) (sym l.none)

-- nothing is left where nothing is in hand and the source is at its end
pub none_left : (s left : Option (List ℕ)) (hand : List ℕ) → Keeps s (prepend_known hand left) → IsAtEnd left → length hand ≡ 0 → IsAtEnd s
none_left None left hand k e z = tt
none_left (Some bs) None hand k e z = absurd k
none_left (Some bs) (Some ys) [] k e z = sym k ∙ e
none_left (Some bs) (Some ys) (x ∷ hand) k e z = absurd (omega arith)

-- ---- bytes have a line

more_than_one : (p : List ℕ) (ps : List (List ℕ)) → 0 < length ps → 0 < length (whole_parts (p ∷ ps))
more_than_one p [] lt = absurd (omega arith)
more_than_one p (q ∷ qs) lt = omega arith

first_not_empty : (b : ℕ) (parts : List (List ℕ)) → 0 < length parts → 0 < length (whole_parts (onto_first b parts))
first_not_empty b [] lt = absurd (omega arith)
first_not_empty b (p ∷ []) lt = rw (not_empty (b ∷ p) (omega arith)) (omega arith)
first_not_empty b (p ∷ q ∷ qs) lt = omega arith

either_way : (b : ℕ) (bs : List ℕ) (v : Bool) → 0 < length (whole_parts (cond v ([] ∷ slice_split is_newline bs) (onto_first b (slice_split is_newline bs))))
either_way b bs true = more_than_one [] (slice_split is_newline bs) (part_of bs)
either_way b bs false = first_not_empty b (slice_split is_newline bs) (part_of bs)

pub some_lines : (bs : List ℕ) → 0 < length bs → 0 < length (lines_of bs)
some_lines [] lt = absurd (omega arith)
some_lines (b ∷ bs) lt = either_way b bs (is_newline b)

-- ---- as a reader gives them out

parts_at : (c : ℕ) (xs : List ℕ) (i : ℕ) → i < length xs → get_or xs i 0 ≡ c → xs ≡ take i xs ++ c ∷ drop (i + 1) xs
parts_at c xs i lt e =
    let d : drop i xs ≡ c ∷ drop (i + 1) xs = rw (add-one, drop-cons xs i 0) (ap (λ (x : ℕ). x ∷ drop (suc i) xs) e) in
    sym (take-append-drop i xs) ∙ ap (λ (t : List ℕ). take i xs ++ t) d

-- the bytes before a newline are the line, and the rest stands behind it
pub gave_line : (ended : Bool) (s left : Option (List ℕ)) (hand line rest : List ℕ) (at : ℕ) → Keeps s (prepend_known hand left) → at < length hand → get_or hand at 0 ≡ 10 → line ≡ take at hand → rest ≡ drop (at + 1) hand → LosesLine ended s (prepend_known rest left) line
gave_line ended s left hand line rest at k lt newline is behind =
    took_line ended s left hand line rest k (parts_at 10 hand at lt newline ∙ rw (is, behind) refl)

pub gave_last : (ended : Bool) (s left : Option (List ℕ)) (hand line rest : List ℕ) (n : ℕ) → IsTrue ended → Keeps s (prepend_known hand left) → IsAtEnd left → n ≡ length hand → 0 < n → line ≡ take n hand → rest ≡ drop (n + 0) hand → LosesLine ended s (prepend_known rest left) line
gave_last ended s left hand line rest n told k e whole some is behind =
    let line_is : line ≡ hand = is ∙ take_all n hand (omega (arith, whole)) in
    let rest_is : rest ≡ [] = behind ∙ drop_all (n + 0) hand (omega (arith, whole)) in
    rw (line_is, rest_is) (took_last ended s left hand told k e (omega (arith, whole, some)))

-- ---- what is given out is short, and the hand isn't full behind it

pub short_line : (hand line : List ℕ) (at : ℕ) → at ≤ 4096 → IsOneLine (take at hand) → line ≡ take at hand → IsShortLine line
short_line hand line at most one is =
    (subst IsOneLine (sym is) one, omega (arith, ap length is, length-take at hand, most))

pub short_last : (hand line : List ℕ) (n : ℕ) → n ≤ 4096 → IsOneLine hand → n ≡ length hand → line ≡ take n hand → IsShortLine line
short_last hand line n most one whole is = short_line hand line n most (subst IsOneLine (sym (take_all n hand (omega (arith, whole)))) one) is
