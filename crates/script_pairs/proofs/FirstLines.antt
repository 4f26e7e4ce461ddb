-- The first line of bytes, where its beginning is known.
use Rattle.std.proofs.Common.{◌≡◌, ℕ, zero, suc, ◌<◌, ◌≤◌, Bool, true, false, List, [], ◌∷◌, ◌++◌, length, arith, refl, sym, ap, subst, ◌∙◌, append_assoc, eqb, Option, Some, None}
use Rattle.std.specs.Io.KnownBytes.{IsAtEnd, Keeps, prepend_known}
use Rattle.std.proofs.lemmas.List.{append-nil, length-append}
use Rattle.std.proofs.lemmas.List.Elements.{All-append, All-push}
use Rattle.std.proofs.lemmas.Bool.{eqb-true}
use Rattle.board_model.specs.Lines.{IsOneLine, TakesLine, lines_of}
use Rattle.script_loop.proofs.LineLemmas.{lines_last, lines_more}
use Rattle.script_pairs.specs.declared.pair_lines.Found.{Found}
use Rattle.script_pairs.specs.declared.pair_lines.Found.TheVariants.{Line, End}
use Rattle.script_pairs.specs.PairLines.{HasLonger, IsFound, IsLonger, TakesAll, TakesPart, TakesWhole}

-- the first line begins with these bytes
record BeginsLine (l bytes : List ℕ) : Type 0 where
  line : List ℕ
  more : List (List ℕ)
  lines : lines_of bytes ≡ line ∷ more
  at_least : length l ≤ length line

first_line : (l rest : List ℕ) → IsOneLine l → 0 < length l → BeginsLine l (l ++ rest)
first_line l [] h lt = record { line = l; more = []; lines = ap lines_of (append-nil l) ∙ lines_last l h lt; at_least = omega arith }
first_line l (b ∷ rest) h lt = at (eqb b 10) refl (λ h' lt'. first_line (l ++ b ∷ []) rest h' lt')
  where
    longer : BeginsLine (l ++ b ∷ []) ((l ++ b ∷ []) ++ rest) → BeginsLine l (l ++ b ∷ rest)
    longer k = record { line = k.line; more = k.more; lines = ap lines_of (sym (append_assoc l (b ∷ []) rest)) ∙ k.lines; at_least = omega (arith, k.at_least, length-append l (b ∷ [])) }

    at : (v : Bool) → eqb b 10 ≡ v → (IsOneLine (l ++ b ∷ []) → 0 < length (l ++ b ∷ []) → BeginsLine (l ++ b ∷ []) ((l ++ b ∷ []) ++ rest)) → BeginsLine l (l ++ b ∷ rest)
    at true e go = record { line = l; more = lines_of rest; lines = ap (λ (c : ℕ). lines_of (l ++ c ∷ rest)) (eqb-true b 10 e) ∙ lines_more l rest h; at_least = omega arith }
    at false e go = longer (go (All-push (λ c. eqb c 10 ≡ false) l b h e) (omega (arith, length-append l (b ∷ []))))

-- more than so many bytes without a newline
pub is_longer : (most : ℕ) (l rest : List ℕ) → IsOneLine l → most < length l → IsLonger most (l ++ rest)
is_longer most l rest h lt =
    let f = first_line l rest h (omega arith) in
    record { line = f.line; more = f.more; lines = f.lines; long = omega (arith, f.at_least, lt) }

-- ---- a line that grows by parts

one_both : (line part : List ℕ) → IsOneLine line → IsOneLine part → IsOneLine (line ++ part)
one_both line part h k = All-append (λ b. eqb b 10 ≡ false) line part h k

-- nothing is in front yet
pub none_before : (o : Option (List ℕ)) → Keeps o (prepend_known [] o)
none_before None = tt
none_before (Some bs) = refl

-- more came into hand behind the line so far
pub more_behind : (old left later : Option (List ℕ)) (line hand more : List ℕ) → Keeps old (prepend_known line (prepend_known hand left)) → Keeps (prepend_known hand left) (prepend_known more later) → Keeps old (prepend_known line (prepend_known more later))
more_behind None left later line hand more k m = tt
more_behind (Some bs) None later line hand more k m = absurd k
more_behind (Some bs) (Some ls) None line hand more k m = absurd m
more_behind (Some bs) (Some ls) (Some ns) line hand more k m = ap (λ (x : List ℕ). line ++ x) m ∙ k

module _ (most : ℕ) (line hand rest longer : List ℕ) (one : IsOneLine line) where
  -- the bytes are the longer line and what is behind it
  whole_is : (bs ys : List ℕ) → line ++ (hand ++ ys) ≡ bs → (t : TakesWhole hand rest line longer) → bs ≡ longer ++ 10 ∷ (rest ++ ys)
  whole_is bs ys k t =
      sym k
      ∙ ap (λ (x : List ℕ). line ++ (x ++ ys)) t.hand_is
      ∙ ap (λ (x : List ℕ). line ++ x) (append_assoc t.part (10 ∷ rest) ys)
      ∙ sym (append_assoc line t.part (10 ∷ (rest ++ ys)))
      ∙ ap (λ (x : List ℕ). x ++ 10 ∷ (rest ++ ys)) (sym t.line_is)

  all_is : (bs ys : List ℕ) → line ++ (hand ++ ys) ≡ bs → (t : TakesAll hand rest line longer) → bs ≡ longer ++ ys
  all_is bs ys k t = sym k ∙ sym (append_assoc line hand ys) ∙ ap (λ (x : List ℕ). x ++ ys) (sym t.line_is)

  pub one_whole : TakesWhole hand rest line longer → IsOneLine longer
  one_whole t = subst IsOneLine (sym t.line_is) (one_both line t.part one t.one)

  pub one_all : TakesAll hand rest line longer → IsOneLine longer
  one_all t = subst IsOneLine (sym t.line_is) (one_both line hand one t.one)

  -- the line is whole
  pub line_found : (old left : Option (List ℕ)) → Keeps old (prepend_known line (prepend_known hand left)) → TakesWhole hand rest line longer → TakesLine old (prepend_known rest left) longer
  line_found None left k t = tt
  line_found (Some bs) None k t = absurd k
  line_found (Some bs) (Some ys) k t = ap lines_of (whole_is bs ys k t) ∙ lines_more longer (rest ++ ys) (one_whole t)

  -- the line is too long already
  pub long_found : (whole : Bool) (old left : Option (List ℕ)) → Keeps old (prepend_known line (prepend_known hand left)) → TakesPart whole hand rest line longer → most < length longer → HasLonger most old
  long_found whole None left k t lt = tt
  long_found whole (Some bs) None k t lt = absurd k
  long_found true (Some bs) (Some ys) k t lt = subst (λ (b : List ℕ). IsLonger most b) (sym (whole_is bs ys k t)) (is_longer most longer (10 ∷ (rest ++ ys)) (one_whole t) lt)
  long_found false (Some bs) (Some ys) k t lt = subst (λ (b : List ℕ). IsLonger most b) (sym (all_is bs ys k t)) (is_longer most longer ys (one_all t) lt)

  -- it goes on
  pub goes_behind : (old left : Option (List ℕ)) → Keeps old (prepend_known line (prepend_known hand left)) → TakesAll hand rest line longer → Keeps old (prepend_known longer (prepend_known rest left))
  goes_behind None left k t = tt
  goes_behind (Some bs) None k t = absurd k
  goes_behind (Some bs) (Some ys) k t = ap (λ (x : List ℕ). longer ++ (x ++ ys)) t.none ∙ sym (all_is bs ys k t)

  pub grows : TakesAll hand rest line longer → 0 < length hand → length line < length longer
  grows t lt = omega (arith, ap length t.line_is, length-append line hand, lt)

  -- nothing is left behind it
  last_line : (old left : Option (List ℕ)) → Keeps old (prepend_known line (prepend_known hand left)) → TakesAll hand rest line longer → IsAtEnd left → 0 < length longer → TakesLine old (prepend_known rest left) longer
  last_line None left k t e lt = tt
  last_line (Some bs) None k t e lt = absurd k
  last_line (Some bs) (Some ys) k t e lt =
      let none : rest ++ ys ≡ [] = rw (t.none, e) refl in
      let all : bs ≡ longer = all_is bs ys k t ∙ ap (λ (x : List ℕ). longer ++ x) e ∙ append-nil longer in
      ap lines_of all ∙ lines_last longer (one_all t) lt ∙ ap (λ (x : List ℕ). longer ∷ lines_of x) (sym none)

  no_line : (old left : Option (List ℕ)) → Keeps old (prepend_known line (prepend_known hand left)) → TakesAll hand rest line longer → IsAtEnd left → length longer ≡ 0 → IsAtEnd old
  no_line None left k t e z = tt
  no_line (Some bs) None k t e z = absurd k
  no_line (Some bs) (Some ys) k t e z = all_is bs ys k t ∙ ap (λ (x : List ℕ). longer ++ x) e ∙ append-nil longer ∙ empty longer z
    where
      empty : (x : List ℕ) → length x ≡ 0 → x ≡ []
      empty [] h = refl
      empty (y ∷ ys) h = absurd (omega arith)

  pub last_found : (found : Found) (old left : Option (List ℕ)) → Keeps old (prepend_known line (prepend_known hand left)) → TakesAll hand rest line longer → IsAtEnd left → length longer ≤ most → (0 < length longer → found ≡ Line) → (length longer ≡ 0 → found ≡ End) → IsFound found most longer old (prepend_known rest left)
  last_found found old left k t e le is_line is_end = at (length longer) refl
    where
      at : (n : ℕ) → length longer ≡ n → IsFound found most longer old (prepend_known rest left)
      at zero z = subst (λ (f : Found). IsFound f most longer old (prepend_known rest left)) (sym (is_end z)) (no_line old left k t e z)
      at (suc n) z = subst (λ (f : Found). IsFound f most longer old (prepend_known rest left)) (sym (is_line (omega (arith, z)))) (last_line old left k t e (omega (arith, z)), le)
