-- What a get has read.
use Rattle.std.proofs.Common.{◌≡◌, ℕ, ◌+◌, ◌-◌, ◌*◌, ◌<◌, ◌≤◌, Bool, true, false, cond, List, [], ◌∷◌, ◌++◌, length, map, take, get_or, arith, refl, sym, ap, subst, ◌∙◌, inl, inr}
use Rattle.std.proofs.lemmas.List.{length_push, take_more, take_all, map_push}
use Rattle.std.proofs.lemmas.Bool.{eqb-true, eqb-false, cases_Bool}
use Rattle.std.proofs.Math.Nat.{mul-le-mul_right}
use Rattle.std.specs.Prelude.{◌⊎◌, ◌==◌, if◌then◌else◌}
use Rattle.board_cell_model.specs.declared.access.Access.{Access}
use Rattle.board_layout.specs.declared.shape.CellShape.{CellShape}
use Rattle.board_model.specs.Replies.{latest}
use Rattle.board_cell_model.specs.OwedAccesses.{current_at}
use Rattle.board_cell_model.specs.OwedAccesses.{Reading, opening, trying, finished, hear, heard, reading_from, owed_read, to_read, is_finished}
use Rattle.board_model.specs.Parties.{reading}
use Rattle.board_model.specs.Sound.{IsCell, IsTrying, IsReading}

reading_from_push : (w : ℕ) (r : Reading) (vs : List ℕ) (v : ℕ) → reading_from w r (vs ++ v ∷ []) ≡ hear w (reading_from w r vs) v
reading_from_push w r [] v = refl
reading_from_push w r (x ∷ vs) v = reading_from_push w (hear w r x) vs v

-- one more access is one more word heard
pub reading_push : (w : ℕ) (so_far : List Access) (a : Access) → reading w (so_far ++ a ∷ []) ≡ hear w (reading w so_far) (heard a)
reading_push w so_far a = ap (reading_from w opening) (map_push heard so_far a) ∙ reading_from_push w opening (map heard so_far) (heard a)

-- the word that the memory has at the place that is owed
pub record IsRead (words : List ℕ) (c : CellShape) (r : Reading) (v : ℕ) : Type 0 where
  pub i : ℕ
  pub board : ℕ
  pub of : ℕ
  pub next : to_read board i ≡ owed_read of c r
  pub word : get_or words i 0 ≡ v

-- the counter is read
pub is_counter : (words : List ℕ) (c : CellShape) (list : List (List ℕ)) (v i : ℕ) → IsCell words c list → i ≡ c.first → get_or words i 0 ≡ v → v ≡ length list
is_counter words c list v i cell e w = sym w ∙ ap (λ (k : ℕ). get_or words k 0) e ∙ cell.counter

-- a try begins at the counter that was read
pub opens : (list : List (List ℕ)) (w n p v : ℕ) → v ≡ length list → n + 1 ≤ 1 + p * (w + 1) → IsTrying list w (n + 1) p v []
opens list w n p v e most =
    let z : length list - v ≡ 0 = omega arith in
    record {
      below = omega arith;
      size = omega arith;
      same = λ q. refl;
      least = omega arith;
      most = rw z (omega arith);
    }

-- the counter was raised since the try began
pub again : (list : List (List ℕ)) (w n p v c : ℕ) (ws : List ℕ) → v ≡ length list → (v ≡ c → ⊥) → length ws ≡ w → IsTrying list w n p c ws → IsTrying list w (n + 1) p v []
again list w n p v c ws e ne full h =
    let l : 1 * (w + 1) ≤ (length list - c) * (w + 1) = mul-le-mul_right (w + 1) (omega (arith, h.below)) in
    opens list w n p v e (omega (arith, h.most, l))

-- one more word of the copy
pub one_more : (words : List ℕ) (s : CellShape) (list : List (List ℕ)) (n p v c i : ℕ) (ws : List ℕ) → IsCell words s list → i ≡ current_at s c + length ws → get_or words i 0 ≡ v → (length ws ≡ s.words → ⊥) → IsTrying list s.words n p c ws → IsTrying list s.words (n + 1) p c (ws ++ v ∷ [])
one_more words s list n p v c i ws cell e w ne h =
    let m : length (ws ++ v ∷ []) ≡ length ws + 1 = length_push ws v in
    record {
      below = h.below;
      size = omega (arith, h.size);
      same = λ q.
          let lt : length ws < length (latest list) = omega (arith, cell.size, h.size) in
          let st : get_or words (current_at s (length list) + length ws) 0 ≡ get_or (latest list) (length ws) 0 = cell.current (length ws) lt in
          let vi : get_or (latest list) (length ws) 0 ≡ v = sym st ∙ ap (λ (k : ℕ). get_or words (current_at s k + length ws) 0) (sym q) ∙ ap (λ (k : ℕ). get_or words k 0) (sym e) ∙ w in
          let t : take (length ws + 1) (latest list) ≡ take (length ws) (latest list) ++ get_or (latest list) (length ws) 0 ∷ [] = take_more (latest list) (length ws) 0 lt in
          rw m (sym (t ∙ ap (λ (x : ℕ). take (length ws) (latest list) ++ x ∷ []) vi ∙ ap (λ (xs : List ℕ). xs ++ v ∷ []) (sym (h.same q))));
      least = omega (arith, h.least);
      most = omega (arith, h.most);
    }

-- what a get has after it heard one more word, if it goes on
pub goes_on : (words : List ℕ) (c : CellShape) (list : List (List ℕ)) (n p v : ℕ) (r : Reading) → IsCell words c list → IsReading list c.words n p r → IsRead words c r v → is_finished (hear c.words r v) ≡ false → IsReading list c.words (n + 1) p (hear c.words r v)
goes_on words c list n p v opening cell h rd f =
    let i : rd.i ≡ c.first = cc (rd.next) in
    opens list c.words n p v (is_counter words c list v rd.i cell i rd.word) (omega arith)
goes_on words c list n p v (trying counter ws) cell h rd f = at (length ws == c.words) (λ q. eqb-true (length ws) c.words q) (λ q. eqb-false (length ws) c.words q) rd.next f
  where
    shut : (b : Bool) → (v ≡ counter → ⊥) ⊎ (b ≡ true) → is_finished (cond b (finished counter ws) (trying v [])) ≡ false → v ≡ length list → length ws ≡ c.words → IsReading list c.words (n + 1) p (cond b (finished counter ws) (trying v []))
    shut true k f' e full = absurd cc
    shut false (inr k) f' e full = absurd cc
    shut false (inl ne) f' e full = again list c.words n p v counter ws e ne full h

    close : length ws ≡ c.words → v ≡ length list → is_finished (if v == counter then finished counter ws else trying v []) ≡ false → IsReading list c.words (n + 1) p (if v == counter then finished counter ws else trying v [])
    close full e f' = shut (v == counter) (met (cases_Bool (v == counter))) f' e full
      where
        met : (v == counter) ≡ true ⊎ (v == counter) ≡ false → (v ≡ counter → ⊥) ⊎ ((v == counter) ≡ true)
        met (inl t) = inr t
        met (inr g) = inl (eqb-false v counter g)

    at : (b : Bool) → (b ≡ true → length ws ≡ c.words) → (b ≡ false → length ws ≡ c.words → ⊥)
        → to_read rd.board rd.i ≡ to_read rd.of (if b then c.first else current_at c counter + length ws)
        → is_finished (if b then (if v == counter then finished counter ws else trying v []) else trying counter (ws ++ v ∷ [])) ≡ false
        → IsReading list c.words (n + 1) p (if b then (if v == counter then finished counter ws else trying v []) else trying counter (ws ++ v ∷ []))
    at true t g nx f' =
        let i : rd.i ≡ c.first = cc (nx) in
        close (t refl) (is_counter words c list v rd.i cell i rd.word) f'
    at false t g nx f' =
        let i : rd.i ≡ current_at c counter + length ws = cc (nx) in
        one_more words c list n p v counter rd.i ws cell i rd.word (g refl) h
goes_on words c list n p v (finished counter ws) cell h rd f = absurd h

-- the try that a get ends with
pub record IsEnded (list : List (List ℕ)) (w n p c : ℕ) (ws : List ℕ) : Type 0 where
  pub words : ws ≡ latest list
  pub counter : c ≡ length list
  pub full : length ws ≡ w
  pub tried : IsTrying list w n p c ws

abbrev a_finished : ℕ → List ℕ → Reading
a_finished c ws = finished c ws

ended : (words : List ℕ) (s : CellShape) (list : List (List ℕ)) (n p v counter : ℕ) (ws : List ℕ) → IsCell words s list → IsTrying list s.words n p counter ws → length ws ≡ s.words → v ≡ counter → v ≡ length list → IsEnded list s.words n p counter ws
ended words s list n p v counter ws cell h full vc vl = record {
  words = h.same (sym vc ∙ vl) ∙ take_all (length ws) (latest list) (omega (arith, cell.size));
  counter = sym vc ∙ vl;
  full = full;
  tried = h;
}

-- what a get has read when it is done
pub ends : (words : List ℕ) (c : CellShape) (list : List (List ℕ)) (n p v : ℕ) (r : Reading) → IsCell words c list → IsReading list c.words n p r → IsRead words c r v → (k : ℕ) (ks : List ℕ) → hear c.words r v ≡ finished k ks → IsEnded list c.words n p k ks
ends words c list n p v opening cell h rd k ks e = absurd cc
ends words c list n p v (trying counter ws) cell h rd k ks e = at (length ws == c.words) (λ q. eqb-true (length ws) c.words q) rd.next e
  where
    shut : (b : Bool) → (b ≡ true → v ≡ counter) → length ws ≡ c.words → v ≡ length list → cond b (finished counter ws) (trying v []) ≡ finished k ks → IsEnded list c.words n p k ks
    shut true t full vl q =
        let x : counter ≡ k = cc in
        let y : ws ≡ ks = cc in
        subst (λ (j : ℕ). IsEnded list c.words n p j ks) x (subst (λ (j : List ℕ). IsEnded list c.words n p counter j) y (ended words c list n p v counter ws cell h full (t refl) vl))
    shut false t full vl q = absurd cc

    at : (b : Bool) → (b ≡ true → length ws ≡ c.words)
        → to_read rd.board rd.i ≡ to_read rd.of (if b then c.first else current_at c counter + length ws)
        → (if b then (if v == counter then finished counter ws else trying v []) else trying counter (ws ++ v ∷ [])) ≡ finished k ks
        → IsEnded list c.words n p k ks
    at true t nx q =
        let i : rd.i ≡ c.first = cc (nx) in
        shut (v == counter) (eqb-true v counter) (t refl) (is_counter words c list v rd.i cell i rd.word) q
    at false t nx q = absurd cc
ends words c list n p v (finished counter ws) cell h rd k ks e = absurd h
