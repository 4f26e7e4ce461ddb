-- What a get has heard, word by word.
use Rattle.std.proofs.Common.{◌≡◌, ◌≢◌, ℕ, ◌+◌, ◌<◌, ◌≤◌, true, List, [], ◌∷◌, ◌++◌, length, refl, sym, ap, ◌∙◌, arith, append_assoc}
use Rattle.std.proofs.lemmas.Grind.{common_steps}
use Rattle.std.proofs.lemmas.List.{append-nil}
use Rattle.board_cell_model.specs.OwedAccesses.{Reading, opening, trying, finished, hear, reading_from, is_finished}

-- what is heard later, is heard after what was heard first
pub reading_from-append : (w : ℕ) (r : Reading) (heard later : List ℕ) → reading_from w r (heard ++ later) ≡ reading_from w (reading_from w r heard) later
reading_from-append w r [] later = refl
reading_from-append w r (u ∷ us) later = reading_from-append w (hear w r u) us later

pub hear-word : (w c : ℕ) (so_far : List ℕ) (v : ℕ) → length so_far < w → hear w (trying c so_far) v ≡ trying c (so_far ++ v ∷ [])
hear-word w c so_far v room = grind (arith, common_steps)

pub hear-last : (w c : ℕ) (words : List ℕ) → length words ≡ w → hear w (trying c words) c ≡ finished c words
hear-last w c words all = grind (arith, common_steps)

pub hear-again : (w c d : ℕ) (words : List ℕ) → length words ≡ w → d ≢ c → hear w (trying c words) d ≡ trying d []
hear-again w c d words all other = grind (arith, common_steps)

-- the words of an open try are heard one after another
pub try_hears : (w c : ℕ) (so_far more : List ℕ) → length so_far + length more ≤ w → reading_from w (trying c so_far) more ≡ trying c (so_far ++ more)
try_hears w c so_far [] room = ap (trying c) (sym (append-nil so_far))
try_hears w c so_far (v ∷ vs) room = ap (λ r. reading_from w r vs) (hear-word w c so_far v (grind (arith, common_steps))) ∙ try_hears w c (so_far ++ v ∷ []) vs (grind (arith, common_steps)) ∙ ap (trying c) (append_assoc so_far (v ∷ []) vs)

-- a whole try and the counter behind it
pub try_closes : (w c d : ℕ) (words rest : List ℕ) → length words ≤ w → reading_from w opening (c ∷ (words ++ d ∷ rest)) ≡ reading_from w (hear w (trying c words) d) rest
try_closes w c d words rest room = reading_from-append w (trying c []) words (d ∷ rest) ∙ ap (λ r. reading_from w (hear w r d) rest) (try_hears w c [] words (omega (room, arith)))

-- a finished get hears nothing
pub reading_from-finished : (w : ℕ) (r : Reading) (later : List ℕ) → is_finished r ≡ true → reading_from w r later ≡ r
reading_from-finished w opening later done = absurd (cc)
reading_from-finished w (trying c words) later done = absurd (cc)
reading_from-finished w (finished c words) [] done = refl
reading_from-finished w (finished c words) (v ∷ vs) done = reading_from-finished w (finished c words) vs done

-- the word that finishes a get is the last that it hears
pub reading_from_last : (w : ℕ) (r : Reading) (v : ℕ) (later : List ℕ) → is_finished (hear w r v) ≡ true → reading_from w r (v ∷ later) ≡ hear w r v
reading_from_last w r v later done = reading_from-finished w (hear w r v) later done
