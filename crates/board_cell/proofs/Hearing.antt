-- What a get owes, word by word.
use Rattle.std.proofs.Common.{◌≡◌, ℕ, ◌+◌, ◌<◌, true, false, List, [], ◌∷◌, ◌++◌, length, drop, get_or, refl, sym, ap, ◌∙◌}
use Rattle.std.proofs.lemmas.List.{drop_more}
use Rattle.board_layout.specs.declared.shape.CellShape.{CellShape}
use Rattle.board_cell_model.specs.OwedAccesses.{Owed, Reading, opening, trying, finished, hear, reading_from, is_finished, owed_read}
use Rattle.board_cell_model.proofs.Hearing.{reading_from_last}
use Rattle.board_cell.specs.Runs.{owed_reads}

-- a finished get owes nothing
pub owed_reads-finished : (board : ℕ) (c : CellShape) (r : Reading) (later : List ℕ) → is_finished r ≡ true → owed_reads board c r later ≡ []
owed_reads-finished board c opening later done = absurd (cc)
owed_reads-finished board c (trying k words) later done = absurd (cc)
owed_reads-finished board c (finished k words) [] done = refl
owed_reads-finished board c (finished k words) (v ∷ vs) done = refl

-- an open get owes one access before each word
pub owed_reads-open : (board : ℕ) (c : CellShape) (r : Reading) (v : ℕ) (later : List ℕ) → is_finished r ≡ false → owed_reads board c r (v ∷ later) ≡ owed_read board c r ∷ owed_reads board c (hear c.words r v) later
owed_reads-open board c opening v later going = refl
owed_reads-open board c (trying k words) v later going = refl
owed_reads-open board c (finished k words) v later going = absurd (cc)

-- the access before the word that finishes a get is the last that it owes
pub owed_reads_last : (board : ℕ) (c : CellShape) (r : Reading) (v : ℕ) (later : List ℕ) → is_finished r ≡ false → is_finished (hear c.words r v) ≡ true → owed_reads board c r (v ∷ later) ≡ owed_read board c r ∷ []
owed_reads_last board c r v later going done = owed_reads-open board c r v later going ∙ ap (λ os. owed_read board c r ∷ os) (owed_reads-finished board c (hear c.words r v) later done)

-- the run of a get ends with the word at i, of all the words
pub run_ends : (w : ℕ) (start now : Reading) (words : List ℕ) (i : ℕ) → i < length words → is_finished (hear w now (get_or words i 0)) ≡ true → reading_from w now (drop i words) ≡ reading_from w start words → hear w now (get_or words i 0) ≡ reading_from w start words
run_ends w start now words i within done same = sym (reading_from_last w now (get_or words i 0) (drop (i + 1) words) done) ∙ ap (reading_from w now) (sym (drop_more words i 0 within)) ∙ same

pub run_owes : (board : ℕ) (c : CellShape) (start now : Reading) (words : List ℕ) (i : ℕ) (before so_far : List Owed) → i < length words → is_finished now ≡ false → is_finished (hear c.words now (get_or words i 0)) ≡ true → so_far ++ owed_reads board c now (drop i words) ≡ before ++ owed_reads board c start words → so_far ++ owed_read board c now ∷ [] ≡ before ++ owed_reads board c start words
run_owes board c start now words i before so_far within going done same = ap (λ os. so_far ++ os) (sym (owed_reads_last board c now (get_or words i 0) (drop (i + 1) words) going done)) ∙ ap (λ vs. so_far ++ owed_reads board c now vs) (sym (drop_more words i 0 within)) ∙ same
