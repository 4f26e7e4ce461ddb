-- The history of a published and of notes that stand in it is legal, and has each publish and each note once and in order.
use Rattle.std.proofs.Common.{◌≡◌, ◌≢◌, ℕ, zero, suc, ◌+◌, ◌-◌, ◌<◌, ◌≤◌, Bool, true, false, eqb, List, [], ◌∷◌, ◌++◌, length, map, get_or, set, Some, refl, sym, ap, ◌∙◌, subst, arith, append_assoc, eq-eqb, ne_eqb}
use Rattle.std.specs.Prelude.{slice_get}
use Rattle.std.specs.List.{All}
use Rattle.std.proofs.lemmas.List.Elements.{All-head, All-tail, All-weaker, All-map}
use Rattle.std.proofs.lemmas.Option.{slice_get-get_or}
use Rattle.board_cell.specs.Passes.{ReaderSeen, Stands, NotesRise, notes_of}
use Rattle.board_cell.specs.declared.threaded.view.Note.{Note}
use mathlib.Core.Logic.{dite}
use native.Mathlib.Decide.{ℕ_discrete}
use Rattle.board_cell.specs.History.{Event, kept_if, reads_of, reads_from, history_from, history, LegalAfter, IsLegal, publishes_in, reads_in}
use Rattle.board_cell.specs.History.Event.{read}

abbrev Readers : Type 0
Readers = List (List Note)

eqb_is : (a b : ℕ) → eqb a b ≡ true → a ≡ b
eqb_is a b h = grind (arith, h)

some_same : (x y : List ℕ) → Some x ≡ Some y → x ≡ y
some_same x y e = cc

-- the publishes
publishes_kept : (b : Bool) (r : ℕ) (n : Note) (xs es : List Event) → publishes_in (kept_if b (read r n) xs ++ es) ≡ publishes_in (xs ++ es)
publishes_kept true r n xs es = refl
publishes_kept false r n xs es = refl

publishes_reads : (r g : ℕ) (ns : List Note) (es : List Event) → publishes_in (reads_of r g ns ++ es) ≡ publishes_in es
publishes_reads r g [] es = refl
publishes_reads r g (n ∷ ns) es = publishes_kept (eqb n.generation g) r n (reads_of r g ns) es ∙ publishes_reads r g ns es

publishes_from : (r g : ℕ) (readers : Readers) (es : List Event) → publishes_in (reads_from r g readers ++ es) ≡ publishes_in es
publishes_from r g [] es = refl
publishes_from r g (ns ∷ rest) es = ap publishes_in (append_assoc (reads_of r g ns) (reads_from (suc r) g rest) es) ∙ (publishes_reads r g ns (reads_from (suc r) g rest ++ es) ∙ publishes_from (suc r) g rest es)

publishes_all : (g : ℕ) (items : List (List ℕ)) (readers : Readers) → publishes_in (history_from g items readers) ≡ items
publishes_all g [] readers = refl
publishes_all g (item ∷ items) readers = ap (λ (l : List (List ℕ)). item ∷ l) (publishes_from 0 g readers (history_from (suc g) items readers) ∙ publishes_all (suc g) items readers)

pub publishes_once : (published : List (List ℕ)) (readers : Readers) → publishes_in (history published readers) ≡ published
publishes_once published readers = publishes_all 1 published readers

-- that it is legal
legal_kept : (b : Bool) (r g : ℕ) (last : List ℕ) (n : Note) (xs es : List Event) → (b ≡ true → (n.generation ≡ g) × (n.words ≡ last)) → LegalAfter g last (xs ++ es) → LegalAfter g last (kept_if b (read r n) xs ++ es)
legal_kept true r g last n xs es h l = ((h refl).0, (h refl).1, l)
legal_kept false r g last n xs es h l = l

abbrev Matches : ℕ → List ℕ → Note → Type 0
Matches g last n = n.generation ≡ g → n.words ≡ last

legal_reads : (r g : ℕ) (last : List ℕ) (ns : List Note) (es : List Event) → All (Matches g last) ns → LegalAfter g last es → LegalAfter g last (reads_of r g ns ++ es)
legal_reads r g last [] es h l = l
legal_reads r g last (n ∷ ns) es h l = legal_kept (eqb n.generation g) r g last n (reads_of r g ns) es (λ b. let e = eqb_is n.generation g b in (e, All-head (Matches g last) n ns h e)) (legal_reads r g last ns es (All-tail (Matches g last) n ns h) l)

legal_from : (r g : ℕ) (last : List ℕ) (readers : Readers) (es : List Event) → All (All (Matches g last)) readers → LegalAfter g last es → LegalAfter g last (reads_from r g readers ++ es)
legal_from r g last [] es h l = l
legal_from r g last (ns ∷ rest) es h l = subst (LegalAfter g last) (sym (append_assoc (reads_of r g ns) (reads_from (suc r) g rest) es))
    (legal_reads r g last ns (reads_from (suc r) g rest ++ es) (All-head (All (Matches g last)) ns rest h) (legal_from (suc r) g last rest es (All-tail (All (Matches g last)) ns rest h) l))

-- the note is the item that is so far ahead
abbrev Ahead : ℕ → List (List ℕ) → Note → Type 0
Ahead count items n = (j : ℕ) → n.generation ≡ suc (count + j) → j < length items → slice_get items j ≡ Some n.words

legal_all : (count : ℕ) (last : List ℕ) (items : List (List ℕ)) (readers : Readers) → All (All (Ahead count items)) readers → LegalAfter count last (history_from (suc count) items readers)
legal_all count last [] readers h = tt
legal_all count last (item ∷ items) readers h = legal_from 0 (suc count) item readers (history_from (suc (suc count)) items readers)
    (All-weaker (All (Ahead count (item ∷ items))) (All (Matches (suc count) item)) (λ ns a. All-weaker (Ahead count (item ∷ items)) (Matches (suc count) item) (λ n p e. some_same n.words item (sym (p 0 (omega arith) (omega arith)))) ns a) readers h)
    (legal_all (suc count) item items readers
    (All-weaker (All (Ahead count (item ∷ items))) (All (Ahead (suc count) items)) (λ ns a. All-weaker (Ahead count (item ∷ items)) (Ahead (suc count) items) (λ n p j e l. p (suc j) (omega arith) (omega arith)) ns a) readers h))

pub legal : (published : List (List ℕ)) (readers : Readers) → All (All (Stands published)) readers → IsLegal (history published readers)
legal published readers h = legal_all 0 [] published readers (All-weaker (All (Stands published)) (All (Ahead 0 published)) (λ ns a. All-weaker (Stands published) (Ahead 0 published) (λ n p j e l. let is : n.generation - 1 ≡ j = omega arith in subst (λ (k : ℕ). slice_get published k ≡ Some n.words) is p.item) ns a) readers h)

-- the notes of one generation
abbrev of_generation : ℕ → List Note → List Note
of_generation g [] = []
of_generation g (n ∷ ns) = kept_if (eqb n.generation g) n (of_generation g ns)

reads_kept_other : (b : Bool) (k r : ℕ) (n : Note) (xs es : List Event) → r ≢ k → reads_in k (kept_if b (read r n) xs ++ es) ≡ reads_in k (xs ++ es)
reads_kept_other true k r n xs es other = ap (λ b. kept_if b n (reads_in k (xs ++ es))) (ne_eqb r k other)
reads_kept_other false k r n xs es other = refl

reads_kept_own : (b : Bool) (k : ℕ) (n : Note) (xs es : List Event) (ms rest : List Note) → reads_in k (xs ++ es) ≡ ms ++ rest → reads_in k (kept_if b (read k n) xs ++ es) ≡ kept_if b n ms ++ rest
reads_kept_own true k n xs es ms rest h = ap (λ b. kept_if b n (reads_in k (xs ++ es))) (eq-eqb k k refl) ∙ ap (λ (l : List Note). n ∷ l) h
reads_kept_own false k n xs es ms rest h = h

reads_other : (k r g : ℕ) (ns : List Note) (es : List Event) → r ≢ k → reads_in k (reads_of r g ns ++ es) ≡ reads_in k es
reads_other k r g [] es other = refl
reads_other k r g (n ∷ ns) es other = reads_kept_other (eqb n.generation g) k r n (reads_of r g ns) es other ∙ reads_other k r g ns es other

reads_own : (k g : ℕ) (ns : List Note) (es : List Event) → reads_in k (reads_of k g ns ++ es) ≡ of_generation g ns ++ reads_in k es
reads_own k g [] es = refl
reads_own k g (n ∷ ns) es = reads_kept_own (eqb n.generation g) k n (reads_of k g ns) es (of_generation g ns) (reads_in k es) (reads_own k g ns es)

reads_above : (k r g : ℕ) (readers : Readers) (es : List Event) → k < r → reads_in k (reads_from r g readers ++ es) ≡ reads_in k es
reads_above k r g [] es h = refl
reads_above k r g (ns ∷ rest) es h = ap (reads_in k) (append_assoc (reads_of r g ns) (reads_from (suc r) g rest) es) ∙ (reads_other k r g ns (reads_from (suc r) g rest ++ es) (λ e. omega arith) ∙ reads_above k (suc r) g rest es (omega arith))

reads_here : (k r j g : ℕ) (readers : Readers) (ns : List Note) (es : List Event) → k ≡ r + j → slice_get readers j ≡ Some ns → reads_in k (reads_from r g readers ++ es) ≡ of_generation g ns ++ reads_in k es
reads_here k r j g [] ns es at e = absurd (cc)
reads_here k r zero g (ms ∷ rest) ns es at e = let same : ms ≡ ns = cc in let here : r ≡ k = omega arith in
    ap (reads_in k) (append_assoc (reads_of r g ms) (reads_from (suc r) g rest) es) ∙ (subst (λ (q : ℕ). reads_in k (reads_of q g ms ++ (reads_from (suc r) g rest ++ es)) ≡ of_generation g ms ++ reads_in k (reads_from (suc r) g rest ++ es)) (sym here) (reads_own k g ms (reads_from (suc r) g rest ++ es)) ∙
    (λ i. of_generation g (same i) ++ reads_above k (suc r) g rest es (omega arith) i))
reads_here k r (suc j) g (ms ∷ rest) ns es at e = ap (reads_in k) (append_assoc (reads_of r g ms) (reads_from (suc r) g rest) es) ∙ (reads_other k r g ms (reads_from (suc r) g rest ++ es) (λ z. omega arith) ∙ reads_here k (suc r) j g rest ns es (omega arith) e)

-- the notes, generation by generation
abbrev by_generation : ℕ → List (List ℕ) → List Note → List Note
by_generation g [] ns = []
by_generation g (item ∷ items) ns = of_generation g ns ++ by_generation (suc g) items ns

reads_all : (k g : ℕ) (items : List (List ℕ)) (readers : Readers) (ns : List Note) → slice_get readers k ≡ Some ns → reads_in k (history_from g items readers) ≡ by_generation g items ns
reads_all k g [] readers ns e = refl
reads_all k g (item ∷ items) readers ns e = reads_here k 0 k g readers ns (history_from (suc g) items readers) (omega arith) e ∙ ap (λ (l : List Note). of_generation g ns ++ l) (reads_all k (suc g) items readers ns e)

none_of : (g : ℕ) (ns : List Note) → All (λ (n : Note). g < n.generation) ns → of_generation g ns ≡ []
none_of g [] h = refl
none_of g (n ∷ ns) h = let above = All-head (λ (m : Note). g < m.generation) n ns h in ap (λ b. kept_if b n (of_generation g ns)) (ne_eqb n.generation g (λ e. omega arith)) ∙ none_of g ns (All-tail (λ (m : Note). g < m.generation) n ns h)

past : (g : ℕ) (items : List (List ℕ)) (n : Note) (ns : List Note) → n.generation < g → by_generation g items (n ∷ ns) ≡ by_generation g items ns
past g [] n ns h = refl
past g (item ∷ items) n ns h = λ i. ap (λ b. kept_if b n (of_generation g ns)) (ne_eqb n.generation g (λ e. omega arith)) i ++ past (suc g) items n ns (omega arith) i

first : (g : ℕ) (items : List (List ℕ)) (n : Note) (ns : List Note) → All (λ (m : Note). n.generation ≤ m.generation) ns → g ≤ n.generation → n.generation < g + length items → by_generation g items (n ∷ ns) ≡ n ∷ by_generation g items ns
first g [] n ns r low high = absurd (omega arith)
first g (item ∷ items) n ns r low high = dite (ℕ_discrete n.generation g)
    (λ e. λ i. ap (λ b. kept_if b n (of_generation g ns)) (eq-eqb n.generation g e) i ++ past (suc g) items n ns (omega arith) i)
    (λ other. let none = none_of g ns (All-weaker (λ (m : Note). n.generation ≤ m.generation) (λ (m : Note). g < m.generation) (λ m l. omega arith) ns r) in
    (λ i. (ap (λ b. kept_if b n (of_generation g ns)) (ne_eqb n.generation g other) ∙ none) i ++ first (suc g) items n ns r (omega arith) (omega arith) i) ∙ (λ i. n ∷ (sym none i ++ by_generation (suc g) items ns)))

none_by : (g : ℕ) (items : List (List ℕ)) → by_generation g items [] ≡ []
none_by g [] = refl
none_by g (item ∷ items) = none_by (suc g) items

in_order : (g : ℕ) (items : List (List ℕ)) (ns : List Note) → NotesRise ns → All (λ (n : Note). (g ≤ n.generation) × (n.generation < g + length items)) ns → by_generation g items ns ≡ ns
in_order g items [] r h = none_by g items
in_order g items (n ∷ ns) r h = let b = All-head (λ (m : Note). (g ≤ m.generation) × (m.generation < g + length items)) n ns h in
    first g items n ns r.0 b.0 b.1 ∙ ap (λ (l : List Note). n ∷ l) (in_order g items ns r.1 (All-tail (λ (m : Note). (g ≤ m.generation) × (m.generation < g + length items)) n ns h))

within : (published : List (List ℕ)) (j : ℕ) (x : List ℕ) → slice_get published j ≡ Some x → j < length published
within [] j x e = absurd (cc)
within (y ∷ ys) zero x e = omega arith
within (y ∷ ys) (suc j) x e = let i = within ys j x e in omega arith

pub reads_once : (published : List (List ℕ)) (readers : Readers) (k : ℕ) (ns : List Note) → slice_get readers k ≡ Some ns → NotesRise ns → All (Stands published) ns → reads_in k (history published readers) ≡ ns
reads_once published readers k ns e r h = reads_all k 1 published readers ns e ∙ in_order 1 published ns r (All-weaker (Stands published) (λ (n : Note). (1 ≤ n.generation) × (n.generation < 1 + length published)) (λ n p. let low = p.counted in let i = within published (n.generation - 1) n.words p.item in (omega arith, omega arith)) ns h)

-- what a loop of meetings needs
pub set_read : {X : Type 0} (xs : List X) (i : ℕ) (x y : X) → x ≡ get_or xs i x → y ≡ x → set xs i y ≡ xs
set_read [] i x y e f = refl
set_read (z ∷ zs) zero x y e f = λ k. (f ∙ e) k ∷ zs
set_read (z ∷ zs) (suc i) x y e f = λ k. z ∷ set_read zs i x y e f k

pub read_is : {X : Type 0} (xs : List X) (i : ℕ) (x r : X) → x ≡ get_or xs i x → slice_get xs i ≡ Some r → x ≡ r
read_is [] i x r e f = absurd (cc)
read_is (z ∷ zs) zero x r e f = let same : z ≡ r = cc in e ∙ same
read_is (z ∷ zs) (suc i) x r e f = read_is zs i x r e f

pub slice_get_map : {X Y : Type 0} (f : X → Y) (xs : List X) (k : ℕ) (x : X) → slice_get xs k ≡ Some x → slice_get (map f xs) k ≡ Some (f x)
slice_get_map f [] k x e = absurd (cc)
slice_get_map f (y ∷ ys) zero x e = let same : y ≡ x = cc in ap (λ (z : _). Some (f z)) same
slice_get_map f (y ∷ ys) (suc k) x e = slice_get_map f ys k x e

pub all_stand_in : (published : List (List ℕ)) (readers : List ReaderSeen) → ((k : ℕ) (r : ReaderSeen) → slice_get readers k ≡ Some r → All (Stands published) r.notes) → All (All (Stands published)) (map notes_of readers)
all_stand_in published readers h = All-map (All (Stands published)) notes_of readers (λ k d l. h k (get_or readers k d) (slice_get-get_or readers k d l))
