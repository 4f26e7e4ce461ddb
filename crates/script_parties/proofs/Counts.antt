-- Whatever is counted over the things that parties named is counted over those of the core.
use Rattle.std.proofs.Common.{◌≡◌, ℕ, ◌-◌, ◌<◌, ◌≤◌, zero, suc, true, false, List, [], ◌∷◌, length, map, arith, refl, sym, ap, ◌∙◌}
use Rattle.std.specs.Prelude.{nat_eq, slice_index_or}
use Rattle.std.specs.List.{list_any, AllByRecursion}
use Rattle.std.specs.Str.{bytes_eq}
use Rattle.std.proofs.Math.Dec.{eqb-suc-zero, eqb-zero-suc}
use Rattle.std.proofs.lemmas.Bool.Decides.{same_from_decides, Decides-eqb}
use Rattle.std.proofs.lemmas.Slice.Eq.{bytes_eq-Decides}
use Rattle.board_model.specs.declared.tables.Thing.{Thing}
use Rattle.board_model.specs.Tables.{rename, is_of_board, writer_slots, reader_slots, is_node, nodes_taken, is_write_handle}
use Rattle.board_model.specs.Things.{Held}
use Rattle.script_parties.specs.Named.{AreParties, IsOfNode, nameless, own, party_at}
use Rattle.script_parties.proofs.Renaming.{Agree, AgreeAll, readers-rename, writers-rename, handles-rename, boards-rename, node-rename, nodes-rename}

-- but for their names the things are these, with parties in place of nodes
abbrev pub AreSame : (ℕ → List ℕ) → List (Thing ℕ ℕ) → List Held → Type 0
AreSame f ts xs = map (rename f nameless) ts ≡ map (rename own nameless) xs

pub readers-same : (f : ℕ → List ℕ) (board : ℕ) (ts : List (Thing ℕ ℕ)) (xs : List Held) → AreSame f ts xs → reader_slots board xs ≡ reader_slots board ts
readers-same f board ts xs e =
    sym (readers-rename own nameless board xs) ∙ ap (λ (ys : List Held). reader_slots board ys) (sym e) ∙ readers-rename f nameless board ts

pub writers-same : (f : ℕ → List ℕ) (board : ℕ) (ts : List (Thing ℕ ℕ)) (xs : List Held) → AreSame f ts xs → writer_slots board xs ≡ writer_slots board ts
writers-same f board ts xs e =
    sym (writers-rename own nameless board xs) ∙ ap (λ (ys : List Held). writer_slots board ys) (sym e) ∙ writers-rename f nameless board ts

pub handles-same : (f : ℕ → List ℕ) (board entry : ℕ) (ts : List (Thing ℕ ℕ)) (xs : List Held) → AreSame f ts xs
    → list_any (is_write_handle board entry) xs ≡ list_any (is_write_handle board entry) ts
handles-same f board entry ts xs e =
    sym (handles-rename own nameless board entry xs) ∙ ap (λ (ys : List Held). list_any (is_write_handle board entry) ys) (sym e) ∙ handles-rename f nameless board entry ts

pub boards-same : (f : ℕ → List ℕ) (board : ℕ) (ts : List (Thing ℕ ℕ)) (xs : List Held) → AreSame f ts xs
    → list_any (is_of_board board) xs ≡ list_any (is_of_board board) ts
boards-same f board ts xs e =
    sym (boards-rename own nameless board xs) ∙ ap (λ (ys : List Held). list_any (is_of_board board) ys) (sym e) ∙ boards-rename f nameless board ts

-- ---- nodes

-- a party agrees with itself
own-agree : (party : List ℕ) (xs : List Held) → Agree bytes_eq bytes_eq own party xs
own-agree party [] = tt
own-agree party (x ∷ xs) = (refl, own-agree party xs)

own-agree_all : (xs : List Held) → AgreeAll bytes_eq bytes_eq own xs
own-agree_all [] = tt
own-agree_all (x ∷ xs) = (own-agree x.holder xs, own-agree_all xs)

-- a party at a place is another than the one that stands before all
other_party : (p : List ℕ) (ps : List (List ℕ)) (k : ℕ) → AllByRecursion (λ q. bytes_eq p q ≡ false) ps → k < length ps → bytes_eq p (slice_index_or ps k []) ≡ false
other_party p [] k h b = absurd (omega (arith, b))
other_party p (q ∷ ps) zero h b = h.0
other_party p (q ∷ ps) (suc k) h b = other_party p ps k h.1 (omega (arith, b))

same_party : (p : List ℕ) → bytes_eq p p ≡ true
same_party p = (bytes_eq-Decides p p).1 refl

-- texts are the same both ways round
pub turned : (p q : List ℕ) → bytes_eq p q ≡ bytes_eq q p
turned p q = same_from_decides _ (bytes_eq q p) (bytes_eq-Decides p q) (λ e. sym ((bytes_eq-Decides q p).0 e), λ e. (bytes_eq-Decides q p).1 (sym e))

next_same : (i j : ℕ) → nat_eq i j ≡ nat_eq (suc i) (suc j)
next_same i j = same_from_decides (nat_eq i j) (nat_eq (suc i) (suc j)) (Decides-eqb i j) (λ e. (let h : suc i ≡ suc j = (Decides-eqb (suc i) (suc j)).0 e in omega (arith, h)), λ e. (Decides-eqb (suc i) (suc j)).1 (omega (arith, e)))

-- parties at two places are the same where the places are
places : (ps : List (List ℕ)) (i j : ℕ) → AreParties ps → i < length ps → j < length ps → bytes_eq (slice_index_or ps i []) (slice_index_or ps j []) ≡ nat_eq i j
places [] i j h a b = absurd (omega (arith, a))
places (p ∷ ps) zero zero h a b = same_party p
places (p ∷ ps) zero (suc j) h a b = other_party p ps j h.0 (omega (arith, b)) ∙ sym (eqb-zero-suc j)
places (p ∷ ps) (suc i) zero h a b = turned (slice_index_or ps i []) p ∙ other_party p ps i h.0 (omega (arith, a)) ∙ sym (eqb-suc-zero i)
places (p ∷ ps) (suc i) (suc j) h a b = places ps i j h.1 (omega (arith, a)) (omega (arith, b)) ∙ next_same i j

suc_less : (i : ℕ) → suc i - 1 ≡ i
suc_less i = omega arith

-- parties of two nodes are the same where the nodes are
pub agree : (nodes : List (List ℕ)) (m n : ℕ) → AreParties nodes → 0 < m → m ≤ length nodes → 0 < n → n ≤ length nodes → bytes_eq (party_at nodes m) (party_at nodes n) ≡ nat_eq m n
agree nodes zero n h a b c d = absurd (omega (arith, a))
agree nodes (suc i) zero h a b c d = absurd (omega (arith, c))
agree nodes (suc i) (suc j) h a b c d = rw (suc_less i, suc_less j) (places nodes i j h (omega (arith, b)) (omega (arith, d)) ∙ next_same i j)

-- the parties of the things' nodes
pub parties_agree : (nodes : List (List ℕ)) (holder : ℕ) (ts : List (Thing ℕ ℕ)) → AreParties nodes → 0 < holder → holder ≤ length nodes → AllByRecursion (IsOfNode (length nodes)) ts
    → Agree nat_eq bytes_eq (party_at nodes) holder ts
parties_agree nodes holder [] h a b all = tt
parties_agree nodes holder (t ∷ ts) h a b all = (agree nodes t.holder holder h all.0.some all.0.most a b, parties_agree nodes holder ts h a b all.1)

pub all_parties_agree : (nodes : List (List ℕ)) (ts : List (Thing ℕ ℕ)) → AreParties nodes → AllByRecursion (IsOfNode (length nodes)) ts → AgreeAll nat_eq bytes_eq (party_at nodes) ts
all_parties_agree nodes [] h all = tt
all_parties_agree nodes (t ∷ ts) h all = (parties_agree nodes t.holder ts h all.0.some all.0.most all.1, all_parties_agree nodes ts h all.1)

-- how many nodes a board has
pub nodes-same : (nodes : List (List ℕ)) (board : ℕ) (ts : List (Thing ℕ ℕ)) (xs : List Held) → AreParties nodes → AllByRecursion (IsOfNode (length nodes)) ts → AreSame (party_at nodes) ts xs
    → nodes_taken bytes_eq board xs ≡ nodes_taken nat_eq board ts
nodes-same nodes board ts xs h all e =
    sym (nodes-rename bytes_eq bytes_eq own nameless board xs (own-agree_all xs))
    ∙ ap (λ (ys : List Held). nodes_taken bytes_eq board ys) (sym e)
    ∙ nodes-rename nat_eq bytes_eq (party_at nodes) nameless board ts (all_parties_agree nodes ts h all)

-- whether a node has a thing of a board
pub node-same : (nodes : List (List ℕ)) (board holder : ℕ) (ts : List (Thing ℕ ℕ)) (xs : List Held) → AreParties nodes → 0 < holder → holder ≤ length nodes
    → AllByRecursion (IsOfNode (length nodes)) ts → AreSame (party_at nodes) ts xs → is_node bytes_eq board (party_at nodes holder) xs ≡ is_node nat_eq board holder ts
node-same nodes board holder ts xs h a b all e =
    sym (node-rename bytes_eq bytes_eq own nameless board (party_at nodes holder) xs (own-agree (party_at nodes holder) xs))
    ∙ ap (λ (ys : List Held). is_node bytes_eq board (party_at nodes holder) ys) (sym e)
    ∙ node-rename nat_eq bytes_eq (party_at nodes) nameless board holder ts (parties_agree nodes holder ts h a b all)
