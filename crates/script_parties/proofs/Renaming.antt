-- What is counted over things sees their holders by a test alone, and their names not at all.
use Rattle.std.proofs.Common.{◌≡◌, ℕ, ◌+◌, Bool, not, ◌&&◌, ◌||◌, cond, if◌then◌else◌, List, [], ◌∷◌, map, refl, sym, ap, ◌∙◌, Option, Some, None}
use Rattle.std.specs.List.{list_any, AllByRecursion}
use Rattle.std.proofs.lemmas.List.Sums.{sum_by-cons}
use Rattle.board_model.specs.declared.tables.Thing.{Thing}
use Rattle.board_model.specs.Tables.{rename, is_of_board, holds_at, writer_port, is_of_port, is_last_of_port, is_reader_of, writer_slots, reader_slots, is_node, nodes_taken, is_held_by, is_write_handle}

-- a test that sees no names
any-rename : {H N K M : Type 0} (f : H → K) (g : N → M) (p : Thing K M → Bool) (q : Thing H N → Bool)
    → ((t : Thing H N) → p (rename f g t) ≡ q t) → (ts : List (Thing H N)) → list_any p (map (rename f g) ts) ≡ list_any q ts
any-rename f g p q each [] = refl
any-rename f g p q each (t ∷ ts) =
    ap (λ b. b || list_any p (map (rename f g) ts)) (each t) ∙ ap (λ b. q t || b) (any-rename f g p q each ts)

-- readers
pub readers-rename : {H N K M : Type 0} (f : H → K) (g : N → M) (board : ℕ) (ts : List (Thing H N)) → reader_slots board (map (rename f g) ts) ≡ reader_slots board ts
readers-rename f g board [] = refl
readers-rename {H} {N} {K} {M} f g board (t ∷ ts) =
    sum_by-cons (λ (x : Thing K M). cond (is_reader_of board x) 1 0) (rename f g t) (map (rename f g) ts)
    ∙ ap (λ n. cond (is_reader_of board t) 1 0 + n) (readers-rename f g board ts)
    ∙ sym (sum_by-cons (λ (x : Thing H N). cond (is_reader_of board x) 1 0) t ts)

-- writers
port-rename : {H N K M : Type 0} (f : H → K) (g : N → M) (board : ℕ) (o : Option ℕ) (ts : List (Thing H N))
    → holds_at o (λ p. not (list_any (is_of_port board p) (map (rename f g) ts))) ≡ holds_at o (λ p. not (list_any (is_of_port board p) ts))
port-rename f g board None ts = refl
port-rename f g board (Some p) ts = ap not (any-rename f g (is_of_port board p) (is_of_port board p) (λ t. refl) ts)

one_more : Bool → ℕ → ℕ
one_more c n = if c then n + 1 else n

pub writers-rename : {H N K M : Type 0} (f : H → K) (g : N → M) (board : ℕ) (ts : List (Thing H N)) → writer_slots board (map (rename f g) ts) ≡ writer_slots board ts
unfolding one_more
writers-rename f g board [] = refl
writers-rename f g board (t ∷ ts) =
    ap (λ b. one_more (is_of_board board t && b) (writer_slots board (map (rename f g) ts))) (port-rename f g board (writer_port t.kind) ts)
    ∙ ap (λ n. one_more (is_last_of_port board t ts) n) (writers-rename f g board ts)

-- write handles
pub handles-rename : {H N K M : Type 0} (f : H → K) (g : N → M) (board entry : ℕ) (ts : List (Thing H N))
    → list_any (is_write_handle board entry) (map (rename f g) ts) ≡ list_any (is_write_handle board entry) ts
handles-rename f g board entry ts = any-rename f g (is_write_handle board entry) (is_write_handle board entry) (λ t. refl) ts

-- things of a board
pub boards-rename : {H N K M : Type 0} (f : H → K) (g : N → M) (board : ℕ) (ts : List (Thing H N))
    → list_any (is_of_board board) (map (rename f g) ts) ≡ list_any (is_of_board board) ts
boards-rename f g board ts = any-rename f g (is_of_board board) (is_of_board board) (λ t. refl) ts

-- ---- holders

-- the two tests agree on the holders of the things
abbrev pub Agree : {H N K : Type 0} → (H → H → Bool) → (K → K → Bool) → (H → K) → H → List (Thing H N) → Type 0
Agree same other f holder ts = AllByRecursion (λ t. other (f t.holder) (f holder) ≡ same t.holder holder) ts

abbrev pub AgreeAll : {H N K : Type 0} → (H → H → Bool) → (K → K → Bool) → (H → K) → List (Thing H N) → Type 0
AgreeAll same other f [] = Unit {0}
AgreeAll same other f (t ∷ ts) = Agree same other f t.holder ts × AgreeAll same other f ts

pub node-rename : {H N K M : Type 0} (same : H → H → Bool) (other : K → K → Bool) (f : H → K) (g : N → M) (board : ℕ) (holder : H) (ts : List (Thing H N))
    → Agree same other f holder ts → is_node other board (f holder) (map (rename f g) ts) ≡ is_node same board holder ts
node-rename same other f g board holder [] h = refl
node-rename same other f g board holder (t ∷ ts) h =
    ap (λ b. is_of_board board t && b || is_node other board (f holder) (map (rename f g) ts)) h.0
    ∙ ap (λ b. is_held_by same board holder t || b) (node-rename same other f g board holder ts h.1)

pub nodes-rename : {H N K M : Type 0} (same : H → H → Bool) (other : K → K → Bool) (f : H → K) (g : N → M) (board : ℕ) (ts : List (Thing H N))
    → AgreeAll same other f ts → nodes_taken other board (map (rename f g) ts) ≡ nodes_taken same board ts
unfolding one_more
nodes-rename same other f g board [] h = refl
nodes-rename same other f g board (t ∷ ts) h =
    ap (λ b. one_more (is_of_board board t && not b) (nodes_taken other board (map (rename f g) ts))) (node-rename same other f g board t.holder ts h.0)
    ∙ ap (λ n. one_more (is_of_board board t && not (is_node same board t.holder ts)) n) (nodes-rename same other f g board ts h.1)
