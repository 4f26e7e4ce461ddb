-- What is kept of what is taken of a board, as things come and go.
use Rattle.std.proofs.Common.{◌≡◌, ℕ, ◌+◌, ◌-◌, ◌<◌, ◌≤◌, ◌^◌, Bool, true, false, cond, List, [], ◌∷◌, ◌++◌, length, map, Option, Some, None, refl, sym, ap, ◌∙◌, subst, arith}
use Rattle.std.specs.Prelude.{◌==◌, ◌&&◌, find, count_by, is_some, nat_eq}
use Rattle.std.specs.List.{list_any}
use Rattle.std.specs.Str.{bytes_eq}
use Rattle.std.specs.BTreeMap as tree
use Rattle.std.specs.BTreeMap.{BTreeMap}
use Rattle.std.specs.Cmp.Lexicographic.{slice_cmp}
use Rattle.std.specs.HashMap.{HashMap, get}
use Rattle.std.specs.Ordering.{is_eq, nat_cmp}
use Rattle.std.proofs.lemmas.Map.Text.{is_eq-slice_cmp}
use Rattle.std.proofs.lemmas.Bool.Decides.{nat_tests}
use Rattle.std.proofs.lemmas.List.Sums.{count_by-le-length}
use Rattle.std.proofs.lemmas.Slice.Eq.{bytes_eq-Decides}
use Rattle.board_model.specs.Tables.{holds_at, is_held_by, is_of_board, is_of_port, is_reader, is_reader_of, is_write_handle, number_if, without_first, writer_port, writes_entry}
use Rattle.board_model.specs.Things.{Held, is_held_as, named_anew}
use Rattle.board_model.proofs.ListLemmas.{any_counts, count_agree, count_map, count_none, count_push, count_without}
use Rattle.script_things.specs.declared.taken.Taken.{Taken}
use Rattle.script_seats.specs.Seats.{called}
use Rattle.script_things.specs.Taken.{AreLowered, AreRaised, AreSame, AreTaken, HasOne, IsLowered, IsRaised, IsSame, IsSmall, IsTaken, counted, handles_in, nodes_in, number_in, one_less, one_more, ports_in}

-- ---- counts as they are kept

pub number_counted : (c : ℕ) → number_in (counted c) ≡ c
number_counted c = elim (c == 0) as (λ z. (c == 0) ≡ z → number_in (cond z None (Some c)) ≡ c) [ true ↦ λ h. (let e : c ≡ 0 = grind (arith, nat_tests, h) in sym e) | false ↦ λ h. refl ] refl

counted_some : (c : ℕ) → 1 ≤ c → counted c ≡ Some c
counted_some c h = (let e : (c == 0) ≡ false = grind (arith, nat_tests, h) in rw e refl)

abbrev some_number : ℕ → Option ℕ
some_number n = Some n

pub counted_more : (b : Bool) (c : ℕ) → one_more b (counted c) ≡ counted (c + cond b 1 0)
counted_more true c = ap (λ n. some_number (n + 1)) (number_counted c) ∙ sym (counted_some (c + 1) (omega arith))
counted_more false c = (let e : c ≡ c + 0 = omega arith in ap counted e)

pub counted_less : (b : Bool) (c : ℕ) → one_less b (counted (c + cond b 1 0)) ≡ counted c
counted_less true c = (let e : c + 1 - 1 ≡ c = omega arith in ap (λ n. counted (n - 1)) (number_counted (c + 1)) ∙ ap counted e)
counted_less false c = (let e : c + 0 ≡ c = omega arith in ap counted e)

pub some_counted : {X : Type 0} (p : X → Bool) (xs : List X) → is_some (counted (count_by p xs)) ≡ list_any p xs
some_counted p xs =
    elim (list_any p xs) as (λ a. list_any p xs ≡ a → is_some (counted (count_by p xs)) ≡ a) [
      | true ↦ λ h. ap is_some (counted_some (count_by p xs) (any_counts p p (λ x e. e) xs h))
      | false ↦ λ h. ap (λ n. is_some (counted n)) (count_none p xs h)
    ] refl

-- ---- the number of a party's things

module _ (old new : BTreeMap (List ℕ) ℕ) (party : List ℕ) (w : Option ℕ) (set : (p : List ℕ) → tree.get (slice_cmp nat_cmp) new p ≡ cond (is_eq (slice_cmp nat_cmp party p)) w (tree.get (slice_cmp nat_cmp) old p)) where
  node_set : (p : List ℕ) (f : Option ℕ → Option ℕ) → w ≡ f (tree.get (slice_cmp nat_cmp) old party) → tree.get (slice_cmp nat_cmp) new p ≡ cond (bytes_eq party p) (f (tree.get (slice_cmp nat_cmp) old p)) (tree.get (slice_cmp nat_cmp) old p)
  node_set p f is = set p ∙ ap (λ z. cond z w (tree.get (slice_cmp nat_cmp) old p)) (is_eq-slice_cmp party p)
      ∙ elim (bytes_eq party p) as (λ z. bytes_eq party p ≡ z → cond z w (tree.get (slice_cmp nat_cmp) old p) ≡ cond z (f (tree.get (slice_cmp nat_cmp) old p)) (tree.get (slice_cmp nat_cmp) old p)) [
        | true ↦ λ h. is ∙ ap (λ (x : List ℕ). f (tree.get (slice_cmp nat_cmp) old x)) ((bytes_eq-Decides party p).0 h)
        | false ↦ λ h. refl
      ] refl

  pub node_raised : w ≡ Some (number_in (tree.get (slice_cmp nat_cmp) old party) + 1) → (p : List ℕ) → tree.get (slice_cmp nat_cmp) new p ≡ one_more (bytes_eq party p) (tree.get (slice_cmp nat_cmp) old p)
  node_raised is p = node_set p (λ o. Some (number_in o + 1)) is

  pub node_lowered : w ≡ counted (number_in (tree.get (slice_cmp nat_cmp) old party) - 1) → (p : List ℕ) → tree.get (slice_cmp nat_cmp) new p ≡ one_less (bytes_eq party p) (tree.get (slice_cmp nat_cmp) old p)
  node_lowered is p = node_set p (λ o. counted (number_in o - 1)) is

pub some_left : (n : ℕ) → 1 < n → Some (n - 1) ≡ counted (n - 1)
some_left n h = sym (counted_some (n - 1) (omega (arith, h)))

pub none_left : (n : ℕ) → n ≤ 1 → None ≡ counted (n - 1)
none_left n h = (let e : 0 ≡ n - 1 = omega (arith, h) in ap counted e)

-- ---- what stays the same

pub small_same : (o n : Option Taken) → IsSame o n → IsSmall o → IsSmall n
small_same o n same small = record {
  readers = subst (λ m. m < 2 ^ 63) (sym same.readers) small.readers;
  nodes = λ p. subst (λ (x : Option ℕ). number_in x < 2 ^ 63) (sym (same.nodes p)) (small.nodes p);
  ports = λ p. subst (λ (x : Option ℕ). number_in x < 2 ^ 63) (sym (same.ports p)) (small.ports p);
  handles = λ e. subst (λ (x : Option ℕ). number_in x < 2 ^ 63) (sym (same.handles e)) (small.handles e);
}

-- ---- one test, as a thing comes or goes

module _ (test : Held → Bool) (ts : List Held) (t : Held) (z : Bool) (is : test t ≡ z) where
  grown : (o n : Option ℕ) → o ≡ counted (count_by test ts) → n ≡ one_more z o → n ≡ counted (count_by test (ts ++ t ∷ []))
  grown o n h r = r ∙ ap (one_more z) h ∙ counted_more z (count_by test ts) ∙ ap counted (ap (λ w. count_by test ts + cond w 1 0) (sym is) ∙ sym (count_push test ts t))

  module _ (q : Held → Bool) (f : find q ts ≡ Some t) where
    before : count_by test (without_first q ts) + cond z 1 0 ≡ count_by test ts
    before = ap (λ w. count_by test (without_first q ts) + cond w 1 0) (sym is) ∙ count_without test q ts t f

    shrunk : (o n : Option ℕ) → o ≡ counted (count_by test ts) → n ≡ one_less z o → n ≡ counted (count_by test (without_first q ts))
    shrunk o n h r = r ∙ ap (one_less z) (h ∙ ap counted (sym before)) ∙ counted_less z (count_by test (without_first q ts))

    used : (o : Option ℕ) → o ≡ counted (count_by test ts) → number_if z ≤ number_in o
    used o h = (let e = ap number_in h ∙ number_counted (count_by test ts) in omega (arith, e, before))

-- ---- a board

module _ (board : ℕ) (ts : List Held) (t : Held) (o n : Option Taken) (kept : IsTaken board ts o) where
  here : (t.board == board) ≡ true → (z : Bool) → (is_of_board board t && z) ≡ z
  here same z = rw same refl

  elsewhere : (t.board == board) ≡ false → (z : Bool) → (is_of_board board t && z) ≡ false
  elsewhere other z = rw other refl

  here_more : (t.board == board) ≡ true → IsRaised t.holder t.kind o n → IsTaken board (ts ++ t ∷ []) n
  here_more same r = record {
    readers = (let e : cond (is_reader_of board t) 1 0 ≡ number_if (is_reader t.kind) = ap (λ z. cond z 1 0) (here same (is_reader t.kind)) in omega (arith, r.readers, kept.readers, count_push (is_reader_of board) ts t, e));
    nodes = λ p. grown (is_held_by bytes_eq board p) ts t (bytes_eq t.holder p) (here same (bytes_eq t.holder p)) (nodes_in o p) (nodes_in n p) (kept.nodes p) (r.nodes p);
    ports = λ p. grown (is_of_port board p) ts t (holds_at (writer_port t.kind) (λ q. q == p)) (here same (holds_at (writer_port t.kind) (λ q. q == p))) (ports_in o p) (ports_in n p) (kept.ports p) (r.ports p);
    handles = λ e. grown (is_write_handle board e) ts t (writes_entry e t.kind) (here same (writes_entry e t.kind)) (handles_in o e) (handles_in n e) (kept.handles e) (r.handles e);
  }

  other_more : (t.board == board) ≡ false → IsSame o n → IsTaken board (ts ++ t ∷ []) n
  other_more other s = record {
    readers = (let e : cond (is_reader_of board t) 1 0 ≡ number_if false = ap (λ z. cond z 1 0) (elsewhere other (is_reader t.kind)) in omega (arith, s.readers, kept.readers, count_push (is_reader_of board) ts t, e));
    nodes = λ p. grown (is_held_by bytes_eq board p) ts t false (elsewhere other (bytes_eq t.holder p)) (nodes_in o p) (nodes_in n p) (kept.nodes p) (s.nodes p);
    ports = λ p. grown (is_of_port board p) ts t false (elsewhere other (holds_at (writer_port t.kind) (λ q. q == p))) (ports_in o p) (ports_in n p) (kept.ports p) (s.ports p);
    handles = λ e. grown (is_write_handle board e) ts t false (elsewhere other (writes_entry e t.kind)) (handles_in o e) (handles_in n e) (kept.handles e) (s.handles e);
  }

  module _ (q : Held → Bool) (f : find q ts ≡ Some t) where
    here_less : (t.board == board) ≡ true → IsLowered t.holder t.kind o n → IsTaken board (without_first q ts) n
    here_less same r = record {
      readers = (let e : cond (is_reader_of board t) 1 0 ≡ number_if (is_reader t.kind) = ap (λ z. cond z 1 0) (here same (is_reader t.kind)) in omega (arith, r.readers, kept.readers, count_without (is_reader_of board) q ts t f, e));
      nodes = λ p. shrunk (is_held_by bytes_eq board p) ts t (bytes_eq t.holder p) (here same (bytes_eq t.holder p)) q f (nodes_in o p) (nodes_in n p) (kept.nodes p) (r.nodes p);
      ports = λ p. shrunk (is_of_port board p) ts t (holds_at (writer_port t.kind) (λ r. r == p)) (here same (holds_at (writer_port t.kind) (λ r. r == p))) q f (ports_in o p) (ports_in n p) (kept.ports p) (r.ports p);
      handles = λ e. shrunk (is_write_handle board e) ts t (writes_entry e t.kind) (here same (writes_entry e t.kind)) q f (handles_in o e) (handles_in n e) (kept.handles e) (r.handles e);
    }

    other_less : (t.board == board) ≡ false → IsSame o n → IsTaken board (without_first q ts) n
    other_less other s = record {
      readers = (let e : cond (is_reader_of board t) 1 0 ≡ number_if false = ap (λ z. cond z 1 0) (elsewhere other (is_reader t.kind)) in omega (arith, s.readers, kept.readers, count_without (is_reader_of board) q ts t f, e));
      nodes = λ p. shrunk (is_held_by bytes_eq board p) ts t false (elsewhere other (bytes_eq t.holder p)) q f (nodes_in o p) (nodes_in n p) (kept.nodes p) (s.nodes p);
      ports = λ p. shrunk (is_of_port board p) ts t false (elsewhere other (holds_at (writer_port t.kind) (λ r. r == p))) q f (ports_in o p) (ports_in n p) (kept.ports p) (s.ports p);
      handles = λ e. shrunk (is_write_handle board e) ts t false (elsewhere other (writes_entry e t.kind)) q f (handles_in o e) (handles_in n e) (kept.handles e) (s.handles e);
    }

    has_one : (t.board == board) ≡ true → HasOne t.holder t.kind o
    has_one same = record {
      readers = (let e : cond (is_reader_of board t) 1 0 ≡ number_if (is_reader t.kind) = ap (λ z. cond z 1 0) (here same (is_reader t.kind)) in omega (arith, kept.readers, count_without (is_reader_of board) q ts t f, e));
      nodes = (let e : bytes_eq t.holder t.holder ≡ true = (bytes_eq-Decides t.holder t.holder).1 refl in used (is_held_by bytes_eq board t.holder) ts t true (here same (bytes_eq t.holder t.holder) ∙ e) q f (nodes_in o t.holder) (kept.nodes t.holder));
      ports = λ p. used (is_of_port board p) ts t (holds_at (writer_port t.kind) (λ r. r == p)) (here same (holds_at (writer_port t.kind) (λ r. r == p))) q f (ports_in o p) (kept.ports p);
      handles = λ e. used (is_write_handle board e) ts t (writes_entry e t.kind) (here same (writes_entry e t.kind)) q f (handles_in o e) (kept.handles e);
    }

-- ---- all boards

same_board : (a b : ℕ) → (a == b) ≡ true → a ≡ b
same_board a b h = grind (arith, nat_tests, h)

itself : (a : ℕ) → (a == a) ≡ true
itself a = grind (arith, nat_tests)

module _ {S : Type 0} (old new : HashMap ℕ Taken S) (ts : List Held) (kept : AreTaken old ts) where
  pub all_same : AreSame old new → AreTaken new ts
  all_same same board = record {
    readers = (same board).readers ∙ (kept board).readers;
    nodes = λ p. (same board).nodes p ∙ (kept board).nodes p;
    ports = λ p. (same board).ports p ∙ (kept board).ports p;
    handles = λ e. (same board).handles e ∙ (kept board).handles e;
  }

  pub all_more : (t : Held) → AreRaised t old new → AreTaken new (ts ++ t ∷ [])
  all_more t r board =
      elim (t.board == board) as (λ z. (t.board == board) ≡ z → IsTaken board (ts ++ t ∷ []) (get nat_eq new board)) [
        | true ↦ λ h. here_more board ts t (get nat_eq old board) (get nat_eq new board) (kept board) h (subst (λ b. IsRaised t.holder t.kind (get nat_eq old b) (get nat_eq new b)) (same_board t.board board h) r.this)
        | false ↦ λ h. other_more board ts t (get nat_eq old board) (get nat_eq new board) (kept board) h (r.others board h)
      ] refl

  pub all_less : (t : Held) (q : Held → Bool) → find q ts ≡ Some t → AreLowered t old new → AreTaken new (without_first q ts)
  all_less t q f r board =
      elim (t.board == board) as (λ z. (t.board == board) ≡ z → IsTaken board (without_first q ts) (get nat_eq new board)) [
        | true ↦ λ h. here_less board ts t (get nat_eq old board) (get nat_eq new board) (kept board) q f h (subst (λ b. IsLowered t.holder t.kind (get nat_eq old b) (get nat_eq new b)) (same_board t.board board h) r.this)
        | false ↦ λ h. other_less board ts t (get nat_eq old board) (get nat_eq new board) (kept board) q f h (r.others board h)
      ] refl

  pub one_stands : (t : Held) (q : Held → Bool) → find q ts ≡ Some t → HasOne t.holder t.kind (get nat_eq old t.board)
  one_stands t q f = has_one t.board ts t (get nat_eq old t.board) None (kept t.board) q f (itself t.board)

  pub all_small : (board : ℕ) → length ts < 2 ^ 63 → IsSmall (get nat_eq old board)
  all_small board small = record {
    readers = omega (arith, small, (kept board).readers, count_by-le-length (is_reader_of board) ts);
    nodes = λ p. (let e = ap number_in ((kept board).nodes p) ∙ number_counted (count_by (is_held_by bytes_eq board p) ts) in omega (arith, small, e, count_by-le-length (is_held_by bytes_eq board p) ts));
    ports = λ p. (let e = ap number_in ((kept board).ports p) ∙ number_counted (count_by (is_of_port board p) ts) in omega (arith, small, e, count_by-le-length (is_of_port board p) ts));
    handles = λ e. (let f = ap number_in ((kept board).handles e) ∙ number_counted (count_by (is_write_handle board e) ts) in omega (arith, small, f, count_by-le-length (is_write_handle board e) ts));
  }

  -- names count for nothing
  module _ (party from to : List ℕ) where
    anew_same : (test : Held → Bool) → ((x : Held) → test (called to x) ≡ test x) → count_by test (map (named_anew party from to) ts) ≡ count_by test ts
    anew_same test same = count_map (named_anew party from to) test ts ∙ count_agree (λ x. test (named_anew party from to x)) test
        (λ x. elim (is_held_as party from x) as (λ z. test (cond z (called to x) x) ≡ test x) [ true ↦ same x | false ↦ refl ]) ts

    pub all_renamed : AreTaken old (map (named_anew party from to) ts)
    all_renamed board = record {
      readers = (kept board).readers ∙ sym (anew_same (is_reader_of board) (λ x. refl));
      nodes = λ p. (kept board).nodes p ∙ ap counted (sym (anew_same (is_held_by bytes_eq board p) (λ x. refl)));
      ports = λ p. (kept board).ports p ∙ ap counted (sym (anew_same (is_of_port board p) (λ x. refl)));
      handles = λ e. (kept board).handles e ∙ ap counted (sym (anew_same (is_write_handle board e) (λ x. refl)));
    }
