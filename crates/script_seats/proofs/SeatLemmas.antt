-- The index, after a change of what stands.
use Rattle.std.proofs.Common.{◌≡◌, ℕ, Bool, true, false, cond, eq-eqb, List, Option, Some, None, refl, sym, ap, ◌∙◌, subst, ◌⊎◌, inl, inr}
use Rattle.std.specs.Prelude.{is_some, nat_eq}
use Rattle.std.specs.Str.{bytes_eq}
use Rattle.std.proofs.lemmas.Bool.{and_parts}
use Rattle.std.proofs.lemmas.Bool.Decides.{Decides-eqb}
use Rattle.std.proofs.lemmas.Slice.Eq.{bytes_eq-Decides}
use Rattle.board_model.specs.Tables.{holds_at}
use Rattle.board_model.specs.Things.{Held}
use Rattle.script_seats.specs.Seats.{IsNowhere, IsNumberOf, IsOnlyAt, SeatOf, called, is_at, put, same_seat, seat_of}

-- ---- parties' names

same_bytes : (p : List ℕ) → bytes_eq p p ≡ true
same_bytes p = (bytes_eq-Decides p p).1 refl

-- the seats are one
pub one_seat : (a b : SeatOf) → same_seat a b ≡ true → a ≡ b
one_seat a b h =
    let p = and_parts (bytes_eq a.party b.party) (bytes_eq a.name b.name) h in
    let x : a.party ≡ b.party = (bytes_eq-Decides a.party b.party).0 p.0 in
    let y : a.name ≡ b.name = (bytes_eq-Decides a.name b.name).0 p.1 in
    λ i. record { party = x i; name = y i }

pub its_own : (a : SeatOf) → same_seat a a ≡ true
its_own a = rw (same_bytes a.party, same_bytes a.name) refl

pub either : (b : Bool) → (b ≡ true) ⊎ (b ≡ false)
either true = inl refl
either false = inr refl

-- what is under one seat is under no other
apart : (r s : SeatOf) (x : Held) → same_seat r s ≡ false → is_at r x ≡ true → is_at s x ≡ false
apart r s x h e =
    elim (either (is_at s x)) [
      | inl f ↦ absurd (
          let a : seat_of x ≡ r = one_seat (seat_of x) r e in
          let b : seat_of x ≡ s = one_seat (seat_of x) s f in
          let one : same_seat r s ≡ true = subst (λ (z : SeatOf). same_seat r z ≡ true) (sym a ∙ b) (its_own r) in
          let none : true ≡ false = sym one ∙ h in cc)
      | inr f ↦ f
    ]

pub apart_at : (r s : SeatOf) (o : Option Held) → same_seat r s ≡ false → holds_at o (is_at r) ≡ true → holds_at o (is_at s) ≡ false
apart_at r s None h e = refl
apart_at r s (Some x) h e = apart r s x h e

-- ---- another thing under a number

module _ {X : Type 0} (things : ℕ → Option X) (n : ℕ) (y : Option X) where
  pub put_here : put n y things n ≡ y
  put_here = (let same : nat_eq n n ≡ true = eq-eqb n n refl in rw same refl)

  pub put_other : (k : ℕ) → nat_eq n k ≡ false → put n y things k ≡ things k
  put_other k e = rw e refl

  module _ (p : X → Bool) where
    -- what stands there fails, and so does what stood elsewhere
    pub put_fails : (k : ℕ) → holds_at y p ≡ false → (nat_eq n k ≡ false → holds_at (things k) p ≡ false) → holds_at (put n y things k) p ≡ false
    put_fails k fails other =
        elim (nat_eq n k) as (λ b. (b ≡ false → holds_at (things k) p ≡ false) → holds_at (cond b y (things k)) p ≡ false) [
          | true ↦ λ h. fails
          | false ↦ λ h. h refl
        ] other

    pub gone : IsOnlyAt p things n → holds_at y p ≡ false → IsNowhere p (put n y things)
    gone h fails k = put_fails k fails (h.others k)

    pub here : ((k : ℕ) → nat_eq n k ≡ false → holds_at (things k) p ≡ false) → holds_at y p ≡ true → IsOnlyAt p (put n y things) n
    here others holds = record {
      passes = ap (λ (o : Option X). holds_at o p) put_here ∙ holds;
      others = λ k e. ap (λ (o : Option X). holds_at o p) (put_other k e) ∙ others k e;
    }

    -- neither what stood there passes nor what does then
    pub still : (o : Option ℕ) → IsNumberOf p things o → holds_at (things n) p ≡ false → holds_at y p ≡ false → IsNumberOf p (put n y things) o
    still None h was fails = λ k. put_fails k fails (λ e. h k)
    still (Some j) h was fails = record {
      passes =
          elim (either (nat_eq n j)) [
            | inl e ↦ absurd (
                let same : n ≡ j = (Decides-eqb n j).0 e in
                let none : holds_at (things j) p ≡ false = subst (λ i. holds_at (things i) p ≡ false) same was in
                let both : true ≡ false = sym h.passes ∙ none in cc)
            | inr e ↦ ap (λ (o : Option X). holds_at o p) (put_other j e) ∙ h.passes
          ];
      others = λ k e. put_fails k fails (λ f. h.others k e);
    }

-- ---- the index after it

module _ (m : SeatOf → Option ℕ) (things : ℕ → Option Held) (index : (s : SeatOf) → IsNumberOf (is_at s) things (m s)) where
  pub found : (s : SeatOf) (o : Option ℕ) → m s ≡ o → IsNumberOf (is_at s) things o
  found s o e = subst (IsNumberOf (is_at s) things) e (index s)

  pub free_at : (s : SeatOf) → is_some (m s) ≡ false → IsNowhere (is_at s) things
  free_at s free = of (m s) free (index s)
    where
      of : (o : Option ℕ) → is_some o ≡ false → IsNumberOf (is_at s) things o → IsNowhere (is_at s) things
      of None e h = h
      of (Some n) e h = absurd (let f : true ≡ false = e in cc)

  -- what is kept under a name stands
  pub stands : (s : SeatOf) → is_some (m s) ≡ true → IsNowhere (is_at s) things → true ≡ false
  stands s there none = of (m s) there (index s)
    where
      of : (o : Option ℕ) → is_some o ≡ true → IsNumberOf (is_at s) things o → true ≡ false
      of None e h = sym e
      of (Some n) e h = sym h.passes ∙ none n

  -- a thing more, under a name that is free
  pub pushed : (t : Held) (n : ℕ) → things n ≡ None → is_some (m (seat_of t)) ≡ false → (new : SeatOf → Option ℕ) → ((s : SeatOf) → new s ≡ cond (same_seat (seat_of t) s) (Some n) (m s))
      → (s : SeatOf) → IsNumberOf (is_at s) (put n (Some t) things) (new s)
  pushed t n none free new shown s =
      subst (IsNumberOf (is_at s) (put n (Some t) things)) (sym (shown s))
      (elim (same_seat (seat_of t) s) as (λ z. same_seat (seat_of t) s ≡ z → IsNumberOf (is_at s) (put n (Some t) things) (cond z (Some n) (m s))) [
        | true ↦ λ e. here things n (Some t) (is_at s) (λ k f. free_at s (subst (λ (r : SeatOf). is_some (m r) ≡ false) (one_seat (seat_of t) s e) free) k) e
        | false ↦ λ e. still things n (Some t) (is_at s) (m s) (index s) (ap (λ (o : Option Held). holds_at o (is_at s)) none) e
      ] refl)

  -- nothing was kept that could go
  pub untouched : (r : SeatOf) → m r ≡ None → (new : SeatOf → Option ℕ) → ((s : SeatOf) → new s ≡ cond (same_seat r s) None (m s)) → (s : SeatOf) → IsNumberOf (is_at s) things (new s)
  untouched r none new shown s =
      subst (IsNumberOf (is_at s) things) (sym (shown s))
      (elim (same_seat r s) as (λ z. same_seat r s ≡ z → IsNumberOf (is_at s) things (cond z None (m s))) [
        | true ↦ λ e. subst (λ (z : SeatOf). IsNowhere (is_at z) things) (one_seat r s e) (found r None none)
        | false ↦ λ e. index s
      ] refl)

  module _ (r : SeatOf) (n : ℕ) (there : m r ≡ Some n) where
    pub only : IsOnlyAt (is_at r) things n
    only = found r (Some n) there

    was : (s : SeatOf) → same_seat r s ≡ false → holds_at (things n) (is_at s) ≡ false
    was s e = apart_at r s (things n) e only.passes

    -- the one thing under a name is gone
    pub taken : (new : SeatOf → Option ℕ) → ((s : SeatOf) → new s ≡ cond (same_seat r s) None (m s)) → (s : SeatOf) → IsNumberOf (is_at s) (put n None things) (new s)
    taken new shown s =
        subst (IsNumberOf (is_at s) (put n None things)) (sym (shown s))
        (elim (same_seat r s) as (λ z. same_seat r s ≡ z → IsNumberOf (is_at s) (put n None things) (cond z None (m s))) [
          | true ↦ λ e. subst (λ (z : SeatOf). IsNowhere (is_at z) (put n None things)) (one_seat r s e) (gone things n None (is_at r) only refl)
          | false ↦ λ e. still things n None (is_at s) (m s) (index s) (was s e) refl
        ] refl)

    -- it has another name, which is free without it
    pub renamed : (to : SeatOf) → r.party ≡ to.party → is_some (cond (same_seat r to) None (m to)) ≡ false
        → (new : SeatOf → Option ℕ) → ((s : SeatOf) → new s ≡ cond (same_seat to s) (Some n) (cond (same_seat r s) None (m s)))
        → (t : Held) → things n ≡ Some t → (s : SeatOf) → IsNumberOf (is_at s) (put n (Some (called to.name t)) things) (new s)
    renamed to party free new shown t at s =
        subst (IsNumberOf (is_at s) (put n (Some (called to.name t)) things)) (sym (shown s))
        (elim (same_seat to s) as (λ z. same_seat to s ≡ z → IsNumberOf (is_at s) (put n (Some (called to.name t)) things) (cond z (Some n) (cond (same_seat r s) None (m s)))) [
          | true ↦ λ e. subst (λ (z : SeatOf). IsOnlyAt (is_at z) (put n (Some (called to.name t)) things) n) (one_seat to s e) (here things n (Some (called to.name t)) (is_at to) others its)
          | false ↦ λ e.
              let fails : is_at s (called to.name t) ≡ false = apart to s (called to.name t) e its in
              elim (same_seat r s) as (λ z. same_seat r s ≡ z → IsNumberOf (is_at s) (put n (Some (called to.name t)) things) (cond z None (m s))) [
                | true ↦ λ f. subst (λ (z : SeatOf). is_at z (called to.name t) ≡ false → IsNowhere (is_at z) (put n (Some (called to.name t)) things)) (one_seat r s f)
                    (λ g. gone things n (Some (called to.name t)) (is_at r) only g) fails
                | false ↦ λ f. still things n (Some (called to.name t)) (is_at s) (m s) (index s) (was s f) fails
              ] refl
        ] refl)
      where
        its : is_at to (called to.name t) ≡ true
        its =
            let holds : is_at r t ≡ true = ap (λ (o : Option Held). holds_at o (is_at r)) (sym at) ∙ only.passes in
            let p : bytes_eq t.holder r.party ≡ true = (and_parts (bytes_eq t.holder r.party) (bytes_eq t.name r.name) holds).0 in
            let q : bytes_eq t.holder to.party ≡ true = subst (λ (z : List ℕ). bytes_eq t.holder z ≡ true) party p in
            rw (q, same_bytes to.name) refl

        others : (k : ℕ) → nat_eq n k ≡ false → holds_at (things k) (is_at to) ≡ false
        others k f =
            elim (same_seat r to) as (λ z. same_seat r to ≡ z → is_some (cond z None (m to)) ≡ false → holds_at (things k) (is_at to) ≡ false) [
              | true ↦ λ e g. subst (λ (z : SeatOf). holds_at (things k) (is_at z) ≡ false) (one_seat r to e) (only.others k f)
              | false ↦ λ e g. free_at to g k
            ] refl free
