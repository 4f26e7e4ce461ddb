-- Rows of events after a change of one, and with one more.
use Rattle.std.proofs.Common.{◌≡◌, ℕ, ◌+◌, ◌-◌, ◌<◌, ◌≤◌, Bool, true, false, List, [], ◌∷◌, ◌++◌, length, get_or, Option, Some, None, Result, Ok, Err, refl, sym, ◌∙◌, ap, subst, arith, inl, inr}
use Rattle.std.proofs.Math.ListN.{get_or-append, set}
use Rattle.std.proofs.Math.Seq.{get_or-append_seam}
use Rattle.std.proofs.lemmas.List.{get_or-set_same, get_or-set_other, length-set, length_push}
use Rattle.std.specs.Prelude.{IsSomeAnd, OnErr, is_some, ◌==◌, if◌then◌else◌}
use Rattle.std.proofs.lemmas.Bool.Decides.{Decides-eqb}
use Rattle.std.proofs.lemmas.Bool.{false≢true}
use Rattle.board_event_model.specs.EventMemory.{Event}
use Rattle.board_event_model.specs.EventSessions.{StandingEvent, change_at, event_of}
use Rattle.board_event_model.proofs.SetLemmas.{either}
use Rattle.script_event_rows.specs.declared.event_row.EventRow.{EventRow}
use Rattle.script_event_rows.specs.EventRows.{StandsFor}

-- both hold of what is there
pub both : (o : Option Event) (P Q : Event → Type 0) → IsSomeAnd o P → IsSomeAnd o Q → (e : Event) × P e × Q e
both None P Q p q = absurd p
both (Some e) P Q p q = (e, p, q)

-- what holds anyway holds where there is an error
pub on_err : {A E P : Type 0} (r : Result A E) → P → OnErr r P
on_err (Ok x) p = tt
on_err (Err e) p = p

pub none_of : (o : Option ℕ) → is_some o ≡ false → o ≡ None
none_of None h = refl
none_of (Some n) h = absurd (false≢true (sym h))

-- ---- events with one changed

abbrev changed_by : Bool → (Event → Event) → Option Event → Option Event
changed_by b f None = None
changed_by b f (Some e) = Some (if b then f e else e)

event_of-change : (stands : ℕ → Option StandingEvent) (n : ℕ) (f : Event → Event) (q : ℕ) → event_of (change_at stands n f) q ≡ changed_by (q == n) f (event_of stands q)
event_of-change stands n f q = by (stands q)
  where
    by : (o : Option StandingEvent) → elim (elim o as (λ _. Option StandingEvent) [ None ↦ None | Some st ↦ Some (record st { event = if q == n then f st.event else st.event }) ]) as (λ _. Option Event) [ None ↦ None | Some st ↦ Some st.event ]
        ≡ changed_by (q == n) f (elim o as (λ _. Option Event) [ None ↦ None | Some st ↦ Some st.event ])
    by None = refl
    by (Some st) = refl

own_of : (o : Option Event) (b : Bool) (f : Event → Event) (row new : EventRow) → b ≡ true → ((e : Event) → StandsFor row e → StandsFor new (f e)) → IsSomeAnd o (StandsFor row) → IsSomeAnd (changed_by b f o) (StandsFor new)
own_of None b f row new same becomes h = absurd h
own_of (Some e) true f row new same becomes h = becomes e h
own_of (Some e) false f row new same becomes h = absurd (false≢true same)

other_of : (o : Option Event) (b : Bool) (f : Event → Event) (row : EventRow) → b ≡ false → IsSomeAnd o (StandsFor row) → IsSomeAnd (changed_by b f o) (StandsFor row)
other_of None b f row apart h = absurd h
other_of (Some e) true f row apart h = absurd (false≢true (sym apart))
other_of (Some e) false f row apart h = h

kept_of : (o : Option Event) (row new : EventRow) → ((e : Event) → StandsFor row e → StandsFor new e) → IsSomeAnd o (StandsFor row) → IsSomeAnd o (StandsFor new)
kept_of None row new becomes h = absurd h
kept_of (Some e) row new becomes h = becomes e h

-- ---- rows

abbrev pub AreRows : List EventRow → (ℕ → Option StandingEvent) → Type 0
AreRows rows stands = (i : ℕ) (d : EventRow) → i < length rows → IsSomeAnd (event_of stands (i + 1)) (StandsFor (get_or rows i d))

pub row_of : (rows : List EventRow) (stands : ℕ → Option StandingEvent) (n : ℕ) (w : EventRow) → AreRows rows stands → 1 ≤ n → n ≤ length rows → w ≡ get_or rows (n - 1) w → IsSomeAnd (event_of stands n) (StandsFor w)
row_of rows stands n w are first last is =
    let e : n - 1 + 1 ≡ n = omega (arith, first) in
    subst (λ (m : ℕ). IsSomeAnd (event_of stands m) (StandsFor w)) e
    (subst (λ (x : EventRow). IsSomeAnd (event_of stands (n - 1 + 1)) (StandsFor x)) (sym is) (are (n - 1) w (omega (arith, first, last))))

module _ (rows : List EventRow) (stands : ℕ → Option StandingEvent) (n : ℕ) (w new : EventRow) (are : AreRows rows stands) (first : 1 ≤ n) (last : n ≤ length rows) (is : w ≡ get_or rows (n - 1) w) where
  put : (i : ℕ) (d : EventRow) → (i + 1 == n) ≡ true → get_or (set rows (n - 1) new) i d ≡ new
  put i d same =
      let e : i + 1 ≡ n = (Decides-eqb (i + 1) n).0 same in
      let place : i ≡ n - 1 = omega (arith, e) in
      ap (λ (j : ℕ). get_or (set rows (n - 1) new) j d) place ∙ get_or-set_same rows (n - 1) new d (omega (arith, first, last))

  left : (i : ℕ) (d : EventRow) → (i + 1 == n) ≡ false → get_or (set rows (n - 1) new) i d ≡ get_or rows i d
  left i d apart = get_or-set_other rows (n - 1) i new d (λ h. false≢true (sym apart ∙ (Decides-eqb (i + 1) n).1 (omega (arith, h, first))))

  here : (i : ℕ) → (i + 1 == n) ≡ true → IsSomeAnd (event_of stands (i + 1)) (StandsFor w)
  here i same = subst (λ (m : ℕ). IsSomeAnd (event_of stands m) (StandsFor w)) (sym ((Decides-eqb (i + 1) n).0 same)) (row_of rows stands n w are first last is)

  short : (i : ℕ) → i < length (set rows (n - 1) new) → i < length rows
  short i low = (let e = length-set rows (n - 1) new in omega (arith, low, e))

  pub changed_rows : (f : Event → Event) → ((e : Event) → StandsFor w e → StandsFor new (f e)) → AreRows (set rows (n - 1) new) (change_at stands n f)
  changed_rows f becomes i d low =
      subst (λ (o : Option Event). IsSomeAnd o (StandsFor (get_or (set rows (n - 1) new) i d))) (sym (event_of-change stands n f (i + 1)))
      (elim (either (i + 1 == n)) as (λ _. IsSomeAnd (changed_by (i + 1 == n) f (event_of stands (i + 1))) (StandsFor (get_or (set rows (n - 1) new) i d))) [
        | inl same ↦ subst (λ (x : EventRow). IsSomeAnd (changed_by (i + 1 == n) f (event_of stands (i + 1))) (StandsFor x)) (sym (put i d same)) (own_of (event_of stands (i + 1)) (i + 1 == n) f w new same becomes (here i same))
        | inr apart ↦ subst (λ (x : EventRow). IsSomeAnd (changed_by (i + 1 == n) f (event_of stands (i + 1))) (StandsFor x)) (sym (left i d apart)) (other_of (event_of stands (i + 1)) (i + 1 == n) f (get_or rows i d) apart (are i d (short i low)))
      ])

  pub kept_rows : ((e : Event) → StandsFor w e → StandsFor new e) → AreRows (set rows (n - 1) new) stands
  kept_rows becomes i d low =
      elim (either (i + 1 == n)) as (λ _. IsSomeAnd (event_of stands (i + 1)) (StandsFor (get_or (set rows (n - 1) new) i d))) [
        | inl same ↦ subst (λ (x : EventRow). IsSomeAnd (event_of stands (i + 1)) (StandsFor x)) (sym (put i d same)) (kept_of (event_of stands (i + 1)) w new becomes (here i same))
        | inr apart ↦ subst (λ (x : EventRow). IsSomeAnd (event_of stands (i + 1)) (StandsFor x)) (sym (left i d apart)) (are i d (short i low))
      ]

-- ---- one row more

abbrev pub with_more : (ℕ → Option StandingEvent) → ℕ → StandingEvent → ℕ → Option StandingEvent
with_more stands count st m = if m == count + 1 then Some st else stands m

more_own : (stands : ℕ → Option StandingEvent) (count : ℕ) (st : StandingEvent) (q : ℕ) → (q == count + 1) ≡ true → event_of (with_more stands count st) q ≡ Some st.event
more_own stands count st q same = rw (same, event_of) refl

more_other : (stands : ℕ → Option StandingEvent) (count : ℕ) (st : StandingEvent) (q : ℕ) → (q == count + 1) ≡ false → event_of (with_more stands count st) q ≡ event_of stands q
more_other stands count st q apart = rw (apart, event_of) refl

pub grown_rows : (rows : List EventRow) (stands : ℕ → Option StandingEvent) (row : EventRow) (st : StandingEvent) (count : ℕ) → length rows ≡ count → AreRows rows stands → StandsFor row st.event → AreRows (rows ++ row ∷ []) (with_more stands count st)
grown_rows rows stands row st count len are h i d low =
    let n : length (rows ++ row ∷ []) ≡ length rows + 1 = length_push rows row in
    elim (either (i + 1 == count + 1)) as (λ _. IsSomeAnd (event_of (with_more stands count st) (i + 1)) (StandsFor (get_or (rows ++ row ∷ []) i d))) [
      | inl same ↦ (
          let e : i + 1 ≡ count + 1 = (Decides-eqb (i + 1) (count + 1)).0 same in
          let place : i ≡ length rows = omega (arith, e, len) in
          subst (λ (o : Option Event). IsSomeAnd o (StandsFor (get_or (rows ++ row ∷ []) i d))) (sym (more_own stands count st (i + 1) same))
          (subst (λ (x : EventRow). StandsFor x st.event) (sym (ap (λ (j : ℕ). get_or (rows ++ row ∷ []) j d) place ∙ get_or-append_seam rows row [] d)) h))
      | inr apart ↦ (
          let d' : (i ≡ count → ⊥) = (λ e. false≢true (sym apart ∙ (Decides-eqb (i + 1) (count + 1)).1 (omega (arith, e)))) in
          let short : i < length rows = omega (arith, n, low, len, d') in
          subst (λ (o : Option Event). IsSomeAnd o (StandsFor (get_or (rows ++ row ∷ []) i d))) (sym (more_other stands count st (i + 1) apart))
          (subst (λ (x : EventRow). IsSomeAnd (event_of stands (i + 1)) (StandsFor x)) (sym (get_or-append rows (row ∷ []) d i short)) (are i d short)))
    ]

-- ---- the parties of listeners

abbrev pub AreOwners : List (List ℕ) → (ℕ → Option StandingEvent) → Type 0
AreOwners listeners stands = (i : ℕ) (d : List ℕ) → i < length listeners → IsSomeAnd (stands (i + 1)) (λ st. st.listener ≡ get_or listeners i d)

kept_owner : (o : Option StandingEvent) (b : Bool) (f : Event → Event) (x : List ℕ) → IsSomeAnd o (λ st. st.listener ≡ x) → IsSomeAnd (elim o as (λ _. Option StandingEvent) [ None ↦ None | Some st ↦ Some (record st { event = if b then f st.event else st.event }) ]) (λ st. st.listener ≡ x)
kept_owner None b f x h = absurd h
kept_owner (Some st) b f x h = h

-- a change of an event leaves its listener's party
pub changed_owners : (listeners : List (List ℕ)) (stands : ℕ → Option StandingEvent) (n : ℕ) (f : Event → Event) → AreOwners listeners stands → AreOwners listeners (change_at stands n f)
changed_owners listeners stands n f are i d low = kept_owner (stands (i + 1)) (i + 1 == n) f (get_or listeners i d) (are i d low)

-- a new event has its own
pub grown_owners : (listeners : List (List ℕ)) (stands : ℕ → Option StandingEvent) (party : List ℕ) (e : Event) (count : ℕ) → length listeners ≡ count → AreOwners listeners stands
    → AreOwners (listeners ++ party ∷ []) (with_more stands count (record { event = e; listener = party }))
grown_owners listeners stands party e count len are i d low =
    let n : length (listeners ++ party ∷ []) ≡ length listeners + 1 = length_push listeners party in
    elim (either (i + 1 == count + 1)) as (λ _. IsSomeAnd (with_more stands count (record { event = e; listener = party }) (i + 1)) (λ st. st.listener ≡ get_or (listeners ++ party ∷ []) i d)) [
      | inl same ↦ (
          let s : i + 1 ≡ count + 1 = (Decides-eqb (i + 1) (count + 1)).0 same in
          let place : i ≡ length listeners = omega (arith, s, len) in
          rw same (sym (ap (λ (j : ℕ). get_or (listeners ++ party ∷ []) j d) place ∙ get_or-append_seam listeners party [] d)))
      | inr apart ↦ (
          let d' : (i ≡ count → ⊥) = (λ q. false≢true (sym apart ∙ (Decides-eqb (i + 1) (count + 1)).1 (omega (arith, q)))) in
          let short : i < length listeners = omega (arith, n, low, len, d') in
          rw apart (subst (λ (x : List ℕ). IsSomeAnd (stands (i + 1)) (λ st. st.listener ≡ x)) (sym (get_or-append listeners (party ∷ []) d i short)) (are i d short)))
    ]
