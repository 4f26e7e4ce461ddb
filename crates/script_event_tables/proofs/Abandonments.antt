-- Rows of events while a party's abandonment goes through the party's own, the last one first.
use Rattle.std.proofs.Common.{◌≡◌, ℕ, zero, suc, ◌+◌, ◌<◌, ◌≤◌, Bool, true, false, List, [], length, get_or, set, Option, Some, None, refl, sym, ap, ◌∙◌, subst, arith, inl, inr}
use Rattle.std.proofs.lemmas.List.{get_or-set_same, get_or-set_other, length-set}
use Rattle.std.proofs.lemmas.Bool.{false≢true}
use Rattle.std.proofs.lemmas.Option.{slice_get-get_or}
use Rattle.std.proofs.lemmas.Slice.Eq.{bytes_eq-Decides}
use Rattle.std.specs.Prelude.{◌==◌, ◌&&◌, ◌||◌, IsSomeAnd, if◌then◌else◌, nat_lt, slice_get}
use Rattle.std.specs.Str.{bytes_eq}
use Rattle.std.proofs.lemmas.Bool.Decides.{Decides-eqb}
use Rattle.board_event_model.specs.EventMemory.{Event}
use Rattle.board_event_model.specs.EventSessions.{StandingEvent, gone_with}
use Rattle.board_event_model.proofs.SetLemmas.{either}
use Rattle.script_event_rows.specs.declared.event_row.EventRow.{EventRow}
use Rattle.script_event_rows.specs.EventRows.{Becomes, StandsFor}
use Rattle.script_event_tables.specs.declared.event_table.EventTable.{EventTable}
use Rattle.script_event_tables.specs.EventTables.{AreEvents, AreNames, EventsThatStand, IsPartGone, after_at, with_abandoned}
use Rattle.script_event_tables.specs.Listeners.{is_party, last_of}
use Rattle.script_event_tables.proofs.ListenerLemmas.{up_to}

-- ---- before and after

stands_at : (o : Option StandingEvent) (P : Event → Type 0) → IsSomeAnd (elim o as (λ _. Option Event) [ None ↦ None | Some st ↦ Some st.event ]) P → IsSomeAnd o (λ st. P st.event)
stands_at None P h = absurd h
stands_at (Some st) P h = h

within : (o : Option StandingEvent) (P Q : StandingEvent → Type 0) → IsSomeAnd o P → ((st : StandingEvent) → P st → Q st) → IsSomeAnd o Q
within None P Q h f = absurd h
within (Some st) P Q h f = f st h

none_below : (k : ℕ) → nat_lt k 0 ≡ false
none_below k = grind arith

below : (k i : ℕ) → k < i → nat_lt k i ≡ true
below k i h = grind (arith, h)

pub begins : (t : EventTable) (s : EventsThatStand) (party : List ℕ) → AreEvents t s → IsPartGone (length t.listeners) party t s
begins t s party are = record {
  count = are.count;
  rows = λ k d low. subst (λ (b : Bool). IsSomeAnd (s.stands (k + 1)) (λ st. StandsFor (get_or t.rows.items k d) (after_at b party st))) (sym (below k (length t.listeners) (let n = are.count in let m = are.each in omega (arith, low, n, m))))
      (stands_at (s.stands (k + 1)) (StandsFor (get_or t.rows.items k d)) (are.rows k d low));
  names = are.names;
  each = are.each;
  owners = are.owners;
}

gone_event : (o : Option StandingEvent) (party : List ℕ) (P : Event → Type 0) → IsSomeAnd o (λ st. P (gone_with party st).event)
    → IsSomeAnd (elim (elim o as (λ _. Option StandingEvent) [ None ↦ None | Some st ↦ Some (gone_with party st) ]) as (λ _. Option Event) [ None ↦ None | Some st ↦ Some st.event ]) P
gone_event None party P h = absurd h
gone_event (Some st) party P h = h

gone_owner : (o : Option StandingEvent) (party x : List ℕ) → IsSomeAnd o (λ st. st.listener ≡ x) → IsSomeAnd (elim o as (λ _. Option StandingEvent) [ None ↦ None | Some st ↦ Some (gone_with party st) ]) (λ st. st.listener ≡ x)
gone_owner None party x h = absurd h
gone_owner (Some st) party x h = h

pub ends : (t : EventTable) (s : EventsThatStand) (party : List ℕ) → IsPartGone 0 party t s → AreEvents t (with_abandoned party s)
ends t s party h = record {
  count = h.count;
  rows = λ k d low. gone_event (s.stands (k + 1)) party (StandsFor (get_or t.rows.items k d))
      (subst (λ (b : Bool). IsSomeAnd (s.stands (k + 1)) (λ st. StandsFor (get_or t.rows.items k d) (after_at b party st))) (none_below k) (h.rows k d low));
  names = h.names;
  each = h.each;
  owners = λ k d low. gone_owner (s.stands (k + 1)) party (get_or t.listeners k d) (h.owners k d low);
}

-- ---- one place further down

and_true : (b : Bool) → (b && true) ≡ b
and_true true = refl
and_true false = refl

or_none : (g b : Bool) → (g || (b && false)) ≡ g
or_none true true = refl
or_none true false = refl
or_none false true = refl
or_none false false = refl

same_below : (k i : ℕ) → (k == i) ≡ false → nat_lt k (i + 1) ≡ nat_lt k i
same_below k i apart = (let ne : (k ≡ i → ⊥) = (λ e. false≢true (sym apart ∙ (Decides-eqb k i).1 e)) in grind (arith, ne))

here_below : (i : ℕ) → nat_lt i (i + 1) ≡ true
here_below i = grind arith

not_below_itself : (i : ℕ) → nat_lt i i ≡ false
not_below_itself i = grind arith

module _ (t : EventTable) (s : EventsThatStand) (party : List ℕ) (i : ℕ) (inside : i < length t.listeners) (h : IsPartGone (i + 1) party t s) where
  was_at : (d : EventRow) → IsSomeAnd (s.stands (i + 1)) (λ st. StandsFor (get_or t.rows.items i d) st.event)
  was_at d =
      let low : i < length t.rows.items = (let n = h.count in let m = h.each in omega (arith, inside, n, m)) in
      subst (λ (b : Bool). IsSomeAnd (s.stands (i + 1)) (λ st. StandsFor (get_or t.rows.items i d) (after_at b party st))) (here_below i) (h.rows i d low)

  -- the party has no listener at the place
  pub passed : is_party (slice_get t.listeners i) party ≡ false → IsPartGone i party t s
  passed other = record {
    count = h.count;
    rows = λ k d low. elim (either (k == i)) as (λ _. IsSomeAnd (s.stands (k + 1)) (λ st. StandsFor (get_or t.rows.items k d) (after_at (nat_lt k i) party st))) [
      | inl same ↦ at k d ((Decides-eqb k i).0 same)
      | inr apart ↦ subst (λ (b : Bool). IsSomeAnd (s.stands (k + 1)) (λ st. StandsFor (get_or t.rows.items k d) (after_at b party st))) (same_below k i apart) (h.rows k d low)
    ];
    names = h.names;
    each = h.each;
    owners = h.owners;
  }
    where
      unchanged : (o : Option StandingEvent) (row : EventRow) → IsSomeAnd o (λ st. st.listener ≡ get_or t.listeners i []) → IsSomeAnd o (λ st. StandsFor row st.event) → IsSomeAnd o (λ st. StandsFor row (gone_with party st).event)
      unchanged None row own is = absurd own
      unchanged (Some st) row own is =
          let no : bytes_eq party st.listener ≡ false = ap (bytes_eq party) own ∙ ap (λ (o : Option (List ℕ)). is_party o party) (sym (slice_get-get_or t.listeners i [] inside)) ∙ other in
          let same : (st.event.gone || (st.event.held && bytes_eq party st.listener)) ≡ st.event.gone = ap (λ (b : Bool). st.event.gone || (st.event.held && b)) no ∙ or_none st.event.gone st.event.held in
          subst (λ (g : Bool). StandsFor row (record st.event { gone = g })) (sym same) is

      at : (k : ℕ) (d : EventRow) → k ≡ i → IsSomeAnd (s.stands (k + 1)) (λ st. StandsFor (get_or t.rows.items k d) (after_at (nat_lt k i) party st))
      at k d e = subst (λ (j : ℕ). IsSomeAnd (s.stands (j + 1)) (λ st. StandsFor (get_or t.rows.items j d) (after_at (nat_lt j i) party st))) (sym e)
          (subst (λ (b : Bool). IsSomeAnd (s.stands (i + 1)) (λ st. StandsFor (get_or t.rows.items i d) (after_at b party st))) (sym (not_below_itself i))
          (unchanged (s.stands (i + 1)) (get_or t.rows.items i d) (h.owners i [] inside) (was_at d)))

  -- it has, and the row has it gone
  pub went : (new : EventTable) (old gone : EventRow) → new.rows.items ≡ set t.rows.items i gone → new.names ≡ t.names → new.listeners ≡ t.listeners
      → old ≡ get_or t.rows.items i old → Becomes old gone (λ e. record e { gone = e.gone || e.held })
      → get_or t.listeners i [] ≡ party → IsPartGone i party new s
  went new old gone rows names listeners is becomes own = record {
    count = ap length rows ∙ length-set t.rows.items i gone ∙ h.count;
    rows = λ k d low. subst (λ (xs : List EventRow). IsSomeAnd (s.stands (k + 1)) (λ st. StandsFor (get_or xs k d) (after_at (nat_lt k i) party st))) (sym rows)
        (elim (either (k == i)) as (λ _. IsSomeAnd (s.stands (k + 1)) (λ st. StandsFor (get_or (set t.rows.items i gone) k d) (after_at (nat_lt k i) party st))) [
          | inl same ↦ at k d ((Decides-eqb k i).0 same)
          | inr apart ↦
              (let ne : (k ≡ i → ⊥) = (λ e. false≢true (sym apart ∙ (Decides-eqb k i).1 e)) in
              subst (λ (x : EventRow). IsSomeAnd (s.stands (k + 1)) (λ st. StandsFor x (after_at (nat_lt k i) party st))) (sym (get_or-set_other t.rows.items i k gone d ne))
              (subst (λ (b : Bool). IsSomeAnd (s.stands (k + 1)) (λ st. StandsFor (get_or t.rows.items k d) (after_at b party st))) (same_below k i apart) (h.rows k d (low_of k low))))
        ]);
    names = subst (λ x. AreNames x s.names) (sym names) h.names;
    each = ap length listeners ∙ h.each;
    owners = λ k d low. subst (λ (xs : List (List ℕ)). IsSomeAnd (s.stands (k + 1)) (λ st. st.listener ≡ get_or xs k d)) (sym listeners) (h.owners k d (subst (λ (xs : List (List ℕ)). k < length xs) listeners low));
  }
    where
      low_of : (k : ℕ) → k < length new.rows.items → k < length t.rows.items
      low_of k low = (let e : length new.rows.items ≡ length t.rows.items = ap length rows ∙ length-set t.rows.items i gone in omega (arith, low, e))

      changed : (o : Option StandingEvent) → IsSomeAnd o (λ st. st.listener ≡ get_or t.listeners i []) → IsSomeAnd o (λ st. StandsFor old st.event) → IsSomeAnd o (λ st. StandsFor gone (gone_with party st).event)
      changed None mine stands = absurd mine
      changed (Some st) mine stands =
          let yes : bytes_eq party st.listener ≡ true = (bytes_eq-Decides party st.listener).1 (sym own ∙ sym mine) in
          let same : (st.event.gone || (st.event.held && bytes_eq party st.listener)) ≡ (st.event.gone || st.event.held) = ap (λ (b : Bool). st.event.gone || (st.event.held && b)) yes ∙ ap (λ (b : Bool). st.event.gone || b) (and_true st.event.held) in
          subst (λ (g : Bool). StandsFor gone (record st.event { gone = g })) (sym same) (becomes st.event stands)

      at : (k : ℕ) (d : EventRow) → k ≡ i → IsSomeAnd (s.stands (k + 1)) (λ st. StandsFor (get_or (set t.rows.items i gone) k d) (after_at (nat_lt k i) party st))
      at k d e = subst (λ (j : ℕ). IsSomeAnd (s.stands (j + 1)) (λ st. StandsFor (get_or (set t.rows.items i gone) j d) (after_at (nat_lt j i) party st))) (sym e)
          (subst (λ (b : Bool). IsSomeAnd (s.stands (i + 1)) (λ st. StandsFor (get_or (set t.rows.items i gone) i d) (after_at b party st))) (sym (not_below_itself i))
          (subst (λ (x : EventRow). IsSomeAnd (s.stands (i + 1)) (λ st. StandsFor x (gone_with party st).event)) (sym (get_or-set_same t.rows.items i gone d (let n = h.count in let m = h.each in omega (arith, inside, n, m))))
          (changed (s.stands (i + 1)) (h.owners i [] inside)
          (subst (λ (x : EventRow). IsSomeAnd (s.stands (i + 1)) (λ st. StandsFor x st.event)) (sym is) (was_at old)))))

-- where the party has no listener nothing is to be done
pub skipped : (t : EventTable) (s : EventsThatStand) (party : List ℕ) (n : ℕ) → n ≤ length t.listeners → IsPartGone n party t s → IsPartGone (up_to (last_of party t.listeners n)) party t s
skipped t s party zero low h = h
skipped t s party (suc n) low h =
    elim (either (is_party (slice_get t.listeners n) party)) as (λ _. IsPartGone (up_to (if is_party (slice_get t.listeners n) party then Some n else last_of party t.listeners n)) party t s) [
      | inl own ↦ subst (λ (b : Bool). IsPartGone (up_to (if b then Some n else last_of party t.listeners n)) party t s) (sym own) here
      | inr other ↦ subst (λ (b : Bool). IsPartGone (up_to (if b then Some n else last_of party t.listeners n)) party t s) (sym other)
          (skipped t s party n (omega (arith, low)) (passed t s party n (omega (arith, low)) here other))
    ]
  where
    here : IsPartGone (n + 1) party t s
    here = subst (λ (j : ℕ). IsPartGone j party t s) (omega arith) h
