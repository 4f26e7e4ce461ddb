-- The script with a watcher that was worked out by hand.
use Rattle.std.proofs.Common.{◌≡◌, ℕ, Bool, true, List, [], ◌∷◌, ◌++◌, map, refl, sym, ap, subst, append_assoc, inl, Option, Some, None, arith, rules}
use Rattle.std.specs.Prelude.{codes, is_some, not, if◌then◌else◌}
use Rattle.std.specs.List.{AllByRecursion}
use Rattle.std.proofs.lemmas.List.{append-nil}
use Rattle.board_model.specs.LineGrammar.{is_name}
use Rattle.script_model.specs.declared.line.ScriptLine.{ScriptLine}
use Rattle.script_model.specs.ScriptGrammar.{IsScriptLine}
use Rattle.script_model.specs.ScriptAnswers.{ScriptAnswer, is_refused}
use Rattle.script_model.specs.ScriptTurns.{ScriptState}
use Rattle.script_model.specs.ScriptSession.{IsLawful, IsLawfulFrom, IsRight, Session, start}
use Rattle.script_model.specs.LawsOfComposition.{Pair, state_met}
use Rattle.script_model.proofs.CompositionLemmas.{lawful_split}
use Rattle.script_moments.specs.Moments.{next_moment}
use Rattle.script_moments.specs.OneRound.{b}
use Rattle.script_moments.specs.WorkedSnapshots.{get_begins}
use Rattle.script_moments.specs.WorkedWatchers.{before_it, behind_it, counter_read, id_begins, id_popped, id_pushed, id_told, none_popped, notify_begun, since_it, the_get, the_id, the_take, the_turn, to_wait, update_begun, update_ended, value_got, wait_begins, word_read}
use Rattle.script_moments.proofs.WorkedWatcher.{a_get, an_id, answered, lawful}
use Rattle.script_exchanges.specs.declared.line.DriveLine.TheVariants.{Script, Start, Turn}
use Rattle.script_exchanges.specs.DrivenParties.{abandoned_by, held_back, if_kept, kept_with, let_go}
use Rattle.script_exchanges.specs.Exchanges.{Exchanges, given, said}
use Rattle.script_snapshots.proofs.FedLemmas.{met_more}
use Rattle.script_watches.specs.LawsOfWatches.{IsCalledGet}
use Rattle.script_watches.specs.Watchings.{Watching, new_watching, next_line, taken}
use Rattle.script_watches.specs.WatchExchanges.{IsExchange, IsToldId, Leads, OfScript, OfTurn, Watchings, fed_with, kept_of, no_watchings, said_of}
use Rattle.script_watches.specs.WorkedWatches.{AWatchIsWorked, plain, turn_of_b, turns_before_the_report, update_and_notify, value_reported, watch_begins, worked}

-- ---- lines of a plain script that nothing holds back

-- the party for which a line may be held back isn't watched
abbrev is_free : (List ℕ → Option Watching) → Option (List ℕ) → Bool
is_free of None = true
is_free of (Some party) = not (is_some (of party))

abbrev IsPlain : (List ℕ → Option Watching) → Pair → Type 0
IsPlain of p = IsScriptLine p.0 × (is_free of (held_back p.0) ≡ true) × (abandoned_by p.0 ≡ None)

not_held : (s : Watchings) (o : Option (List ℕ)) → is_free s.of o ≡ true → if_kept s.of o ≡ None
not_held s None h = refl
not_held s (Some party) h = at (s.of party) h
  where
    at : (r : Option Watching) → not (is_some r) ≡ true → (if is_some r then Some party else None) ≡ None
    at None k = refl
    at (Some x) k = absurd cc

plain_given : (s : Watchings) (p : Pair) → IsRight (state_met s.fed) p.0 p.1 → IsPlain s.of p → IsExchange s (Script p.0) (given p ∷ []) (fed_with s (p ∷ []) s.of)
plain_given s p right h = record {
  line = h.0;
  exchanged = subst (λ (o : Option (List ℕ)). OfScript s p.0 o (given p ∷ []) (fed_with s (p ∷ []) s.of)) (sym (not_held s (held_back p.0) h.1)) (record {
    answer = p.1;
    right = right;
    told_is = refl;
    after = ap (λ (o : Option (List ℕ)). fed_with s (p ∷ []) (let_go s.of o (is_refused p.1))) (sym h.2);
  });
}

plains_lead : (ps : Session) (s t : Watchings) (ys : Exchanges) → IsLawfulFrom (state_met s.fed) ps → AllByRecursion (IsPlain s.of) ps → Leads (fed_with s ps s.of) ys t → Leads s (map plain ps ++ ys) t
plains_lead [] s t ys ok h k = subst (λ (f : Session). Leads (record { fed = f; of = s.of }) ys t) (append-nil s.fed) k
plains_lead (p ∷ ps) s t ys ok h k =
    let u : Watchings = fed_with s (p ∷ []) s.of in
    let later : IsLawfulFrom (state_met u.fed) ps = subst (λ (x : ScriptState). IsLawfulFrom x ps) (sym (met_more s.fed p)) ok.1 in
    let rest : Leads (fed_with u ps s.of) ys t = subst (λ (f : Session). Leads (record { fed = f; of = s.of }) ys t) (sym (append_assoc s.fed (p ∷ []) ps)) k in
    (u, plain_given s p ok.0 h.0, plains_lead ps u t ys later h.1 rest)

-- ---- a turn

turn_leads : (s t : Watchings) (party : List ℕ) (x : Watching) (a : ScriptAnswer) (ys : Exchanges) → is_name party ≡ true → s.of party ≡ Some x → IsRight (state_met s.fed) (next_line party x) a
    → Leads (fed_with s ((next_line party x, a) ∷ []) (kept_with s.of party (kept_of (taken s.fed party x a)))) ys t
    → Leads s ((Turn party, given (next_line party x, a) ∷ said_of party (taken s.fed party x a)) ∷ ys) t
turn_leads s t party x a ys name takes right k =
    let u : Watchings = fed_with s ((next_line party x, a) ∷ []) (kept_with s.of party (kept_of (taken s.fed party x a))) in
    let told = given (next_line party x, a) ∷ said_of party (taken s.fed party x a) in
    (u, record { line = name; exchanged = subst (λ (o : Option Watching). OfTurn s party o told u) (sym takes) (record { answer = a; right = right; told_is = refl; after = refl }) }, k)

-- ---- the worked one

abbrev ids : Session
ids = id_begins ∷ id_told ∷ []

abbrev update : Session
update = update_begun ++ update_ended ∷ notify_begun ∷ id_pushed ∷ []

right_at : (front rest : Session) (p : Pair) → front ++ p ∷ rest ≡ before_it ++ since_it → IsRight (state_met front) p.0 p.1
right_at front rest p e = (lawful_split front (p ∷ rest) start (subst IsLawful (sym e) lawful)).1.0

-- the watcher as it began, and what stands after the setting up, after its begin, and after the update
abbrev new : Watching
new = new_watching (codes "e") (codes "h" ∷ []) before_it (the_id ∷ [])

abbrev set : Watchings
set = fed_with no_watchings before_it no_watchings.of

abbrev begun : Watchings
begun = fed_with set ids (kept_with set.of b (Some new))

abbrev updated : Watchings
updated = fed_with begun update begun.of

-- a turn further
abbrev kept_or : Watching → Option Watching → Watching
kept_or x None = x
kept_or x (Some y) = y

abbrev on : Watchings × Watching → Pair → Watchings × Watching
on at p = (
  fed_with at.0 ((next_line b at.1, p.1) ∷ []) (kept_with at.0.of b (kept_of (taken at.0.fed b at.1 p.1))),
  kept_or at.1 (kept_of (taken at.0.fed b at.1 p.1)),
)

abbrev at0 : Watchings × Watching
at0 = (updated, new)

abbrev at1 : Watchings × Watching
at1 = on at0 wait_begins

abbrev at2 : Watchings × Watching
at2 = on at1 id_popped

abbrev at3 : Watchings × Watching
at3 = on at2 none_popped

abbrev at4 : Watchings × Watching
at4 = on at3 get_begins

abbrev at5 : Watchings × Watching
at5 = on at4 counter_read

abbrev at6 : Watchings × Watching
at6 = on at5 word_read

abbrev at7 : Watchings × Watching
at7 = on at6 value_got

turn : (at : Watchings × Watching) (p : Pair) (rest : Session) (t : Watchings) (ys : Exchanges) → at.0.of b ≡ Some at.1 → at.0.fed ++ p ∷ rest ≡ before_it ++ since_it → next_line b at.1 ≡ p.0 → Leads (on at p).0 ys t
    → Leads at.0 ((Turn b, given (next_line b at.1, p.1) ∷ said_of b (taken at.0.fed b at.1 p.1)) ∷ ys) t
turn at p rest t ys takes parts line k = turn_leads at.0 t b at.1 p.1 ys refl takes (subst (λ (l : ScriptLine). IsRight (state_met at.0.fed) l p.1) (sym line) (right_at at.0.fed rest p parts)) k

abbrev reads : Session
reads = counter_read ∷ word_read ∷ value_got ∷ []

abbrev told : Exchanges
told = value_reported ∷ []

turns_lead : Leads updated (turns_before_the_report ++ told) at7.0
turns_lead =
    let end : Leads at7.0 [] at7.0 = refl in
    let seven : Leads at6.0 told at7.0 = turn at6 value_got [] at7.0 [] refl refl refl end in
    let six : Leads at5.0 (turn_of_b word_read ∷ told) at7.0 = turn at5 word_read (value_got ∷ []) at7.0 told refl refl refl seven in
    let five : Leads at4.0 (turn_of_b counter_read ∷ turn_of_b word_read ∷ told) at7.0 = turn at4 counter_read (word_read ∷ value_got ∷ []) at7.0 (turn_of_b word_read ∷ told) refl refl refl six in
    let four : Leads at3.0 (map turn_of_b (get_begins ∷ counter_read ∷ word_read ∷ []) ++ told) at7.0 = turn at3 get_begins reads at7.0 (map turn_of_b (counter_read ∷ word_read ∷ []) ++ told) refl refl refl five in
    let three : Leads at2.0 (map turn_of_b (none_popped ∷ get_begins ∷ counter_read ∷ word_read ∷ []) ++ told) at7.0 = turn at2 none_popped (get_begins ∷ reads) at7.0 (map turn_of_b (get_begins ∷ counter_read ∷ word_read ∷ []) ++ told) refl refl refl four in
    let two : Leads at1.0 (map turn_of_b (id_popped ∷ none_popped ∷ get_begins ∷ counter_read ∷ word_read ∷ []) ++ told) at7.0 = turn at1 id_popped (none_popped ∷ get_begins ∷ reads) at7.0 (map turn_of_b (none_popped ∷ get_begins ∷ counter_read ∷ word_read ∷ []) ++ told) refl refl refl three in
    turn at0 wait_begins (id_popped ∷ none_popped ∷ get_begins ∷ reads) at7.0 (map turn_of_b (id_popped ∷ none_popped ∷ get_begins ∷ counter_read ∷ word_read ∷ []) ++ told) refl refl refl two

told_id : IsToldId before_it b (codes "h") the_id
told_id = record {
  is = an_id;
  begun_met = refl;
  begun_right = right_at before_it (id_told ∷ (update ++ wait_begins ∷ id_popped ∷ behind_it)) id_begins refl;
  ended_met = refl;
  ended_right = right_at (before_it ++ id_begins ∷ []) (update ++ wait_begins ∷ id_popped ∷ behind_it) id_told refl;
}

watch_exchange : IsExchange set (Start b (codes "e" ∷ codes "h" ∷ [])) (given id_begins ∷ given id_told ∷ said (codes "watching b") ∷ []) begun
watch_exchange = record {
  line = (refl, record { named = (refl, (refl, tt)); least = omega arith; most = omega arith });
  exchanged = inl (record { asked = the_id ∷ []; ids = (told_id, tt); told_is = refl; after = refl });
}

plain_setup : AllByRecursion (IsPlain no_watchings.of) before_it
plain_setup = search rules

plain_update : AllByRecursion (IsPlain begun.of) update
plain_update = search rules

setup_lawful : IsLawfulFrom start before_it
setup_lawful = (lawful_split before_it since_it start lawful).0

update_lawful : IsLawfulFrom (state_met begun.fed) update
update_lawful = (lawful_split update (wait_begins ∷ id_popped ∷ behind_it) (state_met begun.fed) (lawful_split (before_it ++ ids) (update ++ wait_begins ∷ id_popped ∷ behind_it) start lawful).1).0

all_lead : Leads no_watchings worked at7.0
all_lead =
    plains_lead before_it no_watchings at7.0 (watch_begins ∷ (update_and_notify ++ (turns_before_the_report ++ told))) setup_lawful plain_setup
    (begun, watch_exchange, plains_lead update begun at7.0 (turns_before_the_report ++ told) update_lawful plain_update turns_lead)

it_is_called : IsCalledGet at7.0.fed b (codes "h") at7.1 the_take 1 0 1 0 2 (9 ∷ [])
it_is_called = record {
  since = since_it;
  fed_is = refl;
  earlier = [];
  later = [];
  turn = the_turn;
  behind = behind_it;
  taken = record {
    turns = refl;
    pre = to_wait ++ wait_begins ∷ [];
    upto = refl;
    whole = refl;
    names_it = refl;
    done = next_moment before_it to_wait wait_begins ∷ [];
    still = next_moment before_it (to_wait ++ wait_begins ∷ id_popped ∷ []) none_popped ∷ [];
    wait = refl;
    own = refl;
  };
  answers = answered;
  get = the_get;
  of_turn = record { ones = []; others = []; gets = refl; is = a_get };
  of_entry = record { board = refl; entry = refl };
}

pub a_watch : AWatchIsWorked
a_watch = record {
  after = at7.0;
  watching = at7.1;
  leads = all_lead;
  fed = refl;
  watches = refl;
  reported = refl;
  called = it_is_called;
  highest = refl;
}
