-- What a machine of watchers stands for after a line.
use Rattle.std.proofs.Common.{◌≡◌, ℕ, ◌-◌, ◌≤◌, Bool, true, false, List, [], ◌∷◌, ◌++◌, length, drop, take, get_or, arith, refl, sym, ap, subst, ◌∙◌, inl, inr, Option, Some, None}
use Rattle.std.specs.Prelude.{codes, if◌then◌else◌, map}
use Rattle.std.specs.List.{AllByRecursion}
use Rattle.std.specs.Str.{bytes_eq}
use Rattle.std.proofs.lemmas.List.{append-nil, take_rest}
use Rattle.std.proofs.lemmas.List.Concat.{flat_map-append}
use Rattle.board_model.specs.LineGrammar.{is_name}
use Rattle.board_model.proofs.ListLemmas.{same_bytes}
use Rattle.script_model.specs.declared.line.ScriptLine.{ScriptLine}
use Rattle.script_model.specs.ScriptAnswers.{ScriptAnswer, is_refused}
use Rattle.script_model.specs.ScriptGrammar.{SpellsLine, script_spell}
use Rattle.script_model.specs.ScriptSession.{Session, start}
use Rattle.script_model.specs.ScriptTurns.{ScriptState}
use Rattle.script_model.specs.LawsOfComposition.{state_met}
use Rattle.script_moments.specs.Watchers.{AskedId}
use Rattle.script_loop.specs.Machines.{HasAnswered, StandsFor}
use Rattle.script_feed.specs.AnswerLooks.{IsAnswerOf}
use Rattle.script_feed.specs.declared.driven.Driven.{Driven}
use Rattle.script_feed.specs.Given.{given_text}
use Rattle.script_feed.specs.KeptOf as map
use Rattle.script_feed.specs.KeptOf.{KeepsIfAny}
use Rattle.script_feed.specs.PlainLines.{AnswersPlain, IsAnswered, IsHeldBack}
use Rattle.script_feed.proofs.GivenLemmas.{HasGiven, has_given}
use Rattle.script_feed.proofs.KeptLemmas.{kept_alike, kept_as, keeps_none, keeps_with, let_go_keeps, none_keeps, not_kept}
use Rattle.script_exchanges.specs.declared.line.Drive.TheVariants.{Watchers}
use Rattle.script_exchanges.specs.declared.line.DriveLine.{DriveLine}
use Rattle.script_exchanges.specs.declared.line.DriveLine.TheVariants.{Script, Start, Turn}
use Rattle.script_exchanges.specs.DriveGrammar.{IsDriveLine}
use Rattle.script_exchanges.specs.DrivenParties.{abandoned_by, held_back, if_kept, kept_with, let_go, party_text}
use Rattle.script_exchanges.specs.Exchanges.{Exchanges, Told, given, said, text_of, told_text}
use Rattle.script_drive.specs.Drivers as drivers
use Rattle.script_watches.specs.Watchings.{Outcome, Report, Watching, ended, goes_on, new_watching, next_line, report_text, reports, taken}
use Rattle.script_watches.specs.WatchExchanges.{IsExchange, IsLawful, Leads, OfScript, OfStart, OfTurn, Watchings, fed_with, id_line, kept_of, no_watchings, pairs_of_ids, said_of}
use Rattle.script_watches.proofs.WatchLaws.{IsKept, leads_few, leads_kept, leads_more, none_kept}
use Rattle.script_watchers.specs.declared.machine.WatcherMachine.{WatcherMachine}
use Rattle.script_watchers.specs.declared.watch.Progress.{Progress}
use Rattle.script_watchers.specs.declared.watch.Progress.TheVariants.{GoesOn, Refused, Reports}
use Rattle.script_watchers.specs.declared.watch.Watch.{Watch}
use Rattle.script_watchers.specs.Machines.{IsTelling, Represents, StandsAfter, StandsNow}
use Rattle.script_watchers.specs.Opening.{AreAsked, AreDown, HasPlace, StandsAt}
use Rattle.script_watchers.specs.Calls.{rows_of}
use Rattle.script_watchers.specs.Watches.{Follows, HasNext, IsProgress, Keeps, SaysReport}
use Rattle.script_watchers.proofs.TurnLemmas.{next_spelled, right_fits, room_of}

-- ---- what is told

text_and : (pairs : Session) (text : List ℕ) → text_of (map given pairs ++ said text ∷ []) ≡ text_of (map given pairs) ++ told_text (said text)
text_and pairs text = flat_map-append told_text (map given pairs) (said text ∷ []) ∙ ap (λ (t : List ℕ). text_of (map given pairs) ++ t) (append-nil (told_text (said text)))

-- ---- the machine of scripts

module _ {M : Type 0} (stands : M → ℕ → ScriptState → Type 0) where
  pub new_stands : (m : WatcherMachine M) → stands m.driven.machine 0 start → ((p : List ℕ) → map.kept_of m.driven.kept p ≡ None) → StandsAfter stands m []
  new_stands m ok none = record {
    state = no_watchings;
    leads = refl;
    represents = record { machine = ok; watches = λ p. none_keeps Keeps (map.kept_of m.driven.kept p) (none p) };
  }

  pub is_kept : (m : Driven M Watch) (xs : Exchanges) (s : Watchings) → StandsNow stands m xs s → IsKept s
  is_kept m xs s h = leads_kept xs no_watchings s none_kept h.led.leads

  -- it stands for the fed session
  pub stands_for : (m : Driven M Watch) (xs : Exchanges) (s : Watchings) → StandsNow stands m xs s → StandsFor stands m.machine s.fed
  stands_for m xs s h = record { lawful = (is_kept m xs s h).lawful; few = omega (arith, h.led.few, leads_few xs no_watchings s h.led.leads); state = h.represents.machine }

  -- and more lines may follow
  pub place_for : (m : Driven M Watch) (xs : Exchanges) (s : Watchings) → StandsNow stands m xs s → HasPlace stands m.machine 32 s.fed
  place_for m xs s h = record { stands_for = stands_for m xs s h; room = omega (arith, h.led.few, leads_few xs no_watchings s h.led.leads) }

  -- ---- lines

  -- nothing is given, and this is said
  pub says_so : (m : Driven M Watch) (s t : Watchings) (l : DriveLine) (text out : List ℕ) → IsExchange s l (said text ∷ []) t → Represents stands m t → out ≡ told_text (said text) → IsTelling stands m s l out
  says_so m s t l text out x r e = record { told = said text ∷ []; state = t; exchange = x; represents = r; text_is = e ∙ sym (append-nil (told_text (said text))) }

  -- a line that is held back
  held_so : (old new : Driven M Watch) (xs : Exchanges) (s : Watchings) (l : ScriptLine) (line party out : List ℕ) → StandsNow stands old xs s → SpellsLine line l → if_kept (map.kept_of old.kept) (held_back l) ≡ Some party → IsHeldBack old new (codes "watched") party [] out → IsTelling stands new s (Script l) out
  held_so old new xs s l line party out h spelled held a =
      let there : Some party ≡ if_kept s.of (held_back l) = sym held ∙ kept_alike Keeps (map.kept_of old.kept) s.of h.represents.watches (held_back l) in
      says_so new s s (Script l) (party_text (codes "watched") party) out (record { line = spelled.line; exchanged = subst (λ (o : Option (List ℕ)). OfScript s l o (said (party_text (codes "watched") party) ∷ []) s) there (refl, refl) })
      (subst (λ (m : Driven M Watch). Represents stands m s) (sym a.same) h.represents) a.told

  -- a line that is given
  given_so : (old new : Driven M Watch) (xs : Exchanges) (s : Watchings) (l : ScriptLine) (line text out : List ℕ) → StandsNow stands old xs s → SpellsLine line l → if_kept s.of (held_back l) ≡ None → HasAnswered stands new.machine s.fed line text
      → ((a : ScriptAnswer) → IsAnswerOf text a → (p : List ℕ) → map.kept_of new.kept p ≡ let_go (map.kept_of old.kept) (abandoned_by l) (is_refused a) p) → out ≡ given_text line text → IsTelling stands new s (Script l) out
  given_so old new xs s l line text out h spelled none answered watches e =
      let g = has_given stands new.machine s.fed l line text spelled answered in
      let of : List ℕ → Option Watching = let_go s.of (abandoned_by l) (is_refused g.answer) in
      record {
        told = given (l, g.answer) ∷ [];
        state = fed_with s ((l, g.answer) ∷ []) of;
        exchange = record { line = spelled.line; exchanged = subst (λ (o : Option (List ℕ)). OfScript s l o (given (l, g.answer) ∷ []) (fed_with s ((l, g.answer) ∷ []) of)) (sym none) (record { answer = g.answer; right = g.right; told_is = refl; after = refl }) };
        represents = record {
          machine = g.machine;
          watches = λ p. subst (λ (k : Option Watch). KeepsIfAny Keeps k (of p)) (sym (watches g.answer g.text_is p)) (let_go_keeps Keeps (map.kept_of old.kept) s.of (abandoned_by l) (is_refused g.answer) h.represents.watches p);
        };
        text_is = e ∙ g.told ∙ sym (append-nil (told_text (given (l, g.answer))));
      }

  -- no line is held back where nothing is kept
  free_so : (m : Driven M Watch) (xs : Exchanges) (s : Watchings) (l : ScriptLine) → StandsNow stands m xs s → None ≡ if_kept (map.kept_of m.kept) (held_back l) → if_kept s.of (held_back l) ≡ None
  free_so m xs s l h held = sym (held ∙ kept_alike Keeps (map.kept_of m.kept) s.of h.represents.watches (held_back l))

  -- a line of a plain script
  pub script_so : (old new : Driven M Watch) (xs : Exchanges) (s : Watchings) (l : ScriptLine) (line out : List ℕ) → StandsNow stands old xs s → SpellsLine line l → AnswersPlain stands old new (codes "watched") l line [] out → IsTelling stands new s (Script l) out
  script_so old new xs s l line out h spelled answered = at (if_kept (map.kept_of old.kept) (held_back l)) refl answered
    where
      at : (o : Option (List ℕ)) → if_kept (map.kept_of old.kept) (held_back l) ≡ o → IsAnswered stands old new (codes "watched") l line [] out o → IsTelling stands new s (Script l) out
      at (Some party) e a = held_so old new xs s l line party out h spelled e a
      at None e a = given_so old new xs s l line new.answer.items out h spelled (free_so old xs s l h (sym e)) (a.answered s.fed (stands_for old xs s h)) a.kept a.told

  -- ---- a watcher begins

  -- an exchange of the line that begins one
  start_exchange : (s t : Watchings) (party listener : List ℕ) (handles things : List (List ℕ)) (told : List Told) → IsDriveLine Watchers (Start party things) → things ≡ listener ∷ handles → OfStart s party listener handles (s.of party) told t → IsExchange s (Start party things) told t
  start_exchange s t party listener handles things told line parts x =
      subst (λ (l : List (List ℕ)). IsExchange s (Start party l) told t) (sym parts) (record { line = subst (λ (l : List (List ℕ)). IsDriveLine Watchers (Start party l)) parts line; exchanged = x })

  -- the party is watched already
  pub still_so : (m : Driven M Watch) (xs : Exchanges) (s : Watchings) (party listener : List ℕ) (handles things : List (List ℕ)) (c : Watch) (out : List ℕ) → StandsNow stands m xs s → IsDriveLine Watchers (Start party things) → things ≡ listener ∷ handles → map.kept_of m.kept party ≡ Some c → out ≡ told_text (said (party_text (codes "watched") party)) → IsTelling stands m s (Start party things) out
  still_so m xs s party listener handles things c out h line parts kept e =
      let k = kept_as Keeps (map.kept_of m.kept party) (s.of party) c (h.represents.watches party) kept in
      let start : OfStart s party listener handles (s.of party) (said (party_text (codes "watched") party) ∷ []) s = subst (λ (o : Option Watching). OfStart s party listener handles o (said (party_text (codes "watched") party) ∷ []) s) (sym k.is) (refl, refl) in
      says_so m s s (Start party things) (party_text (codes "watched") party) out (start_exchange s s party listener handles things (said (party_text (codes "watched") party) ∷ []) line parts start) h.represents e

  -- each id was told
  pub opens_so : (old new : Driven M Watch) (m : M) (xs : Exchanges) (s : Watchings) (party listener : List ℕ) (handles things : List (List ℕ)) (c : Watch) (before out : List ℕ) → StandsNow stands old xs s → IsDriveLine Watchers (Start party things) → things ≡ listener ∷ handles → map.kept_of old.kept party ≡ None
      → AreAsked stands m s.fed party handles c.rows.items before → ((asked : List AskedId) → c.rows.items ≡ rows_of handles asked → Keeps c (new_watching listener handles s.fed asked)) → new.machine ≡ m
      → ((p : List ℕ) → map.kept_of new.kept p ≡ kept_with (map.kept_of old.kept) party (Some c) p) → out ≡ before ++ told_text (said (party_text (codes "watching") party)) → IsTelling stands new s (Start party things) out
  opens_so old new m xs s party listener handles things c before out h line parts kept k keeps same watches e =
      let none : s.of party ≡ None = not_kept Keeps (map.kept_of old.kept party) (s.of party) (h.represents.watches party) kept in
      let text : List ℕ = party_text (codes "watching") party in
      let told : List Told = map given (pairs_of_ids k.asked) ++ said text ∷ [] in
      let x : Watching = new_watching listener handles s.fed k.asked in
      let t : Watchings = fed_with s (pairs_of_ids k.asked) (kept_with s.of party (Some x)) in
      let opened : OfStart s party listener handles None told t = inl (record { asked = k.asked; ids = k.ids; told_is = refl; after = refl }) in
      record {
        told = told;
        state = t;
        exchange = start_exchange s t party listener handles things told line parts (subst (λ (o : Option Watching). OfStart s party listener handles o told t) (sym none) opened);
        represents = record {
          machine = subst (λ (n : M). StandsAt stands n (s.fed ++ pairs_of_ids k.asked)) (sym same) k.machine;
          watches = keeps_with Keeps (map.kept_of old.kept) s.of party (Some c) (Some x) (map.kept_of new.kept) h.represents.watches (keeps k.asked k.rows_are) watches;
        };
        text_is = e ∙ ap (λ (b : List ℕ). b ++ told_text (said text)) k.text_is ∙ sym (text_and (pairs_of_ids k.asked) text);
      }

  -- a begin was refused
  pub turned_down_so : (old new : Driven M Watch) (m : M) (xs : Exchanges) (s : Watchings) (party listener : List ℕ) (handles things : List (List ℕ)) (before out : List ℕ) → StandsNow stands old xs s → IsDriveLine Watchers (Start party things) → things ≡ listener ∷ handles → map.kept_of old.kept party ≡ None
      → AreDown stands m s.fed party handles before → new.machine ≡ m → new.kept ≡ old.kept → out ≡ before ++ told_text (said (party_text (codes "unwatched") party)) → IsTelling stands new s (Start party things) out
  turned_down_so old new m xs s party listener handles things before out h line parts kept k same watches e =
      let none : s.of party ≡ None = not_kept Keeps (map.kept_of old.kept party) (s.of party) (h.represents.watches party) kept in
      let text : List ℕ = party_text (codes "unwatched") party in
      let pairs : Session = pairs_of_ids k.asked ++ (id_line party k.handle, k.answer) ∷ [] in
      let told : List Told = map given pairs ++ said text ∷ [] in
      let t : Watchings = fed_with s pairs s.of in
      let down : OfStart s party listener handles None told t = inr (record { first = k.first; handle = k.handle; others = k.others; parts = k.parts; asked = k.asked; ids = k.ids; answer = k.answer; right = k.right; refused = k.refused; told_is = refl; after = refl }) in
      record {
        told = told;
        state = t;
        exchange = start_exchange s t party listener handles things told line parts (subst (λ (o : Option Watching). OfStart s party listener handles o told t) (sym none) down);
        represents = record {
          machine = subst (λ (n : M). StandsAt stands n (s.fed ++ pairs)) (sym same) k.machine;
          watches = λ p. subst (λ w. KeepsIfAny Keeps (map.kept_of w p) (s.of p)) (sym watches) (h.represents.watches p);
        };
        text_is = e ∙ ap (λ (b : List ℕ). b ++ told_text (said text)) k.text_is ∙ sym (text_and pairs text);
      }

  -- ---- a turn

  pub unwatched_so : (old new : Driven M Watch) (xs : Exchanges) (s : Watchings) (party out : List ℕ) → StandsNow stands old xs s → IsDriveLine Watchers (Turn party) → map.kept_of old.kept party ≡ None → new.machine ≡ old.machine → ((p : List ℕ) → map.kept_of new.kept p ≡ kept_with (map.kept_of old.kept) party None p) → out ≡ told_text (said (party_text (codes "unwatched") party)) → IsTelling stands new s (Turn party) out
  unwatched_so old new xs s party out h line kept same watches e =
      let none : s.of party ≡ None = not_kept Keeps (map.kept_of old.kept party) (s.of party) (h.represents.watches party) kept in
      says_so new s s (Turn party) (party_text (codes "unwatched") party) out
      (record { line = line; exchanged = subst (λ (o : Option Watching). OfTurn s party o (said (party_text (codes "unwatched") party) ∷ []) s) (sym none) (refl, refl) })
      (record {
        machine = subst (λ (m : M). stands m (length s.fed) (state_met s.fed)) (sym same) h.represents.machine;
        watches = λ p. at p (bytes_eq p party) refl none;
      }) e
    where
      at : (p : List ℕ) (b : Bool) → bytes_eq p party ≡ b → s.of party ≡ None → KeepsIfAny Keeps (map.kept_of new.kept p) (s.of p)
      at p true same none = subst (λ (o : Option Watch). KeepsIfAny Keeps o (s.of p)) (sym (watches p ∙ ap (λ (b : Bool). if b then None else map.kept_of old.kept p) same)) (subst (KeepsIfAny Keeps None) (sym (ap s.of (same_bytes p party same) ∙ none)) tt)
      at p false same none = subst (λ (o : Option Watch). KeepsIfAny Keeps o (s.of p)) (sym (watches p ∙ ap (λ (b : Bool). if b then None else map.kept_of old.kept p) same)) (h.represents.watches p)

  -- the answer was given, and the watcher became so
  turn_so : (old new : Driven M Watch) (xs : Exchanges) (s : Watchings) (party : List ℕ) (x : Watching) (line text rest out : List ℕ) (kept : Option Watch) (tail : List Told) → StandsNow stands old xs s → IsDriveLine Watchers (Turn party) → s.of party ≡ Some x → (g : HasGiven stands new.machine s.fed (next_line party x) line text)
      → KeepsIfAny Keeps kept (kept_of (taken s.fed party x g.answer)) → said_of party (taken s.fed party x g.answer) ≡ tail → text_of tail ≡ rest
      → ((p : List ℕ) → map.kept_of new.kept p ≡ kept_with (map.kept_of old.kept) party kept p) → out ≡ given_text line text ++ rest → IsTelling stands new s (Turn party) out
  turn_so old new xs s party x line text rest out kept tail h is takes g keeps tells texts watches e =
      let l : ScriptLine = next_line party x in
      let o : Outcome = taken s.fed party x g.answer in
      let t : Watchings = fed_with s ((l, g.answer) ∷ []) (kept_with s.of party (kept_of o)) in
      let told : List Told = given (l, g.answer) ∷ said_of party o in
      record {
        told = told;
        state = t;
        exchange = record { line = is; exchanged = subst (λ (k : Option Watching). OfTurn s party k told t) (sym takes) (record { answer = g.answer; right = g.right; told_is = refl; after = refl }) };
        represents = record {
          machine = g.machine;
          watches = keeps_with Keeps (map.kept_of old.kept) s.of party kept (kept_of o) (map.kept_of new.kept) h.represents.watches keeps watches;
        };
        text_is = e ∙ ap (λ (b : List ℕ). b ++ rest) g.told ∙ ap (λ (b : List ℕ). told_text (given (l, g.answer)) ++ b) (sym texts ∙ ap text_of (sym tells));
      }

  -- ---- the answer to a turn

  -- the watcher that is kept has a handle left, where it gets
  pub room_at : (m : Driven M Watch) (xs : Exchanges) (s : Watchings) (party : List ℕ) (c : Watch) → StandsNow stands m xs s → Some c ≡ map.kept_of m.kept party → HasNext c
  room_at m xs s party c h e =
      let k = kept_as Keeps (map.kept_of m.kept party) (s.of party) c (h.represents.watches party) (sym e) in
      room_of c k.doing k.keeps ((is_kept m xs s h).sound party k.doing k.is).room

  -- and its next line is one of the grammar
  pub spelled_at : (m : Driven M Watch) (xs : Exchanges) (s : Watchings) (party : List ℕ) (c : Watch) (line : List ℕ) → StandsNow stands m xs s → Some c ≡ map.kept_of m.kept party → is_name party ≡ true → ((x : Watching) → Keeps c x → line ≡ script_spell (next_line party x)) → (l : ScriptLine) × SpellsLine line l
  spelled_at m xs s party c line h e named is =
      let k = kept_as Keeps (map.kept_of m.kept party) (s.of party) c (h.represents.watches party) (sym e) in
      let sound = (is_kept m xs s h).sound party k.doing k.is in
      (next_line party k.doing, next_spelled c party k.doing line k.keeps sound.room named (is k.doing k.keeps))

  -- what was answered to it, and what became of the watcher
  pub record IsTurned (m : M) (s : Watchings) (party : List ℕ) (new : Watch) (p : Progress) (line text : List ℕ) : Type 0 where
    pub watching : Watching
    pub takes : s.of party ≡ Some watching
    pub answered : HasGiven stands m s.fed (next_line party watching) line text
    pub progress : IsProgress new p (taken s.fed party watching answered.answer)

  pub turned : (old : Driven M Watch) (m : M) (xs : Exchanges) (s : Watchings) (party : List ℕ) (c new : Watch) (p : Progress) (line bytes text : List ℕ) → StandsNow stands old xs s → Some c ≡ map.kept_of old.kept party → is_name party ≡ true → ((x : Watching) → Keeps c x → line ≡ script_spell (next_line party x)) → HasAnswered stands m s.fed line text → bytes ≡ text → Follows c new bytes p → IsTurned m s party new p line text
  turned old m xs s party c new p line bytes text h e named is answered same follows =
      let k = kept_as Keeps (map.kept_of old.kept party) (s.of party) c (h.represents.watches party) (sym e) in
      let sound = (is_kept old xs s h).sound party k.doing k.is in
      let g = has_given stands m s.fed (next_line party k.doing) line text (next_spelled c party k.doing line k.keeps sound.room named (is k.doing k.keeps)) answered in
      record { watching = k.doing; takes = k.is; answered = g; progress = follows s.fed party k.doing g.answer k.keeps (right_fits s.fed party k.doing g.answer sound g.right) (same ∙ g.text_is) }

  goes_kept : (c : Watch) (o : Outcome) → IsProgress c GoesOn o → KeepsIfAny Keeps (Some c) (kept_of o)
  goes_kept c (goes_on y) h = h
  goes_kept c (reports y r) h = absurd h
  goes_kept c ended h = absurd h

  goes_said : (c : Watch) (party : List ℕ) (o : Outcome) → IsProgress c GoesOn o → said_of party o ≡ []
  goes_said c party (goes_on y) h = refl
  goes_said c party (reports y r) h = absurd h
  goes_said c party ended h = absurd h

  refused_kept : (c : Watch) (o : Outcome) → IsProgress c Refused o → kept_of o ≡ None
  refused_kept c (goes_on y) h = absurd h
  refused_kept c (reports y r) h = absurd h
  refused_kept c ended h = refl

  refused_said : (c : Watch) (party : List ℕ) (o : Outcome) → IsProgress c Refused o → said_of party o ≡ said (party_text (codes "unwatched") party) ∷ []
  refused_said c party (goes_on y) h = absurd h
  refused_said c party (reports y r) h = absurd h
  refused_said c party ended h = refl

  reports_kept : (c : Watch) (o : Outcome) → IsProgress c Reports o → KeepsIfAny Keeps (Some c) (kept_of o)
  reports_kept c (goes_on y) h = absurd h
  reports_kept c (reports y r) h = h.0
  reports_kept c ended h = absurd h

  record IsReported (c : Watch) (party : List ℕ) (o : Outcome) : Type 0 where
    report : Report
    says : SaysReport c report
    said_is : said_of party o ≡ said (report_text party report) ∷ []

  reports_said : (c : Watch) (party : List ℕ) (o : Outcome) → IsProgress c Reports o → IsReported c party o
  reports_said c party (goes_on y) h = absurd h
  reports_said c party (reports y r) h = record { report = r; says = h.1; said_is = refl }
  reports_said c party ended h = absurd h

  -- it goes on
  pub goes_so : (old new : Driven M Watch) (xs : Exchanges) (s : Watchings) (party : List ℕ) (c : Watch) (line text out : List ℕ) → StandsNow stands old xs s → IsDriveLine Watchers (Turn party) → IsTurned new.machine s party c GoesOn line text → ((p : List ℕ) → map.kept_of new.kept p ≡ kept_with (map.kept_of old.kept) party (Some c) p) → out ≡ given_text line text → IsTelling stands new s (Turn party) out
  goes_so old new xs s party c line text out h is t watches e =
      let o : Outcome = taken s.fed party t.watching t.answered.answer in
      turn_so old new xs s party t.watching line text [] out (Some c) [] h is t.takes t.answered (goes_kept c o t.progress) (goes_said c party o t.progress) refl watches (e ∙ sym (append-nil (given_text line text)))

  -- it reports
  pub reports_so : (old new : Driven M Watch) (xs : Exchanges) (s : Watchings) (party : List ℕ) (c : Watch) (line text out : List ℕ) → StandsNow stands old xs s → IsDriveLine Watchers (Turn party) → IsTurned new.machine s party c Reports line text → ((p : List ℕ) → map.kept_of new.kept p ≡ kept_with (map.kept_of old.kept) party (Some c) p) → ((r : Report) → SaysReport c r → out ≡ given_text line text ++ told_text (said (report_text party r))) → IsTelling stands new s (Turn party) out
  reports_so old new xs s party c line text out h is t watches e =
      let o : Outcome = taken s.fed party t.watching t.answered.answer in
      let r = reports_said c party o t.progress in
      let told : Told = said (report_text party r.report) in
      turn_so old new xs s party t.watching line text (told_text told) out (Some c) (told ∷ []) h is t.takes t.answered (reports_kept c o t.progress) r.said_is (append-nil (told_text told)) watches (e r.report r.says)

  -- it was refused
  pub refused_so : (old new : Driven M Watch) (xs : Exchanges) (s : Watchings) (party : List ℕ) (c : Watch) (line text out : List ℕ) → StandsNow stands old xs s → IsDriveLine Watchers (Turn party) → IsTurned new.machine s party c Refused line text → ((p : List ℕ) → map.kept_of new.kept p ≡ kept_with (map.kept_of old.kept) party None p) → out ≡ given_text line text ++ told_text (said (party_text (codes "unwatched") party)) → IsTelling stands new s (Turn party) out
  refused_so old new xs s party c line text out h is t watches e =
      let o : Outcome = taken s.fed party t.watching t.answered.answer in
      let told : Told = said (party_text (codes "unwatched") party) in
      turn_so old new xs s party t.watching line text (told_text told) out None (told ∷ []) h is t.takes t.answered (keeps_none Keeps (kept_of o) (refused_kept c o t.progress)) (refused_said c party o t.progress) (append-nil (told_text told)) watches e

  -- ---- exchanges

  -- the machine stands for what the exchanges led to
  pub now_of : (m : WatcherMachine M) (xs : Exchanges) (h : drivers.StandsFor IsLawful (StandsAfter stands) m xs) → StandsNow stands m.driven xs h.state.state
  now_of m xs h = record { led = record { leads = h.state.leads; few = h.few }; represents = h.state.represents }

  -- what is told of a line, whatever exchanges led there
  pub tells : (old new : WatcherMachine M) (l : DriveLine) (out : List ℕ) → ((xs : Exchanges) (s : Watchings) → StandsNow stands old.driven xs s → IsTelling stands new.driven s l out) → drivers.Tells IsLawful (StandsAfter stands) old new l out
  tells old new l out each xs h =
      let s : Watchings = h.state.state in
      let t = each xs s (now_of old xs h) in
      let leads : Leads no_watchings (xs ++ (l, t.told) ∷ []) t.state = leads_more xs l t.told no_watchings s t.state h.state.leads t.exchange in
      record { told = t.told; lawful = (t.state, leads); state = record { state = t.state; leads = leads; represents = t.represents }; text_is = t.text_is }

-- ---- the things of a line

pub things_split : (things : List (List ℕ)) (d : List ℕ) → 2 ≤ length things → things ≡ get_or things 0 d ∷ drop 1 things
things_split [] d le = absurd (omega arith)
things_split (x ∷ xs) d le = refl

pub things_named : (things : List (List ℕ)) → AllByRecursion (λ n. is_name n ≡ true) things → AllByRecursion (λ n. is_name n ≡ true) (drop 1 things)
things_named [] h = tt
things_named (x ∷ xs) h = h.1

pub first_named : (things : List (List ℕ)) (d : List ℕ) → 2 ≤ length things → AllByRecursion (λ n. is_name n ≡ true) things → is_name (get_or things 0 d) ≡ true
first_named [] d le h = absurd (omega arith)
first_named (x ∷ xs) d le h = h.0

-- all behind the first
pub all_behind : (hs : List (List ℕ)) → take (length hs - 1) (drop 1 hs) ≡ drop 1 hs
all_behind hs = rw take_rest refl
