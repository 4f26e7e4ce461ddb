-- What a machine of snapshots stands for after a line.
use Rattle.std.proofs.Common.{◌≡◌, ℕ, ◌<◌, Bool, true, false, List, [], ◌∷◌, ◌++◌, length, arith, refl, sym, ap, subst, ◌∙◌, Option, Some, None}
use Rattle.std.specs.Prelude.{codes, if◌then◌else◌}
use Rattle.std.specs.Str.{bytes_eq}
use Rattle.std.proofs.lemmas.List.{append-nil}
use Rattle.board_model.specs.LineGrammar.{is_name}
use Rattle.board_model.proofs.ListLemmas.{same_bytes}
use Rattle.script_model.specs.declared.line.ScriptLine.{ScriptLine}
use Rattle.script_model.specs.ScriptAnswers.{ScriptAnswer, is_refused}
use Rattle.script_model.specs.ScriptGrammar.{SpellsLine, script_spell}
use Rattle.script_model.specs.ScriptSession.{start}
use Rattle.script_model.specs.ScriptTurns.{ScriptState}
use Rattle.script_model.specs.LawsOfComposition.{state_met}
use Rattle.script_loop.specs.Machines.{HasAnswered, StandsFor}
use Rattle.script_feed.specs.AnswerLooks.{IsAnswerOf}
use Rattle.script_feed.specs.declared.driven.Driven.{Driven}
use Rattle.script_feed.specs.Given.{given_text}
use Rattle.script_feed.specs.KeptOf as map
use Rattle.script_feed.specs.KeptOf.{KeepsIfAny}
use Rattle.script_feed.specs.PlainLines.{AnswersPlain, IsAnswered, IsHeldBack}
use Rattle.script_feed.proofs.GivenLemmas.{HasGiven, has_given}
use Rattle.script_feed.proofs.KeptLemmas.{kept_alike, kept_as, keeps_none, keeps_with, let_go_keeps, none_keeps, not_kept}
use Rattle.script_exchanges.specs.declared.line.Drive.TheVariants.{Snapshots}
use Rattle.script_exchanges.specs.declared.line.DriveLine.{DriveLine}
use Rattle.script_exchanges.specs.declared.line.DriveLine.TheVariants.{Script, Start, Turn}
use Rattle.script_exchanges.specs.DriveGrammar.{IsDriveLine}
use Rattle.script_exchanges.specs.DrivenParties.{abandoned_by, held_back, if_kept, kept_with, let_go, party_text}
use Rattle.script_drive.specs.Drivers as drivers
use Rattle.script_exchanges.specs.Exchanges.{Exchanges, Told, given, said, text_of, told_text}
use Rattle.script_snapshots.specs.Takings.{Outcome, Taking, new_taking, next_line, snapshot_text, taken}
use Rattle.script_snapshots.specs.SnapshotExchanges.{IsExchange, IsLawful, Leads, OfScript, OfTurn, Takings, fed_with, kept_of, no_takings, said_of, started}
use Rattle.script_snapshots.proofs.TakingLaws.{IsKept, leads_few, leads_kept, leads_more, none_kept}
use Rattle.script_shots.specs.declared.machine.SnapshotMachine.{SnapshotMachine}
use Rattle.script_shots.specs.declared.shot.Shot.{Shot}
use Rattle.script_shots.specs.Machines.{IsTelling, Represents, StandsAfter, StandsNow}
use Rattle.script_shots.specs.declared.shot.Progress.{Progress}
use Rattle.script_shots.specs.declared.shot.Progress.TheVariants.{GoesOn, Refused, Whole}
use Rattle.script_shots.specs.Shots.{Follows, IsProgress, Keeps, SaysWhole, whole_line}
use Rattle.script_shots.proofs.ShotLemmas.{gets_length}
use Rattle.script_shots.proofs.TurnLemmas.{goes_kept, goes_said, next_spelled, refused_kept, refused_said, right_fits, whole_kept, whole_said}

-- ---- the machine of scripts

module _ {M : Type 0} (stands : M → ℕ → ScriptState → Type 0) where
  pub new_stands : (m : SnapshotMachine M) → stands m.driven.machine 0 start → ((p : List ℕ) → map.kept_of m.driven.kept p ≡ None) → StandsAfter stands m []
  new_stands m ok none = record {
    state = no_takings;
    leads = refl;
    represents = record { machine = ok; shots = λ p. none_keeps Keeps (map.kept_of m.driven.kept p) (none p) };
  }

  pub is_kept : (m : Driven M Shot) (xs : Exchanges) (s : Takings) → StandsNow stands m xs s → IsKept s
  is_kept m xs s h = leads_kept xs no_takings s none_kept h.led.leads

  -- it stands for the fed session
  pub stands_for : (m : Driven M Shot) (xs : Exchanges) (s : Takings) → StandsNow stands m xs s → StandsFor stands m.machine s.fed
  stands_for m xs s h = record { lawful = (is_kept m xs s h).lawful; few = omega (arith, h.led.few, leads_few xs no_takings s h.led.leads); state = h.represents.machine }

  -- ---- lines

  -- nothing is given, and this is said
  pub says_so : (m : Driven M Shot) (s t : Takings) (l : DriveLine) (text out : List ℕ) → IsExchange s l (said text ∷ []) t → Represents stands m t → out ≡ told_text (said text) → IsTelling stands m s l out
  says_so m s t l text out x r e = record { told = said text ∷ []; state = t; exchange = x; represents = r; text_is = e ∙ sym (append-nil (told_text (said text))) }

  -- a line that is held back
  held_so : (old new : Driven M Shot) (xs : Exchanges) (s : Takings) (l : ScriptLine) (line party out : List ℕ) → StandsNow stands old xs s → SpellsLine line l → if_kept (map.kept_of old.kept) (held_back l) ≡ Some party → IsHeldBack old new (codes "snapping") party [] out → IsTelling stands new s (Script l) out
  held_so old new xs s l line party out h spelled held a =
      let there : Some party ≡ if_kept s.of (held_back l) = sym held ∙ kept_alike Keeps (map.kept_of old.kept) s.of h.represents.shots (held_back l) in
      says_so new s s (Script l) (party_text (codes "snapping") party) out (record { line = spelled.line; exchanged = subst (λ (o : Option (List ℕ)). OfScript s l o (said (party_text (codes "snapping") party) ∷ []) s) there (refl, refl) })
      (subst (λ (m : Driven M Shot). Represents stands m s) (sym a.same) h.represents) a.told

  -- a line that is given
  given_so : (old new : Driven M Shot) (xs : Exchanges) (s : Takings) (l : ScriptLine) (line text out : List ℕ) → StandsNow stands old xs s → SpellsLine line l → if_kept s.of (held_back l) ≡ None → HasAnswered stands new.machine s.fed line text
      → ((a : ScriptAnswer) → IsAnswerOf text a → (p : List ℕ) → map.kept_of new.kept p ≡ let_go (map.kept_of old.kept) (abandoned_by l) (is_refused a) p) → out ≡ given_text line text → IsTelling stands new s (Script l) out
  given_so old new xs s l line text out h spelled none answered shots e =
      let g = has_given stands new.machine s.fed l line text spelled answered in
      let of : List ℕ → Option Taking = let_go s.of (abandoned_by l) (is_refused g.answer) in
      record {
        told = given (l, g.answer) ∷ [];
        state = fed_with s l g.answer of;
        exchange = record { line = spelled.line; exchanged = subst (λ (o : Option (List ℕ)). OfScript s l o (given (l, g.answer) ∷ []) (fed_with s l g.answer of)) (sym none) (record { answer = g.answer; right = g.right; told_is = refl; after = refl }) };
        represents = record {
          machine = g.machine;
          shots = λ p. subst (λ (k : Option Shot). KeepsIfAny Keeps k (of p)) (sym (shots g.answer g.text_is p)) (let_go_keeps Keeps (map.kept_of old.kept) s.of (abandoned_by l) (is_refused g.answer) h.represents.shots p);
        };
        text_is = e ∙ g.told ∙ sym (append-nil (told_text (given (l, g.answer))));
      }

  -- no line is held back where nothing is kept
  free_so : (m : Driven M Shot) (xs : Exchanges) (s : Takings) (l : ScriptLine) → StandsNow stands m xs s → None ≡ if_kept (map.kept_of m.kept) (held_back l) → if_kept s.of (held_back l) ≡ None
  free_so m xs s l h held = sym (held ∙ kept_alike Keeps (map.kept_of m.kept) s.of h.represents.shots (held_back l))

  -- a line of a plain script
  pub script_so : (old new : Driven M Shot) (xs : Exchanges) (s : Takings) (l : ScriptLine) (line out : List ℕ) → StandsNow stands old xs s → SpellsLine line l → AnswersPlain stands old new (codes "snapping") l line [] out → IsTelling stands new s (Script l) out
  script_so old new xs s l line out h spelled answered = at (if_kept (map.kept_of old.kept) (held_back l)) refl answered
    where
      at : (o : Option (List ℕ)) → if_kept (map.kept_of old.kept) (held_back l) ≡ o → IsAnswered stands old new (codes "snapping") l line [] out o → IsTelling stands new s (Script l) out
      at (Some party) e a = held_so old new xs s l line party out h spelled e a
      at None e a = given_so old new xs s l line new.answer.items out h spelled (free_so old xs s l h (sym e)) (a.answered s.fed (stands_for old xs s h)) a.kept a.told

  -- ---- a snapshot begins

  pub starts_so : (old new : Driven M Shot) (xs : Exchanges) (s : Takings) (party : List ℕ) (handles : List (List ℕ)) (c : Shot) (out : List ℕ) → StandsNow stands old xs s → IsDriveLine Snapshots (Start party handles) → map.kept_of old.kept party ≡ None → Keeps c (new_taking handles) → new.machine ≡ old.machine → ((p : List ℕ) → map.kept_of new.kept p ≡ kept_with (map.kept_of old.kept) party (Some c) p) → out ≡ told_text (said (party_text (codes "snapping") party)) → IsTelling stands new s (Start party handles) out
  starts_so old new xs s party handles c out h line kept keeps same shots e =
      let none : s.of party ≡ None = not_kept Keeps (map.kept_of old.kept party) (s.of party) (h.represents.shots party) kept in
      let t : Takings = record s { of = kept_with s.of party (Some (new_taking handles)) } in
      says_so new s t (Start party handles) (party_text (codes "snapping") party) out
      (record { line = line; exchanged = (refl, ap (started s party handles) (sym none)) })
      (record {
        machine = subst (λ (m : M). stands m (length s.fed) (state_met s.fed)) (sym same) h.represents.machine;
        shots = keeps_with Keeps (map.kept_of old.kept) s.of party (Some c) (Some (new_taking handles)) (map.kept_of new.kept) h.represents.shots keeps shots;
      }) e

  pub still_so : (m : Driven M Shot) (xs : Exchanges) (s : Takings) (party : List ℕ) (handles : List (List ℕ)) (c : Shot) (out : List ℕ) → StandsNow stands m xs s → IsDriveLine Snapshots (Start party handles) → map.kept_of m.kept party ≡ Some c → out ≡ told_text (said (party_text (codes "snapping") party)) → IsTelling stands m s (Start party handles) out
  still_so m xs s party handles c out h line kept e =
      let k = kept_as Keeps (map.kept_of m.kept party) (s.of party) c (h.represents.shots party) kept in
      says_so m s s (Start party handles) (party_text (codes "snapping") party) out (record { line = line; exchanged = (refl, ap (started s party handles) (sym k.is)) }) h.represents e

  -- ---- a turn

  pub unsnapped_so : (old new : Driven M Shot) (xs : Exchanges) (s : Takings) (party out : List ℕ) → StandsNow stands old xs s → IsDriveLine Snapshots (Turn party) → map.kept_of old.kept party ≡ None → new.machine ≡ old.machine → ((p : List ℕ) → map.kept_of new.kept p ≡ kept_with (map.kept_of old.kept) party None p) → out ≡ told_text (said (party_text (codes "unsnapped") party)) → IsTelling stands new s (Turn party) out
  unsnapped_so old new xs s party out h line kept same shots e =
      let none : s.of party ≡ None = not_kept Keeps (map.kept_of old.kept party) (s.of party) (h.represents.shots party) kept in
      says_so new s s (Turn party) (party_text (codes "unsnapped") party) out
      (record { line = line; exchanged = subst (λ (o : Option Taking). OfTurn s party o (said (party_text (codes "unsnapped") party) ∷ []) s) (sym none) (refl, refl) })
      (record {
        machine = subst (λ (m : M). stands m (length s.fed) (state_met s.fed)) (sym same) h.represents.machine;
        shots = λ p. at p (bytes_eq p party) refl none;
      }) e
    where
      at : (p : List ℕ) (b : Bool) → bytes_eq p party ≡ b → s.of party ≡ None → KeepsIfAny Keeps (map.kept_of new.kept p) (s.of p)
      at p true same none = subst (λ (o : Option Shot). KeepsIfAny Keeps o (s.of p)) (sym (shots p ∙ ap (λ (b : Bool). if b then None else map.kept_of old.kept p) same)) (subst (KeepsIfAny Keeps None) (sym (ap s.of (same_bytes p party same) ∙ none)) tt)
      at p false same none = subst (λ (o : Option Shot). KeepsIfAny Keeps o (s.of p)) (sym (shots p ∙ ap (λ (b : Bool). if b then None else map.kept_of old.kept p) same)) (h.represents.shots p)

  -- the answer was given, and the snapshot became so
  pub turn_so : (old new : Driven M Shot) (xs : Exchanges) (s : Takings) (party : List ℕ) (x : Taking) (line text rest out : List ℕ) (kept : Option Shot) (tail : List Told) → StandsNow stands old xs s → IsDriveLine Snapshots (Turn party) → s.of party ≡ Some x → (g : HasGiven stands new.machine s.fed (next_line party x) line text)
      → KeepsIfAny Keeps kept (kept_of (taken s.fed party x g.answer)) → said_of party (taken s.fed party x g.answer) ≡ tail → text_of tail ≡ rest
      → ((p : List ℕ) → map.kept_of new.kept p ≡ kept_with (map.kept_of old.kept) party kept p) → out ≡ given_text line text ++ rest → IsTelling stands new s (Turn party) out
  turn_so old new xs s party x line text rest out kept tail h is takes g keeps tells texts shots e =
      let l : ScriptLine = next_line party x in
      let o : Outcome = taken s.fed party x g.answer in
      let t : Takings = fed_with s l g.answer (kept_with s.of party (kept_of o)) in
      let told : List Told = given (l, g.answer) ∷ said_of party o in
      record {
        told = told;
        state = t;
        exchange = record { line = is; exchanged = subst (λ (k : Option Taking). OfTurn s party k told t) (sym takes) (record { answer = g.answer; right = g.right; told_is = refl; after = refl }) };
        represents = record {
          machine = g.machine;
          shots = keeps_with Keeps (map.kept_of old.kept) s.of party kept (kept_of o) (map.kept_of new.kept) h.represents.shots keeps shots;
        };
        text_is = e ∙ ap (λ (b : List ℕ). b ++ rest) g.told ∙ ap (λ (b : List ℕ). told_text (given (l, g.answer)) ++ b) (sym texts ∙ ap text_of (sym tells));
      }

  -- ---- the answer to a turn

  -- the snapshot that is kept has room for a get
  pub room_at : (m : Driven M Shot) (xs : Exchanges) (s : Takings) (party : List ℕ) (c : Shot) → StandsNow stands m xs s → Some c ≡ map.kept_of m.kept party → length c.generations.items < length c.handles.items
  room_at m xs s party c h e =
      let k = kept_as Keeps (map.kept_of m.kept party) (s.of party) c (h.represents.shots party) (sym e) in
      let sound = (is_kept m xs s h).sound party k.doing k.is in
      omega (arith, sound.room, gets_length c k.doing k.keeps, ap (λ (l : List (List ℕ)). length l) k.keeps.handles)

  -- and its next line is one of the grammar
  pub spelled_at : (m : Driven M Shot) (xs : Exchanges) (s : Takings) (party : List ℕ) (c : Shot) (line : List ℕ) → StandsNow stands m xs s → Some c ≡ map.kept_of m.kept party → is_name party ≡ true → ((x : Taking) → Keeps c x → line ≡ script_spell (next_line party x)) → (l : ScriptLine) × SpellsLine line l
  spelled_at m xs s party c line h e named is =
      let k = kept_as Keeps (map.kept_of m.kept party) (s.of party) c (h.represents.shots party) (sym e) in
      let sound = (is_kept m xs s h).sound party k.doing k.is in
      (next_line party k.doing, next_spelled c party k.doing line k.keeps sound.room named (is k.doing k.keeps))

  -- what was answered to it, and what became of the snapshot
  pub record IsTurned (m : M) (s : Takings) (party : List ℕ) (new : Shot) (p : Progress) (line text : List ℕ) : Type 0 where
    pub taking : Taking
    pub takes : s.of party ≡ Some taking
    pub answered : HasGiven stands m s.fed (next_line party taking) line text
    pub progress : IsProgress new p (taken s.fed party taking answered.answer)

  pub turned : (old : Driven M Shot) (m : M) (xs : Exchanges) (s : Takings) (party : List ℕ) (c new : Shot) (p : Progress) (line bytes text : List ℕ) → StandsNow stands old xs s → Some c ≡ map.kept_of old.kept party → is_name party ≡ true → ((x : Taking) → Keeps c x → line ≡ script_spell (next_line party x)) → HasAnswered stands m s.fed line text → bytes ≡ text → Follows c new bytes p → IsTurned m s party new p line text
  turned old m xs s party c new p line bytes text h e named is answered same follows =
      let k = kept_as Keeps (map.kept_of old.kept party) (s.of party) c (h.represents.shots party) (sym e) in
      let sound = (is_kept old xs s h).sound party k.doing k.is in
      let g = has_given stands m s.fed (next_line party k.doing) line text (next_spelled c party k.doing line k.keeps sound.room named (is k.doing k.keeps)) answered in
      record { taking = k.doing; takes = k.is; answered = g; progress = follows s.fed party k.doing g.answer k.keeps (right_fits s.fed party k.doing g.answer sound g.right) (same ∙ g.text_is) }

  -- it goes on
  pub goes_so : (old new : Driven M Shot) (xs : Exchanges) (s : Takings) (party : List ℕ) (c : Shot) (line text out : List ℕ) → StandsNow stands old xs s → IsDriveLine Snapshots (Turn party) → IsTurned new.machine s party c GoesOn line text → ((p : List ℕ) → map.kept_of new.kept p ≡ kept_with (map.kept_of old.kept) party (Some c) p) → out ≡ given_text line text → IsTelling stands new s (Turn party) out
  goes_so old new xs s party c line text out h is t shots e =
      let o : Outcome = taken s.fed party t.taking t.answered.answer in
      turn_so old new xs s party t.taking line text [] out (Some c) [] h is t.takes t.answered (goes_kept c o t.progress) (goes_said c party o t.progress) refl shots (e ∙ sym (append-nil (given_text line text)))

  -- it was refused
  pub refused_so : (old new : Driven M Shot) (xs : Exchanges) (s : Takings) (party : List ℕ) (c : Shot) (line text out : List ℕ) → StandsNow stands old xs s → IsDriveLine Snapshots (Turn party) → IsTurned new.machine s party c Refused line text → ((p : List ℕ) → map.kept_of new.kept p ≡ kept_with (map.kept_of old.kept) party None p) → out ≡ given_text line text ++ told_text (said (party_text (codes "unsnapped") party)) → IsTelling stands new s (Turn party) out
  refused_so old new xs s party c line text out h is t shots e =
      let o : Outcome = taken s.fed party t.taking t.answered.answer in
      let told : Told = said (party_text (codes "unsnapped") party) in
      turn_so old new xs s party t.taking line text (told_text told) out None (told ∷ []) h is t.takes t.answered (keeps_none Keeps (kept_of o) (refused_kept c o t.progress)) (refused_said c party o t.progress) (append-nil (told_text told)) shots e

  -- it is whole
  pub whole_so : (old new : Driven M Shot) (xs : Exchanges) (s : Takings) (party : List ℕ) (c : Shot) (line text out : List ℕ) → StandsNow stands old xs s → IsDriveLine Snapshots (Turn party) → IsTurned new.machine s party c Whole line text → ((p : List ℕ) → map.kept_of new.kept p ≡ kept_with (map.kept_of old.kept) party None p) → ((y : Taking) → SaysWhole c y → out ≡ given_text line text ++ whole_line party y) → IsTelling stands new s (Turn party) out
  whole_so old new xs s party c line text out h is t shots e =
      let o : Outcome = taken s.fed party t.taking t.answered.answer in
      let w = whole_said c party o t.progress in
      turn_so old new xs s party t.taking line text (whole_line party w.taking) out None (said (snapshot_text party w.taking) ∷ []) h is t.takes t.answered (keeps_none Keeps (kept_of o) (whole_kept c o t.progress)) w.said_is (append-nil (whole_line party w.taking)) shots (e w.taking w.says)

  -- ---- exchanges

  -- the machine stands for what the exchanges led to
  pub now_of : (m : SnapshotMachine M) (xs : Exchanges) (h : drivers.StandsFor IsLawful (StandsAfter stands) m xs) → StandsNow stands m.driven xs h.state.state
  now_of m xs h = record { led = record { leads = h.state.leads; few = h.few }; represents = h.state.represents }

  -- what is told of a line, whatever exchanges led there
  pub tells : (old new : SnapshotMachine M) (l : DriveLine) (out : List ℕ) → ((xs : Exchanges) (s : Takings) → StandsNow stands old.driven xs s → IsTelling stands new.driven s l out) → drivers.Tells IsLawful (StandsAfter stands) old new l out
  tells old new l out each xs h =
      let s : Takings = h.state.state in
      let t = each xs s (now_of old xs h) in
      let leads : Leads no_takings (xs ++ (l, t.told) ∷ []) t.state = leads_more xs l t.told no_takings s t.state h.state.leads t.exchange in
      record { told = t.told; lawful = (t.state, leads); state = record { state = t.state; leads = leads; represents = t.represents }; text_is = t.text_is }
