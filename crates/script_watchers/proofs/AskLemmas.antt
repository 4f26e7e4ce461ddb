-- The ids of a watcher's handles, asked for one after another.
use Rattle.std.proofs.Common.{◌≡◌, ℕ, zero, suc, ◌<◌, ◌≤◌, true, false, List, [], ◌∷◌, ◌++◌, length, length-append, take, drop, get_or, arith, refl, sym, ap, subst, ◌∙◌, append_assoc, Some}
use Rattle.std.specs.Prelude.{map}
use Rattle.std.proofs.lemmas.List.{append-nil, map-append}
use Rattle.std.proofs.lemmas.List.Concat.{flat_map-append}
use Rattle.board_cell_model.specs.declared.access.Access.TheVariants as access
use Rattle.board_model.specs.declared.answer.Answer.TheVariants as answer
use Rattle.board_model.specs.declared.answer.Reply.TheVariants as reply
use Rattle.board_model.specs.declared.line.Call.TheVariants as call
use Rattle.script_model.specs.ScriptAnswers.{IsScriptAnswer, ScriptAnswer, is_refused, of_boards, script_answer_text}
use Rattle.script_model.specs.ScriptSession.{IsLawful, IsRight, Session}
use Rattle.script_model.specs.ScriptTurns.{ScriptState}
use Rattle.script_model.specs.LawsOfComposition.{Pair, state_met}
use Rattle.script_moments.specs.Moments.{next_moment}
use Rattle.script_moments.specs.Watchers.{AskedId, IsOpening}
use Rattle.script_moments.specs.WatcherLines.{opening_at}
use Rattle.script_moments.proofs.TurnLemmas.{begun_or_refused, ids_told}
use Rattle.script_moments.proofs.WatcherLineLemmas.{watchers_open}
use Rattle.script_loop.specs.Machines.{StandsFor}
use Rattle.script_exchanges.specs.Exchanges.{given, text_of, told_text}
use Rattle.script_snapshots.proofs.FedLemmas.{fed_lawful}
use Rattle.script_watches.specs.WatchExchanges.{AreToldIds, id_line, pairs_of_id, pairs_of_ids}
use Rattle.script_watches.proofs.OpeningLemmas.{ids_count, ids_lawful, ids_more, pairs_more}
use Rattle.script_watches.proofs.WatchingLemmas.{accepted_begin}
use Rattle.script_watchers.specs.declared.calls.Asked.{Asked}
use Rattle.script_watchers.specs.Calls.{rows_of}
use Rattle.script_watchers.specs.Opening.{AreAsked, AreDown, HasPlace, IsAsked, IsDown, StandsAt}
use Rattle.script_watchers.specs.ToldIds.{told_id}
use Rattle.script_feed.proofs.GivenLemmas.{HasGiven}
use Rattle.script_watchers.proofs.AskingLines.{step_line}
use Rattle.script_watchers.proofs.ToldIdLemmas.{id_again}

-- ---- texts

text_more : (xs ys : Session) → text_of (map given (xs ++ ys)) ≡ text_of (map given xs) ++ text_of (map given ys)
text_more xs ys = ap text_of (map-append given xs ys) ∙ flat_map-append told_text (map given xs) (map given ys)

one_text : (p : Pair) → text_of (map given (p ∷ [])) ≡ told_text (given p)
one_text p = append-nil (told_text (given p))

-- ---- one id

abbrev step_pair : List ℕ → ScriptAnswer → Pair
step_pair party a = (step_line party, a)

-- the step behind an accepted begin tells the id
pub record IsTold (party handle : List ℕ) (fed : Session) (a b : ScriptAnswer) : Type 0 where
  pub id : ℕ
  pub begun : a ≡ of_boards answer.Begun
  pub tells : b ≡ of_boards (answer.Step access.Table (Some (reply.Id id)))
  pub read : told_id (script_answer_text b) ≡ Some id

abbrev id_pair : List ℕ → List ℕ → ScriptAnswer → Pair
id_pair party handle a = (id_line party handle, a)

id_begins : (party handle : List ℕ) (a : ScriptAnswer) → a ≡ of_boards answer.Begun → id_pair party handle a ≡ id_pair party handle (of_boards answer.Begun)
id_begins party handle a e = ap (id_pair party handle) e

pub is_told : (party handle : List ℕ) (fed : Session) (a b : ScriptAnswer) → IsLawful fed → IsRight (state_met fed) (id_line party handle) a → is_refused a ≡ false → IsRight (state_met (fed ++ (id_line party handle, a) ∷ [])) (step_line party) b → IsTold party handle fed a b
is_told party handle fed a b ok begins accepts steps =
    let begun : a ≡ of_boards answer.Begun = accepted_begin a (begun_or_refused (state_met fed) party (call.Id handle) a begins) accepts in
    let p : Pair = (id_line party handle, a) in
    let opening : IsOpening fed (p ∷ []) party (handle ∷ []) (opening_at [] (Some (next_moment fed [] p))) =
    (watchers_open.ids fed [] party (handle ∷ []) []).begins handle p (watchers_open.start fed party (handle ∷ []) ok) (subst (λ (f : Session). IsRight (state_met f) (id_line party handle) a) (sym (append-nil fed)) begins) refl (id_begins party handle a begun) in
    let told = ids_told fed (p ∷ []) party (handle ∷ []) [] (next_moment fed [] p) (step_line party, b) opening steps refl in
    let tells : b ≡ of_boards (answer.Step access.Table (Some (reply.Id told.0))) = ap (λ (q : Pair). q.1) told.1 in
    let number = subst IsScriptAnswer tells steps.answer in
    record { id = told.0; begun = begun; tells = tells; read = ap (λ (c : ScriptAnswer). told_id (script_answer_text c)) tells ∙ id_again told.0 number.1 }

module _ {M : Type 0} (stands : M → ℕ → ScriptState → Type 0) where
  -- so many lines fewer
  pub place_more : (m n : M) (fed : Session) (p : Pair) → HasPlace stands m 2 fed → IsRight (state_met fed) p.0 p.1 → StandsAt stands n (fed ++ p ∷ []) → StandsFor stands n (fed ++ p ∷ [])
  place_more m n fed p h right state = record {
    lawful = fed_lawful fed p h.stands_for.lawful right;
    few = omega (arith, h.room, length-append fed (p ∷ []));
    state = state;
  }

  -- the begin was refused
  pub down_so : (m : M) (fed : Session) (party handle line text before after : List ℕ) → (g : HasGiven stands m fed (id_line party handle) line text) → is_refused g.answer ≡ true → after ≡ before ++ told_text (given (id_line party handle, g.answer)) → IsDown stands m fed party handle before after
  down_so m fed party handle line text before after g refused e = record {
    answer = g.answer;
    right = g.right;
    refused = refused;
    machine = g.machine;
    text_is = e ∙ ap (λ (t : List ℕ). before ++ t) (sym (one_text (id_line party handle, g.answer)));
  }

  -- the id was told
  pub asked_so : (m : M) (fed : Session) (party handle : List ℕ) (a b : ScriptAnswer) (id : ℕ) (before after : List ℕ) → IsLawful fed → IsRight (state_met fed) (id_line party handle) a → is_refused a ≡ false → IsRight (state_met (fed ++ (id_line party handle, a) ∷ [])) (step_line party) b
      → StandsAt stands m ((fed ++ (id_line party handle, a) ∷ []) ++ (step_line party, b) ∷ []) → told_id (script_answer_text b) ≡ Some id
      → after ≡ (before ++ told_text (given (id_line party handle, a))) ++ told_text (given (step_line party, b)) → IsAsked stands m fed party handle id before after
  asked_so m fed party handle a b id before after ok begins accepts steps state read e =
      let t = is_told party handle fed a b ok begins accepts steps in
      let same : t.id ≡ id = some_is t.id id (sym t.read ∙ read) in
      let x : AskedId = record { begun = record { met = state_met fed; pair = (id_line party handle, a) }; ended = record { met = state_met (fed ++ (id_line party handle, a) ∷ []); pair = (step_line party, b) }; id = t.id } in
      record {
        asked = x;
        told = record {
          is = record { begun = id_begins party handle a t.begun; ended = ap (step_pair party) t.tells };
          begun_met = refl;
          begun_right = begins;
          ended_met = refl;
          ended_right = steps;
        };
        id_is = same;
        machine = subst (StandsAt stands m) (append_assoc fed ((id_line party handle, a) ∷ []) ((step_line party, b) ∷ [])) state;
        text_is = e ∙ append_assoc before (told_text (given (id_line party handle, a))) (told_text (given (step_line party, b)))
            ∙ ap (λ (s : List ℕ). before ++ (told_text (given (id_line party handle, a)) ++ s)) (sym (one_text (step_line party, b)));
      }
    where
      some_is : (i j : ℕ) → Some i ≡ Some j → i ≡ j
      some_is i j f = cc

  -- ---- one after another

  pub none_asked : (m : M) (fed : Session) (party : List ℕ) (lines : ℕ) → HasPlace stands m lines fed → AreAsked stands m fed party [] [] []
  none_asked m fed party lines h = record {
    asked = [];
    ids = tt;
    rows_are = refl;
    machine = subst (StandsAt stands m) (sym (append-nil fed)) h.stands_for.state;
    text_is = refl;
  }

  -- there is place for one more
  pub place_left : (old m : M) (fed : Session) (party : List ℕ) (first : List (List ℕ)) (rows : List Asked) (text : List ℕ) → HasPlace stands old 32 fed → (k : AreAsked stands m fed party first rows text) → length first < 16 → HasPlace stands m 2 (fed ++ pairs_of_ids k.asked)
  place_left old m fed party first rows text h k few = record {
    stands_for = record {
      lawful = ids_lawful first k.asked fed party h.stands_for.lawful k.ids;
      few = omega (arith, few, h.room, length-append fed (pairs_of_ids k.asked), ids_count first k.asked fed party k.ids);
      state = k.machine;
    };
    room = omega (arith, few, h.room, length-append fed (pairs_of_ids k.asked), ids_count first k.asked fed party k.ids);
  }

  rows_more : (hs : List (List ℕ)) (xs : List AskedId) (fed : Session) (party h : List ℕ) (x : AskedId) → AreToldIds fed party hs xs → rows_of (hs ++ h ∷ []) (xs ++ x ∷ []) ≡ rows_of hs xs ++ record { handle = h; id = x.id } ∷ []
  rows_more [] [] fed party h x t = refl
  rows_more [] (y ∷ ys) fed party h x t = absurd t
  rows_more (g ∷ hs) [] fed party h x t = absurd t
  rows_more (g ∷ hs) (y ∷ ys) fed party h x t = ap (λ (r : List Asked). record { handle = g; id = y.id } ∷ r) (rows_more hs ys (fed ++ pairs_of_id y) party h x t.1)

  pub asked_more : (m n : M) (fed : Session) (party : List ℕ) (first : List (List ℕ)) (handle : List ℕ) (id : ℕ) (rows : List Asked) (before after : List ℕ) → (k : AreAsked stands m fed party first rows before) → IsAsked stands n (fed ++ pairs_of_ids k.asked) party handle id before after
      → AreAsked stands n fed party (first ++ handle ∷ []) (rows ++ record { handle = handle; id = id } ∷ []) after
  asked_more m n fed party first handle id rows before after k q = record {
    asked = k.asked ++ q.asked ∷ [];
    ids = ids_more first k.asked fed party handle q.asked k.ids q.told;
    rows_are = ap (λ (r : List Asked). r ++ record { handle = handle; id = id } ∷ []) k.rows_are ∙ ap (λ (i : ℕ). rows_of first k.asked ++ record { handle = handle; id = i } ∷ []) (sym q.id_is) ∙ sym (rows_more first k.asked fed party handle q.asked k.ids);
    machine = subst (StandsAt stands n) (append_assoc fed (pairs_of_ids k.asked) (pairs_of_id q.asked) ∙ ap (λ (s : Session). fed ++ s) (sym (pairs_more_id k.asked q.asked))) q.machine;
    text_is = q.text_is ∙ ap (λ (t : List ℕ). t ++ text_of (map given (pairs_of_id q.asked))) k.text_is ∙ sym (text_more (pairs_of_ids k.asked) (pairs_of_id q.asked)) ∙ ap (λ (s : Session). text_of (map given s)) (sym (pairs_more_id k.asked q.asked));
  }
    where
      pairs_more_id : (xs : List AskedId) (x : AskedId) → pairs_of_ids (xs ++ x ∷ []) ≡ pairs_of_ids xs ++ pairs_of_id x
      pairs_more_id xs x = pairs_more xs x

  pub down_more : (m n : M) (fed : Session) (party : List ℕ) (handles first : List (List ℕ)) (handle : List ℕ) (others : List (List ℕ)) (rows : List Asked) (before after : List ℕ) → handles ≡ first ++ handle ∷ others → (k : AreAsked stands m fed party first rows before) → IsDown stands n (fed ++ pairs_of_ids k.asked) party handle before after
      → AreDown stands n fed party handles after
  down_more m n fed party handles first handle others rows before after parts k q = record {
    first = first;
    handle = handle;
    others = others;
    parts = parts;
    asked = k.asked;
    ids = k.ids;
    answer = q.answer;
    right = q.right;
    refused = q.refused;
    machine = subst (StandsAt stands n) (append_assoc fed (pairs_of_ids k.asked) ((id_line party handle, q.answer) ∷ [])) q.machine;
    text_is = q.text_is ∙ ap (λ (t : List ℕ). t ++ text_of (map given ((id_line party handle, q.answer) ∷ []))) k.text_is ∙ sym (text_more (pairs_of_ids k.asked) ((id_line party handle, q.answer) ∷ []));
  }

-- ---- the handles so far

pub take_few : (hs : List (List ℕ)) (i : ℕ) → i < length hs → length (take i hs) ≤ i
take_few [] i lt = absurd (omega arith)
take_few (h ∷ hs) zero lt = omega arith
take_few (h ∷ hs) (suc i) lt = omega (arith, take_few hs i (omega arith))

pub take_more : (hs : List (List ℕ)) (i : ℕ) (h : List ℕ) → i < length hs → h ≡ get_or hs i h → take (suc i) hs ≡ take i hs ++ h ∷ []
take_more [] i h lt e = absurd (omega arith)
take_more (g ∷ hs) zero h lt e = ap (λ (x : List ℕ). x ∷ []) (sym e)
take_more (g ∷ hs) (suc i) h lt e = ap (λ (xs : List (List ℕ)). g ∷ xs) (take_more hs i h (omega arith) e)

pub take_rest : (hs : List (List ℕ)) (i : ℕ) (h : List ℕ) → i < length hs → h ≡ get_or hs i h → hs ≡ take i hs ++ h ∷ drop (suc i) hs
take_rest [] i h lt e = absurd (omega arith)
take_rest (g ∷ hs) zero h lt e = ap (λ (x : List ℕ). x ∷ hs) (sym e)
take_rest (g ∷ hs) (suc i) h lt e = ap (λ (xs : List (List ℕ)). g ∷ xs) (take_rest hs i h (omega arith) e)
