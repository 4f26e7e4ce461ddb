-- The opening of a watcher, id by id.
use Rattle.std.specs.Prelude.{◌≡◌, ℕ, ◌+◌, ◌<◌, ◌^◌, Bool, true, false, List, [], ◌∷◌, ◌++◌, length, map, Option, Some, None}
use Rattle.script_model.specs.ScriptAnswers.{ScriptAnswer, is_refused}
use Rattle.script_model.specs.ScriptSession.{IsRight, Session}
use Rattle.script_model.specs.ScriptTurns.{ScriptState}
use Rattle.script_model.specs.LawsOfComposition.{state_met}
use Rattle.script_moments.specs.Watchers.{AskedId}
use Rattle.script_loop.specs.Machines.{StandsFor}
use Rattle.script_exchanges.specs.Exchanges.{given, text_of}
use Rattle.script_watches.specs.WatchExchanges.{AreToldIds, IsToldId, id_line, pairs_of_id, pairs_of_ids}
use Rattle.script_watchers.specs.declared.calls.Asked.{Asked}
use Rattle.script_watchers.specs.Calls.{rows_of}

-- the machine stands for a session, and so many lines may follow
pub record HasPlace {M : Type 0} (stands : M → ℕ → ScriptState → Type 0) (m : M) (lines : ℕ) (fed : Session) : Type 0 where
  pub stands_for : StandsFor stands m fed
  pub room : length fed + lines < 2 ^ 63

-- it stands for this one
abbrev pub StandsAt : {M : Type 0} → (M → ℕ → ScriptState → Type 0) → M → Session → Type 0
StandsAt stands m fed = stands m (length fed) (state_met fed)

-- ---- one id

-- the id was told
pub record IsAsked {M : Type 0} (stands : M → ℕ → ScriptState → Type 0) (m : M) (fed : Session) (party handle : List ℕ) (id : ℕ) (before text : List ℕ) : Type 0 where
  pub asked : AskedId
  pub told : IsToldId fed party handle asked
  pub id_is : asked.id ≡ id
  pub machine : StandsAt stands m (fed ++ pairs_of_id asked)
  pub text_is : text ≡ before ++ text_of (map given (pairs_of_id asked))

-- the begin was refused
pub record IsDown {M : Type 0} (stands : M → ℕ → ScriptState → Type 0) (m : M) (fed : Session) (party handle : List ℕ) (before text : List ℕ) : Type 0 where
  pub answer : ScriptAnswer
  pub right : IsRight (state_met fed) (id_line party handle) answer
  pub refused : is_refused answer ≡ true
  pub machine : StandsAt stands m (fed ++ (id_line party handle, answer) ∷ [])
  pub text_is : text ≡ before ++ text_of (map given ((id_line party handle, answer) ∷ []))

abbrev pub IsAskedOrDown : {M : Type 0} → (M → ℕ → ScriptState → Type 0) → M → Session → List ℕ → List ℕ → List ℕ → List ℕ → Option ℕ → Type 0
IsAskedOrDown stands m fed party handle before text (Some id) = IsAsked stands m fed party handle id before text
IsAskedOrDown stands m fed party handle before text None = IsDown stands m fed party handle before text

-- so it is, for whatever session the machine stood
abbrev pub AsksOne : {M : Type 0} → (M → ℕ → ScriptState → Type 0) → M → M → List ℕ → List ℕ → List ℕ → List ℕ → Option ℕ → Type 0
AsksOne stands old new party handle before text id = (fed : Session) → HasPlace stands old 2 fed → IsAskedOrDown stands new fed party handle before text id

-- ---- one after another

-- the ids of these handles were told
pub record AreAsked {M : Type 0} (stands : M → ℕ → ScriptState → Type 0) (m : M) (fed : Session) (party : List ℕ) (handles : List (List ℕ)) (rows : List Asked) (text : List ℕ) : Type 0 where
  pub asked : List AskedId
  pub ids : AreToldIds fed party handles asked
  pub rows_are : rows ≡ rows_of handles asked
  pub machine : StandsAt stands m (fed ++ pairs_of_ids asked)
  pub text_is : text ≡ text_of (map given (pairs_of_ids asked))

-- those of the first ones were told, and the begin for the next one was refused
pub record AreDown {M : Type 0} (stands : M → ℕ → ScriptState → Type 0) (m : M) (fed : Session) (party : List ℕ) (handles : List (List ℕ)) (text : List ℕ) : Type 0 where
  pub first : List (List ℕ)
  pub handle : List ℕ
  pub others : List (List ℕ)
  pub parts : handles ≡ first ++ handle ∷ others
  pub asked : List AskedId
  pub ids : AreToldIds fed party first asked
  pub answer : ScriptAnswer
  pub right : IsRight (state_met (fed ++ pairs_of_ids asked)) (id_line party handle) answer
  pub refused : is_refused answer ≡ true
  pub machine : StandsAt stands m (fed ++ (pairs_of_ids asked ++ (id_line party handle, answer) ∷ []))
  pub text_is : text ≡ text_of (map given (pairs_of_ids asked ++ (id_line party handle, answer) ∷ []))

abbrev pub AreAskedOrDown : {M : Type 0} → (M → ℕ → ScriptState → Type 0) → M → Session → List ℕ → List (List ℕ) → List Asked → List ℕ → Bool → Type 0
AreAskedOrDown stands m fed party handles rows text true = AreAsked stands m fed party handles rows text
AreAskedOrDown stands m fed party handles rows text false = AreDown stands m fed party handles text

abbrev pub AsksAll : {M : Type 0} → (M → ℕ → ScriptState → Type 0) → M → M → List ℕ → List (List ℕ) → List Asked → List ℕ → Bool → Type 0
AsksAll stands old new party handles rows text all = (fed : Session) → HasPlace stands old 32 fed → AreAskedOrDown stands new fed party handles rows text all
