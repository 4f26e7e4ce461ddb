-- The words of a board, and the facts of a lawful session.
use Rattle.std.proofs.Common.{◌≡◌, ℕ, ◌^◌, ◌<◌, true, false, List, [], length, get_or, arith, refl, sym, ap, ◌∙◌, Option, Some, None}
use Rattle.std.specs.Prelude.{find, is_some, option_map, IfNone, IfOk, IfSome, IsSome, OnErr, OnOk, Result, Ok, Err}
use Rattle.std.specs.List.{position_from}
use Rattle.std.proofs.lemmas.List.{length-map}
use Rattle.std.proofs.lemmas.Option.{get_or_from_slice_get, slice_get-get_or}
use Rattle.board_model.specs.declared.tables.Board.{Board}
use Rattle.board_model.specs.declared.line.Line.TheVariants as line
use Rattle.board_model.specs.Tables.{board_at, is_numbered}
use Rattle.board_model.specs.LawfulSession.{IsLawful, Session, State, start, state_after}
use Rattle.board_model.proofs.DrawLemmas.{session_within}
use Rattle.board_model.proofs.KeptFormLemmas.{session_formed}
use Rattle.board_model.proofs.NumberLemmas.{session_numbers}
use Rattle.board_model.proofs.SoundLemmas.{sound_session}
use Rattle.script_parties.specs.Parties.{board_words}
use Rattle.board_service.specs.Domain.{at}
use Rattle.script_boards.specs.declared.machine.BoardMachine.{BoardMachine}
use Rattle.script_boards.specs.Machine.{IsReached, Represents}
use Rattle.script_boards.specs.Wants.{MayWant, takes_memory}
use Rattle.script_boards.proofs.Memories.{words_at}
use Rattle.script_boards.proofs.Rows.{first_at, place_found, place_missing}

-- ---- the words of a board

module _ {C : Type 0} (m : BoardMachine C) (s : State) (rep : Represents m s) (n : ℕ) where
  pub place_inside : (k : ℕ) → Some k ≡ position_from (is_numbered n) 0 m.domain.tables.boards → k < length m.domain.words
  place_inside k p =
      let l : length m.domain.words ≡ length m.domain.tables.boards = ap length rep.words ∙ length-map m.domain.tables.boards (λ (x : Board). s.memory x.number) in
      omega (arith, (first_at (is_numbered n) k m.domain.tables.boards p).inside, l)

  pub board_stands : (k : ℕ) → Some k ≡ position_from (is_numbered n) 0 m.domain.tables.boards → is_some (board_at s.standing.tables n) ≡ true
  board_stands k p = ap (λ t. is_some (find (is_numbered n) t.boards)) rep.tables ∙ place_found (is_numbered n) 0 k m.domain.tables.boards (sym p)

  pub board_is_missing : None ≡ position_from (is_numbered n) 0 m.domain.tables.boards → is_some (board_at s.standing.tables n) ≡ false
  board_is_missing p = ap (λ t. is_some (find (is_numbered n) t.boards)) rep.tables ∙ place_missing (is_numbered n) 0 m.domain.tables.boards (sym p)

  pub words_are : (k : ℕ) (d : List ℕ) → Some k ≡ position_from (is_numbered n) 0 m.domain.tables.boards → get_or m.domain.words k d ≡ s.memory n
  words_are k d p = ap (λ (ws : List (List ℕ)). get_or ws k d) rep.words ∙ words_at s.memory n m.domain.tables.boards k d p

  -- the words that the domain has of the board are those that stand
  pub words_found : (ws : List ℕ) → board_words m.domain n ≡ Some ws → (is_some (board_at s.standing.tables n) ≡ true) × (ws ≡ s.memory n)
  words_found ws e = by (position_from (is_numbered n) 0 m.domain.tables.boards) refl e
    where
      by : (o : Option ℕ) → position_from (is_numbered n) 0 m.domain.tables.boards ≡ o → at m.domain.words o ≡ Some ws → (is_some (board_at s.standing.tables n) ≡ true) × (ws ≡ s.memory n)
      by None p h = absurd cc
      by (Some k) p h = (board_stands k (sym p), sym (get_or_from_slice_get m.domain.words k ws ws h) ∙ words_are k ws (sym p))

  -- the domain has none where no board stands
  pub words_missing : board_words m.domain n ≡ None → is_some (board_at s.standing.tables n) ≡ false
  words_missing e = by (position_from (is_numbered n) 0 m.domain.tables.boards) refl e
    where
      by : (o : Option ℕ) → position_from (is_numbered n) 0 m.domain.tables.boards ≡ o → at m.domain.words o ≡ None → is_some (board_at s.standing.tables n) ≡ false
      by None p h = board_is_missing (sym p)
      by (Some k) p h =
          let there : Some (get_or m.domain.words k []) ≡ None = sym (slice_get-get_or m.domain.words k [] (place_inside k (sym p))) ∙ h in
          absurd cc

  -- and words stand where it has some
  pub words_stand : (o : Option (List ℕ)) → board_words m.domain n ≡ o → IsSome o → takes_memory s (line.Words n) ≡ true
  words_stand None e h = absurd cc
  words_stand (Some ws) e h = rw (words_found ws e).0 refl

-- ---- words that were copied

module _ {C V E : Type 0} (m : BoardMachine C) (n : ℕ) (items : V → List ℕ) (r : Result (Option V) E) (h : IfOk r (λ found. option_map items found ≡ board_words m.domain n)) where
  pub copied_none : IfOk r (λ found. IfNone found ((s : State) → Represents m s → is_some (board_at s.standing.tables n) ≡ false))
  copied_none = by r h
    where
      by : (r : Result (Option V) E) → IfOk r (λ found. option_map items found ≡ board_words m.domain n) → IfOk r (λ found. IfNone found ((s : State) → Represents m s → is_some (board_at s.standing.tables n) ≡ false))
      by (Err e) h = tt
      by (Ok None) h = λ s rep. words_missing m s rep n (sym h)
      by (Ok (Some v)) h = tt

  pub copied_stands : IfOk r (λ found. IfSome found (λ v. (s : State) → Represents m s → is_some (board_at s.standing.tables n) ≡ true))
  copied_stands = by r h
    where
      by : (r : Result (Option V) E) → IfOk r (λ found. option_map items found ≡ board_words m.domain n) → IfOk r (λ found. IfSome found (λ v. (s : State) → Represents m s → is_some (board_at s.standing.tables n) ≡ true))
      by (Err e) h = tt
      by (Ok None) h = tt
      by (Ok (Some v)) h = λ s rep. (words_found m s rep n (items v) (sym h)).0

  pub copied_words : IfOk r (λ found. IfSome found (λ v. (s : State) → Represents m s → items v ≡ s.memory n))
  copied_words = by r h
    where
      by : (r : Result (Option V) E) → IfOk r (λ found. option_map items found ≡ board_words m.domain n) → IfOk r (λ found. IfSome found (λ v. (s : State) → Represents m s → items v ≡ s.memory n))
      by (Err e) h = tt
      by (Ok None) h = tt
      by (Ok (Some v)) h = λ s rep. (words_found m s rep n (items v) (sym h)).1

-- ---- results

pub on_ok : {T E : Type 0} {P Q : Type 0} → (P → Q) → (r : Result T E) → OnOk r P → OnOk r Q
on_ok f (Ok x) h = f h
on_ok f (Err e) h = tt

-- ---- lawful sessions

pub reached_by : (session : Session) → IsLawful session → length session < 2 ^ 63 → IsReached (state_after start session)
reached_by session h lt = record {
  sound = sound_session session h;
  count = length session;
  few = lt;
  within = session_within session h;
  numbers = session_numbers session h lt;
  formed = session_formed session h;
}

-- the copy wants memory only where the board stands
pub copy_wants : {C V E : Type 0} (m : BoardMachine C) (n : ℕ) (r : Result (Option V) E) → OnErr r (IsSome (board_words m.domain n)) → OnErr r (MayWant m (line.Words n))
copy_wants m n (Ok found) h = h
copy_wants m n (Err e) h = λ s rep reached. words_stand m s rep n (board_words m.domain n) refl h
