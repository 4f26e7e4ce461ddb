-- Laws of what a line leaves: a party that it doesn't name holds what it held, and its call runs on; and a board is the same until it goes,
-- alone under its number and its name.
use Rattle.std.specs.Prelude.{◌≡◌, ℕ, ◌≤◌, Bool, false, List, IfSome, Some, None}
use Rattle.std.specs.Str.{bytes_eq}
use Rattle.board_model.specs.declared.answer.Answer.{Answer}
use Rattle.board_model.specs.declared.line.Line.{Line}
use Rattle.board_model.specs.declared.line.Line.TheVariants as line
use Rattle.board_model.specs.declared.tables.Board.{Board}
use Rattle.board_model.specs.Tables.{board_at}
use Rattle.board_model.specs.Things.{Standing, thing_of}
use Rattle.board_model.specs.Parties.{Running, free, gone, running}
use Rattle.board_model.specs.LawfulSession.{IsLawful, IsLawfulFrom, IsRight, Session, State, after, start, state_after}
use Rattle.board_model.specs.Sound.{Sound}

-- the line names the party
abbrev pub names_party : List ℕ → Line → Bool
names_party party (line.Begin p c) = bytes_eq party p
names_party party (line.Step p) = bytes_eq party p
names_party party (line.Release p name) = bytes_eq party p
names_party party (line.Abandon p) = bytes_eq party p
names_party party (line.Words board) = false

-- the party holds the same things, words of loans and values
pub record HoldsTheSame (old new : Standing) (party : List ℕ) : Type 0 where
  pub things : (name : List ℕ) → thing_of new.tables.things party name ≡ thing_of old.tables.things party name
  pub loans : (name : List ℕ) → new.loans party name ≡ old.loans party name
  pub values : (name : List ℕ) → new.values party name ≡ old.values party name

-- and does the same: its call, if one runs, is where it was, but for the writes that it has noticed
pub record IsLeft (old new : State) (party : List ℕ) : Type 0 where
  pub holds : HoldsTheSame old.standing new.standing party
  pub runs : (r : Running) → old.parties party ≡ running r → (n : ℕ) × (new.parties party ≡ running (record r { passed = n }))
  pub stays_free : old.parties party ≡ free → new.parties party ≡ free
  pub stays_gone : old.parties party ≡ gone → new.parties party ≡ gone

-- so a line leaves each party that it doesn't name
abbrev pub LinesLeaveOthers : Type 0
LinesLeaveOthers = (s : State) (l : Line) (a : Answer) (party : List ℕ) → Sound s → names_party party l ≡ false → IsLeft s (after s l a) party

-- a board that stands is the same after a right line, if it still stands
abbrev pub BoardsStay : Type 0
BoardsStay = (s : State) (l : Line) (a : Answer) (n : ℕ) (b : Board) → Sound s → IsRight s l a → board_at s.standing.tables n ≡ Some b
    → IfSome (board_at (after s l a).standing.tables n) (λ c. c ≡ b)

-- and after a lawful session: no other board ever gets its number
abbrev pub NumbersAreOfOneBoard : Type 0
NumbersAreOfOneBoard = (s : State) (pairs : Session) (n : ℕ) (b : Board) → Sound s → IsLawfulFrom s pairs → board_at s.standing.tables n ≡ Some b
    → IfSome (board_at (state_after s pairs).standing.tables n) (λ c. c ≡ b)

-- a number that was drawn and that no board has is never a board's again
abbrev pub NumbersAreNeverUsedAgain : Type 0
NumbersAreNeverUsedAgain = (s : State) (pairs : Session) (n : ℕ) → Sound s → IsLawfulFrom s pairs → n ≤ s.standing.tables.last_board → board_at s.standing.tables n ≡ None
    → board_at (state_after s pairs).standing.tables n ≡ None

-- two boards that stand after a lawful session have two names
abbrev pub NamesAreOfOneBoard : Type 0
NamesAreOfOneBoard = (pairs : Session) (n m : ℕ) (b c : Board) → IsLawful pairs → board_at (state_after start pairs).standing.tables n ≡ Some b → board_at (state_after start pairs).standing.tables m ≡ Some c
    → b.name ≡ c.name → n ≡ m
