-- A step, where the machine of boards was asked for a short one first and made none.
use Rattle.std.proofs.Common.{ℕ, List}
use Rattle.std.specs.Global.{Vec}
use Rattle.std.specs.Prelude.{Result, Ok, Err, OnErr}
use Rattle.script_boards.specs.declared.machine.BoardMachine.{BoardMachine}
use Rattle.script_boards.specs.Steps.{IsSame}
use Rattle.script_boards.proofs.ShortSteps as boards
use Rattle.script_model.specs.declared.line.ScriptLine.{ScriptLine}
use Rattle.script_model.specs.ScriptTurns.{ScriptState}
use Rattle.script_machine.specs.declared.machine.Machine.{Machine}
use Rattle.script_machine.specs.ScriptMachine.{IsLed, Represents, Tells}
use Rattle.script_machine.specs.Wants.{MayWant}

-- what follows from a fact on errors
pub err_then : {T E : Type 0} {P Q : Type 0} (r : Result T E) → OnErr r P → (P → Q) → OnErr r Q
err_then (Ok t) h f = tt
err_then (Err e) h f = f h

module _ {C : Type 0} (m : Machine C) (same_boards : BoardMachine C) (same : IsSame m.boards same_boards) where
  -- the machine with these boards
  abbrev mid : Machine C
  mid = record m { boards = same_boards }

  represents_same : (s : ScriptState) → Represents m s → Represents mid s
  represents_same s rep = record { alive = rep.alive; boards = boards.same_represents m.boards same_boards same s.boards rep.boards; events = rep.events }

  -- it is led
  pub led_same : IsLed m → IsLed mid
  led_same led = record {
    state = led.state;
    count = led.count;
    represents = represents_same led.state led.represents;
    reached = led.reached;
    few = (boards.same_led m.boards same_boards same (record { state = led.state.boards; represents = led.represents.boards; reached = led.reached.boards; few = led.few })).few;
  }

  -- what it tells the machine tells
  pub tells_same : (new : Machine C) (l : ScriptLine) (text : List ℕ) → Tells mid new l text → Tells m new l text
  tells_same new l text tells = λ s count rep reached. tells s count (represents_same s rep) reached

  -- and it wants memory only where the machine may
  pub wants_same : (l : ScriptLine) (out : Vec ℕ) → MayWant mid l out → MayWant m l out
  wants_same l out want = λ room fits s count rep reached. want room fits s count (represents_same s rep) reached
