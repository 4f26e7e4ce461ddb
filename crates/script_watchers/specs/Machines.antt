-- What a machine of watchers stands for.
use Rattle.std.specs.Prelude.{◌≡◌, ℕ, ◌<◌, ◌^◌, List, length}
use Rattle.script_model.specs.ScriptTurns.{ScriptState}
use Rattle.script_model.specs.LawsOfComposition.{state_met}
use Rattle.script_feed.specs.declared.driven.Driven.{Driven}
use Rattle.script_feed.specs.KeptOf.{KeepsIfAny, kept_of}
use Rattle.script_exchanges.specs.declared.line.DriveLine.{DriveLine}
use Rattle.script_exchanges.specs.Exchanges.{Exchanges, Told, text_of}
use Rattle.script_watches.specs.WatchExchanges.{IsExchange, Leads, Watchings, no_watchings}
use Rattle.script_watchers.specs.declared.machine.WatcherMachine.{WatcherMachine}
use Rattle.script_watchers.specs.declared.watch.Watch.{Watch}
use Rattle.script_watchers.specs.Watches.{Keeps}

-- the machine of scripts stands for the fed session, and each watcher is kept
pub record Represents {M : Type 0} (stands : M → ℕ → ScriptState → Type 0) (m : Driven M Watch) (s : Watchings) : Type 0 where
  pub machine : stands m.machine (length s.fed) (state_met s.fed)
  pub watches : (party : List ℕ) → KeepsIfAny Keeps (kept_of m.kept party) (s.of party)

-- the exchanges led there, and are few
pub record IsLed (xs : Exchanges) (s : Watchings) : Type 0 where
  pub leads : Leads no_watchings xs s
  pub few : length xs < 2 ^ 32

-- the machine stands for what exchanges led to
pub record StandsNow {M : Type 0} (stands : M → ℕ → ScriptState → Type 0) (m : Driven M Watch) (xs : Exchanges) (s : Watchings) : Type 0 where
  pub led : IsLed xs s
  pub represents : Represents stands m s

-- the machine stands for exchanges
pub record StandsAfter {M : Type 0} (stands : M → ℕ → ScriptState → Type 0) (m : WatcherMachine M) (xs : Exchanges) : Type 0 where
  pub state : Watchings
  pub leads : Leads no_watchings xs state
  pub represents : Represents stands m.driven state

-- the text is what is rightly told of the line, and the machine stands for what follows
pub record IsTelling {M : Type 0} (stands : M → ℕ → ScriptState → Type 0) (new : Driven M Watch) (s : Watchings) (l : DriveLine) (text : List ℕ) : Type 0 where
  pub told : List Told
  pub state : Watchings
  pub exchange : IsExchange s l told state
  pub represents : Represents stands new state
  pub text_is : text ≡ text_of told
