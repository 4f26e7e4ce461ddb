-- A script with a watcher that was worked out by hand: b is watched, a updates an entry and notifies b of its id, and with b's seventh turn the new value is reported.
use Rattle.std.specs.Prelude.{◌≡◌, [], ◌∷◌, ◌++◌, codes, map, Some}
use Rattle.board_model.specs.declared.value.ValueType.TheVariants as type
use Rattle.script_model.specs.LawsOfComposition.{Pair}
use Rattle.script_moments.specs.OneRound.{b}
use Rattle.script_moments.specs.WorkedSnapshots.{get_begins}
use Rattle.script_moments.specs.WorkedWatchers.{before_it, counter_read, id_begins, id_popped, id_pushed, id_told, none_popped, notify_begun, since_it, the_take, update_begun, update_ended, value_got, wait_begins, word_read}
use Rattle.script_exchanges.specs.declared.line.DriveLine.TheVariants.{Script, Start, Turn}
use Rattle.script_exchanges.specs.Exchanges.{Exchange, Exchanges, given, said}
use Rattle.script_watches.specs.LawsOfWatches.{IsCalledGet}
use Rattle.script_watches.specs.Watchings.{Report, Watching, highest_of, report_text}
use Rattle.script_watches.specs.WatchExchanges.{Leads, Watchings, no_watchings}

-- a line of a plain script, which is given as it is
abbrev pub plain : Pair → Exchange
plain p = (Script p.0, given p ∷ [])

-- a turn of b that gives this pair
abbrev pub turn_of_b : Pair → Exchange
turn_of_b p = (Turn b, given p ∷ [])

-- b is watched, with its listener "e" and its handle "h"
abbrev pub watch_begins : Exchange
watch_begins = (Start b (codes "e" ∷ codes "h" ∷ []), given id_begins ∷ given id_told ∷ said (codes "watching b") ∷ [])

-- the new value, through the handle "h": its line is `report b h u64:9 gen 2`
abbrev pub the_report : Report
the_report = record { handle = codes "h"; got = record { type = type.U64; words = 9 ∷ []; generation = 2 } }

-- the last turn, behind which it is reported
abbrev pub value_reported : Exchange
value_reported = (Turn b, given value_got ∷ said (report_text b the_report) ∷ [])

-- a makes its update and notifies, line by line
abbrev pub update_and_notify : Exchanges
update_and_notify = map plain (update_begun ++ update_ended ∷ notify_begun ∷ id_pushed ∷ [])

-- b waits and gets, turn by turn
abbrev pub turns_before_the_report : Exchanges
turns_before_the_report = map turn_of_b (wait_begins ∷ id_popped ∷ none_popped ∷ get_begins ∷ counter_read ∷ word_read ∷ [])

abbrev pub worked : Exchanges
worked = map plain before_it ++ watch_begins ∷ (update_and_notify ++ (turns_before_the_report ++ value_reported ∷ []))

-- its exchanges are lawful; the session that is fed is the one that was worked out without a program; and the get of its turn is one that a taken id called for, so that the law on reports speaks of it: the last report has the generation that was published before the notify
pub record AWatchIsWorked : Type 0 where
  pub after : Watchings
  pub watching : Watching
  pub leads : Leads no_watchings worked after
  pub fed : after.fed ≡ before_it ++ since_it
  pub watches : after.of b ≡ Some watching
  pub reported : watching.reported ≡ the_report ∷ []
  pub called : IsCalledGet after.fed b (codes "h") watching the_take 1 0 1 0 2 (9 ∷ [])
  pub highest : highest_of watching (codes "h") ≡ 2
