use Rattle.std.proofs.Common.{take}
use Rattle.script_model.specs.ScriptSession.{Session}
use Rattle.script_watchers.specs.Opening.{AreAsked, HasPlace}
use Rattle.script_watchers.proofs.opening.ask_ids.Given as goal

-- the ids of the first handles were told
abbrev pub invariant-loop-handle : goal.invariant-loop-handle
invariant-loop-handle g l = (fed : Session) → HasPlace g.M.RunsLines.stands l.fn.machine 32 fed → AreAsked g.M.RunsLines.stands l.machine fed l.party (take l.handle-index l.handles) l.rows.items l.told.items
