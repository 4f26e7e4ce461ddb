-- How a call goes on.
use Rattle.board_event_model.specs.declared.access.EventAnswer.{EventAnswer}
use Rattle.board_event_model.specs.NotifyCalls.{Notify, notify_turn}
use Rattle.board_event_model.specs.WaitCalls.{Wait, wait_turn}

-- a notify after an answer to the access that it owed
abbrev pub notify_went_on : Notify → EventAnswer → Notify
notify_went_on call answer = record call { stage = (notify_turn call call.stage answer).1 }

-- a wait after an answer to the access that it owed
abbrev pub wait_went_on : Wait → EventAnswer → Wait
wait_went_on call answer = record call { stage = (wait_turn call call.stage answer).1 }
