-- What a line that begins a call is answered, by whether it is refused.
use Rattle.std.specs.Prelude.{Option, Some, None}
use Rattle.board_model.specs.declared.answer.Answer.{Answer}
use Rattle.board_model.specs.declared.answer.Answer.TheVariants as answer
use Rattle.board_model.specs.declared.answer.Reason.{Reason}

-- the call has begun, or it is refused for this reason
abbrev pub begun_unless : Option Reason → Answer
begun_unless None = answer.Begun
begun_unless (Some why) = answer.Refused why
