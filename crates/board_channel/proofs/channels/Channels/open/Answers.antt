use Rattle.std.proofs.Common.{rules}
use Rattle.board_layout.proofs.AnswerLemmas.{Refuses-value}
use Rattle.board_channel.proofs.channels.Channels.open.Goals as goal

pub returns-in-Ok-clause-refused : goal.returns-in-Ok-clause-refused
returns-in-Ok-clause-refused c = Refuses-value _ _ c.in-Some.queue.now (search rules)

pub returns-in-Err-clause-refused : goal.returns-in-Err-clause-refused
returns-in-Err-clause-refused c = Refuses-value _ _ c.in-Some.queue.now (search rules)
