use Rattle.std.proofs.Common.{rules}
use Rattle.board_layout.proofs.AnswerLemmas.{Refuses-same, Refuses-value}
use Rattle.board_store.proofs.statics.Statics.try_open.Goals as goal

pub returns-in-None-clause-refused : goal.returns-in-None-clause-refused
returns-in-None-clause-refused c = Refuses-same _ _ (search rules)

pub returns-in-Some-Locked-clause-refused : goal.returns-in-Some-Locked-clause-refused
returns-in-Some-Locked-clause-refused c = Refuses-same _ _ (search rules)

pub returns-in-Ok-clause-refused : goal.returns-in-Ok-clause-refused
returns-in-Ok-clause-refused c = Refuses-value _ _ c.in-Some-Final.content (search rules)

pub returns-in-Err-clause-refused : goal.returns-in-Err-clause-refused
returns-in-Err-clause-refused c = Refuses-value _ _ c.in-Some-Final.content (search rules)
