use Rattle.std.proofs.Common.{rules}
use Rattle.board_service.specs.Facts.{IsDomain}
use Rattle.board_handles.proofs.writer.Writer.entry.Goals as goal

pub returns-clause-answer : goal.returns-clause-answer
returns-clause-answer g c =
    let facts : IsDomain c.deref_mut.result.now.tables = search rules in
    (c.deref_mut.result.now.tables, facts, c.entry_in.ensures.answer, c.entry_in.ensures.refused)
