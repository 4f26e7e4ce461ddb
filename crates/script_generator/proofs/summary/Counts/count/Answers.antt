use Rattle.script_generator.proofs.AnswerBytes.{other_counted, read_counted, refused_counted, table_counted, write_counted}
use Rattle.script_generator.proofs.summary.Counts.count.Goals as goal

pub returns-then-starts_with : goal.returns-then-starts_with
returns-then-starts_with c =
    read_counted c.args.answer.now c.args.self.now c.starts_with.result c.contains.result c.one_more-self.result c.if-starts_with.true c.starts_with.ensures.value c.contains.ensures.value c.one_more-self.ensures

pub returns-then-starts_with-2 : goal.returns-then-starts_with-2
returns-then-starts_with-2 c =
    write_counted c.args.answer.now c.args.self.now c.starts_with-2.result c.contains-then-starts_with-2.result c.one_more-self-then-starts_with-2.result c.if-starts_with-2.true c.starts_with-2.ensures.value c.contains-then-starts_with-2.ensures.value c.one_more-self-then-starts_with-2.ensures

pub returns-then-starts_with-3 : goal.returns-then-starts_with-3
returns-then-starts_with-3 c = table_counted c.args.answer.now c.args.self.now c.starts_with-3.result c.if-starts_with-3.true c.starts_with-3.ensures.value

pub returns-then-starts_with-4 : goal.returns-then-starts_with-4
returns-then-starts_with-4 c = refused_counted c.args.answer.now c.args.self.now c.starts_with-4.result c.if-starts_with-4.true c.starts_with-4.ensures.value

pub returns-else-starts_with-4 : goal.returns-else-starts_with-4
returns-else-starts_with-4 c =
    other_counted c.args.answer.now c.args.self.now c.starts_with.result c.starts_with-2.result c.starts_with-3.result c.starts_with-4.result c.if-starts_with.false c.starts_with.ensures.value c.if-starts_with-2.false c.starts_with-2.ensures.value
    c.if-starts_with-3.false c.starts_with-3.ensures.value c.if-starts_with-4.false c.starts_with-4.ensures.value
