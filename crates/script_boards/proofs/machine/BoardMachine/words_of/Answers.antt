use Rattle.script_boards.proofs.Listings.{copied_none, copied_stands, copied_words, copy_wants}
use Rattle.script_boards.proofs.machine.BoardMachine.words_of.Goals as goal

pub returns-clause-none : goal.returns-clause-none
returns-clause-none g c = copied_none c.args.self.now c.args.number (λ v. v.items) c.copy_words.result c.copy_words.ensures.words

pub returns-clause-stands : goal.returns-clause-stands
returns-clause-stands g c = copied_stands c.args.self.now c.args.number (λ v. v.items) c.copy_words.result c.copy_words.ensures.words

pub returns-clause-words : goal.returns-clause-words
returns-clause-words g c = copied_words c.args.self.now c.args.number (λ v. v.items) c.copy_words.result c.copy_words.ensures.words

pub returns-clause-memory : goal.returns-clause-memory
returns-clause-memory g c = copy_wants c.args.self.now c.args.number c.copy_words.result c.copy_words.ensures.memory
