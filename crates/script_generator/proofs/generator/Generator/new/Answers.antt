use Rattle.std.proofs.Common.{[], refl, arith}
use Rattle.script_generator.proofs.generator.Generator.new.Goals as goal

pub returns : goal.returns
returns c = record {
  session = [];
  lines_are = refl;
  stands = record { lawful = tt; few = omega arith; state = c.new.ensures };
  quiet = refl;
  plain = λ party r e. absurd cc;
  counts = refl;
}
