use Rattle.script_generator.proofs.GeneratedBytes.{scripts_are_scripts}
use Rattle.script_generator.proofs.generator_laws.generated_scripts_are_scripts.Goals as goal

pub returns : goal.returns
returns c = scripts_are_scripts
