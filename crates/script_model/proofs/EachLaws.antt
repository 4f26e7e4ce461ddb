-- Each line of the grammar has an answer, and each script of such lines a session.
use Rattle.script_model.specs.LawsOfForms.{EachLineHasAnAnswer, EachScriptHasASession}
use Rattle.script_model.specs.Parts.{board_part}
use Rattle.script_model.specs.ScriptSession.{start}
use Rattle.script_model.proofs.FormLaws.{each_line, each_script}
use Rattle.script_model.proofs.PartLemmas.{boards_law_holds}
use Rattle.script_model.proofs.ScriptSoundLemmas.{sessions_sound}

pub each_line_answered : EachLineHasAnAnswer
each_line_answered = each_line sessions_sound (λ pairs h. let k = boards_law_holds pairs h in (board_part start pairs, k.lawful, k.state, k.short))

pub each_script_run : EachScriptHasASession
each_script_run = each_script each_line_answered
