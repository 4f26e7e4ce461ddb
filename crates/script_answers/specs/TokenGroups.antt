-- The groups of an answer, as cursors into its text.
use Rattle.std.specs.Prelude.{◌≡◌, not, if◌then◌else◌, Option, Some, None}
use Rattle.script_rules.specs.declared.rule.Rule.{Rule}
use Rattle.script_rules.specs.declared.rule.Rule.TheVariants as rule
use Rattle.script_rules.specs.AnswerGroups.{same_tokens}
use Rattle.script_rules.specs.AnswerGroups as answers
use Rattle.script_answers.specs.declared.groups.Groups.{Groups}

-- the cursors stand at these groups
pub record AreGroups (x : Groups) (groups : answers.Groups) : Type 0 where
  pub owed : x.owed ≡ groups.owed
  pub word : x.word ≡ groups.word
  pub event : x.event ≡ groups.event
  pub reply : x.reply ≡ groups.reply

-- the rule of the first group that differs
abbrev pub first_group_of : Groups → Groups → Option Rule
first_group_of right x =
    if not (same_tokens right.owed x.owed) then Some rule.Owed else
    if not (same_tokens right.word x.word) then Some rule.Word else
    if not (same_tokens right.event x.event) then Some rule.Event else
    if not (same_tokens right.reply x.reply) then Some rule.Reply else
    None
