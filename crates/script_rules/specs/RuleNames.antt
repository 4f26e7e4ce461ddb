-- How a verdict names a rule.
use Rattle.std.specs.Prelude.{ℕ, List, codes}
use Rattle.script_rules.specs.declared.rule.Rule.{Rule}
use Rattle.script_rules.specs.declared.rule.Rule.TheVariants as rule

-- the rule's name in lower case
abbrev pub rule_name : Rule → List ℕ
rule_name rule.Line = codes "line"
rule_name rule.Answer = codes "answer"
rule_name rule.Reason = codes "reason"
rule_name rule.Owed = codes "owed"
rule_name rule.Word = codes "word"
rule_name rule.Event = codes "event"
rule_name rule.Reply = codes "reply"
