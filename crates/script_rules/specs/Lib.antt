-- The texts of answers and the groups of their tokens; the rule that a pair breaks; sessions of pairs, and laws.
pub mod RuleNames
pub mod PrintedAnswers
pub mod AnswerGroups
pub mod BrokenRules
pub mod StepGroups
pub mod NamedRules
pub mod LawsOfForms
pub mod SessionPairs
pub mod LawsOfPairs
pub mod WorkedRules
pub mod WorkedPairs
