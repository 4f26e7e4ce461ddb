-- Answers as they are printed; the groups of their tokens; the answer grammar; one verdict on a pair, and on a session.
pub mod PrintedLemmas
pub mod TypedGetLemmas
pub mod RightPrintedLemmas
pub mod GroupLemmas
pub mod StepGroupLemmas
pub mod EventAnswerLemmas
pub mod NamedLemmas
pub mod ReasonLemmas
pub mod FormLemmas
pub mod PairLemmas
pub mod VerdictLemmas
pub mod WorkedPairLemmas
