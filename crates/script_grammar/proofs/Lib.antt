-- Readers and tokens; board lines, lines of events and the lines of a script; answers; sessions of an input.
pub mod ReaderLemmas
pub mod NumeralLemmas
pub mod SplitLemmas
pub mod TokenLemmas
pub mod OptionLemmas
pub mod CallLemmas
pub mod SpaceLemmas
pub mod BoardLineLemmas
pub mod EventLineLemmas
pub mod ScriptLineLemmas
pub mod BoardAnswerLemmas
pub mod ScriptAnswerLemmas
pub mod SessionLemmas
