pub mod FirstLines
pub mod RuleLemmas
pub mod FedLemmas
pub mod EndLemmas
