pub mod DriveGrammar
pub mod DrivenParties
pub mod Exchanges
