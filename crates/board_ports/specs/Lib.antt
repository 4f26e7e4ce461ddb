pub mod EntryCalls
pub mod Loans
