pub mod BoardNodes
pub mod Named
pub mod Numbered
pub mod Overview
pub mod Parties
pub mod Refusals
pub mod Keyed
pub mod Shown
