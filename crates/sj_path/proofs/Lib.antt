pub mod Tokens
pub mod Changed
pub mod Nested
pub mod Loans
pub mod Ways
pub mod Steps
pub mod rows
