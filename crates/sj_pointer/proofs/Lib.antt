pub mod Texts
pub mod Numbers
pub mod Spellings
pub mod Numerals
pub mod Shown
pub mod rows
pub mod Written
