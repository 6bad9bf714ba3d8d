-- What the parser on lists reads of what is spelled.
pub mod Escapes
pub mod Strings
pub mod Numbers
pub mod Steps
pub mod Values
pub mod Complete
pub mod One
