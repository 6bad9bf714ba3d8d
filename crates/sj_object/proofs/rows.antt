-- What the words of maps give on small examples, by computation.
pub mod Edited
pub mod Looked
pub mod Bucketed
