-- What the words of documents give on small examples, by computation.
pub mod Edited
