-- What the words of known keys give on small examples, by computation.
pub mod Inserted
