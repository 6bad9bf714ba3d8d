-- What the definitions give on small examples, by computation.
pub mod Forms
pub mod Mapped
