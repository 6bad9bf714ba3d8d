pub mod LineLemmas
mod Steps
