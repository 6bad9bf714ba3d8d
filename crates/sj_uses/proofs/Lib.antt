mod Edits
mod Containers
mod Covers
mod Each
