pub mod Made
pub mod Changes
