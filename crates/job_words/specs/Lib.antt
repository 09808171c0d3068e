pub mod Classes
pub mod Text
