pub mod Held
pub mod Noted
pub mod Placing
