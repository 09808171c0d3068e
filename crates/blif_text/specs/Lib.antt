pub mod Text
pub mod Marks
pub mod Statements
pub mod Said
