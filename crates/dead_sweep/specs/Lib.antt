pub mod Marks
pub mod Frees
pub mod Swept
