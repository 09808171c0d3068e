mod Evaluated
mod Firsts
mod Padding
mod RootLaws
mod Rows
pub mod SameClasses
mod Texts
