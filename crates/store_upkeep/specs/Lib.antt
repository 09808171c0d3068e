pub mod Lasting
pub mod Reordering
pub mod Sifting
