pub mod Sharing
pub mod Heap
pub mod Lasting
pub mod Counted
pub mod Storing
pub mod Reordering
pub mod Sifting
