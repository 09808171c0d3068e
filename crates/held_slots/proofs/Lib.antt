pub mod ArcLaws
pub mod Layers
pub mod Padding
pub mod Leading
pub mod Lasting
pub mod Gathering
