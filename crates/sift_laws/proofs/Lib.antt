pub mod PartsAlike
pub mod WholeLists
pub mod MatchedParts
pub mod Rearranged
pub mod SameSifts
pub mod AlikeLaws
pub mod RisingOrders
mod Rows
