pub mod Lasting
mod Recounted
mod Handed
mod Used
mod Swept
mod Rooms
mod Reordered
mod SiftLaws
