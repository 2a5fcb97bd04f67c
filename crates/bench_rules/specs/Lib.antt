pub mod Printed
pub mod Input
pub mod Feeding
pub mod Emptying
pub mod Playing
pub mod Holding
