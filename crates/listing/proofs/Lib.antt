pub mod Decimal
pub mod Laws
pub mod Lengths
pub mod Lines
pub mod Signs
