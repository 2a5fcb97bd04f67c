pub mod Integers
pub mod WrapLaws
pub mod Operands
pub mod QuotientLaws
pub mod CutLaws
pub mod Cases
