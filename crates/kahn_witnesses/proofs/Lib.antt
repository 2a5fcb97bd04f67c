pub mod Traces
pub mod Tested
pub mod Computed
pub mod Witness
pub mod WitnessTwo
pub mod Former
