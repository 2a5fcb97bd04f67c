pub mod Numbers
pub mod Fields
pub mod ChannelLaws
pub mod StepLaws
