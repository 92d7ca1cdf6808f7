pub mod Proper
pub mod Outside
pub mod Same
pub mod Standing
pub mod Beginning
pub mod Dry
pub mod Certified
