pub mod Steps
pub mod UnderCertificate
pub mod OneRun
pub mod Refused
