pub mod Sizes
pub mod Firsts
pub mod Gaps
pub mod Meetings
