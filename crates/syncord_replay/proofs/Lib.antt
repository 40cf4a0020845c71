pub mod OneMore
pub mod Within
pub mod SocketAccepted
pub mod GeneratedRuns
pub mod Runs
pub mod Mapped
pub mod Delivered
