pub mod EachPass
pub mod MadeCalls
