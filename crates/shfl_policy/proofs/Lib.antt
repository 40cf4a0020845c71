pub mod LoadedPolicies
mod SameInsns
