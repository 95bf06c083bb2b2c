-- Our own plans.
pub mod Planning
