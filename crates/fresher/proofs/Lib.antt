-- What a comparison says, and the law of its distance.
pub mod Distance
pub mod Signs
pub mod Laws
