-- What the contracts rest on, and that the lengths chosen are the least or the greatest that fit.
pub mod Placing
pub mod Least
pub mod Fitting
