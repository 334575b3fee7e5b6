pub mod Judging
pub mod Serving
pub mod Going
