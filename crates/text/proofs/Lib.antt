pub mod Decimal
pub mod Writing
pub mod Events
pub mod RoundTrip
pub mod Only
