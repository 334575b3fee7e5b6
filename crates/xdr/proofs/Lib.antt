pub mod Powers
pub mod Numbers
pub mod Fields
pub mod Tabs
pub mod Elements
pub mod Arrays
pub mod Appends
pub mod Fronts
