pub mod Filled
pub mod Laws
pub mod Numbers
pub mod Products
pub mod Quotient
pub mod Sizes
