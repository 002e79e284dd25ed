pub mod Lists
pub mod Names
pub mod Rule
pub mod Deques
pub mod Schedulers
pub mod Opens
pub mod Gathers
