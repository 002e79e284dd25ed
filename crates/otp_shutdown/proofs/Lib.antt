pub mod Subs
