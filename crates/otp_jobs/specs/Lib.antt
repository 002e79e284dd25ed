pub mod Jobs
pub mod Patient
pub mod Plans
pub mod Reports
pub mod Runs
pub mod Serves
