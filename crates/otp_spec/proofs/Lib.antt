pub mod FaultLemmas
pub mod SupervisorLemmas
pub mod Unseen
