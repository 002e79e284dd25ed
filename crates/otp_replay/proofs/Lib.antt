mod Cuts
mod Lines
mod Puts
