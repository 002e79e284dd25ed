mod Cuts
mod Tails
