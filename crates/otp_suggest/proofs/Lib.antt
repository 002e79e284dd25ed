mod EdgeFound
mod FewStamps
mod LeastBest
mod LeastFound
mod Puts
