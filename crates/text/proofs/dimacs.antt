-- `Signed`: a clause word as it is passed on. `Loops`: the literals that are left.
pub mod Signed
pub mod Loops
