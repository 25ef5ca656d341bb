mod AllPrinted
mod InTurn
mod Refused
mod Prepared
mod GoingOn
mod Ran
mod Outcomes
mod Begun
