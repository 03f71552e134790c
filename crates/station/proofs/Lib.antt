mod Refusals
mod Lays
mod Lifts
