mod Owns
mod Tellings
mod Moving
mod Kept
mod Names
mod Lists
mod FilledFrom
mod Reading
mod Filled
mod StoreSteps
pub mod StoredRuns
mod Printing
mod AllKept
mod OffersKept
mod ForgottenKept
