-- Lemmas about records and the first items of lists.
pub mod Fronts
