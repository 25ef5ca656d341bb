-- Lemmas shared by the proofs of `allocate` and `deallocate`.
mod Behind
mod Asks
