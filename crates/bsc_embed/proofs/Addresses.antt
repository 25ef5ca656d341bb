-- An address in the storage of the caller.
use Rattle.std.proofs.Common.{◌≡◌, ℕ, ◌≤◌, true, refl, arith, List, ◌++◌, length, drop, Some}
use Rattle.std.proofs.Common.{nat_le}
use Rattle.std.proofs.Math.Seq.{take-append_seam}
use Rattle.std.proofs.lemmas.Bool.Decides.{nat_tests}
use Rattle.bsc_frame.specs.Addresses.{IsAddress}
use Rattle.bsc_frame.proofs.ControlSequences.{address_read}
use Rattle.bsc_embed.specs.Contents.{address_in}
use Rattle.bsc_embed.specs.declared.content.Content.{Content}
use Rattle.bsc_frame.specs.declared.limits.TheConstants.{MAX_ADDRESS}

length_test_of_address : (n : ℕ) → n ≤ MAX_ADDRESS → nat_le n MAX_ADDRESS ≡ true
length_test_of_address n h = grind (arith, nat_tests)

-- The codes at the front and their number hold the address.
pub address_put : (c : Content) (a : List ℕ) → IsAddress a
    → address_in (record c { address = a ++ drop (length a) c.address; address_len = length a })
    ≡ Some a
unfolding address_in
address_put c a h =
    rw (take-append_seam a (drop (length a) c.address), length_test_of_address (length a) h.most, address_read a h)
    refl
