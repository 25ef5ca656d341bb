-- The first lane that is set in the mask is the first octet that is neither of the two.
use Rattle.std.proofs.Common.{◌==◌, take, drop, not, bit_and, ◌∙◌}
use Rattle.std.proofs.lemmas.Simd.{zip2_splat, zip2_of_maps, length-chunk}
use Rattle.bsc_frame.specs.Reading.{is_either}
use Rattle.bsc_frame.specs.declared.front.TheConstants.{LANES}
use Rattle.bsc_frame.proofs.Lanes.{first_lane_is, top_bit_of_no_lane_test, prefix_len_same}
use Rattle.bsc_frame.proofs.Lanes.{not_twice}
use Rattle.bsc_frame.proofs.front.either_in.Goals as goal

pub returns : goal.returns
returns c =
    let octets = take LANES (drop c.args.at c.args.octets.now) in
    let long = length-chunk c.args.at LANES c.args.octets.now c.requires in
    first_lane_is (λ x. not (is_either c.args.one c.args.other x)) _ octets _ _
    (λ x. top_bit_of_no_lane_test (x == c.args.one) (x == c.args.other)) long
    (zip2_of_maps bit_and _ _ octets (zip2_splat _ octets LANES c.args.one long)
    (zip2_splat _ octets LANES c.args.other long))
    c.first_lane.ensures
    ∙ prefix_len_same (λ x. not (not (is_either c.args.one c.args.other x)))
    (is_either c.args.one c.args.other) (λ x. not_twice (is_either c.args.one c.args.other x))
    octets
