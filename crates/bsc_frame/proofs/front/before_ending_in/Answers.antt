-- The first lane that is set in the mask is the first US, ETB or ETX.
use Rattle.std.proofs.Common.{◌==◌, take, drop, bit_or}
use Rattle.std.proofs.lemmas.Simd.{zip2_splat, zip2_of_maps, length-chunk}
use Rattle.bsc_frame.specs.Reading.{is_ending_octet}
use Rattle.bsc_frame.specs.declared.front.TheConstants.{LANES}
use Rattle.bsc_octet.specs.declared.controls.TheConstants.{ETB, ETX, US}
use Rattle.bsc_frame.proofs.Lanes.{first_lane_is, top_bit_of_any_lane_test}
use Rattle.bsc_frame.proofs.front.before_ending_in.Goals as goal

pub returns : goal.returns
returns c =
    let octets = take LANES (drop c.args.at c.args.octets.now) in
    let long = length-chunk c.args.at LANES c.args.octets.now c.requires in
    first_lane_is is_ending_octet _ octets _ _ (λ x. top_bit_of_any_lane_test (x == US) (x == ETB) (x == ETX))
    long
    (zip2_of_maps bit_or _ _ octets (zip2_of_maps bit_or _ _ octets
    (zip2_splat _ octets LANES US long) (zip2_splat _ octets LANES ETB long))
    (zip2_splat _ octets LANES ETX long))
    c.first_lane.ensures
