-- What is offered at the control station.
use Rattle.std.specs.Prelude.{ℕ, List, Option, Some, None, option_map}
use Rattle.bsc_text.specs.Parts.{after_octet, before_octet}
use Rattle.bsc_options.specs.Numbers.{number_within}
use Rattle.bsc_options.specs.declared.offers.Offer.{Offer}

-- A terminal or a selection address, by its number.
abbrev pub number_in : List ℕ → Option ℕ
number_in text = number_within 0 255 text

-- The terminal with this number, and its selection address with the number after the point, or its
-- address 0 if there is no point.
abbrev pub channel_by : Option ℕ → Option (List ℕ) → Option (ℕ × ℕ)
channel_by None select = None
channel_by (Some terminal) None = Some (terminal, 0)
channel_by (Some terminal) (Some select) = option_map (λ s. (terminal, s)) (number_in select)

-- The terminal and its selection address in `T.S`, or in `T` for address 0.
abbrev pub channel_in : List ℕ → Option (ℕ × ℕ)
channel_in text = channel_by (number_in (before_octet 46 text)) (after_octet 46 text)

-- What is offered: a terminal, one of its selection addresses, and the path of the records.
pub record OfferValue : Type 0 where
  pub terminal : ℕ
  pub select : ℕ
  pub path : List ℕ

abbrev pub offer_value : Offer → OfferValue
offer_value offer = record {
  terminal = offer.terminal;
  select = offer.select;
  path = offer.path.now;
}

-- The records at a path for a channel.
abbrev pub offer_by : Option (ℕ × ℕ) → Option (List ℕ) → Option OfferValue
offer_by None path = None
offer_by (Some channel) None = None
offer_by (Some channel) (Some path) =
    Some (record { terminal = channel.0; select = channel.1; path = path })

-- The offer in `T.S=PATH` or `T=PATH`.
abbrev pub offer_in : List ℕ → Option OfferValue
offer_in text = offer_by (channel_in (before_octet 61 text)) (after_octet 61 text)
