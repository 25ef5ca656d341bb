-- What is heard of a transmission: decoded octets, or noise if nothing arrives.
use Rattle.std.specs.Prelude.{ℕ, List, Option, None, Some, option_map, slice_index_or}
use Rattle.std.specs.Borrow.{Bor}
use Rattle.bsc_frame.specs.declared.message.Heard.{Heard}
use Rattle.bsc_frame.specs.declared.message.Heard.TheVariants.{Noise}
use Rattle.bsc_frame.specs.Reading.{heard}

-- octets are heard as they decode; nothing is heard as noise, which changes nothing
unfoldable pub heard_in : Option (List ℕ) → Heard
heard_in None = Noise
heard_in (Some octets) = heard octets

-- the octets of an item of a slice
abbrev pub octets_in : Option (Bor (List ℕ)) → Option (List ℕ)
octets_in item = option_map (λ (r : Bor (List ℕ)). r.now) item

-- what each terminal hears if each has an item of its own
abbrev pub heard_at : List (Option (Bor (List ℕ))) → ℕ → Heard
heard_at items t = heard_in (octets_in (slice_index_or items t None))

-- all terminals hear this
abbrev pub all_hear : Heard → ℕ → Heard
all_hear h t = h
