-- The records that are offered are the lines of the text, on the channel that the words name.
use Rattle.std.proofs.Common.{◌≡◌, ◌∙◌, ℕ, List, Option, Some, None, Ok, map, length}
use Rattle.std.proofs.Common.{ap, sym, subst, codes, IsSomeAnd}
use Rattle.std.specs.Prelude.{ok_or}
use Rattle.std.specs.Io.KnownBytes.{Appends}
use Rattle.bsc_spool.specs.declared.channel.Channel.{Channel}
use Rattle.bsc_spool.specs.declared.change.Change.TheVariants.{Offered}
use Rattle.bsc_spool.specs.declared.store.Store as store_of
use Rattle.bsc_options.specs.declared.store_works.StoreChannel.{StoreChannel}
use Rattle.bsc_storing.specs.declared.kept_line.KeptLine.{KeptLine}
use Rattle.bsc_bid.specs.declared.channel.ChannelName.{ChannelName}
use Rattle.bsc_storing.specs.Names.{named_at, sending_name}
use Rattle.bsc_storing.specs.Works.{OffersAll, told}

-- what is given of an option was in it
from_ok_or : {V E : Type 0} (o : Option V) (v : V) (e : E) → Ok v ≡ ok_or o e → o ≡ Some v
from_ok_or None v e is = cc
from_ok_or (Some w) v e is = cc

-- the channel has this name
pub named_is : {E : Type 0} (line : KeptLine) (channel : StoreChannel) (found : Option ChannelName)
    (its : ChannelName × Channel) (e : E) → found ≡ sending_name line.station channel
    → Ok its ≡ ok_or (named_at line found) e
    → named_at line (sending_name line.station channel) ≡ Some its
named_is line channel found its e is given =
    ap (named_at line) (sym is) ∙ from_ok_or (named_at line found) its e given

-- these records are the lines
pub offers_all : {S : Type 0} (store : store_of.Ghosts S) (line : KeptLine) (channel : StoreChannel)
    (records lines : List (List ℕ)) (its : ChannelName × Channel) (old new : S)
    (before after : Option (List ℕ)) (count : ℕ)
    → named_at line (sending_name line.station channel) ≡ Some its
    → records ≡ lines → count ≡ length records
    → store.keeps (map (Offered its.1) records) old new
    → Appends before after (told line its.0 (codes "offered") count)
    → OffersAll store line channel lines old new before after
offers_all store line channel records lines its old new before after count named same long kept says =
    subst
    (λ o. IsSomeAnd o
    (λ p. store.keeps (map (Offered p.1) lines) old new
    × Appends before after (told line p.0 (codes "offered") (length lines))))
    (sym named) (
      subst (λ rs. store.keeps (map (Offered its.1) rs) old new) same kept,
      subst (λ n. Appends before after (told line its.0 (codes "offered") n)) (long ∙ ap length same)
          says,
    )
