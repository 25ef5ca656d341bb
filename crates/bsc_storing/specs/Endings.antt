-- The counts of two stores of one line, and the doubts that are ended between them.
use Rattle.std.specs.Prelude.{◌≡◌, ◌≢◌, ◌+◌, ◌⊎◌, ℕ, zero, suc, false, true, List, [], ◌∷◌, ◌++◌}
use Rattle.std.specs.Prelude.{length}
use Rattle.std.specs.Prelude.{Option, Some, None}
use Rattle.std.specs.Io.KnownBytes.{Appends}
use Rattle.bsc_bid.specs.declared.limits.TheConstants.{MAX_SELECTS}
use Rattle.bsc_spool.specs.declared.change.Change.{Change}
use Rattle.bsc_spool.specs.declared.channel.Channel.{Channel}
use Rattle.bsc_spool.specs.declared.store.Progress.{Progress}
use Rattle.bsc_spool.specs.declared.store.Store as store_of
use Rattle.bsc_storing.specs.declared.kept_line.KeptLine.{KeptLine}
use Rattle.bsc_bid.specs.declared.channel.ChannelName.{ChannelName}
use Rattle.bsc_storing.specs.declared.reconciling.Verdict.{Verdict}
use Rattle.bsc_storing.specs.declared.reconciling.Verdict.TheVariants.{Settled, Ends, Apart}
use Rattle.bsc_storing.specs.declared.reconciling.Ended.{Ended}
use Rattle.bsc_storing.specs.declared.reconciling.Unfit.{Unfit}
use Rattle.bsc_text.specs.Channels.{each_below}
use Rattle.bsc_storing.specs.Lines.{all_ended_shown, unfit_at}
use Rattle.bsc_storing.specs.Names.{channel_at, name_at, receives_on, sends_on}
use Rattle.bsc_storing.specs.Releases.{compared}

-- The changes that are to be kept, the doubts that they end, and the channels whose counts do not
-- fit.
abbrev pub Endings : Type 0
Endings = List Change × (List Ended × List Unfit)

abbrev pub doubt_ended : ChannelName → ℕ → Ended
doubt_ended its at = record { name = its; count = at }

abbrev pub counts_unfit : ChannelName → ℕ → ℕ → Unfit
counts_unfit its there here = record { name = its; known = there; arrived = here }

-- What the counts of the channel with this name say is added.
abbrev pub added : ChannelName → Verdict → Endings → Endings
added its Settled it = it
added its (Ends change count) it =
    (it.0 ++ change ∷ [], (it.1.0 ++ doubt_ended its count ∷ [], it.1.1))
added its (Apart known arrived) it =
    (it.0, (it.1.0, it.1.1 ++ counts_unfit its known arrived ∷ []))

-- What is known of the stores of two stations of one line, of which the first may send to the
-- other.
module _ {S T : Type 0} (one : store_of.Ghosts S) (two : store_of.Ghosts T) where
  -- The counts of the channel with this name were compared: the numbers that the one store gives,
  -- and how many records the other gives as arrived.
  pub record IsCompared (line : KeptLine) (its : ChannelName) (what : Verdict) (old new : S)
      (far_old far_new : T) : Type 0 where
    pub channel : Channel
    pub numbers : Progress
    pub far_numbers : Progress
    pub is : channel_at line its ≡ Some channel
    pub counts : one.counts channel numbers old new
    pub far_counts : two.counts channel far_numbers far_old far_new
    pub says : what ≡ compared channel numbers far_numbers.arrived

  -- That is so, or the line has no such channel.
  abbrev pub IsComparedIfAny : KeptLine → ChannelName → S → S → T → T → Verdict → Type 0
  IsComparedIfAny line its old new far_old far_new what =
      IsCompared line its what old new far_old far_new
      ⊎ ((channel_at line its ≡ None) × (what ≡ Settled) × (new ≡ old) × (far_new ≡ far_old))

  -- The channel with this name is none on which the one station sends and the other receives.
  abbrev pub IsNotBetween : KeptLine → KeptLine → ChannelName → Type 0
  IsNotBetween line other its =
      (sends_on line.station its its.way ≡ false) ⊎ (receives_on other.station its its.way ≡ false)

  -- What the counts say of the channel with this name, on which the one station sends and the other
  -- receives, is added.
  pub record AddsOne (line other : KeptLine) (its : ChannelName) (old new : Endings)
      (first last : S) (far_first far_last : T) : Type 0 where
    pub what : Verdict
    pub sends : sends_on line.station its its.way ≡ true
    pub receives : receives_on other.station its its.way ≡ true
    pub says : IsComparedIfAny line its first last far_first far_last what
    pub adds : new ≡ added its what old

  -- That is so, or the channel is not between both.
  abbrev pub AddsIfAny : KeptLine → KeptLine → ChannelName → Endings → Endings → S → S → T → T
      → Type 0
  AddsIfAny line other its old new first last far_first far_last =
      AddsOne line other its old new first last far_first far_last
      ⊎ ((new ≡ old) × (IsNotBetween line other its × (last ≡ first) × (far_last ≡ far_first)))

  -- So it is of the channels at the first places of a terminal, and of the first terminals, in
  -- order.
  abbrev pub AddsPlaces : KeptLine → KeptLine → ℕ → ℕ → Endings → Endings → S → S → T → T
      → Type 0
  AddsPlaces line other terminal zero old new first last far_first far_last =
      (new ≡ old) × (last ≡ first) × (far_last ≡ far_first)
  AddsPlaces line other terminal (suc place) old new first last far_first far_last =
      (mid : Endings) × (one_mid : S) × (far_mid : T)
      × AddsPlaces line other terminal place old mid first one_mid far_first far_mid
      × AddsIfAny line other (name_at terminal place) mid new one_mid last far_mid far_last

  abbrev pub AddsTerminals : KeptLine → KeptLine → ℕ → Endings → Endings → S → S → T → T
      → Type 0
  AddsTerminals line other zero old new first last far_first far_last =
      (new ≡ old) × (last ≡ first) × (far_last ≡ far_first)
  AddsTerminals line other (suc terminal) old new first last far_first far_last =
      (mid : Endings) × (one_mid : S) × (far_mid : T)
      × AddsTerminals line other terminal old mid first one_mid far_first far_mid
      × AddsPlaces line other terminal (MAX_SELECTS + 1) mid new one_mid last far_mid far_last

-- What is known of a store.
module _ {S : Type 0} (store : store_of.Ghosts S) where
  -- These changes are kept in one step, if there is one.
  abbrev pub KeepsIfAny : List Change → S → S → Type 0
  KeepsIfAny [] old new = new ≡ old
  KeepsIfAny (change ∷ changes) old new = store.keeps (change ∷ changes) old new

-- What is known of both stores.
module _ {S T : Type 0} (one : store_of.Ghosts S) (two : store_of.Ghosts T) where
  -- The counts of each channel were compared, first of those on which the first station sends to
  -- the other, and then of those on which the other sends. Nothing was kept yet.
  pub record Compares (line other : KeptLine) (first second : List Change) (ended : List Ended)
      (unfit : List Unfit) (old new : S) (far_old far_new : T) : Type 0 where
    pub found : List Ended
    pub found_unfit : List Unfit
    pub mid : S
    pub far_mid : T
    pub adds : AddsTerminals one two line other (length line.terminals.items) ([], ([], []))
        (first, (found, found_unfit)) old mid far_old far_mid
    pub far_adds : AddsTerminals two one other line (length other.terminals.items)
        ([], (found, found_unfit)) (second, (ended, unfit)) far_mid far_new mid new

  -- All counts fit. The doubts of the channels on which the first station sends are ended in its
  -- store, and then those of the channels on which the other sends; and that is said.
  pub record EndsDoubts (line other : KeptLine) (old new : S) (far_old far_new : T)
      (before after : Option (List ℕ)) : Type 0 where
    pub first : List Change
    pub second : List Change
    pub ended : List Ended
    pub last : S
    pub far_last : T
    pub compares : Compares line other first second ended [] old last far_old far_last
    pub keeps : KeepsIfAny one first last new
    pub far_keeps : KeepsIfAny two second far_last far_new
    pub printed : Appends before after (all_ended_shown line ended)

  -- The counts of some channels do not fit. Each of them is said, and nothing is kept.
  pub record FindsUnfit (line other : KeptLine) (old new : S) (far_old far_new : T)
      (before after : Option (List ℕ)) : Type 0 where
    pub first : List Change
    pub second : List Change
    pub ended : List Ended
    pub unfit : List Unfit
    pub compares : Compares line other first second ended unfit old new far_old far_new
    pub some : unfit ≢ []
    pub printed : Appends before after (each_below (unfit_at line unfit) (length unfit))
