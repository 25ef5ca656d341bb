-- The reasons for refusing options, in words.
use Rattle.std.specs.Prelude.{ℕ, List, [], ◌++◌, Bool, true, false, codes}
use Rattle.bsc_options.specs.declared.error.OptionError.{OptionError}
use Rattle.bsc_options.specs.declared.error.OptionError.TheVariants as error

-- A reason: the value of an option is wrong, which takes another; an option lacks one that it
-- needs; two options exclude each other; or one that has no fields.
pub data Refusal : Type 0 where
  wrong : List ℕ → List ℕ → Refusal
  lacks : List ℕ → List ℕ → Refusal
  clashes : List ℕ → List ℕ → Refusal
  plain : OptionError → Refusal

abbrev pub refusal : OptionError → Refusal
refusal (error.Value option kind) = wrong option.now kind.now
refusal (error.Needs option needed) = lacks option.now needed.now
refusal (error.Both one other) = clashes one.now other.now
refusal e = plain e

-- The reasons without fields.
abbrev pub plain_reason : OptionError → List ℕ
plain_reason error.Station =
    codes "exactly one of --control and --terminal must say which station it is"
plain_reason error.TerminalNumber = codes "--terminal takes the number of a terminal"
plain_reason error.Place =
    codes "exactly one of --listen and --connect must say where its connections are"
plain_reason error.ConnectNeedsShared = codes "--control with --connect needs --shared"
plain_reason error.ServeAnyoneNeedsServe = codes "--serve-anyone needs --serve with HOST:PORT"
plain_reason error.RepeatedInput =
    codes "CONFIG, --offer and --until-input-ends cannot use standard input more than once"
plain_reason error.GapNotBelowTimeOut = codes "with --raw the gap must be less than the time-out"
plain_reason error.PauseNotBelowHalf = codes "--pause must be less than half of the time-out"
plain_reason error.AllowForm = codes "--allow takes ADDRESS/BITS"
plain_reason error.TooManyNetworks = codes "--allow cannot be given more than 16 times"
plain_reason error.PeerForm = codes "--peer takes T=ADDRESS"
plain_reason error.RepeatedPeer = codes "--peer cannot name a terminal more than once"
plain_reason error.NoTerminal = codes "--terminal names a terminal that is not in CONFIG"
plain_reason error.NoPeer = codes "--peer names a terminal that is not in CONFIG"
plain_reason error.OfferForm = codes "--offer takes T.S=PATH at the control station"
plain_reason error.NoChannel = codes "--offer names a channel that is not in CONFIG"
plain_reason error.StoreWork =
    codes "a work is init CONFIG, offer CHANNEL PATH, arrived CHANNEL, status, "
    ++ codes "release CHANNEL COUNT or reconcile OTHER"
plain_reason error.NeedsInit = codes "--control and --terminal need init"
plain_reason error.NeedsArrived = codes "--from and --text need arrived"
plain_reason error.ChannelForm = codes "CHANNEL takes T or T.S"
plain_reason error.Count = codes "COUNT takes a number, 0 to 4294967295"
plain_reason error.From = codes "--from takes a number, 0 to 4294967295"
plain_reason other = []

-- Each reason names the options at fault.
abbrev pub reason : Refusal → List ℕ
reason (wrong option kind) = codes "--" ++ option ++ codes " takes " ++ kind
reason (lacks option needed) = codes "--" ++ option ++ codes " needs --" ++ needed
reason (clashes one other) =
    codes "--" ++ one ++ codes " and --" ++ other ++ codes " cannot both be given"
reason (plain e) = plain_reason e

-- Whether options contradict one another or one is missing; otherwise the value of one is wrong.
abbrev is_plain_conflict : OptionError → Bool
is_plain_conflict error.Station = true
is_plain_conflict error.Place = true
is_plain_conflict error.ConnectNeedsShared = true
is_plain_conflict error.ServeAnyoneNeedsServe = true
is_plain_conflict error.RepeatedInput = true
is_plain_conflict error.GapNotBelowTimeOut = true
is_plain_conflict error.PauseNotBelowHalf = true
is_plain_conflict error.RepeatedPeer = true
is_plain_conflict error.NeedsInit = true
is_plain_conflict error.NeedsArrived = true
is_plain_conflict other = false

abbrev pub is_conflict : Refusal → Bool
is_conflict (wrong option kind) = false
is_conflict (lacks option needed) = true
is_conflict (clashes one other) = true
is_conflict (plain e) = is_plain_conflict e
