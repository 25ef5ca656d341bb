-- The peers that may connect, and those that answer for terminals.
use Rattle.std.specs.Prelude.{◌≡◌, ◌≤◌, ◌<◌, ◌+◌, ◌⊎◌, ℕ, max, List, [], ◌∷◌, ◌++◌, length}
use Rattle.std.specs.Prelude.{replicate, slice_set, Option, Some, None, MatchOption}
use Rattle.std.specs.Prelude.{Result, Ok, Err, MatchResult, codes}
use Rattle.std.specs.Net.Grammar.{IsIpText}
use Rattle.std.specs.declared.net.ip_addr.IpAddr.{IpAddr}
use Rattle.bsc_options.specs.Words.{WordsValue, texts_at}
use Rattle.bsc_text.specs.Parts.{after_octet, before_octet}
use Rattle.bsc_bid.specs.declared.limits.TheConstants.{MAX_TERMINALS}
use Rattle.bsc_trust.specs.Lists.{listed}
use Rattle.bsc_trust.specs.NetworkTexts.{IsNetworkText, Reads}
use Rattle.bsc_trust.specs.declared.network.Network.{Network}
use Rattle.bsc_trust.specs.declared.network.NetworkError.{NetworkError}
use Rattle.bsc_trust.specs.declared.networks.Networks.{Networks}
use Rattle.bsc_trust.specs.declared.networks.TheConstants.{MAX_NETWORKS}
use Rattle.bsc_trust.specs.Peers.{given_for}
use Rattle.bsc_options.specs.Offers.{number_in}
use Rattle.bsc_options.specs.declared.admission.Admission.{Admission}
use Rattle.bsc_options.specs.declared.admission.GivenPeers.{GivenPeers}
use Rattle.bsc_options.specs.declared.error.OptionError.{OptionError}
use Rattle.bsc_options.specs.declared.error.OptionError.TheVariants as error

-- The texts of an option in order, each of which changes a value as `Changes` says. The first that
-- is refused ends the reading with its error.
abbrev pub ReadsEach : {V : Type 0} → (List ℕ → V → Result V OptionError → Type 0)
    → List (List ℕ) → V → Result V OptionError → Type 0
ReadsEach Changes [] value result = result ≡ Ok value
ReadsEach {V} Changes (text ∷ texts) value result =
    (next : Result V OptionError) × Changes text value next
    × MatchResult next (λ changed. ReadsEach Changes texts changed result)
    (λ why. result ≡ Err why)

-- The texts of an option, after the value to which no text comes.
abbrev pub ReadsFrom : {V : Type 0} → (V → Type 0) → (List ℕ → V → Result V OptionError → Type 0)
    → List (List ℕ) → Result V OptionError → Type 0
ReadsFrom {V} Begins Changes texts result =
    (first : V) × Begins first × ReadsEach Changes texts first result

-- ---- networks

-- The network that a text names comes after the others.
pub record HasNetwork (text : List ℕ) (before after : Networks) : Type 0 where
  pub network : Network
  pub named : IsNetworkText text network
  pub added : listed after ≡ listed before ++ network ∷ []

-- A text of `--allow` adds its network. It is refused if it names none, or if there are 16 already.
abbrev pub AddsNetwork : List ℕ → Networks → Result Networks OptionError → Type 0
AddsNetwork text before (Ok after) = HasNetwork text before after
AddsNetwork text before (Err error.AllowForm) = (why : NetworkError) × Reads text (Err why)
AddsNetwork text before (Err error.TooManyNetworks) = MAX_NETWORKS ≤ length (listed before)
AddsNetwork text before (Err _) = ⊥

abbrev pub HasNoNetwork : Networks → Type 0
HasNoNetwork none = listed none ≡ []

-- The networks in the texts of `--allow`, after none.
abbrev pub ReadsNetworks : List (List ℕ) → Result Networks OptionError → Type 0
ReadsNetworks = ReadsFrom HasNoNetwork AddsNetwork

-- ---- the peers of terminals

-- A terminal, by its number, and an IP address.
abbrev pub Peer : Type 0
Peer = ℕ × IpAddr

-- A text names a peer: the number of its terminal, `=`, and its address.
pub record NamesPeer (text : List ℕ) (peer : Peer) : Type 0 where
  pub number : number_in (before_octet 61 text) ≡ Some peer.0
  pub small : peer.0 < 256
  pub rest : List ℕ
  pub address : after_octet 61 text ≡ Some rest
  pub spelled : IsIpText rest peer.1

-- The peer that a text names, or none if it names none.
abbrev pub ReadsPeer : List ℕ → Option Peer → Type 0
ReadsPeer text result =
    MatchOption result ((peer : Peer) → ¬ (NamesPeer text peer)) (NamesPeer text)

-- The address that a text names for a terminal is given for it, and none was before.
pub record HasPeer (text : List ℕ) (before after : GivenPeers) : Type 0 where
  pub peer : Peer
  pub named : NamesPeer text peer
  pub new : given_for before.addresses.addresses peer.0 ≡ None
  pub given : after.addresses.addresses
      ≡ slice_set before.addresses.addresses peer.0 (Some peer.1)
  pub terminals : after.terminals ≡ max before.terminals (peer.0 + 1)

-- A text names a terminal for which an address is given already.
pub record Repeats (text : List ℕ) (before : GivenPeers) : Type 0 where
  pub peer : Peer
  pub named : NamesPeer text peer
  pub earlier : IpAddr
  pub given : given_for before.addresses.addresses peer.0 ≡ Some earlier

-- A text of `--peer` gives the address of its terminal. It is refused if it names no peer, or if
-- its terminal has an address already.
abbrev pub AddsPeer : List ℕ → GivenPeers → Result GivenPeers OptionError → Type 0
AddsPeer text before (Ok after) = HasPeer text before after
AddsPeer text before (Err error.PeerForm) = (peer : Peer) → ¬ (NamesPeer text peer)
AddsPeer text before (Err error.RepeatedPeer) = Repeats text before
AddsPeer text before (Err _) = ⊥

-- No address is given for any terminal.
pub record IsNobody (given : GivenPeers) : Type 0 where
  pub addresses : given.addresses.addresses ≡ replicate MAX_TERMINALS None
  pub terminals : given.terminals ≡ 0

-- The peers in the texts of `--peer`, after none.
abbrev pub ReadsPeers : List (List ℕ) → Result GivenPeers OptionError → Type 0
ReadsPeers = ReadsFrom IsNobody AddsPeer

-- The peers in the options, or the first reason for refusing them.
abbrev pub IsAdmission : WordsValue → Result Admission OptionError → Type 0
IsAdmission w (Ok admission) =
    ReadsNetworks (texts_at (codes "allow") w) (Ok admission.allowed)
    × ReadsPeers (texts_at (codes "peer") w) (Ok admission.peers)
IsAdmission w (Err why) =
    ReadsNetworks (texts_at (codes "allow") w) (Err why)
    ⊎ ((allowed : Networks) × ReadsNetworks (texts_at (codes "allow") w) (Ok allowed)
    × ReadsPeers (texts_at (codes "peer") w) (Err why))
