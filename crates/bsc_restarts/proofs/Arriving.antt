-- A control station gains what had arrived from each terminal.
use Rattle.std.proofs.Common.{◌≡◌, ◌≢◌, ◌∙◌, ◌≤◌, ◌<◌, ℕ, zero, suc, Bool, List, [], ◌∷◌, ◌++◌}
use Rattle.std.proofs.Common.{replicate, length, refl, sym, ap, subst, append-nil, append_assoc}
use Rattle.std.proofs.Common.{inl, inr, arith}
use Rattle.std.proofs.lemmas.Bool.{cases_lt}
use Rattle.bsc_block.specs.Records.{forgotten}
use Rattle.bsc_bid.specs.Terminal.{TerminalValue}
use Rattle.bsc_control.specs.Control.{ControlValue, peer_at, with_peer}
use Rattle.bsc_control.specs.Kept.{outbound_of}
use Rattle.bsc_control.specs.Peer.{PeerValue, no_peer, outbound_at}
use Rattle.bsc_control.proofs.PeerLists.{value_kept_by_set}
use Rattle.bsc_spool.specs.Contents.{Contents, records_from}
use Rattle.bsc_spool.specs.declared.channel.Channel.{Channel}
use Rattle.bsc_spool.specs.declared.channel.Channel.TheVariants.{From}
use Rattle.bsc_spool.specs.declared.ends.Receiving.{Receiving}
use Rattle.bsc_keeping.specs.Filled.{AddsAll, AddsChannel, AddsEach, AddsForgotten, forgotten_of}
use Rattle.bsc_keeping.specs.Filling.{GainsFrom}
use Rattle.bsc_keeping.specs.Own.{each_of, polled_at, terminal_at}
use Rattle.bsc_station.specs.Forgetting.{ForgetsArrivedFrom}
use Rattle.bsc_spool.specs.Spool.{SpoolValue}
use Rattle.bsc_restarts.specs.BegunAgain.{begun_received}
use Rattle.bsc_restarts.proofs.Lists.{empty_forgotten, length_of_set, other_of_set, replicate_more}

abbrev pub records_from_peer : ControlValue → ℕ → List (List ℕ)
records_from_peer x t = (peer_at x t).spool.records

-- nothing of a station changes but its spools
pub record OnlySpools (x y : ControlValue) : Type 0 where
  pub task : y.task ≡ x.task
  pub peers : length y.peers ≡ length x.peers
  pub sides : (i j : ℕ) → outbound_of y i j ≡ outbound_of x i j
  pub lengths : (i : ℕ) → length (peer_at y i).outbounds ≡ length (peer_at x i).outbounds

no_spool : (x y : ControlValue) → y ≡ x → OnlySpools x y
no_spool x y is = record {
  task = ap (λ (c : ControlValue). c.task) is;
  peers = ap (λ (c : ControlValue). length c.peers) is;
  sides = λ i j. ap (λ c. outbound_of c i j) is;
  lengths = λ i. ap (λ c. length (peer_at c i).outbounds) is;
}

spools_then : (x y z : ControlValue) → OnlySpools x y → OnlySpools y z → OnlySpools x z
spools_then x y z one two = record {
  task = two.task ∙ one.task;
  peers = two.peers ∙ one.peers;
  sides = λ i j. two.sides i j ∙ one.sides i j;
  lengths = λ i. two.lengths i ∙ one.lengths i;
}

-- only the spool of this terminal differs
record OneSpool (t : ℕ) (x y : ControlValue) : Type 0 where
  only : OnlySpools x y
  others : (i : ℕ) → i ≢ t → records_from_peer y i ≡ records_from_peer x i

one_itself : (t : ℕ) (x y : ControlValue) → y ≡ x → OneSpool t x y
one_itself t x y is = record {
  only = no_spool x y is;
  others = λ i other. ap (λ c. records_from_peer c i) is;
}

one_then : (t : ℕ) (x y z : ControlValue) → OneSpool t x y → OneSpool t y z → OneSpool t x z
one_then t x y z one two = record {
  only = spools_then x y z one.only two.only;
  others = λ i other. two.others i other ∙ one.others i other;
}

one_set : (t : ℕ) (x y : ControlValue) (spool : SpoolValue)
    → y ≡ with_peer x t (record (peer_at x t) { spool = spool }) → OneSpool t x y
one_set t x y spool is =
    let p = record (peer_at x t) { spool = spool } in
    record {
      only = record {
        task = ap (λ (c : ControlValue). c.task) is;
        peers = ap (λ (c : ControlValue). length c.peers) is ∙ length_of_set x.peers t p;
        sides = λ i j.
            ap (λ c. outbound_of c i j) is
            ∙ value_kept_by_set (λ q. outbound_at q j) x.peers t i p no_peer refl;
        lengths = λ i.
            ap (λ c. length (peer_at c i).outbounds) is
            ∙ value_kept_by_set (λ (q : PeerValue). length q.outbounds) x.peers t i p no_peer refl;
      };
      others = λ i other.
          ap (λ c. records_from_peer c i) is
          ∙ ap (λ (q : PeerValue). q.spool.records) (other_of_set x.peers t i p no_peer other);
    }

forgets_one : (t count : ℕ) (x y : ControlValue) → ForgetsArrivedFrom x t count y → OneSpool t x y
forgets_one t count x y (inl is) = one_itself t x y is
forgets_one t count x y (inr one) = one_set t x y _ one.others

forgets_empty : (t n count : ℕ) (x y : ControlValue) → ForgetsArrivedFrom x t count y
    → count ≤ n → records_from_peer x t ≡ replicate n [] → records_from_peer y t ≡ replicate n []
forgets_empty t n count x y (inl is) few empty = ap (λ c. records_from_peer c t) is ∙ empty
forgets_empty t n count x y (inr one) few empty =
    one.forgets.records ∙ ap (forgotten one.n) empty
    ∙ empty_forgotten n one.n (omega (arith, few, one.few))

-- places of forgotten records are added
forgotten_added : (t n : ℕ) (x y : ControlValue)
    → AddsForgotten GainsFrom ForgetsArrivedFrom t n x y → records_from_peer x t ≡ []
    → OneSpool t x y × (records_from_peer y t ≡ replicate n [])
forgotten_added t zero x y is none =
    (one_itself t x y is, ap (λ c. records_from_peer c t) is ∙ none)
forgotten_added t (suc n) x y (mid, last, before, gain, forgot) none =
    let first = forgotten_added t n x mid before none in
    let all : records_from_peer last t ≡ replicate (suc n) [] =
    gain.gains.records ∙ ap (λ l. l ++ [] ∷ []) first.1 ∙ replicate_more n [] in (
      one_then t x mid y first.0
          (one_then t mid last y (one_set t mid last _ gain.others)
          (forgets_one t (suc n) last y forgot)),
      forgets_empty t (suc n) (suc n) last y forgot (omega arith) all,
    )

-- records are added
all_added : (t : ℕ) (rs : List (List ℕ)) (x y : ControlValue)
    → AddsAll GainsFrom ForgetsArrivedFrom t rs x y
    → OneSpool t x y × (records_from_peer y t ≡ records_from_peer x t ++ rs)
all_added t [] x y is = (
  one_itself t x y is,
  ap (λ c. records_from_peer c t) is ∙ sym (append-nil (records_from_peer x t)),
)
all_added t (r ∷ rs) x y (mid, gain, more) =
    let rest = all_added t rs mid y more in (
      one_then t x mid y (one_set t x mid _ gain.others) rest.0,
      rest.1 ∙ ap (λ l. l ++ rs) gain.gains.records
          ∙ append_assoc (records_from_peer x t) (r ∷ []) rs,
    )

channel_added : (forgets_printed : Bool) (it : Contents) (t : ℕ) (x y : ControlValue)
    → AddsChannel GainsFrom ForgetsArrivedFrom forgets_printed it t x y
    → records_from_peer x t ≡ []
    → OneSpool t x y × (records_from_peer y t ≡ begun_received it forgets_printed)
channel_added forgets_printed it t x y (mid, forgot, adds) none =
    let f = forgotten_of forgets_printed it in
    let first = forgotten_added t f x mid forgot none in
    let second = all_added t (records_from f it.arrived) mid y adds in (
      one_then t x mid y first.0 second.0,
      second.1 ∙ ap (λ l. l ++ records_from f it.arrived) first.1,
    )

-- some channels are filled, and then others
adds_split : (forgets_printed : Bool) (has : Channel → Contents) (es fs : List Receiving)
    (x z : ControlValue)
    → AddsEach GainsFrom ForgetsArrivedFrom forgets_printed has (es ++ fs) x z
    → (y : ControlValue)
    × AddsEach GainsFrom ForgetsArrivedFrom forgets_printed has es x y
    × AddsEach GainsFrom ForgetsArrivedFrom forgets_printed has fs y z
adds_split forgets_printed has [] fs x z adds = (x, refl, adds)
adds_split forgets_printed has (e ∷ es) fs x z (mid, one, more) =
    let rest = adds_split forgets_printed has es fs mid z more in
    (rest.0, (mid, one, rest.1), rest.2)

-- the spools of the first terminals are filled, and the others are not
pub record AreGained (has : Channel → Contents) (forgets_printed : Bool)
    (ts : List TerminalValue) (n : ℕ) (x y : ControlValue) : Type 0 where
  pub only : OnlySpools x y
  pub begun : (t : ℕ) → t < n
      → records_from_peer y t
      ≡ begun_received (has (From (terminal_at ts t).poll)) forgets_printed
  pub rest : (t : ℕ) → n ≤ t → records_from_peer y t ≡ records_from_peer x t

pub each_gained : (has : Channel → Contents) (forgets_printed : Bool) (ts : List TerminalValue)
    (n : ℕ) (x y : ControlValue)
    → AddsEach GainsFrom ForgetsArrivedFrom forgets_printed has (each_of (polled_at ts) n) x y
    → ((t : ℕ) → records_from_peer x t ≡ []) → AreGained has forgets_printed ts n x y
each_gained has forgets_printed ts zero x y is none = record {
  only = no_spool x y is;
  begun = λ t few. absurd (omega (arith, few));
  rest = λ t from. ap (λ c. records_from_peer c t) is;
}
each_gained has forgets_printed ts (suc n) x y adds none =
    let parts = adds_split forgets_printed has (each_of (polled_at ts) n) (polled_at ts n) x y
    adds in
    let before = each_gained has forgets_printed ts n x parts.0 parts.1 none in
    let (mid, one, is) = parts.2 in
    let filled =
    channel_added forgets_printed (has (From (terminal_at ts n).poll)) n parts.0 mid one
    (before.rest n (omega arith) ∙ none n) in
    record {
      only =
          spools_then x parts.0 y before.only
          (spools_then parts.0 mid y filled.0.only (no_spool mid y is));
      begun = λ t few. elim (cases_lt t n) [
        | inl less ↦
            ap (λ c. records_from_peer c t) is
            ∙ filled.0.others t (λ e. absurd (omega (arith, less, e))) ∙ before.begun t less
        | inr from ↦
            let same : t ≡ n = omega (arith, few, from) in
            ap (λ c. records_from_peer c t) is
            ∙ subst
            (λ i. records_from_peer mid i
            ≡ begun_received (has (From (terminal_at ts i).poll)) forgets_printed)
            (sym same) filled.1
      ];
      rest = λ t from.
          ap (λ c. records_from_peer c t) is
          ∙ filled.0.others t (λ e. absurd (omega (arith, from, e)))
          ∙ before.rest t (omega (arith, from));
    }
