-- A terminal that is filled from its store.
use Rattle.std.proofs.Common.{◌≡◌, ◌≢◌, ◌∙◌, ◌≤◌, ◌<◌, ℕ, zero, suc, Bool, List, [], ◌∷◌, ◌++◌}
use Rattle.std.proofs.Common.{replicate, length, refl, sym, ap, subst, append-nil, append_assoc}
use Rattle.std.proofs.Common.{inl, inr, arith, All, Ok, length-drop}
use Rattle.std.proofs.lemmas.Bool.{cases_lt}
use Rattle.bsc_block.specs.Records.{after_forgotten, forgotten}
use Rattle.bsc_block.proofs.Forgotten.{forgotten_fewer, length_after_forgotten}
use Rattle.bsc_bid.specs.declared.kept.KeptSender.{KeptSender}
use Rattle.bsc_bid.specs.Sender.{restarted_sender}
use Rattle.bsc_bid.specs.Stored.{FitsOffered, RecallStep, RecallsKept, kept_of, new_sender}
use Rattle.bsc_bid.specs.Stored.{recall_step}
use Rattle.bsc_bid.specs.Terminal.{TerminalValue}
use Rattle.bsc_spool.specs.Contents.{Contents, records_from}
use Rattle.bsc_spool.specs.declared.channel.Channel.{Channel}
use Rattle.bsc_spool.specs.declared.channel.Channel.TheVariants.{From}
use Rattle.bsc_spool.specs.declared.ends.Receiving.{Receiving}
use Rattle.bsc_keeping.specs.Filled.{AddsAll, AddsChannel, AddsEach, AddsForgotten, forgotten_of}
use Rattle.bsc_keeping.specs.Filled.{offered_all, recalled_of, sent_again}
use Rattle.bsc_keeping.specs.Filling.{GainsFor, own_offered, own_recalled}
use Rattle.bsc_keeping.specs.Own.{channel_to, each_of, spool_of}
use Rattle.bsc_station.specs.Forgetting.{ForgetsArrivedFor, ForgetsOwn}
use Rattle.bsc_station.specs.LineTerminal.{LineTerminalValue, with_own_queue, with_spool}
use Rattle.bsc_spool.specs.Queue.{QueueValue, queue_of, waiting, with_forgotten}
use Rattle.bsc_spool.specs.Spool.{SpoolValue}
use Rattle.bsc_tributary.specs.Tributary.{TributaryValue, empty_spool, restarted, spool_at}
use Rattle.bsc_restarts.specs.BegunAgain.{TerminalBeginsAgain, begun_received}
use Rattle.bsc_restarts.proofs.Lists.{empty_forgotten, index_after, length_of_set, other_of_set, replicate_more}

-- the records that are offered follow those that were
pub offers : (rs : List (List ℕ)) (x : LineTerminalValue)
    → offered_all own_offered 0 0 rs x
    ≡ with_own_queue x (queue_of x.tributary.queue.format (x.tributary.queue.offered ++ rs)
    x.tributary.queue.known)
offers [] x =
    ap
    (λ l. with_own_queue x (queue_of x.tributary.queue.format l x.tributary.queue.known))
    (sym (append-nil x.tributary.queue.offered))
offers (r ∷ rs) x =
    offers rs (own_offered x 0 0 r)
    ∙ ap
    (λ l. with_own_queue x (queue_of x.tributary.queue.format l x.tributary.queue.known))
    (append_assoc x.tributary.queue.offered (r ∷ []) rs)

abbrev pub records_at : LineTerminalValue → ℕ → List (List ℕ)
records_at x s = (spool_at x.tributary.spools s).records

-- a terminal apart from its spools
abbrev pub apart_from_spools : LineTerminalValue → TributaryValue
apart_from_spools x = record x.tributary { spools = [] }

-- only the spool of this number differs
pub record OnlySpool (s : ℕ) (x y : LineTerminalValue) : Type 0 where
  pub same : apart_from_spools y ≡ apart_from_spools x
  pub spools : length y.tributary.spools ≡ length x.tributary.spools
  pub others : (i : ℕ) → i ≢ s → records_at y i ≡ records_at x i

only_itself : (s : ℕ) (x y : LineTerminalValue) → y ≡ x → OnlySpool s x y
only_itself s x y is = record {
  same = ap apart_from_spools is;
  spools = ap (λ (l : LineTerminalValue). length l.tributary.spools) is;
  others = λ i other. ap (λ l. records_at l i) is;
}

only_then : (s : ℕ) (x y z : LineTerminalValue) → OnlySpool s x y → OnlySpool s y z
    → OnlySpool s x z
only_then s x y z one two = record {
  same = two.same ∙ one.same;
  spools = two.spools ∙ one.spools;
  others = λ i other. two.others i other ∙ one.others i other;
}

only_set : (s : ℕ) (x y : LineTerminalValue) (spool : SpoolValue) → y ≡ with_spool x s spool
    → OnlySpool s x y
only_set s x y spool is = record {
  same = ap apart_from_spools is;
  spools =
      ap (λ (l : LineTerminalValue). length l.tributary.spools) is
      ∙ length_of_set x.tributary.spools s spool;
  others = λ i other.
      ap (λ l. records_at l i) is
      ∙ ap (λ (p : SpoolValue). p.records)
      (other_of_set x.tributary.spools s i spool empty_spool other);
}

forgets_only : (s count : ℕ) (x y : LineTerminalValue) → ForgetsArrivedFor x s count y
    → OnlySpool s x y
forgets_only s count x y (inl is) = only_itself s x y is
forgets_only s count x y (inr one) = only_set s x y _ one.others

forgets_empty : (s n count : ℕ) (x y : LineTerminalValue) → ForgetsArrivedFor x s count y
    → count ≤ n → records_at x s ≡ replicate n [] → records_at y s ≡ replicate n []
forgets_empty s n count x y (inl is) few empty = ap (λ l. records_at l s) is ∙ empty
forgets_empty s n count x y (inr one) few empty =
    one.forgets.records ∙ ap (forgotten one.n) empty
    ∙ empty_forgotten n one.n (omega (arith, few, one.few))

-- places of forgotten records are added
forgotten_added : (s n : ℕ) (x y : LineTerminalValue)
    → AddsForgotten GainsFor ForgetsArrivedFor s n x y → records_at x s ≡ []
    → OnlySpool s x y × (records_at y s ≡ replicate n [])
forgotten_added s zero x y is none = (only_itself s x y is, ap (λ l. records_at l s) is ∙ none)
forgotten_added s (suc n) x y (mid, last, before, gain, forgot) none =
    let first = forgotten_added s n x mid before none in
    let all : records_at last s ≡ replicate (suc n) [] =
    gain.gains.records ∙ ap (λ l. l ++ [] ∷ []) first.1 ∙ replicate_more n [] in (
      only_then s x mid y first.0
          (only_then s mid last y (only_set s mid last _ gain.others)
          (forgets_only s (suc n) last y forgot)),
      forgets_empty s (suc n) (suc n) last y forgot (omega arith) all,
    )

-- records are added
all_added : (s : ℕ) (rs : List (List ℕ)) (x y : LineTerminalValue)
    → AddsAll GainsFor ForgetsArrivedFor s rs x y
    → OnlySpool s x y × (records_at y s ≡ records_at x s ++ rs)
all_added s [] x y is =
    (only_itself s x y is, ap (λ l. records_at l s) is ∙ sym (append-nil (records_at x s)))
all_added s (r ∷ rs) x y (mid, gain, more) =
    let rest = all_added s rs mid y more in (
      only_then s x mid y (only_set s x mid _ gain.others) rest.0,
      rest.1 ∙ ap (λ l. l ++ rs) gain.gains.records
          ∙ append_assoc (records_at x s) (r ∷ []) rs,
    )

channel_added : (forgets_printed : Bool) (it : Contents) (s : ℕ) (x y : LineTerminalValue)
    → AddsChannel GainsFor ForgetsArrivedFor forgets_printed it s x y → records_at x s ≡ []
    → OnlySpool s x y × (records_at y s ≡ begun_received it forgets_printed)
channel_added forgets_printed it s x y (mid, forgot, adds) none =
    let f = forgotten_of forgets_printed it in
    let first = forgotten_added s f x mid forgot none in
    let second = all_added s (records_from f it.arrived) mid y adds in (
      only_then s x mid y first.0 second.0,
      second.1 ∙ ap (λ l. l ++ records_from f it.arrived) first.1,
    )

-- some channels are filled, and then others
adds_split : (forgets_printed : Bool) (has : Channel → Contents) (es fs : List Receiving)
    (x z : LineTerminalValue)
    → AddsEach GainsFor ForgetsArrivedFor forgets_printed has (es ++ fs) x z
    → (y : LineTerminalValue)
    × AddsEach GainsFor ForgetsArrivedFor forgets_printed has es x y
    × AddsEach GainsFor ForgetsArrivedFor forgets_printed has fs y z
adds_split forgets_printed has [] fs x z adds = (x, refl, adds)
adds_split forgets_printed has (e ∷ es) fs x z (mid, one, more) =
    let rest = adds_split forgets_printed has es fs mid z more in
    (rest.0, (mid, one, rest.1), rest.2)

-- the first channels of a terminal are filled, and the others are not
pub record AreBegun (has : Channel → Contents) (forgets_printed : Bool) (term : TerminalValue)
    (n : ℕ) (x y : LineTerminalValue) : Type 0 where
  pub same : apart_from_spools y ≡ apart_from_spools x
  pub spools : length y.tributary.spools ≡ length x.tributary.spools
  pub begun : (s : ℕ) → s < n
      → records_at y s ≡ begun_received (has (channel_to term s)) forgets_printed
  pub rest : (s : ℕ) → n ≤ s → records_at y s ≡ records_at x s

pub each_begun : (has : Channel → Contents) (forgets_printed : Bool) (term : TerminalValue)
    (n : ℕ) (x y : LineTerminalValue)
    → AddsEach GainsFor ForgetsArrivedFor forgets_printed has (each_of (spool_of term) n) x y
    → ((s : ℕ) → records_at x s ≡ []) → AreBegun has forgets_printed term n x y
each_begun has forgets_printed term zero x y is none = record {
  same = ap apart_from_spools is;
  spools = ap (λ (l : LineTerminalValue). length l.tributary.spools) is;
  begun = λ s few. absurd (omega (arith, few));
  rest = λ s from. ap (λ l. records_at l s) is;
}
each_begun has forgets_printed term (suc n) x y adds none =
    let parts = adds_split forgets_printed has (each_of (spool_of term) n) (spool_of term n) x y
    adds in
    let before = each_begun has forgets_printed term n x parts.0 parts.1 none in
    let (mid, one, is) = parts.2 in
    let filled = channel_added forgets_printed (has (channel_to term n)) n parts.0 mid one
    (before.rest n (omega arith) ∙ none n) in
    record {
      same = ap apart_from_spools is ∙ filled.0.same ∙ before.same;
      spools =
          ap (λ (l : LineTerminalValue). length l.tributary.spools) is
          ∙ filled.0.spools ∙ before.spools;
      begun = λ s few. elim (cases_lt s n) [
        | inl before_it ↦
            ap (λ l. records_at l s) is
            ∙ filled.0.others s (λ e. absurd (omega (arith, before_it, e)))
            ∙ before.begun s before_it
        | inr not_before ↦
            let same : s ≡ n = omega (arith, few, not_before) in
            ap (λ l. records_at l s) is
            ∙ subst
            (λ i. records_at mid i ≡ begun_received (has (channel_to term i)) forgets_printed)
            (sym same) filled.1
      ];
      rest = λ s from.
          ap (λ l. records_at l s) is
          ∙ filled.0.others s (λ e. absurd (omega (arith, from, e)))
          ∙ before.rest s (omega (arith, from));
    }

-- of what is forgotten already nothing more is
forgets_own : (q : QueueValue) (x y : LineTerminalValue) → ForgetsOwn x y
    → x.tributary.queue ≡ with_forgotten q q.known
    → (y.tributary.queue ≡ with_forgotten q q.known)
    × (record y.tributary { queue = q } ≡ record x.tributary { queue = q })
forgets_own q x y (inl is) queue = (
  ap (λ (l : LineTerminalValue). l.tributary.queue) is ∙ queue,
  ap (λ (l : LineTerminalValue). record l.tributary { queue = q }) is,
)
forgets_own q x y (inr own) queue =
    let few : own.n ≤ q.known =
    subst (λ k. own.n ≤ k) (ap (λ (p : QueueValue). p.known) queue) own.known in (
      ap (λ (l : LineTerminalValue). l.tributary.queue) own.state
          ∙ ap (λ (p : QueueValue). with_forgotten p own.n) queue
          ∙ ap (λ rs. queue_of q.format rs q.known)
          (forgotten_fewer q.known own.n (waiting q) few),
      ap (λ (l : LineTerminalValue). record l.tributary { queue = q }) own.state,
    )

-- a new terminal has no records that arrived
none_arrived : (spools : List SpoolValue)
    → All (λ (s : SpoolValue). (s.records ≡ []) × (s.delays ≡ 0)) spools
    → (s : ℕ) → (spool_at spools s).records ≡ []
none_arrived spools all s = elim (cases_lt s (length spools)) [
  | inl within ↦ (all s empty_spool within).0
  | inr after ↦ ap (λ (p : SpoolValue). p.records) (index_after spools s empty_spool after)
]

-- a new terminal that is filled is the terminal begun again
pub terminal_begins : RecallsKept → TerminalBeginsAgain
terminal_begins recalls has forgets_printed t new filled is_one fits is_new all made =
    let its = has (From t.terminal.poll) in
    let forgot = with_forgotten t.queue t.queue.known in
    let known : its.known ≡ t.queue.known =
    ap (λ (k : KeptSender). k.known) all.sent.numbers in
    let count : length forgot.offered ≡ length t.queue.offered =
    omega (
      arith,
      length_after_forgotten t.queue.known (waiting t.queue),
      length-drop t.queue.known t.queue.offered,
      fits.known,
    ) in
    let offered = offered_all own_offered 0 0 (sent_again its) new in
    let made_offers = offers (sent_again its) new in
    let again : sent_again its ≡ forgot.offered =
    λ i. replicate (known i) [] ++ all.sent.rest i in
    let begun =
    each_begun has forgets_printed t.terminal (length t.terminal.selects) offered made.mid
    made.adds
    (λ s. ap (λ l. records_at l s) made_offers ∙ none_arrived new.tributary.spools is_new.spools s)
    in
    let mid = made.mid.tributary in
    let queue : mid.queue ≡ queue_of t.queue.format forgot.offered 0 =
    ap (λ (x : TributaryValue). x.queue) begun.same
    ∙ ap (λ (l : LineTerminalValue). l.tributary.queue) made_offers
    ∙ ap (λ (q : QueueValue). queue_of q.format (q.offered ++ sent_again its) q.known)
    is_new.queue
    ∙ (λ i. queue_of (sym is_one.format i) (again i) 0) in
    let sender : mid.sender ≡ new_sender t.sender.setup =
    ap (λ (x : TributaryValue). x.sender) begun.same
    ∙ ap (λ (l : LineTerminalValue). l.tributary.sender) made_offers
    ∙ is_new.sender in
    let step : recall_step mid.sender mid.queue (recalled_of its)
    ≡ record { sender = restarted_sender t.sender; queue = forgot; answer = Ok tt } =
    (λ i. recall_step (sender i) (queue i) (all.sent.numbers i))
    ∙ recalls t.sender forgot
    (subst (FitsOffered (kept_of t.sender t.queue)) (sym count) fits) in
    let last = own_recalled made.mid 0 0 (recalled_of its) in
    let end =
    forgets_own t.queue last filled made.forgot (ap (λ (r : RecallStep). r.queue) step) in
    let spools : filled.tributary.spools ≡ mid.spools =
    ap (λ (x : TributaryValue). x.spools) end.1 in
    let body : TributaryValue → TributaryValue =
    λ x. record x { queue = t.queue; spools = t.spools; sender = restarted_sender t.sender } in
    let sends : filled.tributary.sender ≡ restarted_sender t.sender =
    ap (λ (x : TributaryValue). x.sender) end.1 ∙ ap (λ (r : RecallStep). r.sender) step in
    let fresh : body new.tributary ≡ restarted t =
    λ i. record {
      terminal = is_new.terminal_given i;
      mode = is_new.mode i;
      ready = is_new.ready i;
      urgent = is_new.not_urgent i;
      sender = restarted_sender t.sender;
      receiver = is_new.receiver i;
      queue = t.queue;
      spools = t.spools;
    } in
    record {
      others =
          (λ i. record filled.tributary {
            queue = t.queue;
            spools = t.spools;
            sender = sends i;
          })
          ∙ ap body end.1 ∙ ap body begun.same
          ∙ ap (λ (l : LineTerminalValue). body l.tributary) made_offers ∙ fresh;
      queue = end.0;
      spools =
          ap length spools ∙ begun.spools
          ∙ ap (λ (l : LineTerminalValue). length l.tributary.spools) made_offers
          ∙ is_new.tributary.spools
          ∙ ap (λ (x : TerminalValue). length x.selects) is_new.terminal_given
          ∙ sym is_one.spools;
      arrived = λ s few.
          ap (λ (ps : List SpoolValue). (spool_at ps s).records) spools
          ∙ begun.begun s few
          ∙ ap (after_forgotten (forgotten_of forgets_printed (has (channel_to t.terminal s))))
          (all.received s few);
    }
