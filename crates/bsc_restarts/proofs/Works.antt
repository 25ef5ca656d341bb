-- What an operator's works on a store leave of the station.
use Rattle.std.proofs.Common.{◌≡◌, ◌∙◌, ◌≤◌, ◌+◌, ◌-◌, ℕ, nat_eq, ◌&&◌}
use Rattle.std.proofs.Common.{◌||◌, ◌==◌, Bool, true, false, List, length, drop}
use Rattle.std.proofs.Common.{Option, Some, Ok, inl, inr, refl, sym, ap}
use Rattle.std.proofs.Common.{subst, arith, if◌then◌else◌}
use Rattle.std.proofs.lemmas.Bool.{and_from, or_cases}
use Rattle.std.proofs.lemmas.Bool.Decides.{nat_tests}
use Rattle.std.proofs.lemmas.List.{drop-drop, length-drop, length-map}
use Rattle.std.specs.List.{AllByRecursion}
use Rattle.bsc_spool.specs.Queue.{QueueValue, waiting}
use Rattle.bsc_bid.specs.Ready.{CountsOn}
use Rattle.bsc_bid.specs.Sender.{SenderValue, not_released, release_in}
use Rattle.bsc_bid.specs.Sender.{released}
use Rattle.bsc_bid.specs.declared.sender.ReleaseError.TheVariants.{CountMismatch}
use Rattle.bsc_bid.specs.Stored.{doubt_of, kept_of}
use Rattle.bsc_bid.specs.declared.kept.KeptSender.{KeptSender}
use Rattle.bsc_bid.specs.declared.phase.Phase.{Phase}
use Rattle.bsc_bid.specs.declared.phase.Phase.TheVariants.{Held, Idle, InDoubt, Unanswered}
use Rattle.bsc_bid.specs.Terminal.{HasDistinctAddresses, TerminalValue}
use Rattle.bsc_tributary.specs.Kept.{IsTributary}
use Rattle.bsc_spool.specs.Contents.{Contents}
use Rattle.bsc_spool.specs.declared.store.Found.{Found}
use Rattle.bsc_spool.specs.declared.change.Change.{Change}
use Rattle.bsc_spool.specs.declared.change.Change.TheVariants.{Known, Offered}
use Rattle.bsc_spool.specs.declared.channel.Channel.{Channel}
use Rattle.bsc_spool.specs.declared.ends.Receiving.{Receiving}
use Rattle.bsc_spool.specs.declared.ends.Sending.{Sending}
use Rattle.bsc_station.specs.LineTerminal.{LineTerminalValue}
use Rattle.bsc_keeping.specs.Offers.{channel_to}
use Rattle.bsc_station.specs.Feeding.{terminal_with}
use Rattle.bsc_keeping.specs.Own.{sends_from, spools_of}
use Rattle.bsc_restarts.specs.AfterCrash.{arrived_at_terminal, kept_at_terminal}
use Rattle.bsc_restarts.specs.AfterCrash.{waiting_at_terminal}
use Rattle.bsc_restarts.specs.Crashes.{KeepsOne, channel_in}
use Rattle.bsc_restarts.specs.Kept.{ChannelsDiffer, HasAllSent, HasSentIf, HasStation}
use Rattle.bsc_restarts.specs.Kept.{receiving_channels}
use Rattle.bsc_restarts.specs.StoreWorks.{FollowsWorks, TerminalReleases, terminal_released}
use Rattle.bsc_restarts.specs.StoreWorks.{terminal_restarted}
use Rattle.bsc_restarts.proofs.Begun.{cut_doubt}
use Rattle.bsc_restarts.proofs.Differing.{terminal_channels_differ}
use Rattle.bsc_restarts.proofs.Ends.{rest_later}
use Rattle.bsc_restarts.proofs.Forgotten.{has_still}
use Rattle.bsc_restarts.proofs.Offered.{gains_here, only_gains}
use Rattle.bsc_restarts.proofs.Offers.{IsOwnSide, own_gains, own_side}
use Rattle.bsc_restarts.proofs.OneSide.{AtMostOne, OnlySide, changed_on, received_on}

-- what the store has of a sender that releases its doubt
released_has : (s : SenderValue) (q : QueueValue) (it new : Contents) (k count : ℕ)
    → new ≡ record it { known = count; in_doubt = 0 } → k ≤ length (waiting q)
    → q.known ≤ count → count ≤ q.known + k
    → HasAllSent it (record { known = q.known; doubt = Some k }) (waiting q)
    → HasAllSent new (kept_of (released s q count).sender (released s q count).queue)
    (waiting (released s q count).queue)
released_has s q it new k count is waits least most has =
    let more : q.known + (count - q.known) ≡ count = omega (arith, least) in
    subst
    (λ c. HasAllSent c (kept_of (released s q count).sender (released s q count).queue)
    (waiting (released s q count).queue))
    (sym is)
    (record {
      few =
          omega (
            arith,
            has.known,
            has.few,
            waits,
            most,
            ap (λ rs. length rs) has.rest,
            length-map (drop it.known it.offered) (λ (f : Found). f.«record»),
            length-drop it.known it.offered,
          );
      known = refl;
      in_doubt = refl;
      rest =
          rest_later it.offered it.known count (waiting q) has.rest (omega (arith, has.known, least))
          ∙ ap (λ m. drop (count - m) (waiting q)) has.known
          ∙ drop-drop (count - q.known) q.known q.offered
          ∙ ap (λ m. drop m q.offered) more;
    })

by_count : (b : Bool) (s : SenderValue) (q : QueueValue) (it new : Contents) (k count : ℕ)
    → ((count == q.known) || (count == (q.known + k))) ≡ b
    → new ≡ record it { known = count; in_doubt = 0 } → k ≤ length (waiting q)
    → (if b then released s q count else not_released s q CountMismatch).answer ≡ Ok tt
    → HasAllSent it (record { known = q.known; doubt = Some k }) (waiting q)
    → HasAllSent new
    (kept_of (if b then released s q count else not_released s q CountMismatch).sender
    (if b then released s q count else not_released s q CountMismatch).queue)
    (waiting (if b then released s q count else not_released s q CountMismatch).queue)
by_count true s q it new k count at is waits answer has =
    elim (or_cases (count == q.known) (count == (q.known + k)) at) [
      | inl first ↦
          let same : count ≡ q.known = grind (arith, nat_tests, first) in
          released_has s q it new k count is waits (omega (arith, same)) (omega (arith, same)) has
      | inr second ↦
          let same : count ≡ q.known + k = grind (arith, nat_tests, second) in
          released_has s q it new k count is waits (omega (arith, same)) (omega (arith, same)) has
    ]
by_count false s q it new k count at is waits answer has = absurd cc

pub by_phase : (p : Phase) (s : SenderValue) (q : QueueValue) (it new : Contents) (count : ℕ)
    → new ≡ record it { known = count; in_doubt = 0 } → CountsOn p (length (waiting q))
    → (release_in s q p count).answer ≡ Ok tt
    → HasAllSent it (record { known = q.known; doubt = doubt_of p }) (waiting q)
    → HasAllSent new (kept_of (release_in s q p count).sender (release_in s q p count).queue)
    (waiting (release_in s q p count).queue)
by_phase (InDoubt k) s q it new count is waits answer has =
    by_count ((count == q.known) || (count == (q.known + k))) s q it new k count refl is waits
    answer has
by_phase Idle s q it new count is waits answer has = absurd cc
by_phase (Unanswered b) s q it new count is waits answer has = absurd cc
by_phase (Held end alternation) s q it new count is waits answer has = absurd cc

-- the change of one sending side, of a station with these ends
module _ {S : Type 0} (kept_at : S → ℕ → ℕ → Option KeptSender)
    (waits : S → ℕ → ℕ → List (List ℕ)) (records : S → ℕ → List (List ℕ))
    (sending : List Sending) (receiving : List Receiving) (IsSide : ℕ → ℕ → Type 0)
    (sides : AllByRecursion (λ (end : Sending). IsSide end.terminal end.select) sending)
    (differ : ChannelsDiffer sending receiving) (most : (t s : ℕ) → AtMostOne t s sending) where
  pub one_changed : (t s : ℕ) (old new : S) (its : Channel) (change : Change)
      → channel_in change ≡ its → channel_to t s sending ≡ Some its
      → OnlySide kept_at waits records t s old new IsSide → (has left : Channel → Contents)
      → KeepsOne change has left
      → (HasSentIf (has its) (kept_at old t s) (waits old t s)
      → HasSentIf (left its) (kept_at new t s) (waits new t s))
      → HasStation kept_at waits records has sending receiving old
      → HasStation kept_at waits records left sending receiving new
  one_changed t s old new its change is_its found only has left keeps here all =
      let out =
      changed_on kept_at waits records t s old new IsSide only its change is_its has left keeps here
      sending (receiving_channels receiving) found differ sides (most t s) all.sent in
      record {
        sent = out.sent;
        received =
            received_on kept_at waits records t s old new IsSide only its change is_its has left
            keeps here receiving out.apart all.received;
      }

-- a terminal has no other sending side
own_only : (terminal : TerminalValue) (t s : ℕ) (its : Channel) (old new : LineTerminalValue)
    → channel_to t s (sends_from (Some terminal)) ≡ Some its
    → ((n : ℕ) → arrived_at_terminal new n ≡ arrived_at_terminal old n)
    → OnlySide kept_at_terminal waiting_at_terminal arrived_at_terminal t s old new IsOwnSide
own_only terminal t s its old new found arrived =
    let at = own_side terminal t s its found in
    let here : (i j : ℕ) → IsOwnSide i j → (nat_eq i t && nat_eq j s) ≡ true =
    λ i j side.
    let first : nat_eq i t ≡ true = grind (arith, nat_tests, side.0, at.0) in
    let second : nat_eq j s ≡ true = grind (arith, nat_tests, side.1, at.1) in
    and_from (nat_eq i t) (nat_eq j s) first second in
    record {
      kept = λ i j side elsewhere. let no = here i j side in absurd cc;
      waiting = λ i j side elsewhere. let no = here i j side in absurd cc;
      arrived = arrived;
    }

pub terminal_works : (terminal : TerminalValue) → HasDistinctAddresses terminal
    → FollowsWorks kept_at_terminal waiting_at_terminal arrived_at_terminal
    (sends_from (Some terminal)) (spools_of terminal)
    (λ (l : LineTerminalValue). IsTributary l.tributary) terminal_restarted TerminalReleases
    terminal_released terminal_with
terminal_works terminal distinct =
    let differ = terminal_channels_differ terminal distinct in
    record {
      begins = λ has l all.
          has_still kept_at_terminal waiting_at_terminal arrived_at_terminal l
          (terminal_restarted l)
          (λ t s. ap (λ d. Some (record { known = l.tributary.queue.known; doubt = d }))
          (cut_doubt l.tributary.sender.phase))
          (λ t s. refl) (λ n it got. got) has (sends_from (Some terminal)) (spools_of terminal) all;
      release = λ has left t s count its l is found accepts all keeps.
          one_changed kept_at_terminal waiting_at_terminal arrived_at_terminal
          (sends_from (Some terminal)) (spools_of terminal) IsOwnSide ((refl, refl), tt) differ
          (λ i j. (λ at. tt, tt)) t s l (terminal_released l t s count) its (Known its count 0) refl
          found (own_only terminal t s its l (terminal_released l t s count) found (λ n. refl)) has
          left keeps
          (λ had.
          by_phase l.tributary.sender.phase l.tributary.sender l.tributary.queue (has its) (left its)
          count keeps.changed is.ready.counts accepts had)
          all;
      offer = λ has left t s chars its l is found all keeps.
          let g = own_gains terminal t s chars its l is found in
          one_changed kept_at_terminal waiting_at_terminal arrived_at_terminal
          (sends_from (Some terminal)) (spools_of terminal) IsOwnSide ((refl, refl), tt) differ
          (λ i j. (λ at. tt, tt)) t s l (terminal_with l t s chars) its (Offered its chars) refl
          found
          (only_gains kept_at_terminal waiting_at_terminal arrived_at_terminal t s chars l
          (terminal_with l t s chars) IsOwnSide g)
          has left keeps
          (gains_here kept_at_terminal waiting_at_terminal arrived_at_terminal t s chars l
          (terminal_with l t s chars) IsOwnSide g its has left keeps)
          all;
    }
