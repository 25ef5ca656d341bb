-- A change of one channel on which a station sends changes nothing of the others.
use Rattle.std.proofs.Common.{◌≡◌, ◌≢◌, ◌∙◌, ℕ, nat_eq, ◌&&◌, Bool, true, false, cond, List, []}
use Rattle.std.proofs.Common.{◌∷◌, ◌++◌, length, Option, Some, refl, sym, ap, subst, arith}
use Rattle.std.proofs.lemmas.Bool.{and_parts}
use Rattle.std.proofs.lemmas.Bool.Decides.{nat_tests}
use Rattle.std.specs.List.{AllByRecursion, find}
use Rattle.bsc_bid.specs.declared.kept.KeptSender.{KeptSender}
use Rattle.bsc_spool.specs.Contents.{Contents}
use Rattle.bsc_spool.specs.declared.change.Change.{Change}
use Rattle.bsc_spool.specs.declared.channel.Channel.{Channel}
use Rattle.bsc_spool.specs.declared.ends.Receiving.{Receiving}
use Rattle.bsc_spool.specs.declared.ends.Sending.{Sending}
use Rattle.bsc_keeping.specs.Offers.{channel_of, channel_to, is_end_to}
use Rattle.bsc_restarts.specs.Crashes.{AllDiffer, KeepsOne, channel_in}
use Rattle.bsc_restarts.specs.Kept.{HasAllReceived, HasReceivedOn, HasSentIf, HasSentOn}
use Rattle.bsc_restarts.specs.Kept.{KnowsReceived, KnowsSent, receiving_channels, sending_channels}
use Rattle.bsc_restarts.proofs.Lists.{all_parts}

-- none of these ends is that of this selection address of this terminal, or at most one
abbrev pub NoneAt : ℕ → ℕ → List Sending → Type 0
NoneAt t s ends = AllByRecursion (λ (end : Sending). is_end_to t s end ≡ false) ends

abbrev pub AtMostOne : ℕ → ℕ → List Sending → Type 0
AtMostOne t s [] = Unit {0}
AtMostOne t s (end ∷ ends) = (is_end_to t s end ≡ true → NoneAt t s ends) × AtMostOne t s ends

-- what holds of all channels holds of one that is found
found_either : (P : Channel → Type 0) (b : Bool) (end : Sending) (rest : Option Sending)
    (its : Channel) → channel_of (cond b (Some end) rest) ≡ Some its → P end.channel
    → (channel_of rest ≡ Some its → P its) → P its
found_either P true end rest its found one later =
    let is : end.channel ≡ its = cc in subst P is one
found_either P false end rest its found one later = later found

found_channel : (P : Channel → Type 0) (t s : ℕ) (ends : List Sending) (others : List Channel)
    (its : Channel) → channel_to t s ends ≡ Some its
    → AllByRecursion P (sending_channels ends ++ others) → P its
found_channel P t s [] others its found all = absurd cc
found_channel P t s (end ∷ ends) others its found (one, all) =
    found_either P (is_end_to t s end) end (find (is_end_to t s) ends) its found one
    (λ later. found_channel P t s ends others its later all)

-- nothing of a station changes but what is to be kept of one sending side
module _ {S : Type 0} (kept_at : S → ℕ → ℕ → Option KeptSender)
    (waits : S → ℕ → ℕ → List (List ℕ)) (records : S → ℕ → List (List ℕ)) (t s : ℕ)
    (old new : S) (IsSide : ℕ → ℕ → Type 0) where
  pub record OnlySide : Type 0 where
    pub kept : (i j : ℕ) → IsSide i j → (nat_eq i t && nat_eq j s) ≡ false
        → kept_at new i j ≡ kept_at old i j
    pub waiting : (i j : ℕ) → IsSide i j → (nat_eq i t && nat_eq j s) ≡ false
        → waits new i j ≡ waits old i j
    pub arrived : (n : ℕ) → records new n ≡ records old n

  module _ (only : OnlySide) (its : Channel) (change : Change) (is_its : channel_in change ≡ its)
      (has left : Channel → Contents) (keeps : KeepsOne change has left)
      (here : HasSentIf (has its) (kept_at old t s) (waits old t s)
      → HasSentIf (left its) (kept_at new t s) (waits new t s)) where
    abbrev Before : Sending → Type 0
    Before = HasSentOn kept_at waits records has old

    abbrev After : Sending → Type 0
    After = HasSentOn kept_at waits records left new

    stays : (channel : Channel) → channel ≢ its → left channel ≡ has channel
    stays channel other =
        keeps.others channel (subst (λ c. channel ≢ c) (sym is_its) other)

    -- the end of its channel
    this_sent : (end : Sending) → end.channel ≡ its → is_end_to t s end ≡ true → Before end
        → After end
    this_sent end is at has_one =
        let both = and_parts (nat_eq end.terminal t) (nat_eq end.select s) at in
        let terminal : end.terminal ≡ t = grind (arith, nat_tests, both.0) in
        let select : end.select ≡ s = grind (arith, nat_tests, both.1) in
        let made =
        here
        (subst (λ j. HasSentIf (has its) (kept_at old t j) (waits old t j)) select
        (subst (λ i. HasSentIf (has its) (kept_at old i end.select) (waits old i end.select)) terminal
        (subst (λ c. HasSentIf (has c) (kept_at old end.terminal end.select)
        (waits old end.terminal end.select)) is has_one))) in
        subst (λ c. HasSentIf (left c) (kept_at new end.terminal end.select)
        (waits new end.terminal end.select)) (sym is)
        (subst (λ i. HasSentIf (left its) (kept_at new i end.select) (waits new i end.select))
        (sym terminal)
        (subst (λ j. HasSentIf (left its) (kept_at new t j) (waits new t j)) (sym select) made))

    -- another one
    other_sent : (end : Sending) → end.channel ≢ its → IsSide end.terminal end.select
        → is_end_to t s end ≡ false → Before end → After end
    other_sent end apart side elsewhere has_one =
        subst (λ it. HasSentIf it (kept_at new end.terminal end.select)
        (waits new end.terminal end.select)) (sym (stays end.channel apart))
        (subst (λ k. HasSentIf (has end.channel) k (waits new end.terminal end.select))
        (sym (only.kept end.terminal end.select side elsewhere))
        (subst (HasSentIf (has end.channel) (kept_at old end.terminal end.select))
        (sym (only.waiting end.terminal end.select side elsewhere)) has_one))

    abbrev AreSides : List Sending → Type 0
    AreSides ends = AllByRecursion (λ (end : Sending). IsSide end.terminal end.select) ends

    others_sent : (ends : List Sending) (others : List Channel)
        → AllByRecursion (λ c. c ≢ its) (sending_channels ends ++ others) → AreSides ends
        → NoneAt t s ends → AllByRecursion Before ends → AllByRecursion After ends
    others_sent [] others apart sides none all = tt
    others_sent (end ∷ ends) others (one_apart, apart) (side, sides) (elsewhere, none) (one, all) =
        (other_sent end one_apart side elsewhere one, others_sent ends others apart sides none all)

    -- the numbers that are kept of a channel, if those of its own stay
    abbrev NumbersStay : Type 0
    NumbersStay =
        ((left its).known ≡ (has its).known) × ((left its).in_doubt ≡ (has its).in_doubt)

    knows_this : NumbersStay → (end : Sending) → end.channel ≡ its → KnowsSent has end
        → KnowsSent left end
    knows_this (same_known, same_doubt) end is (known, in_doubt) = (
      ap (λ c. (left c).known) is ∙ same_known ∙ ap (λ c. (has c).known) (sym is) ∙ known,
      ap (λ c. (left c).in_doubt) is ∙ same_doubt ∙ ap (λ c. (has c).in_doubt) (sym is)
          ∙ in_doubt,
    )

    knows_other : (end : Sending) → end.channel ≢ its → KnowsSent has end → KnowsSent left end
    knows_other end apart knows =
        subst (λ (it : Contents). (it.known ≡ end.known) × (it.in_doubt ≡ end.in_doubt))
        (sym (stays end.channel apart)) knows

    know_others : (ends : List Sending) (others : List Channel)
        → AllByRecursion (λ c. c ≢ its) (sending_channels ends ++ others)
        → AllByRecursion (KnowsSent has) ends → AllByRecursion (KnowsSent left) ends
    know_others [] others apart all = tt
    know_others (end ∷ ends) others (one_apart, apart) (one, all) =
        (knows_other end one_apart one, know_others ends others apart all)

    pub record Outcome (ends : List Sending) (others : List Channel) : Type 0 where
      pub sent : AllByRecursion After ends
      pub knows : NumbersStay → AllByRecursion (KnowsSent has) ends
          → AllByRecursion (KnowsSent left) ends
      pub apart : AllByRecursion (λ c. c ≢ its) others

    -- the first end is the one, or it is a later one
    by_first : (b : Bool) (end : Sending) (ends : List Sending) (others : List Channel)
        → is_end_to t s end ≡ b
        → channel_of (cond b (Some end) (find (is_end_to t s) ends)) ≡ Some its
        → AllDiffer (sending_channels (end ∷ ends) ++ others) → AreSides (end ∷ ends)
        → AtMostOne t s (end ∷ ends) → AllByRecursion Before (end ∷ ends)
        → (channel_to t s ends ≡ Some its → Outcome ends others) → Outcome (end ∷ ends) others
    by_first true end ends others at found (apart, differ) (side, sides) (one_only, rest) (one, all)
        later =
        let is : end.channel ≡ its = cc in
        let from_its : AllByRecursion (λ c. c ≢ its) (sending_channels ends ++ others) =
        subst (λ i. AllByRecursion (λ c. c ≢ i) (sending_channels ends ++ others)) is apart in
        record {
          sent = (
            this_sent end is at one,
            others_sent ends others from_its sides (one_only at) all,
          );
          knows = λ numbers known.
              (knows_this numbers end is known.0, know_others ends others from_its known.1);
          apart = (all_parts (λ c. c ≢ its) (sending_channels ends) others from_its).1;
        }
    by_first false end ends others at found (apart, differ) (side, sides) (one_only, rest) (one, all)
        later =
        let its_other : its ≢ end.channel =
        found_channel (λ c. c ≢ end.channel) t s ends others its found apart in
        let beside : end.channel ≢ its = λ e. its_other (sym e) in
        let out = later found in
        record {
          sent = (other_sent end beside side at one, out.sent);
          knows = λ numbers known.
              (knows_other end beside known.0, out.knows numbers known.1);
          apart = out.apart;
        }

    pub changed_on : (ends : List Sending) (others : List Channel)
        → channel_to t s ends ≡ Some its → AllDiffer (sending_channels ends ++ others)
        → AreSides ends → AtMostOne t s ends → AllByRecursion Before ends → Outcome ends others
    changed_on [] others found differ sides most all = absurd cc
    changed_on (end ∷ ends) others found differ sides most all =
        by_first (is_end_to t s end) end ends others refl found differ sides most all
        (λ later. changed_on ends others later differ.1 sides.1 most.1 all.1)

    -- what arrived on other channels stays
    pub received_on : (ends : List Receiving)
        → AllByRecursion (λ c. c ≢ its) (receiving_channels ends)
        → AllByRecursion (HasReceivedOn kept_at waits records has old) ends
        → AllByRecursion (HasReceivedOn kept_at waits records left new) ends
    received_on [] apart all = tt
    received_on (end ∷ ends) (one_apart, apart) (one, all) = (
      subst (λ it. HasAllReceived it (records new end.number))
          (sym (stays end.channel one_apart))
          (subst (HasAllReceived (has end.channel)) (sym (only.arrived end.number)) one),
      received_on ends apart all,
    )

    pub knows_on : (ends : List Receiving)
        → AllByRecursion (λ c. c ≢ its) (receiving_channels ends)
        → AllByRecursion (KnowsReceived has) ends → AllByRecursion (KnowsReceived left) ends
    knows_on [] apart all = tt
    knows_on (end ∷ ends) (one_apart, apart) (one, all) = (
      subst (λ (it : Contents). length it.arrived ≡ end.arrived)
          (sym (stays end.channel one_apart)) one,
      knows_on ends apart all,
    )
