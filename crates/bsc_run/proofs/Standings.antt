-- The channels before an event, as the trace knows them.
use Rattle.std.proofs.Common.{◌≡◌, ◌<◌, ◌≤◌, ℕ, zero, suc, List, [], ◌∷◌, ◌++◌, ap, ◌∙◌, arith}
use Rattle.std.proofs.Common.{Ok, append_assoc, Bool, true, false, if◌then◌else◌, subst, sym}
use Rattle.std.proofs.Common.{Option}
use Rattle.std.specs.List.{All}
use Rattle.std.specs.Io.KnownBytes.{Appends}
use Rattle.std.proofs.KnownBytes.{Appends-trans}
use Rattle.bsc_config.specs.Events.{Event as Asked}
use Rattle.bsc_run.specs.Changes.{changes, changes_since, event_lines}
use Rattle.bsc_run.specs.Traces.{if_traced, lines_of, number_if}
use Rattle.std.proofs.lemmas.List.Elements.{All-append, All-cons, All-head, All-nil, All-tail}
use Rattle.bsc_bid.specs.declared.way.Way.TheVariants.{FromTerminal, ToTerminal}
use Rattle.bsc_line_model.specs.declared.event.Event.{Event}
use Rattle.bsc_line_model.specs.Line.{LineValue, terminal_count, IsChannel}
use Rattle.bsc_line_model.specs.Offers.{select_count}
use Rattle.bsc_line_model.specs.Runs.{Does}
use Rattle.bsc_line_model.proofs.OfferedGrows.{channel_stays}
use Rattle.bsc_run.specs.Changes.{standing_at, standing_on, standings_below, standings_of}
use Rattle.bsc_run.specs.Changes.{standings_to}
use Rattle.bsc_run.specs.declared.standing.ChannelStanding.{ChannelStanding}

-- a list with one more part
pub joined : {X : Type 0} (a b c d e : List X) → b ≡ a ++ c → d ≡ b ++ e → d ≡ a ++ (c ++ e)
joined a b c d e p q = q ∙ ap (λ x. x ++ e) p ∙ append_assoc a c e

-- the channel is one of the line
abbrev pub IsOn : LineValue → ChannelStanding → Type 0
IsOn l one = IsChannel l one.terminal one.way

to_are_on : (l : LineValue) (t n : ℕ) → t < terminal_count l → n ≤ select_count l t
    → All (IsOn l) (standings_to l t n)
to_are_on l t zero there h = All-nil (IsOn l)
to_are_on l t (suc n) there h =
    All-append (IsOn l) (standings_to l t n) (standing_on l t (ToTerminal n) ∷ [])
    (to_are_on l t n there (omega arith))
    (All-cons (IsOn l) (standing_on l t (ToTerminal n)) []
    (record { there = there; its_way = omega arith }) (All-nil (IsOn l)))

below_are_on : (l : LineValue) (n : ℕ) → n ≤ terminal_count l → All (IsOn l) (standings_below l n)
below_are_on l zero h = All-nil (IsOn l)
below_are_on l (suc n) h =
    All-append (IsOn l) (standings_below l n) (standing_at l n) (below_are_on l n (omega arith))
    (All-append (IsOn l) (standing_on l n FromTerminal ∷ []) (standings_to l n (select_count l n))
    (All-cons (IsOn l) (standing_on l n FromTerminal) []
    (record { there = omega arith; its_way = tt }) (All-nil (IsOn l)))
    (to_are_on l n (select_count l n) (omega arith) (omega arith)))

all_stay : (old new : LineValue) (xs : List ChannelStanding) (e : Event) → Does e old (Ok tt) new
    → All (IsOn old) xs → All (IsOn new) xs
all_stay old new [] e d h = All-nil (IsOn new)
all_stay old new (x ∷ xs) e d h =
    All-cons (IsOn new) x xs
    (channel_stays e old new x.terminal x.way d (All-head (IsOn old) x xs h))
    (all_stay old new xs e d (All-tail (IsOn old) x xs h))

-- the channels from before an accepted event are channels of the line after it
pub are_on : (tracing : Bool) (xs : List ChannelStanding) (e : Event) (old new : LineValue)
    → xs ≡ (if tracing then standings_of old else []) → Does e old (Ok tt) new
    → All (IsOn new) xs
are_on true xs e old new is d =
    subst (All (IsOn new)) (sym is)
    (all_stay old new (standings_of old) e d
    (below_are_on old (terminal_count old) (omega arith)))
are_on false xs e old new is d = subst (All (IsOn new)) (sym is) (All-nil (IsOn new))

-- the lines for what an event is and for what it changed, one after another
pub event_traced : (tracing : Bool) (line : ℕ) (number : Option ℕ) (asked : Asked) (e : Event)
    (old new : LineValue) (xs : List ChannelStanding) (trusted : Bool)
    (a b c : Option (List ℕ)) → number ≡ number_if tracing line
    → xs ≡ (if tracing then standings_of old else []) → trusted ≡ old.trusted
    → Appends a b (if_traced number (λ n. lines_of n asked e old))
    → Appends b c (if_traced number (λ n. changes_since n xs trusted new))
    → Appends a c (if_traced (number_if tracing line) (λ n. event_lines n asked e old new))
event_traced true line number asked e old new xs trusted a b c is all same p q =
    Appends-trans a b c (lines_of line asked e old) (changes line old new) (rw is at p)
    (rw (is, all, same) at q)
event_traced false line number asked e old new xs trusted a b c is all same p q =
    Appends-trans a b c [] [] (rw is at p) (rw is at q)
