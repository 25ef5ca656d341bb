-- Feeding a station: what its fault says, and that this stays so while the writer keeps its
-- contents.
use Rattle.std.proofs.Common.{ℕ, List, ◌++◌, ◌∷◌, [], Option, Err, refl, sym, subst}
use Rattle.std.specs.Prelude.{IsErrOf}
use Rattle.std.specs.List.{flat_map}
use Rattle.std.specs.Io.KnownBytes.{Keeps}
use Rattle.std.proofs.KnownBytes.{Appends-kept}
use Rattle.bsc_clients.specs.Answers.{EndsInFault, line_shown}
use Rattle.bsc_clients.specs.Feeding.{FeedsWords, HasFed, turned}
use Rattle.bsc_clients.specs.declared.command.error.FeedError.{FeedError}
use Rattle.bsc_clients.specs.declared.command.error.FeedError.TheVariants as feed
use Rattle.bsc_command.specs.declared.fault.Fault.{Fault}
use Rattle.bsc_command.specs.declared.fault.Fault.TheVariants as fault
use Rattle.bsc_command.specs.Faults.{IsEarly, IsFeedFault, IsFeedingFault}
use Rattle.bsc_command.specs.Program.{HasFailedFeed}

-- the fault is one of feeding a station
pub feed_fault : (e : FeedError) (f : Fault) → IsFeedingFault e f → IsFeedFault f
feed_fault feed.NotOneLine (fault.Feeding error) p = tt
feed_fault feed.NotOneLine f p = p
feed_fault e f p = subst IsFeedFault (sym p) tt

-- the words were fed
fed_words_kept : (said_old said_new : Option (List ℕ)) (words : List (List ℕ))
    (input a b c : Option (List ℕ))
    → FeedsWords words input (turned said_old said_new a b) → Keeps b c
    → FeedsWords words input (turned said_old said_new a c)
fed_words_kept said_old said_new words input a b c p k =
    let feeds = p.feeds in
    record {
      text = p.text;
      takes_lines = p.takes_lines;
      given = p.given;
      feeds = record {
        sent = feeds.sent;
        answered = feeds.answered;
        followed = feeds.followed;
        asked = feeds.asked;
        said = feeds.said;
        faultless = feeds.faultless;
        each = feeds.each;
        ends = feeds.ends;
        printed = Appends-kept a b c (flat_map line_shown (feeds.answered ++ feeds.followed))
            feeds.printed k;
      };
    }

pub fed_kept : (words : List (List ℕ)) (input a b c : Option (List ℕ))
    → HasFed words input a b → Keeps b c → HasFed words input a c
fed_kept words input a b c p k = record {
  said_old = p.said_old;
  said_new = p.said_new;
  fed = fed_words_kept p.said_old p.said_new words input a b c p.fed k;
}

-- the last line that was printed is a fault
pub ends_in_fault_kept : (a b c : Option (List ℕ)) → EndsInFault a b → Keeps b c → EndsInFault a c
ends_in_fault_kept a b c p k = record {
  told = p.told;
  last = p.last;
  faultless = p.faultless;
  fault = p.fault;
  printed = Appends-kept a b c (flat_map line_shown (p.told ++ p.last ∷ [])) p.printed k;
}

fed_error_kept : (e : FeedError) (a b c : Option (List ℕ))
    → HasFailedFeed (fault.Feeding e) a b → Keeps b c → HasFailedFeed (fault.Feeding e) a c
fed_error_kept feed.Refused a b c p k = ends_in_fault_kept a b c p k
fed_error_kept feed.Address a b c p k = tt
fed_error_kept feed.NotPermitted a b c p k = tt
fed_error_kept feed.NobodyThere a b c p k = tt
fed_error_kept feed.Sockets a b c p k = tt
fed_error_kept feed.NotOneLine a b c p k = tt
fed_error_kept feed.Closed a b c p k = tt
fed_error_kept feed.TooLong a b c p k = tt
fed_error_kept feed.Input a b c p k = tt
fed_error_kept feed.Output a b c p k = tt
fed_error_kept feed.Memory a b c p k = tt

pub feed_failed_kept : (f : Fault) (a b c : Option (List ℕ)) → HasFailedFeed f a b → Keeps b c
    → HasFailedFeed f a c
feed_failed_kept (fault.Feeding e) a b c p k = fed_error_kept e a b c p k
feed_failed_kept (fault.Naming error) a b c p k = tt
feed_failed_kept (fault.Charting error) a b c p k = tt
feed_failed_kept (fault.Running error) a b c p k = tt
feed_failed_kept (fault.Attending error) a b c p k = tt
feed_failed_kept (fault.Storing error) a b c p k = tt
feed_failed_kept fault.Output a b c p k = tt
feed_failed_kept fault.OutOfMemory a b c p k = tt
feed_failed_kept (fault.Usage error) a b c p k = tt

-- it says that the station refused a command, if it did
pub feed_failed : (e : FeedError) (f : Fault) (a b : Option (List ℕ)) → IsFeedingFault e f
    → (IsErrOf {T = Unit {0}} (Err e) feed.Refused → EndsInFault a b) → HasFailedFeed f a b
feed_failed feed.NotOneLine (fault.Usage error) a b p q = tt
feed_failed feed.NotOneLine fault.OutOfMemory a b p q = tt
feed_failed feed.NotOneLine f a b p q = absurd p
feed_failed feed.Refused f a b p q = subst (λ x. HasFailedFeed x a b) (sym p) (q refl)
feed_failed feed.Address f a b p q = subst (λ x. HasFailedFeed x a b) (sym p) tt
feed_failed feed.NotPermitted f a b p q = subst (λ x. HasFailedFeed x a b) (sym p) tt
feed_failed feed.NobodyThere f a b p q = subst (λ x. HasFailedFeed x a b) (sym p) tt
feed_failed feed.Sockets f a b p q = subst (λ x. HasFailedFeed x a b) (sym p) tt
feed_failed feed.Closed f a b p q = subst (λ x. HasFailedFeed x a b) (sym p) tt
feed_failed feed.TooLong f a b p q = subst (λ x. HasFailedFeed x a b) (sym p) tt
feed_failed feed.Input f a b p q = subst (λ x. HasFailedFeed x a b) (sym p) tt
feed_failed feed.Output f a b p q = subst (λ x. HasFailedFeed x a b) (sym p) tt
feed_failed feed.Memory f a b p q = subst (λ x. HasFailedFeed x a b) (sym p) tt

-- it comes before anything is printed only if the words are more than one line
pub feed_early : (e : FeedError) (f : Fault) {Same : Type 0} → IsFeedingFault e f
    → (IsErrOf {T = Unit {0}} (Err e) feed.NotOneLine → Same) → IsEarly f → Same
feed_early feed.NotOneLine f p q early = q refl
feed_early e f p q early = absurd (subst IsEarly p early)
