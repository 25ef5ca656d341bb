-- What a step of a client leaves as it was.
use Rattle.std.proofs.Common.{◌≡◌, ℕ, List, [], ◌∷◌, ◌++◌, Bool, true, false, Option, Some, None}
use Rattle.std.proofs.Common.{Result, Ok, Err, refl, sym, ap, ap₂, ◌∙◌, inl, inr}
use Rattle.std.specs.Prelude.{if◌then◌else◌}
use Rattle.bsc_station.specs.declared.party.Party as party_of
use Rattle.bsc_feed.specs.declared.client.Client.{Client}
use Rattle.bsc_feed.specs.declared.fault.Fault.{Fault}
use Rattle.bsc_feed.specs.declared.told.Told.{Told}
use Rattle.bsc_feed.specs.Answering.{Answers, Does, DoesIf, Serving, asked_of}
use Rattle.bsc_feed.specs.Clients.{NextsIn, Nexts, TellsAnswer, TellsPlace, TellsState}
use Rattle.bsc_feed.specs.Commands.{Asked, offer, status, release, ready, urgent, poll, follow}
use Rattle.bsc_feed.specs.Commands.{stop}
use Rattle.bsc_feed.specs.Following.{FollowsValue}
use Rattle.bsc_feed.specs.Lines.{line_of}
use Rattle.bsc_feed.specs.Sessions.{Event, IsNoFollow, line_of_event, octets_of_event, step_by}
use Rattle.bsc_feed.specs.Sessions.{step_of, waiting_of}

-- the same lines, waiting and follows
pub record Keeps (old new : Client) : Type 0 where
  pub lines : new.lines ≡ old.lines
  pub waits : new.waits ≡ old.waits
  pub follows : new.follows ≡ old.follows

keeps_place : (found : Option ℕ) (old : Client) (told : Told) (new : Client)
    → TellsPlace found old told new → Keeps old new
keeps_place None old told new (is, same) = record {
  lines = ap (λ (c : Client). c.lines) same;
  waits = ap (λ (c : Client). c.waits) same;
  follows = ap (λ (c : Client). c.follows) same;
}
keeps_place (Some place) old told new (is, same) = record {
  lines = ap (λ (c : Client). c.lines) same;
  waits = ap (λ (c : Client). c.waits) same;
  follows = ap (λ (c : Client). c.follows) same;
}

-- a waiting line, by the flag
pub waits_as : (client : Client) (waits : Bool) → client.waits ≡ waits
    → waiting_of client ≡ (if waits then client.lines.ended ∷ [] else [])
waits_as client waits e = ap (λ (b : Bool). if b then client.lines.ended ∷ [] else []) e

pub same_waiting : (old new : Client) → new.lines ≡ old.lines → new.waits ≡ old.waits
    → waiting_of new ≡ waiting_of old
same_waiting old new lines waits =
    ap₂ (λ (b : Bool) (l : List ℕ). if b then l ∷ [] else []) waits (ap (λ v. v.ended) lines)

module _ {S M : Type 0} (party : party_of.Ghosts S M) where
  keeps_state : (station : S) (old : Client) (from : ℕ) (told : Told) (new : Client)
      → TellsState party station old from told new → Keeps old new
  keeps_state station old from told new (found, first, tells) = keeps_place found old told new tells

  keeps_answer : (answer : Option Told) (station : S) (old : Client) (told : Option Told)
      (new : Client) → TellsAnswer party answer station old told new → Keeps old new
  keeps_answer (Some answer) station old told new (is, same) = record {
    lines = ap (λ (c : Client). c.lines) same;
    waits = ap (λ (c : Client). c.waits) same;
    follows = ap (λ (c : Client). c.follows) same;
  }
  keeps_answer None station old told new (first, tells, is) =
      keeps_state station old 0 first new tells

module _ {S M : Type 0} (party : party_of.Ghosts S M) (serves : Serving S) where
  -- what a step says of the lines: the line that it obeyed was the one that waited
  pub record StepsLines (event : Event S) (old new : Client) : Type 0 where
    pub lines : new.lines ≡ old.lines
    pub octets : octets_of_event event ≡ []
    pub obeyed : line_of_event event ++ waiting_of new ≡ waiting_of old

  steps_lines_in : (telling : Option ℕ) (waits : Bool) (old : Client) (before : S)
      (told : Option Told) (new : Client) (after : S) → old.waits ≡ waits
      → NextsIn party serves telling waits old before told new after
      → StepsLines (step_by telling waits old.lines.ended before told after) old new
  steps_lines_in (Some place) waits old before told new after e (first, tells, is, same) =
      let keeps = keeps_state party before old place first new tells in record {
        lines = keeps.lines;
        octets = refl;
        obeyed = same_waiting old new keeps.lines keeps.waits;
      }
  steps_lines_in None false old before told new after e (tells, is, same) =
      let lines : new.lines ≡ old.lines = ap (λ (c : Client). c.lines) is in record {
        lines = lines;
        octets = refl;
        obeyed = same_waiting old new lines (ap (λ (c : Client). c.waits) is);
      }
  steps_lines_in None true old before told new after e (answer, follows, answers, tells) =
      let mid : Client = record old { waits = false; follows = follows } in
      let keeps = keeps_answer party answer after mid told new tells in record {
        lines = keeps.lines;
        octets = refl;
        obeyed =
            ap (λ l. old.lines.ended ∷ l) (waits_as new false keeps.waits)
            ∙ sym (waits_as old true e);
      }

  pub steps_lines : (old : Client) (before : S) (told : Option Told) (new : Client) (after : S)
      → Nexts party serves old before told new after
      → StepsLines (step_of old before told after) old new
  steps_lines old before told new after nexts =
      steps_lines_in old.telling old.waits old before told new after refl nexts

  changes_by_lines_in : (telling : Option ℕ) (waits : Bool) (old : Client) (before : S)
      (told : Option Told) (new : Client) (after : S) → waits ≡ false
      → NextsIn party serves telling waits old before told new after → after ≡ before
  changes_by_lines_in (Some place) waits old before told new after e (first, tells, is, same) = same
  changes_by_lines_in None false old before told new after e (tells, is, same) = same
  changes_by_lines_in None true old before told new after e nexts = absurd (cc)

  -- without a line that waits the station is as it was
  pub changes_by_lines : (old new : Client) (before after : S) (told : Option Told)
      → old.waits ≡ false → Nexts party serves old before told new after → after ≡ before
  changes_by_lines old new before after told e nexts =
      changes_by_lines_in old.telling old.waits old before told new after e nexts

  does_no_follow : (asked : Asked) (follows : FollowsValue) (before : S) (answer : Option Told)
      (after : FollowsValue) (new : S) → IsNoFollow (Ok asked)
      → Does party serves asked follows before answer after new → after ≡ follows
  does_no_follow (offer channel given) follows before answer after new unasked does = does.5
  does_no_follow status follows before answer after new unasked does = does.1
  does_no_follow (release channel count) follows before answer after new unasked does = does.5
  does_no_follow (ready takes) follows before answer after new unasked does = does.3
  does_no_follow urgent follows before answer after new unasked does = does.3
  does_no_follow (poll terminal polled) follows before answer after new unasked does = does.3
  does_no_follow (follow channel from) follows before answer after new unasked does = absurd unasked
  does_no_follow stop follows before answer after new unasked does = does.2

  does_if_no_follow : (asked : Result Asked Fault) (follows : FollowsValue) (before : S)
      (answer : Option Told) (after : FollowsValue) (new : S) → IsNoFollow asked
      → DoesIf party serves asked follows before answer after new → after ≡ follows
  does_if_no_follow (Err fault) follows before answer after new unasked does = does.1
  does_if_no_follow (Ok asked) follows before answer after new unasked does =
      does_no_follow asked follows before answer after new unasked does

  -- a line that does not ask for a channel to be followed leaves what is followed
  pub answers_no_follow : (line : Option (List ℕ)) (follows : FollowsValue) (before : S)
      (answer : Option Told) (after : FollowsValue) (new : S) → IsNoFollow (asked_of line)
      → Answers party serves line follows before answer after new → after ≡ follows
  answers_no_follow line follows before answer after new unasked (inl does) =
      does_if_no_follow (asked_of line) follows before answer after new unasked does
  answers_no_follow line follows before answer after new unasked (inr does) = does.1.1

  -- a step that obeys such a line too
  pub line_no_follow : (old : Client) (before : S) (told : Option Told) (new : Client) (after : S)
      → IsNoFollow (asked_of (line_of old.lines.ended))
      → NextsIn party serves None true old before told new after → new.follows ≡ old.follows
  line_no_follow old before told new after unasked (answer, follows, answers, tells) =
      let mid : Client = record old { waits = false; follows = follows } in
      let keeps = keeps_answer party answer after mid told new tells in
      keeps.follows
      ∙ answers_no_follow (line_of old.lines.ended) old.follows before answer follows after unasked
      answers

  -- a step that tells more of an answer too
  pub state_no_follow : (place : ℕ) (waits : Bool) (old : Client) (before : S)
      (told : Option Told) (new : Client) (after : S)
      → NextsIn party serves (Some place) waits old before told new after
      → new.follows ≡ old.follows
  state_no_follow place waits old before told new after (first, tells, is, same) =
      (keeps_state party before old place first new tells).follows
