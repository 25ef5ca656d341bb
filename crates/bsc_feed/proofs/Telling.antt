-- What is told of a channel that is followed, through a whole session.
use Rattle.std.proofs.Common.{◌≡◌, ◌<◌, ◌≢◌, ℕ, suc, ◌+◌, List, [], ◌∷◌, ◌++◌, length, take, drop, Bool}
use Rattle.std.proofs.Common.{true, false, Option, Some, None, refl, sym, ap, ap₂, ◌∙◌, subst, arith}
use Rattle.std.proofs.Common.{get_or, length-append, append_assoc, append-nil, set, add-one}
use Rattle.std.proofs.Common.{add-zero, inl, inr}
use Rattle.std.proofs.Math.Seq.{drop-cons}
use Rattle.std.proofs.lemmas.Bool.{eqb-true, eqb-false, eq-eqb, ltb-true}
use Rattle.std.proofs.lemmas.List.{get_or_append_left, get_or-set_other, get_or-set_same, length-set}
use Rattle.std.proofs.lemmas.Option.{get_or_from_slice_get, same_Some, slice_get-get_or}
use Rattle.std.proofs.lemmas.Option.{slice_get_within}
use Rattle.std.proofs.lemmas.Option.{unwrap_or-slice_get}
use Rattle.std.specs.Option.{option_and_then}
use Rattle.std.specs.Prelude.{◌⊎◌, if◌then◌else◌, nat_eq, nat_lt, slice_get, slice_set}
use Rattle.bsc_station.specs.Ends.{End, sending, receiving}
use Rattle.bsc_station.specs.declared.party.Party as party_of
use Rattle.bsc_feed.specs.declared.client.Client.{Client}
use Rattle.bsc_feed.specs.declared.news.News.{News}
use Rattle.bsc_feed.specs.declared.told.Told.{Told}
use Rattle.bsc_feed.specs.declared.told.Told.TheVariants.{Arrived, Delivered}
use Rattle.bsc_feed.specs.Answering.{Serving}
use Rattle.bsc_feed.specs.Clients.{NextsIn, TakesUnless}
use Rattle.bsc_feed.specs.Following.{FollowsValue, TellsAt, TellsNext}
use Rattle.bsc_feed.specs.News.{news_of, tells as news}
use Rattle.bsc_feed.specs.Places.{end_at}
use Rattle.bsc_feed.specs.Sessions.{AreFollowedOn, Event, HasArrived, IsFollowedOn, Numbered}
use Rattle.bsc_feed.specs.Sessions.{Session, TellsEach, arrival_in, ended, moves, numbered_from}
use Rattle.bsc_feed.specs.Sessions.{step_by, step_of, takes, tells, told_in, told_in_event}
use Rattle.bsc_feed.specs.Texts.{record_at}
use Rattle.bsc_feed.proofs.Steps.{line_no_follow, state_no_follow}

-- the news of a channel on which the station receives
news_received : (records : List (List ℕ)) (place next : ℕ) (found : News)
    → news_of (receiving records) place next ≡ Some found
    → (next < length records) × (found ≡ news (Arrived place next) (next + 1))
news_received records place next found = by (nat_lt next (length records)) refl
  where
    by : (b : Bool) → nat_lt next (length records) ≡ b
        → (if b then Some (news (Arrived place next) (next + 1)) else None) ≡ Some found
        → (next < length records) × (found ≡ news (Arrived place next) (next + 1))
    by true e is = (ltb-true next (length records) e, sym (same_Some _ _ is))
    by false e is = absurd (cc)

-- a followed place is one of the list
following : (follows : FollowsValue) (place next : ℕ) → slice_get follows place ≡ Some (Some next)
    → place < length follows
following follows place next is = slice_get_within follows place (Some next) is

-- the number at a place that is noted
noted_here : (follows : FollowsValue) (place : ℕ) (next : Option ℕ) → place < length follows
    → slice_get (slice_set follows place next) place ≡ Some next
noted_here follows place next within =
    let long : place < length (set follows place next) = rw length-set within in
    slice_get-get_or (set follows place next) place next long
    ∙ ap (λ x. Some x) (get_or-set_same follows place next next within)

noted_elsewhere : (follows : FollowsValue) (place other : ℕ) (noted : Option ℕ) (next : Option ℕ)
    → other ≢ place → slice_get follows other ≡ Some next
    → slice_get (slice_set follows place noted) other ≡ Some next
noted_elsewhere follows place other noted next differ is =
    let within = slice_get_within follows other next is in
    let long : other < length (set follows place noted) = rw length-set within in
    slice_get-get_or (set follows place noted) other next long
    ∙ ap (λ x. Some x) (get_or-set_other follows place other noted next differ)
    ∙ ap (λ x. Some x) (get_or_from_slice_get follows other next next is)

-- one more record is told
more_told : (all : List (List ℕ)) (from : ℕ) (told : List (List ℕ)) → from < length all
    → told ≡ take (length told) (drop (from + 1) all)
    → get_or all from [] ∷ told ≡ take (length (get_or all from [] ∷ told)) (drop from all)
more_told all from told within those =
    let split : drop from all ≡ get_or all from [] ∷ drop (suc from) all = drop-cons all from [] within in
    let rest : told ≡ take (length told) (drop (suc from) all) =
    subst (λ (n : ℕ). told ≡ take (length told) (drop n all)) (add-one from) those in
    ap (λ l. get_or all from [] ∷ l) rest ∙ sym (ap (λ l. take (suc (length told)) l) split)

module _ {S M : Type 0} (party : party_of.Ghosts S M) where
  -- what is told of another place is not told of this one
  told_elsewhere : (station : S) (end : End) (at place next : ℕ) (found : News)
      → nat_eq at place ≡ false → news_of end at next ≡ Some found
      → arrival_in party place station (Some found.told) ≡ []
  told_elsewhere station (sending offered known doubt) at place next found differ is =
      by (nat_lt next known) is
    where
      by : (b : Bool) → (if b then Some (news (Delivered at known) known) else None) ≡ Some found
          → arrival_in party place station (Some found.told) ≡ []
      by true is =
          ap (λ (n : News). arrival_in party place station (Some n.told)) (sym (same_Some _ _ is))
      by false is = absurd (cc)
  told_elsewhere station (receiving records) at place next found differ is =
      ap (λ (n : News). arrival_in party place station (Some n.told))
      (news_received records at next found is).1
      ∙ ap (λ (b : Bool). if b then record { number = next; chars = record_at (end_at party station at) next } ∷ [] else []) differ

-- a step that tells nothing of the place, or the record of the next number
pub record Quiet (told : List Numbered) (follows : FollowsValue) (place from : ℕ) : Type 0 where
  pub nothing : told ≡ []
  pub next : slice_get follows place ≡ Some (Some from)

pub record One (told : List Numbered) (follows : FollowsValue) (place from : ℕ)
    (records : List (List ℕ)) : Type 0 where
  pub within : from < length records
  pub one : told ≡ record { number = from; chars = get_or records from [] } ∷ []
  pub next : slice_get follows place ≡ Some (Some (from + 1))

module _ {S M : Type 0} (party : party_of.Ghosts S M) (place : ℕ) where
  -- the record of the next number is told
  one_here : (station : S) (old : FollowsValue) (told : Told) (new : FollowsValue) (from : ℕ)
      (records : List (List ℕ)) → HasArrived party place station records
      → slice_get old place ≡ Some (Some from) → TellsAt party station place old told new
      → One (arrival_in party place station (Some told)) new place from records
  one_here station old told new from records has is at =
      let (next, is_next, due) = at.due in
      let number : next ≡ from = same_Some _ _ (same_Some _ _ (sym is_next ∙ is)) in
      let found : news_of (receiving records) place next ≡ Some at.news =
      sym (ap (option_and_then (λ (end : End). news_of end place next)) has.is) ∙ due in
      let news = news_received records place next at.news found in
      let is_told : told ≡ Arrived place from =
      at.is_told ∙ ap (λ (n : News). n.told) news.1 ∙ ap (λ (n : ℕ). Arrived place n) number in
      let chars : record_at (end_at party station place) from ≡ get_or records from [] =
      ap (λ (end : Option End). record_at end from) has.is ∙ unwrap_or-slice_get records from [] in
      record {
        within = subst (λ (n : ℕ). n < length records) number news.0;
        one =
            ap (λ (t : Told). arrival_in party place station (Some t)) is_told
            ∙ ap (λ (b : Bool). if b then record { number = from; chars = record_at (end_at party station place) from } ∷ [] else [])
            (eq-eqb place place refl)
            ∙ ap (λ (c : List ℕ). record { number = from; chars = c } ∷ []) chars;
        next =
            ap (λ (f : FollowsValue). slice_get f place) at.noted
            ∙ noted_here old place (Some at.news.next) (following old place from is)
            ∙ ap (λ (n : News). Some (Some n.next)) news.1
            ∙ ap (λ (n : ℕ). Some (Some (n + 1))) number;
      }

  -- something is told of another place
  quiet_here : (station : S) (old : FollowsValue) (told : Told) (new : FollowsValue)
      (at from : ℕ) → nat_eq at place ≡ false → slice_get old place ≡ Some (Some from)
      → TellsAt party station at old told new
      → Quiet (arrival_in party place station (Some told)) new place from
  quiet_here station old told new at from differ is tells_at =
      let (next, is_next, due) = tells_at.due in record {
        nothing =
            ap (λ (t : Told). arrival_in party place station (Some t)) tells_at.is_told
            ∙ by next (end_at party station at) due;
        next =
            ap (λ (f : FollowsValue). slice_get f place) tells_at.noted
            ∙ noted_elsewhere old at place (Some tells_at.news.next) (Some from)
            (λ e. eqb-false at place differ (sym e)) is;
      }
    where
      by : (next : ℕ) (end : Option End)
          → option_and_then (λ end. news_of end at next) end ≡ Some tells_at.news
          → arrival_in party place station (Some tells_at.news.told) ≡ []
      by next None due = absurd (cc)
      by next (Some end) due = told_elsewhere party station end at place next tells_at.news differ due

  -- what a step that tells of followed channels tells of this one
  news_step : (station : S) (old : FollowsValue) (told : Option Told) (new : FollowsValue)
      (from : ℕ) (records : List (List ℕ)) → HasArrived party place station records
      → slice_get old place ≡ Some (Some from) → TellsNext party station old told new
      → Quiet (arrival_in party place station told) new place from
      ⊎ One (arrival_in party place station told) new place from records
  news_step station old None new from records has is (quiet, same) = inl (record {
    nothing = refl;
    next = ap (λ (f : FollowsValue). slice_get f place) same ∙ is;
  })
  news_step station old (Some told) new from records has is (at, tells_at) =
      by (nat_eq at place) refl
    where
      by : (b : Bool) → nat_eq at place ≡ b
          → Quiet (arrival_in party place station (Some told)) new place from
          ⊎ One (arrival_in party place station (Some told)) new place from records
      by true e =
          inr (one_here station old told new from records has is
          (subst (λ (p : ℕ). TellsAt party station p old told new) (eqb-true at place e) tells_at))
      by false e = inl (quiet_here station old told new at from e is tells_at)

-- what is followed does not change where octets are taken
follows_taken : (waits : Bool) (old : Client) (octets : List ℕ) (count : ℕ) (mid : Client)
    → TakesUnless waits old octets count mid → mid.follows ≡ old.follows
follows_taken true old octets count mid (zero, same) = ap (λ (c : Client). c.follows) same
follows_taken false old octets count mid (whole, (fed, same)) = ap (λ (c : Client). c.follows) same

module _ {S M : Type 0} (party : party_of.Ghosts S M) (serves : Serving S) (place : ℕ) where
  -- what a step does to a place that is followed
  pub record Stepped (event : Event S) (mid : Client) (between : S) (from : ℕ)
      (records : List (List ℕ)) : Type 0 where
    pub more : List (List ℕ)
    pub arrived : HasArrived party place between (records ++ more)
    pub told : Quiet (told_in_event party place event) mid.follows place from
        ⊎ One (told_in_event party place event) mid.follows place from records

  unchanged : (before between : S) (records : List (List ℕ)) → between ≡ before
      → HasArrived party place before records → HasArrived party place between (records ++ [])
  unchanged before between records same has =
      subst (λ (s : S). HasArrived party place s (records ++ [])) (sym same)
      (subst (HasArrived party place before) (sym (append-nil records)) has)

  stepped : (telling : Option ℕ) (waits : Bool) (old : Client) (before : S) (told : Option Told)
      (mid : Client) (between : S) (from : ℕ) (records : List (List ℕ))
      → NextsIn party serves telling waits old before told mid between
      → IsFollowedOn party place (step_by telling waits old.lines.ended before told between)
      → HasArrived party place before records → slice_get old.follows place ≡ Some (Some from)
      → Stepped (step_by telling waits old.lines.ended before told between) mid between from records
  stepped (Some at) waits old before told mid between from records nexts on has is = record {
    more = [];
    arrived = unchanged before between records nexts.3 has;
    told = inl (record {
      nothing = refl;
      next =
          ap (λ (f : FollowsValue). slice_get f place)
          (state_no_follow party serves at waits old before told mid between nexts) ∙ is;
    });
  }
  stepped None true old before told mid between from records nexts on has is =
      let (more, arrived) = on.1 records has in record {
        more = more;
        arrived = arrived;
        told = inl (record {
          nothing = refl;
          next =
              ap (λ (f : FollowsValue). slice_get f place)
              (line_no_follow party serves old before told mid between on.0 nexts) ∙ is;
        });
      }
  stepped None false old before told mid between from records nexts on has is = record {
    more = [];
    arrived = unchanged before between records nexts.2 has;
    told = news_step party place before old.follows told mid.follows from records has is nexts.0;
  }

  -- the same for a whole session, in which the records that had arrived are the first
  pub record Each (events : List (Event S)) (new : Client) (after : S) (from : ℕ)
      (records : List (List ℕ)) : Type 0 where
    pub later : List (List ℕ)
    pub arrived : HasArrived party place after (records ++ later)
    pub told : List (List ℕ)
    pub are_told : told_in party place events ≡ numbered_from from told
    pub are_those : told ≡ take (length told) (drop from (records ++ later))
    pub next : slice_get new.follows place ≡ Some (Some (from + length told))

  -- one more step before
  step_before : (event : Event S) (events : List (Event S)) (mid : Client) (between : S)
      (new : Client) (after : S) (from : ℕ) (records : List (List ℕ))
      → Stepped event mid between from records
      → ((from : ℕ) (records : List (List ℕ)) → HasArrived party place between records
      → slice_get mid.follows place ≡ Some (Some from) → Each events new after from records)
      → Each (event ∷ events) new after from records
  step_before event events mid between new after from records step rest = by step.told
    where
      by : Quiet (told_in_event party place event) mid.follows place from
          ⊎ One (told_in_event party place event) mid.follows place from records
          → Each (event ∷ events) new after from records
      by (inl quiet) =
          let each = rest from (records ++ step.more) step.arrived quiet.next in
          let assoc = append_assoc records step.more each.later in record {
            later = step.more ++ each.later;
            arrived = subst (HasArrived party place after) assoc each.arrived;
            told = each.told;
            are_told = ap (λ l. l ++ told_in party place events) quiet.nothing ∙ each.are_told;
            are_those =
                subst (λ (l : List (List ℕ)). each.told ≡ take (length each.told) (drop from l))
                assoc each.are_those;
            next = each.next;
          }
      by (inr one) =
          let each = rest (from + 1) (records ++ step.more) step.arrived one.next in
          let assoc = append_assoc records step.more each.later in
          let all = records ++ (step.more ++ each.later) in
          let within : from < length all =
          omega (arith, one.within, length-append records (step.more ++ each.later)) in
          let first : get_or all from [] ≡ get_or records from [] =
          get_or_append_left records (step.more ++ each.later) [] from one.within in
          let those : each.told ≡ take (length each.told) (drop (from + 1) all) =
          subst (λ (l : List (List ℕ)). each.told ≡ take (length each.told) (drop (from + 1) l))
          assoc each.are_those in
          let count : from + 1 + length each.told ≡ from + suc (length each.told) = omega arith in
          record {
            later = step.more ++ each.later;
            arrived = subst (HasArrived party place after) assoc each.arrived;
            told = get_or records from [] ∷ each.told;
            are_told =
                ap₂ (λ (a b : List Numbered). a ++ b) one.one each.are_told;
            are_those =
                subst (λ (r : List ℕ). r ∷ each.told ≡ take (suc (length each.told)) (drop from all))
                first (more_told all from each.told within those);
            next = each.next ∙ ap (λ (n : ℕ). Some (Some n)) count;
          }

  pub each : {old new : Client} {before after : S} {events : List (Event S)}
      → Session party serves old before events new after → AreFollowedOn party place events
      → (from : ℕ) (records : List (List ℕ)) → HasArrived party place before records
      → slice_get old.follows place ≡ Some (Some from) → Each events new after from records
  each {after = after} ended on from records has is = record {
    later = [];
    arrived = subst (HasArrived party place after) (sym (append-nil records)) has;
    told = [];
    are_told = refl;
    are_those = refl;
    next = is ∙ ap (λ (n : ℕ). Some (Some n)) (sym (add-zero from));
  }
  each {old = old} (takes {mid = mid} octets count by rest) on from records has is =
      let later = each rest on.1 from records has
      (ap (λ (f : FollowsValue). slice_get f place) (follows_taken old.waits old octets count mid by)
      ∙ is) in record {
        later = later.later;
        arrived = later.arrived;
        told = later.told;
        are_told = later.are_told;
        are_those = later.are_those;
        next = later.next;
      }
  each {old = old} {new = new} {before = before} {after = after}
      (tells {mid = mid} {between = between} {events = events} told nexts rest) on from records has is =
      step_before (step_of old before told between) events mid between new after from records
      (stepped old.telling old.waits old before told mid between from records nexts on.0 has is)
      (each rest on.1)
  each {old = old} {new = new} {after = after}
      (moves {before = before} {between = between} {events = events} rest) on from records has is =
      let (more, arrived) = on.0 records has in
      step_before _ events old between new after from records
      (record {
        more = more;
        arrived = arrived;
        told = inl (record { nothing = refl; next = is });
      })
      (each rest on.1)

  pub tells_each : (old new : Client) (before after : S) (events : List (Event S)) (from : ℕ)
      (records : List (List ℕ)) → Session party serves old before events new after
      → AreFollowedOn party place events → HasArrived party place before records
      → slice_get old.follows place ≡ Some (Some from)
      → TellsEach party place old events new after from
  tells_each old new before after events from records session on has is =
      let all = each session on from records has is in record {
        all = records ++ all.later;
        arrived = all.arrived;
        told = all.told;
        are_told = all.are_told;
        are_those = all.are_those;
        next = all.next;
      }

pub tells_each_once : {S M : Type 0} (party : party_of.Ghosts S M) (serves : Serving S)
    (old new : Client) (before after : S) (events : List (Event S)) (place from : ℕ)
    (records : List (List ℕ)) → Session party serves old before events new after
    → AreFollowedOn party place events → HasArrived party place before records
    → slice_get old.follows place ≡ Some (Some from)
    → TellsEach party place old events new after from
tells_each_once party serves old new before after events place from records session on has is =
    tells_each party serves place old new before after events from records session on has is
