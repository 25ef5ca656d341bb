-- A store has all that is to be kept of a station throughout a session, whatever a crash leaves.
use Rattle.std.proofs.Common.{drop, arith, ◌-◌, ◌≡◌, ◌∙◌, ℕ, Bool, true, false, List, [], ◌∷◌, ◌++◌, map}
use Rattle.std.proofs.Common.{Option, None, Some, Result, Ok, ◌⊎◌, inl, inr, refl, sym, ap}
use Rattle.std.proofs.Common.{subst}
use Rattle.std.specs.List.{AllByRecursion}
use Rattle.bsc_bid.specs.declared.kept.KeptSender.{KeptSender}
use Rattle.bsc_bid.specs.declared.station.Station as station_of
use Rattle.bsc_bid.specs.Ways.{select_of}
use Rattle.bsc_bid.specs.declared.way.Way.{Way}
use Rattle.bsc_spool.specs.Contents.{Contents}
use Rattle.bsc_spool.specs.declared.change.Change.{Change}
use Rattle.bsc_spool.specs.declared.change.Change.TheVariants.{Offered}
use Rattle.bsc_spool.specs.declared.channel.Channel.{Channel}
use Rattle.bsc_spool.specs.declared.ends.Receiving.{Receiving}
use Rattle.bsc_spool.specs.declared.ends.Sending.{Sending}
use Rattle.bsc_spool.specs.declared.fault.StoreFault.{StoreFault}
use Rattle.bsc_spool.specs.declared.store.Store as store_of
use Rattle.bsc_station.specs.declared.party.Party as party_of
use Rattle.bsc_keeping.specs.Changes.{known_now, receiving_now, sending_now}
use Rattle.bsc_keeping.specs.Keeping.{KeepsAll, KeepsChanged, KeepsStep, SurvivesAll, step_of}
use Rattle.bsc_keeping.specs.Offers.{KeepsOffer, OffersIf, channel_to}
use Rattle.bsc_keeping.specs.Runs.{ForPrograms, IsEvent, KeptRun, KeptStep, KeptSteps, Moment}
use Rattle.bsc_keeping.specs.Runs.{if_fed}
use Rattle.bsc_keeping.specs.Runs.{attended, begins, begun, forgot_arrived, forgot_sent, kept}
use Rattle.bsc_keeping.specs.Runs.{polled}
use Rattle.bsc_keeping.specs.Runs.{offered, one_more, released, set}
use Rattle.bsc_keeping.specs.declared.keeper.Keeper.{Keeper}
use Rattle.bsc_restarts.specs.Between.{LeavesOffer, OutlivesForgetting, OutlivesKeeping}
use Rattle.bsc_restarts.specs.Crashes.{AllDiffer, CrashLeaves, IsSame, KeepsEach, KeepsGiven}
use Rattle.bsc_restarts.specs.Kept.{ChannelsDiffer, HasReceivedOn, HasSentOn, HasStation, Knows}
use Rattle.bsc_restarts.specs.Kept.{KnowsReceived, KnowsSent, receiving_channels, bare_receiving}
use Rattle.bsc_restarts.specs.Kept.{sending_channels, bare_sending}
use Rattle.bsc_restarts.specs.Sessions.{CrashLeavesEither, IsKeptIn, LeavesEither, OutlivesCrashes}
use Rattle.bsc_restarts.proofs.Ends.{SentGrowsIf, grows_not}
use Rattle.bsc_restarts.proofs.Stepping.{HasAfter, StationGrows, arrived_of, has_after, has_same}

-- ends whatever is kept of them: the same channels
sending_bare : (ends : List Sending)
    → sending_channels (map bare_sending ends) ≡ sending_channels ends
sending_bare [] = refl
sending_bare (end ∷ ends) = ap (λ cs. end.channel ∷ cs) (sending_bare ends)

receiving_bare : (ends : List Receiving)
    → receiving_channels (map bare_receiving ends) ≡ receiving_channels ends
receiving_bare [] = refl
receiving_bare (end ∷ ends) = ap (λ cs. end.channel ∷ cs) (receiving_bare ends)

pub differ_kept : (ss : List Sending) (rs : List Receiving)
    → ChannelsDiffer (map bare_sending ss) (map bare_receiving rs)
    → ChannelsDiffer ss rs
differ_kept ss rs differ =
    subst AllDiffer (λ i. sending_bare ss i ++ receiving_bare rs i) differ

-- and the same ends after a step
bare_now : (end : Sending) (k : Option KeptSender) → bare_sending (known_now end k) ≡ bare_sending end
bare_now end None = refl
bare_now end (Some k) = refl

module _ {S : Type 0} (kept_at : S → ℕ → ℕ → Option KeptSender) (station : S) where
  sending_after : (ends : List Sending)
      → map bare_sending (sending_now kept_at station ends) ≡ map bare_sending ends
  sending_after [] = refl
  sending_after (end ∷ ends) =
      λ i. bare_now end (kept_at station end.terminal end.select) i ∷ sending_after ends i

module _ {S Z : Type 0} (party : party_of.Ghosts S Z) (station : S) (printed : ℕ → Option ℕ) where
  receiving_after : (ends : List Receiving)
      → map bare_receiving (receiving_now party station printed ends) ≡ map bare_receiving ends
  receiving_after [] = refl
  receiving_after (end ∷ ends) = ap (λ es. bare_receiving end ∷ es) (receiving_after ends)

-- what a store has of a station does not depend on what is kept of the ends
module _ {S : Type 0} (kept_at : S → ℕ → ℕ → Option KeptSender)
    (waits : S → ℕ → ℕ → List (List ℕ)) (records : S → ℕ → List (List ℕ)) (has : Channel → Contents) (station : S) where
  sent_with : (ends : List Sending)
      → AllByRecursion (HasSentOn kept_at waits records has station) (map bare_sending ends)
      → AllByRecursion (HasSentOn kept_at waits records has station) ends
  sent_with [] all = tt
  sent_with (end ∷ ends) (one, all) = (one, sent_with ends all)

  sent_without : (ends : List Sending)
      → AllByRecursion (HasSentOn kept_at waits records has station) ends
      → AllByRecursion (HasSentOn kept_at waits records has station) (map bare_sending ends)
  sent_without [] all = tt
  sent_without (end ∷ ends) (one, all) = (one, sent_without ends all)

  received_with : (ends : List Receiving)
      → AllByRecursion (HasReceivedOn kept_at waits records has station) (map bare_receiving ends)
      → AllByRecursion (HasReceivedOn kept_at waits records has station) ends
  received_with [] all = tt
  received_with (end ∷ ends) (one, all) = (one, received_with ends all)

  received_without : (ends : List Receiving)
      → AllByRecursion (HasReceivedOn kept_at waits records has station) ends
      → AllByRecursion (HasReceivedOn kept_at waits records has station) (map bare_receiving ends)
  received_without [] all = tt
  received_without (end ∷ ends) (one, all) = (one, received_without ends all)

  -- of the ends that are kept, and of those that were given
  abbrev Has : List Sending → List Receiving → Type 0
  Has sending receiving = HasStation kept_at waits records has sending receiving station

  pub has_with : (sending ss : List Sending) (receiving rs : List Receiving)
      → map bare_sending ss ≡ sending → map bare_receiving rs ≡ receiving → Has sending receiving
      → Has ss rs
  has_with sending ss receiving rs sends receives all =
      let bare : Has (map bare_sending ss) (map bare_receiving rs) =
      subst (λ es. Has es (map bare_receiving rs)) (sym sends)
      (subst (λ es. Has sending es) (sym receives) all) in
      record { sent = sent_with ss bare.sent; received = received_with rs bare.received }

  pub has_without : (sending ss : List Sending) (receiving rs : List Receiving)
      → map bare_sending ss ≡ sending → map bare_receiving rs ≡ receiving → Has ss rs
      → Has sending receiving
  has_without sending ss receiving rs sends receives all =
      let bare : Has (map bare_sending ss) (map bare_receiving rs) =
      record { sent = sent_without ss all.sent; received = received_without rs all.received } in
      subst (λ es. Has es receiving) sends
      (subst (λ es. Has (map bare_sending ss) es) receives bare)

module _ {K : Type 0} (store : store_of.Ghosts K) (has : K → Channel → Contents)
    (given : KeepsGiven store has) where
  all_sound : (changes : List Change) (old new : K) → SurvivesAll store changes old new
      → store.sound new → store.sound old
  all_sound changes old new (inl same) sound = subst store.sound same sound
  all_sound changes old new (inr survives) sound =
      given.was_sound changes old new survives sound

  offer_sound : (found : Option Channel) (chars : List ℕ) (old new : K)
      → OffersIf store found chars (Ok chars) old new → store.sound new → store.sound old
  offer_sound None chars old new (refused, same) sound = subst store.sound same sound
  offer_sound (Some its) chars old new offers sound =
      all_sound (Offered its chars ∷ []) old new offers.crash sound

  all_kept : (changes : List Change) (old new : K) → KeepsAll store changes old new
      → store.sound new → KeepsEach changes (has old) (has new)
  all_kept [] old new same sound = λ channel. ap (λ k. has k channel) same
  all_kept (change ∷ changes) old new keeps sound =
      given.keeps (change ∷ changes) old new keeps sound

  pub all_left : (changes : List Change) (old new : K) → SurvivesAll store changes old new
      → (left : Channel → Contents) → CrashLeaves store has old new left
      → IsSame (has old) left ⊎ KeepsEach changes (has old) left
  all_left changes old new (inl same) left leaves = inl (leaves.same same)
  all_left changes old new (inr survives) left leaves = leaves.step changes survives

-- what programs have a station do is followed: what it is once a record was offered, once a doubt
-- was ended, and once something else was set
module _ {S K Z : Type 0} (party : party_of.Ghosts S Z) (kept_at : S → ℕ → ℕ → Option KeptSender)
    (waits : S → ℕ → ℕ → List (List ℕ)) (store : store_of.Ghosts K) (sending : List Sending)
    (receiving : List Receiving) (does : ForPrograms S) where
  pub record FollowsPrograms : Type 0 where
    pub offers : (has : K → Channel → Contents) → KeepsGiven store has → (terminal : ℕ) (way : Way)
        (chars : List ℕ) (given : Result (List ℕ) StoreFault) (old new : S) (before after : Keeper K)
        → does.offers old terminal way chars new
        → Knows (has before.store) sending receiving before
        → HasStation kept_at waits (arrived_of party) (has before.store) sending receiving old
        → KeepsOffer store terminal (select_of way) chars given before after
        → LeavesOffer kept_at waits (arrived_of party) store sending receiving has old new chars given
        before after
    pub releases : (terminal : ℕ) (way : Way) (count : ℕ) (old new : S)
        → does.releases old terminal way count new → StationGrows party kept_at waits old new
    pub sets : (has : Channel → Contents) (old new : S) → does.sets old new
        → HasStation kept_at waits (arrived_of party) has sending receiving old
        → HasStation kept_at waits (arrived_of party) has sending receiving new

-- so it is also of a station that no program can feed, which does nothing for programs
module _ {S K Z : Type 0} (party : party_of.Ghosts S Z) (kept_at : S → ℕ → ℕ → Option KeptSender)
    (waits : S → ℕ → ℕ → List (List ℕ)) (store : store_of.Ghosts K) (sending : List Sending)
    (receiving : List Receiving) (does : ForPrograms S) where
  pub followed_if : (is_fed : Bool)
      → FollowsPrograms party kept_at waits store sending receiving does
      → FollowsPrograms party kept_at waits store sending receiving (if_fed is_fed does)
  followed_if true following = following
  followed_if false following =
      record {
        offers = λ has given t way chars result old new before after offers. absurd offers;
        releases = λ t way count old new releases. absurd releases;
        sets = λ has old new sets. absurd sets;
      }

module _ {S K Z : Type 0} (station : station_of.Ghosts S) (party : party_of.Ghosts S Z)
    (kept_at : S → ℕ → ℕ → Option KeptSender) (waits : S → ℕ → ℕ → List (List ℕ))
    (store : store_of.Ghosts K) (sending : List Sending) (receiving : List Receiving)
    (forgets_sent : S → S → Type 0) (forgets_arrived : S → ℕ → ℕ → S → Type 0)
    (polls : S → ℕ → Bool → S → Type 0) (does : ForPrograms S)
    (grows : (old new : S) → IsEvent station party kept_at store old new
    → StationGrows party kept_at waits old new)
    (forgetting : OutlivesForgetting kept_at waits (arrived_of party) forgets_sent forgets_arrived
    polls)
    (following : FollowsPrograms party kept_at waits store sending receiving does)
    (differ : ChannelsDiffer sending receiving)
    (has : K → Channel → Contents) (given : KeepsGiven store has) where
  abbrev Kept : Moment S K → Type 0
  Kept now = IsKeptIn kept_at waits (arrived_of party) store sending receiving has now

  abbrev Holds : (Channel → Contents) → S → Type 0
  Holds left it = HasStation kept_at waits (arrived_of party) left sending receiving it

  abbrev Step : List (List ℕ) → Bool → Moment S K → Moment S K → Type 0
  Step = KeptStep station party kept_at store

  abbrev changes_in : (ℕ → Option ℕ) → S → Keeper K → List Change
  changes_in = step_of party kept_at store

  -- all that is to be kept of the station after a step, once all of it was kept
  stepped : (old : Moment S K) (printed : ℕ → Option ℕ) (new : S)
      → StationGrows party kept_at waits old.station new → Kept old → (left : Channel → Contents)
      → KeepsEach (changes_in printed new old.keeper) (has old.keeper.store) left
      → HasAfter party kept_at waits printed new left old.keeper.sending.items
      old.keeper.receiving.items
  stepped old printed new growth whole left keeps =
      let ss = old.keeper.sending.items in
      let rs = old.keeper.receiving.items in
      has_after party kept_at waits printed old.station new growth ss rs (has old.keeper.store) left
      (differ_kept ss rs
      (subst (λ es. ChannelsDiffer es (map bare_receiving rs)) (sym whole.knows.sends)
      (subst (λ es. ChannelsDiffer sending es) (sym whole.knows.receives) differ)))
      keeps
      (has_with kept_at waits (arrived_of party) (has old.keeper.store) old.station sending ss
      receiving rs whole.knows.sends whole.knows.receives whole.has_all)
      whole.knows.sent whole.knows.received

  -- what was kept in a step
  after_step : (old : Moment S K) (printed : ℕ → Option ℕ) (new : S) (keeper : Keeper K)
      → StationGrows party kept_at waits old.station new → Kept old
      → KeepsChanged party kept_at store printed new old.keeper keeper
      → store.sound keeper.store → Kept (record { station = new; keeper = keeper })
  after_step old printed new keeper growth whole is sound =
      let ss = old.keeper.sending.items in
      let rs = old.keeper.receiving.items in
      let after =
      stepped old printed new growth whole (has keeper.store)
      (all_kept store has given (changes_in printed new old.keeper) old.keeper.store keeper.store
      is.changes sound) in
      record {
        knows = record {
          sends =
              ap (map bare_sending) is.sending ∙ sending_after kept_at new ss ∙ whole.knows.sends;
          receives =
              ap (map bare_receiving) is.receiving ∙ receiving_after party new printed rs
              ∙ whole.knows.receives;
          sent = subst (AllByRecursion (KnowsSent (has keeper.store))) (sym is.sending) after.sent;
          received =
              subst (AllByRecursion (KnowsReceived (has keeper.store))) (sym is.receiving)
              after.received;
        };
        has_all =
            has_without kept_at waits (arrived_of party) (has keeper.store) new sending ss
            receiving rs whole.knows.sends whole.knows.receives after.has_all;
      }

  growing : (old new : Moment S K) (sent : List (List ℕ)) (goes_on : Bool)
      → Step sent goes_on old new → StationGrows party kept_at waits old.station new.station
  growing old new sent goes_on step = grows old.station new.station step.event

  pub leaves_either : (old new : Moment S K) (sent : List (List ℕ)) (goes_on : Bool) → Kept old
      → Step sent goes_on old new → store.sound new.keeper.store
      → LeavesEither kept_at waits (arrived_of party) store sending receiving has old sent new
  leaves_either old new sent goes_on whole step sound =
      record {
        crash = λ left leaves. elim
            (all_left store has given (changes_in step.printed new.station old.keeper)
            old.keeper.store new.keeper.store step.crash left leaves) [
              | inl same ↦
                  inl
                  (has_same kept_at waits (arrived_of party) sending receiving old.station
                  (has old.keeper.store) left same whole.has_all)
              | inr keeps ↦
                  inr
                  (has_without kept_at waits (arrived_of party) left new.station sending
                  old.keeper.sending.items receiving old.keeper.receiving.items whole.knows.sends
                  whole.knows.receives
                  (stepped old step.printed new.station (growing old new sent goes_on step) whole
                  left keeps).has_all)
            ];
        before_sent = λ some.
            after_step old step.printed new.station new.keeper
            (growing old new sent goes_on step) whole (step.before_sent some) sound;
      }

  -- the store of another keeper of the same station
  with_same : (old new : Moment S K) → new.station ≡ old.station → new.keeper ≡ old.keeper
      → Kept old → Kept new
  with_same old new station_is keeper_is whole =
      record {
        knows =
            subst (λ (k : Keeper K). Knows (has k.store) sending receiving k) (sym keeper_is)
            whole.knows;
        has_all =
            subst (λ (k : Keeper K). Holds (has k.store) new.station) (sym keeper_is)
            (subst (Holds (has old.keeper.store)) (sym station_is) whole.has_all);
      }

  -- after a step the store has all of the station, whether it has changed or not
  after_any : (old new : Moment S K) (sent : List (List ℕ)) → Step sent true old new → Kept old
      → store.sound new.keeper.store → Kept new
  after_any old new sent step whole sound = elim (step.before_next refl) [
    | inl is ↦
        after_step old step.printed new.station new.keeper (growing old new sent true step) whole is
        sound
    | inr (station_is, keeper_is) ↦ with_same old new station_is keeper_is whole
  ]

  was_sound : (old new : Moment S K) (sent : List (List ℕ)) (goes_on : Bool)
      → Step sent goes_on old new → store.sound new.keeper.store → store.sound old.keeper.store
  was_sound old new sent goes_on step sound =
      all_sound store has given (changes_in step.printed new.station old.keeper) old.keeper.store
      new.keeper.store step.crash sound

  -- the steps of a session
  steps_sound : (fine : Bool) → fine ≡ true → (first now : Moment S K)
      → KeptSteps station party kept_at store fine first now → store.sound now.keeper.store
      → store.sound first.keeper.store
  steps_sound true fine first now (begun same) sound =
      subst (λ (m : Moment S K). store.sound m.keeper.store) same sound
  steps_sound true fine first now (one_more {old = mid} {sent = sent} before step) sound =
      steps_sound true refl first mid before (was_sound mid now sent true step sound)
  steps_sound false fine first now steps sound =
      let clash : false ≡ true = fine in absurd cc

  after_steps : (fine : Bool) → fine ≡ true → (first now : Moment S K) → Kept first
      → KeptSteps station party kept_at store fine first now → store.sound now.keeper.store
      → Kept now
  after_steps true fine first now whole (begun same) sound = subst Kept (sym same) whole
  after_steps true fine first now whole (one_more {old = mid} {sent = sent} before step) sound =
      after_any mid now sent step
      (after_steps true refl first mid whole before (was_sound mid now sent true step sound)) sound
  after_steps false fine first now whole steps sound =
      let clash : false ≡ true = fine in absurd cc

  -- a run
  pub after_run : (fine : Bool) → fine ≡ true → (first now : Moment S K) → Kept first
      → KeptRun station party kept_at store forgets_sent forgets_arrived polls does fine first now
      → store.sound now.keeper.store → Kept now
  after_run true fine first now kept_first (begins same) sound = subst Kept (sym same) kept_first
  after_run true fine first now kept_first (attended {old = mid} before steps) sound =
      after_steps true refl mid now
      (after_run true refl first mid kept_first before
      (steps_sound true refl mid now steps sound))
      steps sound
  after_run true fine first now kept_first (forgot_sent {old = mid} before forgets) sound =
      let was = after_run true refl first mid kept_first before sound in
      record {
        knows = was.knows;
        has_all = forgetting.sent _ sending receiving mid.station _ was.has_all forgets;
      }
  after_run true fine first now kept_first
      (forgot_arrived {old = mid} {number = number} {count = count} before forgets) sound =
      let was = after_run true refl first mid kept_first before sound in
      record {
        knows = was.knows;
        has_all =
            forgetting.arrived _ sending receiving number count mid.station _ was.has_all forgets;
      }
  after_run true fine first now kept_first
      (polled {old = mid} {terminal = terminal} {wanted = wanted} before polling) sound =
      let was = after_run true refl first mid kept_first before sound in
      record {
        knows = was.knows;
        has_all =
            forgetting.polled _ sending receiving terminal wanted mid.station _ was.has_all polling;
      }
  after_run true fine first now kept_first (kept {old = mid} {printed = printed} before keeps)
      sound =
      let was =
      after_run true refl first mid kept_first before
      (all_sound store has given (changes_in printed mid.station mid.keeper) mid.keeper.store
      now.keeper.store keeps.commits.crash sound) in
      after_step mid printed mid.station now.keeper
      (grows mid.station mid.station (inl refl)) was
      (record {
        changes = keeps.commits.kept;
        sending = keeps.sending;
        receiving = keeps.receiving;
      })
      sound
  after_run true fine first now kept_first
      (offered {old = mid} {terminal = terminal} {way = way} {chars = chars} before keeps offers)
      sound =
      let was =
      after_run true refl first mid kept_first before
      (offer_sound store has given (channel_to terminal (select_of way) mid.keeper.sending.items)
      chars mid.keeper.store now.keeper.store keeps.offers sound) in
      let out =
      following.offers has given terminal way chars (Ok chars) mid.station now.station mid.keeper
      now.keeper offers was.knows was.has_all keeps in
      record { knows = out.knows refl sound; has_all = out.kept refl sound }
  after_run true fine first now kept_first
      (released {old = mid} {terminal = terminal} {way = way} {count = count} {printed = printed}
      before releases keeps) sound =
      let was =
      after_run true refl first mid kept_first before
      (all_sound store has given (changes_in printed now.station mid.keeper) mid.keeper.store
      now.keeper.store keeps.commits.crash sound) in
      after_step mid printed now.station now.keeper
      (following.releases terminal way count mid.station now.station releases) was
      (record {
        changes = keeps.commits.kept;
        sending = keeps.sending;
        receiving = keeps.receiving;
      })
      sound
  after_run true fine first now kept_first (set {old = mid} before sets) sound =
      let was = after_run true refl first mid kept_first before sound in
      record {
        knows = was.knows;
        has_all = following.sets _ mid.station _ sets was.has_all;
      }
  after_run false fine first now kept_first run sound =
      let clash : false ≡ true = fine in absurd cc

  -- while the end of a doubt is kept
  pub while_released : (old : Moment S K) (printed : ℕ → Option ℕ) (new : S)
      (result : Result (Unit {0}) StoreFault) (keeper : Keeper K)
      → StationGrows party kept_at waits old.station new → Kept old
      → KeepsStep party kept_at store printed new result old.keeper keeper
      → CrashLeavesEither kept_at waits (arrived_of party) store sending receiving has old.station
      new old.keeper keeper
  while_released old printed new result keeper growth whole keeps left leaves = elim
      (all_left store has given (changes_in printed new old.keeper) old.keeper.store keeper.store
      keeps.commits.crash left leaves) [
        | inl same ↦
            inl
            (has_same kept_at waits (arrived_of party) sending receiving old.station
            (has old.keeper.store) left same whole.has_all)
        | inr each ↦
            inr
            (has_without kept_at waits (arrived_of party) left new sending old.keeper.sending.items
            receiving old.keeper.receiving.items whole.knows.sends whole.knows.receives
            (stepped old printed new growth whole left each).has_all)
      ]

module _ {S K Z : Type 0} (station : station_of.Ghosts S) (party : party_of.Ghosts S Z)
    (kept_at : S → ℕ → ℕ → Option KeptSender) (waits : S → ℕ → ℕ → List (List ℕ))
    (store : store_of.Ghosts K) (sending : List Sending) (receiving : List Receiving)
    (forgets_sent : S → S → Type 0) (forgets_arrived : S → ℕ → ℕ → S → Type 0)
    (polls : S → ℕ → Bool → S → Type 0) (does : ForPrograms S)
    (grows : (old new : S) → IsEvent station party kept_at store old new
    → StationGrows party kept_at waits old new)
    (forgetting : OutlivesForgetting kept_at waits (arrived_of party) forgets_sent forgets_arrived
    polls)
    (following : FollowsPrograms party kept_at waits store sending receiving does)
    (differ : ChannelsDiffer sending receiving) where
  pub outlives : OutlivesCrashes kept_at waits (arrived_of party) store sending receiving station
      party forgets_sent forgets_arrived polls does
  outlives =
      record {
        between = λ has given first now whole run sound.
            after_run station party kept_at waits store sending receiving forgets_sent
            forgets_arrived polls does grows forgetting following differ has given true refl first now
            whole run sound;
        within = λ has given old new sent goes_on whole step sound.
            leaves_either station party kept_at waits store sending receiving forgets_sent
            forgets_arrived polls does grows forgetting following differ has given old new sent goes_on
            whole step sound;
        offering = λ has given old terminal way chars result keeper new whole offers keeps.
            (following.offers has given terminal way chars result old.station new old.keeper keeper
            offers whole.knows whole.has_all keeps).crash;
        releasing = λ has given old terminal way count printed result keeper new whole releases keeps.
            while_released station party kept_at waits store sending receiving forgets_sent
            forgets_arrived polls does grows forgetting following differ has given old printed new result
            keeper (following.releases terminal way count old.station new releases) whole keeps;
      }

-- what is kept at the end of a station, which does not change any more
sent_itself : (k : Option KeptSender) (rest : List (List ℕ)) → SentGrowsIf k rest k rest
sent_itself None rest = refl
sent_itself (Some k) rest =
    let none : 0 ≡ k.known - k.known = omega arith in
    record { known = omega arith; there = omega arith; rest_is = ap (λ n. drop n rest) none }

module _ {S K Z : Type 0} (party : party_of.Ghosts S Z) (kept_at : S → ℕ → ℕ → Option KeptSender)
    (waits : S → ℕ → ℕ → List (List ℕ)) (store : store_of.Ghosts K) where
  pub outlives_keeping : OutlivesKeeping kept_at waits (arrived_of party) party store
  outlives_keeping has given sending receiving differ printed station result old new knows all
      keeps left leaves =
      let ss = old.sending.items in
      let rs = old.receiving.items in elim
      (all_left store has given (step_of party kept_at store printed station old) old.store new.store
      keeps.commits.crash left leaves) [
        | inl same ↦
            has_same kept_at waits (arrived_of party) sending receiving station (has old.store) left same all
        | inr each ↦
            has_without kept_at waits (arrived_of party) left station sending ss receiving rs knows.sends
            knows.receives
            (has_after party kept_at waits printed station station
            (record {
              sent = λ t s. sent_itself (kept_at station t s) (waits station t s);
              received = λ n. grows_not (arrived_of party station n);
            })
            ss rs (has old.store) left
            (differ_kept ss rs
            (subst (λ es. ChannelsDiffer es (map bare_receiving rs)) (sym knows.sends)
            (subst (λ es. ChannelsDiffer sending es) (sym knows.receives) differ)))
            each
            (has_with kept_at waits (arrived_of party) (has old.store) station sending ss receiving rs knows.sends
            knows.receives all)
            knows.sent knows.received).has_all
      ]
