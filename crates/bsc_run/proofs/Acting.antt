-- The answer to an event of a script.
use Rattle.std.proofs.Common.{◌≡◌, ℕ, Bool, true, false, if◌then◌else◌, List, [], map, Option, None}
use Rattle.std.proofs.Common.{Some, Result, Ok, Err, inl, inr, refl, sym, ◌∙◌, ap, subst}
use Rattle.std.proofs.lemmas.Slice.Eq.{bytes_eq-Decides}
use Rattle.std.proofs.KnownBytes.{Appends-nil}
use Rattle.std.specs.Borrow.{Bor}
use Rattle.std.specs.Io.KnownBytes.{Appends}
use Rattle.std.specs.Prelude.{IfErr, OnOk}
use Rattle.std.specs.Str.{bytes_eq}
use Rattle.bsc_frame.specs.Reading.{heard}
use Rattle.bsc_frame.specs.Wire.{wire}
use Rattle.bsc_frame.specs.declared.message.Heard.{Heard}
use Rattle.bsc_frame.specs.declared.message.Heard.TheVariants.{Whole}
use Rattle.bsc_frame.specs.declared.message.Message.{Message}
use Rattle.bsc_carrier.specs.Cable.{CableValue}
use Rattle.bsc_line_model.specs.declared.error.LineError.{LineError}
use Rattle.bsc_line_model.specs.declared.error.LineError.TheVariants.{NothingSent}
use Rattle.bsc_line_model.specs.declared.transmission.Transmission.{Transmission}
use Rattle.bsc_line_model.specs.declared.event.Event.{Event}
use Rattle.bsc_line_model.specs.declared.event.Event.TheVariants as event
use Rattle.bsc_line_model.specs.Carries.{IsCarriedBy}
use Rattle.bsc_line_model.specs.Hearing.{heard_in, octets_in}
use Rattle.bsc_line_model.specs.Line.{LineValue}
use Rattle.bsc_line_model.specs.Kept.{IsLine}
use Rattle.bsc_line_model.specs.Offers.{OffersAt, OffersFor}
use Rattle.bsc_line_model.specs.Runs.{Does}
use Rattle.bsc_config.specs.Events.{Event as Asked, offer_at, offer_for, lose, heard_each}
use Rattle.bsc_run.specs.Crossing.{connection_count, ItemsCross, Streams}
use Rattle.bsc_run.specs.declared.error.StepError.{StepError}
use Rattle.bsc_run.specs.declared.error.StepError.TheVariants as step
use Rattle.bsc_run.specs.Faults.{told}
use Rattle.bsc_run.proofs.Causes.{IsFault}
use Rattle.bsc_run.specs.Speaking.{Fits}
use Rattle.bsc_run.specs.Hearing.{ReadsAsSent}
use Rattle.bsc_run.specs.Steps.{IsHearing, MayBe, Sends, HearsOctets, Crossing, Acts, heard_as}
use Rattle.bsc_run.specs.Steps.{Answers, acting}
use Rattle.bsc_run.specs.Traces.{heard_line, if_sent, if_traced, item_lines, lines_of, lost_line}
use Rattle.bsc_run.specs.Traces.{mark_line, sent_lines}
use Rattle.bsc_run.proofs.Speaking.{fits_after}

-- octets that are those of the pending message are heard as it was sent
does_as_heard_if : (sent : Transmission) (octets : Bor (List ℕ)) (old new : LineValue)
    → old.pending ≡ Some sent → heard (wire sent.message) ≡ Whole sent.message
    → Does (event.Carry (Some octets)) old (Ok tt) new → (same : Bool)
    → bytes_eq octets.now (wire sent.message) ≡ same
    → Does (if same then event.CarrySent else event.Carry (Some octets)) old (Ok tt) new
unfolding heard_in
does_as_heard_if sent octets old new pending reads d false e = d
does_as_heard_if sent octets old new pending reads d true e =
    let equal : octets.now ≡ wire sent.message =
    (bytes_eq-Decides octets.now (wire sent.message)).0 e in
    let one : Some sent ≡ Some d.sent = sym pending ∙ d.pending in
    let is : sent ≡ d.sent = cc in
    let hears : heard octets.now ≡ Whole d.sent.message =
    ap heard equal ∙ reads ∙ ap (λ (s : Transmission). Whole s.message) is in
    record {
      sent = d.sent;
      pending = d.pending;
      carried =
          subst (λ (h : Heard). IsCarriedBy d.sent.speaker d.sent.message h old new) hears
          d.carried;
    }

does_as_heard : (sent : Transmission) (octets : Bor (List ℕ)) (old new : LineValue)
    → old.pending ≡ Some sent → heard (wire sent.message) ≡ Whole sent.message
    → Does (event.Carry (Some octets)) old (Ok tt) new
    → Does (heard_as sent.message octets) old (Ok tt) new
does_as_heard sent octets old new pending reads d =
    does_as_heard_if sent octets old new pending reads d
    (bytes_eq octets.now (wire sent.message)) refl

-- nothing is pending, so nothing is heard
refused_unsent_by : (e : Event) (old : LineValue) → old.pending ≡ None → IsHearing e
    → Does e old (Err NothingSent) old
refused_unsent_by e old none (inl same) =
    subst (λ (x : Event). Does x old (Err NothingSent) old) (sym same) (none, refl)
refused_unsent_by e old none (inr heard_octets) =
    subst (λ (x : Event). Does x old (Err NothingSent) old) (sym heard_octets.1) (none, refl)

refused_unsent : (e : Event) (old : LineValue) (why : LineError) → why ≡ NothingSent
    → old.pending ≡ None → IsHearing e → Does e old (Err why) old
refused_unsent e old why is none hearing =
    subst (λ (w : LineError). Does e old (Err w) old) (sym is)
    (refused_unsent_by e old none hearing)

-- the line of the trace for octets that were read is that of the event of the line for them
heard_lines_if : (n : ℕ) (sent : Transmission) (octets : Bor (List ℕ)) (same : Bool)
    → bytes_eq octets.now (wire sent.message) ≡ same
    → sent_lines n (if same then event.CarrySent else event.Carry (Some octets)) sent
    ≡ heard_line n sent None octets.now
heard_lines_if n sent octets false e = refl
heard_lines_if n sent octets true e =
    let equal : octets.now ≡ wire sent.message =
    (bytes_eq-Decides octets.now (wire sent.message)).0 e in
    ap (heard_line n sent None) (sym equal)

heard_lines : (n : ℕ) (sent : Transmission) (octets : Bor (List ℕ)) (pending : Option Transmission)
    → pending ≡ Some sent
    → if_sent pending (sent_lines n (heard_as sent.message octets))
    ≡ if_sent pending (λ s. heard_line n s None octets.now)
heard_lines n sent octets pending is =
    rw is (heard_lines_if n sent octets (bytes_eq octets.now (wire sent.message)) refl)

-- no text, whether or not there is a trace
nothing_traced : (number : Option ℕ) → if_traced number (λ n. []) ≡ []
nothing_traced None = refl
nothing_traced (Some n) = refl

-- the same text for each number
traced_alike : (number : Option ℕ) (f g : ℕ → List ℕ) → ((n : ℕ) → f n ≡ g n)
    → if_traced number f ≡ if_traced number g
traced_alike None f g h = refl
traced_alike (Some n) f g h = h n

-- a fault interrupts the event
pub acts_fault : {S : Type 0} (streams : Streams S) (number : Option ℕ) (asked : Asked)
    (old new : LineValue) (before after : CableValue S) (held holds : Option (List ℕ))
    (e : StepError) → IsFault e
    → Acts streams number asked (acting old before held) (Err e) (acting new after holds)
acts_fault streams number asked old new before after held holds (step.Refused w) h = absurd h
acts_fault streams number asked old new before after held holds step.Output h =
    record { accepted = tt; fits = tt; refused = λ w q. cc }
acts_fault streams number asked old new before after held holds step.Socket h =
    record { accepted = tt; fits = tt; refused = λ w q. cc }
acts_fault streams number asked old new before after held holds step.Memory h =
    record { accepted = tt; fits = tt; refused = λ w q. cc }

module _ {S : Type 0} (streams : Streams S) (number : Option ℕ) where
  -- nothing crosses the cable, and a refusal holds for each event of the line that it may be
  acts_plainly : (asked : Asked) (e : Event) (old new : LineValue) (c : CableValue S)
      (held holds : Option (List ℕ)) (r : Result (Unit {0}) LineError)
      (res : Result (Unit {0}) StepError)
      → Crossing streams asked e old c c
      → ((x : Event) (w : LineError) → MayBe asked x → Does e old (Err w) new
      → Does x old (Err w) new)
      → Fits old c → Does e old r new → IsLine new
      → Answers r (if_traced number (λ n. lines_of n asked e old)) res held holds
      → Acts streams number asked (acting old c held) res (acting new c holds)
  acts_plainly asked e old new c held holds r (Ok done) crossing alike f d line a =
      let did : Does e old (Ok tt) new =
      subst (λ (x : Result (Unit {0}) LineError). Does e old x new) a.done.0 d in
      record {
        accepted = record {
          accepts = record { event = e; crossing = crossing; done = did };
          traced = a.done.1;
        };
        fits = fits_after e old new c c f did line refl;
        refused = λ w q. cc;
      }
  acts_plainly asked e old new c held holds r (Err error) crossing alike f d line a = record {
    accepted = tt;
    fits = tt;
    refused = λ w q.
        let b = a.refused w q in
        let did : Does e old (Err w) new =
        subst (λ (x : Result (Unit {0}) LineError). Does e old x new) b.0 d in
        (λ x m. alike x w m did, refl, b.1);
  }

  -- only one event of the line corresponds to the event of the script
  pub acts_as : (asked : Asked) (e : Event) (old new : LineValue) (c : CableValue S)
      (held holds : Option (List ℕ)) (r : Result (Unit {0}) LineError)
      (res : Result (Unit {0}) StepError)
      → Crossing streams asked e old c c → ((x : Event) → MayBe asked x → x ≡ e)
      → Fits old c → Does e old r new → IsLine new
      → Answers r (if_traced number (λ n. lines_of n asked e old)) res held holds
      → Acts streams number asked (acting old c held) res (acting new c holds)
  acts_as asked e old new c held holds r res crossing alike f d line a =
      acts_plainly asked e old new c held holds r res crossing
      (λ x w m q. subst (λ (y : Event). Does y old (Err w) new) (sym (alike x m)) q) f d line a

  -- an offer depends only on its codes
  pub offers_at : (t : ℕ) (codes : Bor (List ℕ)) (old new : LineValue) (c : CableValue S)
      (held holds : Option (List ℕ)) (r : Result (Unit {0}) LineError)
      (res : Result (Unit {0}) StepError)
      → Fits old c → Does (event.OfferAt t codes) old r new → IsLine new
      → Answers r (if_traced number (λ n. mark_line n (offer_at t codes.now))) res held holds
      → Acts streams number (offer_at t codes.now) (acting old c held) res (acting new c holds)
  offers_at t codes old new c held holds r res f d line a =
      acts_plainly (offer_at t codes.now) (event.OfferAt t codes) old new c held holds r res
      ((codes, refl, refl), refl)
      (λ x w m q. subst (λ (y : Event). Does y old (Err w) new) (sym m.2)
      (subst (λ (k : List ℕ). OffersAt old t k (Err w) new) (sym m.1) q)) f d line a

  pub offers_for : (t s : ℕ) (codes : Bor (List ℕ)) (old new : LineValue) (c : CableValue S)
      (held holds : Option (List ℕ)) (r : Result (Unit {0}) LineError)
      (res : Result (Unit {0}) StepError)
      → Fits old c → Does (event.OfferFor t s codes) old r new → IsLine new
      → Answers r (if_traced number (λ n. mark_line n (offer_for t s codes.now))) res held holds
      → Acts streams number (offer_for t s codes.now) (acting old c held) res
      (acting new c holds)
  offers_for t s codes old new c held holds r res f d line a =
      acts_plainly (offer_for t s codes.now) (event.OfferFor t s codes) old new c held holds r
      res ((codes, refl, refl), refl)
      (λ x w m q. subst (λ (y : Event). Does y old (Err w) new) (sym m.2)
      (subst (λ (k : List ℕ). OffersFor old t s k (Err w) new) (sym m.1) q)) f d line a

  -- the pending transmission is lost, or there is none
  pub loses : (old new : LineValue) (c : CableValue S) (held holds : Option (List ℕ))
      (r : Result (Unit {0}) LineError) → Fits old c → Does (event.Carry None) old r new
      → IsLine new
      → Appends held holds
      (if_traced number (λ n. if_sent old.pending (λ sent. lost_line n sent None)))
      → Acts streams number lose (acting old c held) (told r) (acting new c holds)
  loses old new c held holds (Ok done) f d line written = record {
    accepted = record {
      accepts = record { event = event.Carry None; crossing = (refl, refl); done = d };
      traced = written;
    };
    fits = fits_after (event.Carry None) old new c c f d line refl;
    refused = λ w q. cc;
  }
  loses old new c held holds (Err NothingSent) f d line written = record {
    accepted = tt;
    fits = tt;
    refused = λ w q.
        let same : NothingSent ≡ w = cc in
        let unsent : Appends held holds (if_traced number (λ n. [])) =
        subst (λ (p : Option Transmission). Appends held holds
        (if_traced number (λ n. if_sent p (λ sent. lost_line n sent None)))) d.0 written in (
          λ x m.
              subst (λ (k : LineError). Does x old (Err k) new) same
              (subst (λ (y : Event). Does y old (Err NothingSent) new) (sym m) d),
          refl,
          subst (λ (x : List ℕ). Appends held holds x) (nothing_traced number) unsent,
        );
  }
  loses old new c held holds (Err _) f d line written = absurd d

  -- nothing is pending, or a fault interrupts the event, so nothing is heard
  pub acts_unsent : (asked : Asked) (old : LineValue) (before after : CableValue S)
      (held : Option (List ℕ)) (error : StepError) → ((e : Event) → MayBe asked e → IsHearing e)
      → ((why : LineError) → error ≡ step.Refused why
      → (why ≡ NothingSent) × (old.pending ≡ None) × (after ≡ before))
      → Acts streams number asked (acting old before held) (Err error) (acting old after held)
  acts_unsent asked old before after held error hearing refused = record {
    accepted = tt;
    fits = tt;
    refused = λ why q.
        let is : error ≡ step.Refused why = cc in
        let unsent : (why ≡ NothingSent) × (old.pending ≡ None) × (after ≡ before) =
        refused why is in
        (λ e m. refused_unsent e old why unsent.0 unsent.1 (hearing e m), unsent.2, Appends-nil held);
  }

  -- octets cross the cable, and the pending transmission is heard as those that were read
  pub hears_octets : (asked : Asked) (sent : Message → List ℕ) (old new : LineValue)
      (before after : CableValue S) (held holds : Option (List ℕ)) (octets : Bor (List ℕ))
      (read : List ℕ) (res : Result (Unit {0}) StepError)
      → ((e : Event) → HearsOctets streams sent e old before after
      → Crossing streams asked e old before after)
      → ((n : ℕ) (e : Event) → lines_of n asked e old ≡ if_sent old.pending (sent_lines n e))
      → Fits old before → octets.now ≡ read → Sends streams sent old read before after
      → connection_count after ≡ connection_count before → ReadsAsSent old
      → OnOk res (Does (event.Carry (Some octets)) old (Ok tt) new) → OnOk res (IsLine new)
      → OnOk res (Appends held holds (if_traced number
      (λ n. if_sent old.pending (λ s. heard_line n s None octets.now))))
      → IfErr res IsFault
      → Acts streams number asked (acting old before held) res (acting new after holds)
  hears_octets asked sent old new before after held holds octets read (Ok done) crossing lines f
      same sends count reads d line written fault =
      let across : Sends streams sent old octets.now before after =
      subst (λ (os : List ℕ). Sends streams sent old os before after) (sym same) sends in
      let e : Event = heard_as across.transmission.message octets in
      let done : Does e old (Ok tt) new =
      does_as_heard across.transmission octets old new across.pending
      (reads across.transmission across.pending) d in
      let alike : if_traced number (λ n. lines_of n asked e old)
      ≡ if_traced number (λ n. if_sent old.pending (λ s. heard_line n s None octets.now)) =
      traced_alike number (λ n. lines_of n asked e old)
      (λ n. if_sent old.pending (λ s. heard_line n s None octets.now))
      (λ n. lines n e ∙ heard_lines n across.transmission octets old.pending across.pending) in
      record {
        accepted = record {
          accepts = record {
            event = e;
            crossing = crossing e record { octets = octets; sends = across; is = refl };
            done = done;
          };
          traced = rw alike written;
        };
        fits = fits_after e old new before after f done line count;
        refused = λ w q. cc;
      }
  hears_octets asked sent old new before after held holds octets read (Err error) crossing lines f
      same sends count reads d line written fault =
      acts_fault streams number asked old new before after held holds error fault

  -- items cross the cable, and each terminal hears the octets that were read
  pub hears_items : (items : List (Option (List ℕ))) (old new : LineValue)
      (before after : CableValue S) (held holds : Option (List ℕ))
      (words : Bor (List (Option (Bor (List ℕ))))) (res : Result (Unit {0}) StepError)
      → Fits old before → ItemsCross streams items (map octets_in words.now) before after
      → connection_count after ≡ connection_count before
      → OnOk res (Does (event.CarryEach words) old (Ok tt) new) → OnOk res (IsLine new)
      → OnOk res (Appends held holds
      (if_traced number (λ n. if_sent old.pending (λ s. item_lines n s words.now))))
      → IfErr res IsFault
      → Acts streams number (heard_each items) (acting old before held) res
      (acting new after holds)
  hears_items items old new before after held holds words (Ok done) f crossed count d line written
      fault = record {
        accepted = record {
          accepts = record {
            event = event.CarryEach words;
            crossing = record { words = words; crossed = crossed; is = refl };
            done = d;
          };
          traced = written;
        };
        fits = fits_after (event.CarryEach words) old new before after f d line count;
        refused = λ w q. cc;
      }
  hears_items items old new before after held holds words (Err error) f crossed count d line
      written fault =
      acts_fault streams number (heard_each items) old new before after held holds error fault
