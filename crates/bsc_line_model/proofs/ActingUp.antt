-- A polled terminal acts as its sender says: its bid continues, or is over.
use Rattle.std.proofs.Common.{◌≡◌, ◌≢◌, ◌⊎◌, inl, inr, ℕ, ◌<◌, List, length, Option, None, Some}
use Rattle.std.proofs.Common.{refl, sym, subst}
use Rattle.bsc_frame.specs.declared.message.Message.{Message}
use Rattle.bsc_frame.specs.declared.message.Message.TheVariants as m
use Rattle.bsc_bid.specs.Act.{Act}
use Rattle.bsc_bid.specs.Act as a
use Rattle.bsc_bid.specs.declared.phase.Phase.{Phase}
use Rattle.bsc_bid.specs.Ready.{IsGoing, IsAtRest}
use Rattle.bsc_bid.specs.Sender.{SenderStep}
use Rattle.bsc_bid.specs.Agreement.{Still, Outward, Continues, sent_flight}
use Rattle.bsc_bid.specs.EachStep.{IsEnded}
use Rattle.bsc_tributary.specs.declared.mode.Mode.{Mode}
use Rattle.bsc_tributary.specs.declared.mode.Mode.TheVariants.{Control, Sending}
use Rattle.bsc_tributary.specs.Tributary.{TributaryValue, mode_after, message_of_act}
use Rattle.bsc_control.specs.declared.task.Replied.{Replied}
use Rattle.bsc_control.specs.Peer.{PeerValue}
use Rattle.bsc_bid.specs.declared.speaker.Speaker.TheVariants as sp
use Rattle.bsc_line_model.specs.Transmission.{sent_by}
use Rattle.bsc_line_model.specs.Together.{HasNoBid, RestsDown, IsInBidUp, AllInControlMode}
use Rattle.bsc_line_model.specs.Together.{IsPolledWith}
use Rattle.bsc_line_model.specs.BidLaws.{BidLaws}
use Rattle.bsc_line_model.proofs.SendingUp.{bid_over_at_rest, in_bid_while_going}

-- the terminal sends nothing or EOT, and is then in control mode
abbrev pub IsEndedUp : Option Message → Mode → Type 0
IsEndedUp out mode = (out ≡ None) ⊎ ((out ≡ Some m.Eot) × (mode ≡ Control))

-- either no bid of the terminal is in progress, or its bid continues
abbrev pub HasActedUp : PeerValue → ℕ → TributaryValue → Option Message → Type 0
HasActedUp p e u out = (HasNoBid p u × IsEndedUp out u.mode)
    ⊎ IsInBidUp (sent_by (sp.Terminal e) out) p e u

-- what a step of the terminal's sender leaves
pub record StepsUp (p : PeerValue) (x : TributaryValue) (step : SenderStep) : Type 0 where
  pub down : (k : ℕ) → k < length p.outbounds → RestsDown p x k
  pub continues : Continues step.sender.phase step.queue p.receiver.alternation p.receiver.last
      p.spool.records (sent_flight step.act)
  pub ended : IsEnded step.act step.sender.phase

-- a sender that did nothing is in a bid if the terminal sends, else at rest
abbrev pub KeptQuiet : Mode → Phase → Type 0
KeptQuiet mode phase = ((mode ≡ Sending) × IsGoing phase) ⊎ ((mode ≢ Sending) × IsAtRest phase)

pub bid_up_after_act : (laws : BidLaws) (p : PeerValue) (e : ℕ) (x : TributaryValue) (step : SenderStep)
    (act : Act) → step.act ≡ act → StepsUp p x step
    → (act ≡ a.Quiet → KeptQuiet x.mode step.sender.phase) →
    HasActedUp p e (record x {
      mode = mode_after act x.mode;
      sender = step.sender;
      queue =
          step.queue;
    }) (message_of_act act)
bid_up_after_act laws p e x step (a.Send text) is h kept =
    inr (record {
      mode = refl;
      down = h.down;
      flight = Outward (m.Text text);
      flies = (refl, refl);
      bid =
          laws.goes_on step.sender.phase step.queue p.receiver.alternation p.receiver.last
          p.spool.records (m.Text text)
          (subst (λ (z : Act). Continues step.sender.phase step.queue p.receiver.alternation
          p.receiver.last p.spool.records (sent_flight z)) is h.continues);
    })
bid_up_after_act laws p e x step a.Enq is h kept =
    inr (record {
      mode = refl;
      down = h.down;
      flight = Outward m.Enq;
      flies = (refl, refl);
      bid =
          laws.goes_on step.sender.phase step.queue p.receiver.alternation p.receiver.last
          p.spool.records m.Enq
          (subst (λ (z : Act). Continues step.sender.phase step.queue p.receiver.alternation
          p.receiver.last p.spool.records (sent_flight z)) is h.continues);
    })
bid_up_after_act laws p e x step a.Over is h kept =
    let at_rest : IsAtRest step.sender.phase =
    subst (λ (z : Act). IsEnded z step.sender.phase) is h.ended in
    inl (
      record {
        mode = λ sends. cc;
        up =
            bid_over_at_rest step.sender.phase step.queue _ _ _ _ at_rest h.continues;
        down = h.down;
      },
      inr (refl, refl),
    )
bid_up_after_act laws p e x step a.Quiet is h kept =
    elim (kept refl) [
      | inl k ↦
          inr (record {
            mode = k.0;
            down = h.down;
            flight = Still;
            flies = refl;
            bid =
                in_bid_while_going step.sender.phase step.queue p.receiver.alternation p.receiver.last
                p.spool.records Still k.1
                (subst (λ (z : Act). Continues step.sender.phase step.queue p.receiver.alternation
                p.receiver.last p.spool.records (sent_flight z)) is h.continues);
          })
      | inr k ↦
          inl (
            record {
              mode = k.0;
              up = bid_over_at_rest step.sender.phase step.queue _ _ _ _ k.1 h.continues;
              down = h.down;
            },
            inl refl,
          )
    ]

-- the transmission that is then pending in the poll
ended_with : (p : PeerValue) (e : ℕ) (mode : Mode) (out : Option Message) (replied : Replied)
    (ts : List TributaryValue) → IsEndedUp out mode → (mode ≡ Control → AllInControlMode ts)
    → IsPolledWith (sent_by (sp.Terminal e) out) replied p e ts
ended_with p e mode out replied ts (inl nothing) all =
    subst (λ (o : Option Message). IsPolledWith (sent_by (sp.Terminal e) o) replied p e ts)
    (sym nothing) tt
ended_with p e mode out replied ts (inr eot) all =
    subst (λ (o : Option Message). IsPolledWith (sent_by (sp.Terminal e) o) replied p e ts)
    (sym eot.0) (refl, refl, all eot.1)

pub present_terminal_after_act : (p : PeerValue) (e : ℕ) (u : TributaryValue) (out : Option Message)
    (replied : Replied) (ts : List TributaryValue) → HasActedUp p e u out
    → (u.mode ≡ Control → AllInControlMode ts) →
    (HasNoBid p u × IsPolledWith (sent_by (sp.Terminal e) out) replied p e ts)
    ⊎ IsInBidUp (sent_by (sp.Terminal e) out) p e u
present_terminal_after_act p e u out replied ts (inl h) all =
    inl (h.0, ended_with p e u.mode out replied ts h.1 all)
present_terminal_after_act p e u out replied ts (inr h) all = inr h
