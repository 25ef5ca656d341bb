-- What a receiver does with what it hears, for both stations: how the records of its spool grow,
-- and that the receiver does not change if it does not reply.
use Rattle.std.proofs.Common.{◌≡◌, ◌⊎◌, inl, inr, ℕ, Bool, List, ◌++◌, None, refl}
use Rattle.bsc_frame.specs.declared.message.Message.TheVariants as m
use Rattle.bsc_frame.specs.declared.message.Heard.{Heard}
use Rattle.bsc_frame.specs.declared.message.Heard.TheVariants.{Whole, Failed, Noise}
use Rattle.bsc_frame.specs.Texts.{TextValue}
use Rattle.bsc_block.specs.Blocks.{records_in}
use Rattle.bsc_spool.specs.Spool.{SpoolValue}
use Rattle.bsc_bid.specs.Receiver.{ReceiverValue, ReceiverStep, Rooms, is_interrupt, is_wack}
use Rattle.bsc_bid.specs.Receiver.{stored_text, taken_urgently, text_step, enq_step, heard_step}
use Rattle.bsc_bid.proofs.Choice.{either_branch}

-- the records are the old ones, or a whole text was heard and they are the old ones and all of its
pub record TakesText (h : Heard) (old new : List (List ℕ)) : Type 0 where
  pub text : TextValue
  pub heard : h ≡ Whole (m.Text text)
  pub becomes : new ≡ old ++ records_in text.units

abbrev pub Grows : Heard → SpoolValue → ReceiverStep → Type 0
Grows h s step = (step.spool.records ≡ s.records) ⊎ TakesText h s.records step.spool.records

grows_text : (r : ReceiverValue) (s : SpoolValue) (t : TextValue) (urgent : Bool) (rooms : Rooms)
    → Grows (Whole (m.Text t)) s (text_step r s t urgent rooms)
grows_text r s t urgent rooms =
    let P = λ (x : ReceiverStep). Grows (Whole (m.Text t)) s x in
    let plain : P (stored_text r s t rooms) =
    inr (record { text = t; heard = refl; becomes = refl }) in
    let urgently : P (taken_urgently r s t rooms) =
    inr (record { text = t; heard = refl; becomes = refl }) in
    either_branch P rooms.first _ _
    (either_branch P urgent _ _ (either_branch P (is_interrupt r.last) _ _ plain urgently) plain)
    (inl refl)

grows_enq : (r : ReceiverValue) (s : SpoolValue) (rooms : Rooms)
    → Grows (Whole m.Enq) s (enq_step r s rooms)
grows_enq r s rooms = either_branch (Grows (Whole m.Enq) s) (is_wack r.last) _ _ (inl refl) (inl refl)

pub grows_heard_step : (r : ReceiverValue) (s : SpoolValue) (h : Heard) (urgent : Bool)
    (rooms : Rooms) → Grows h s (heard_step r s h urgent rooms)
grows_heard_step r s (Whole (m.Text t)) urgent rooms = grows_text r s t urgent rooms
grows_heard_step r s (Whole m.Enq) urgent rooms = grows_enq r s rooms
grows_heard_step r s Failed urgent rooms = inl refl
grows_heard_step r s Noise urgent rooms = inl refl
grows_heard_step r s (Whole m.Eot) urgent rooms = inl refl
grows_heard_step r s (Whole (m.Call x)) urgent rooms = inl refl
grows_heard_step r s (Whole (m.Reply reply)) urgent rooms = inl refl

-- if there is no reply, the receiver does not change
abbrev pub StaysSilent : ReceiverValue → ReceiverStep → Type 0
StaysSilent r step = step.reply ≡ None → step.receiver ≡ r

pub silent_heard_step : (r : ReceiverValue) (s : SpoolValue) (h : Heard) (urgent : Bool)
    (rooms : Rooms) → StaysSilent r (heard_step r s h urgent rooms)
silent_heard_step r s (Whole (m.Text t)) urgent rooms =
    either_branch (StaysSilent r) rooms.first _ _
    (either_branch (StaysSilent r) urgent _ _
    (either_branch (StaysSilent r) (is_interrupt r.last) _ _ (λ e. absurd (cc)) (λ e. absurd (cc)))
    (λ e. absurd (cc)))
    (λ e. absurd (cc))
silent_heard_step r s (Whole m.Enq) urgent rooms =
    either_branch (StaysSilent r) (is_wack r.last) _ _ (λ e. absurd (cc)) (λ e. absurd (cc))
silent_heard_step r s Noise urgent rooms = λ e. refl
silent_heard_step r s Failed urgent rooms = λ e. absurd (cc)
silent_heard_step r s (Whole m.Eot) urgent rooms = λ e. refl
silent_heard_step r s (Whole (m.Call x)) urgent rooms = λ e. refl
silent_heard_step r s (Whole (m.Reply reply)) urgent rooms = λ e. refl
