-- What a station answers, by how it was prepared and how it ran.
use Rattle.std.proofs.Common.{◌≡◌, ℕ, Bool, true, false, List, Option, Some, None, is_some}
use Rattle.std.proofs.Common.{if◌then◌else◌, Result, Ok, Err, ◌⊎◌, inl, inr, subst, sym}
use Rattle.std.proofs.Common.{IfOk, IsErr, IsErrAnd, refl}
use Rattle.bsc_options.specs.Words.{WordsValue}
use Rattle.bsc_carrier.specs.declared.error.CarrierError.{CarrierError}
use Rattle.bsc_config.specs.Settings.{ConfigValue}
use Rattle.bsc_station.specs.declared.standing.Standing.{Standing}
use Rattle.bsc_options.specs.Settings.{SettingsValue, settings_in}
use Rattle.bsc_bid.specs.declared.speaker.Speaker.{Speaker}
use Rattle.bsc_bid.specs.declared.speaker.Speaker.TheVariants as speaker
use Rattle.bsc_text.specs.declared.form.Form.{Form}
use Rattle.bsc_trust.specs.declared.distrust.Distrust.{Distrust}
use Rattle.bsc_attending.specs.Ending.{HasRun, IsLeftBy, IsSameKind, result_of}
use Rattle.bsc_attending.specs.Errors.{IsCutShort, IsPreparingError, IsPrintFault, IsStoreError}
use Rattle.bsc_attending.specs.Errors.{IsUnbegun, IsUnended, closed_outcome, cut_short_error}
use Rattle.bsc_attending.specs.Outcomes.{Finishes, IsAnswerFor, IsReported, IsReportedFor}
use Rattle.bsc_attending.specs.Outcomes.{IsResultOf}
use Rattle.bsc_attending.specs.Preparing.{IsPrepared, IsStationOf, offers_in}
use Rattle.bsc_attending.specs.Runs.{IsNotBegun}
use Rattle.bsc_attending.specs.declared.cut_short.CutShort.{CutShort}
use Rattle.bsc_attending.specs.declared.cut_short.CutShort.TheVariants as cut
use Rattle.bsc_attending.specs.declared.error.AttendingError.{AttendingError}
use Rattle.bsc_attending.specs.declared.error.AttendingError.TheVariants as attending
use Rattle.bsc_attending.specs.declared.preparing.Prepared.{Prepared}
use Rattle.bsc_attending.specs.declared.preparing.Prepared.TheVariants as prepared
use Rattle.bsc_attending.specs.declared.attending.Left.{Left}
use Rattle.bsc_attending.specs.declared.attending.Left.TheVariants.{Control, Terminal}

-- an error that cuts a station short is none of its end
cut_unended : (why : CutShort) → IsUnended (cut_short_error why)
cut_unended (cut.Connections error) = tt
cut_unended (cut.Programs error) = tt
cut_unended cut.Output = tt
cut_unended cut.Unprinted = tt
cut_unended (cut.Unkept error) = tt
cut_unended cut.Memory = tt

pub unended_if_cut : (e : AttendingError) → IsCutShort e → IsUnended e
unended_if_cut e (why, is) = subst (λ error. IsUnended error) (sym is) (cut_unended why)

-- any station may be cut short
cut_result : (r : Speaker) (why : CutShort) → IsResultOf r (Err (cut_short_error why))
cut_result r (cut.Connections error) = tt
cut_result r (cut.Programs error) = tt
cut_result r cut.Output = tt
cut_result r cut.Unprinted = tt
cut_result r (cut.Unkept error) = tt
cut_result r cut.Memory = tt

cut_fits : (r : Speaker) (e : AttendingError) → IsCutShort e → IsResultOf r (Err e)
cut_fits r e (why, is) = subst (λ error. IsResultOf r (Err error)) (sym is) (cut_result r why)

-- any station may have a store that is refused
store_fits : (r : Speaker) (e : AttendingError) → IsStoreError e → IsResultOf r (Err e)
store_fits r (attending.Store error) p = tt
store_fits r attending.Memory p = tt
store_fits r error p = absurd p

-- any station may end in any state of its channels
outcome_fits : (r : Speaker) (doubt waiting : Bool)
    → IsResultOf r (if doubt then Err attending.InDoubt
    else (if waiting then Err attending.Undelivered else Ok tt))
outcome_fits r true waiting = tt
outcome_fits r false true = tt
outcome_fits r false false = tt

-- a control station may also not trust its line
control_fits : (why : Option Distrust) (doubt waiting : Bool)
    → IsResultOf speaker.Control (if is_some why then Err attending.NotTrusted
    else (if doubt then Err attending.InDoubt
    else (if waiting then Err attending.Undelivered else Ok tt)))
control_fits (Some why) doubt waiting = tt
control_fits None doubt waiting = outcome_fits speaker.Control doubt waiting

-- a terminal may also have lost its connection by a fault
terminal_fits : (n : ℕ) (closed : Option CarrierError) (doubt waiting : Bool)
    → IsResultOf (speaker.Terminal n) (if doubt then Err attending.InDoubt
    else (if waiting then Err attending.Undelivered else closed_outcome closed))
terminal_fits n closed true waiting = tt
terminal_fits n closed false true = tt
terminal_fits n (Some error) false false = tt
terminal_fits n None false false = tt

-- the result of what a station left is one of that station
left_fits : (config : ConfigValue) (offers : List (List ℕ)) (input after : Option (List ℕ))
    (r : Speaker) (begun : Prepared) (left : Left) (standing : Standing)
    → IsStationOf config r offers input after begun → IsLeftBy begun left
    → IsResultOf r (result_of left standing)
left_fits config offers input after speaker.Control (prepared.Control c) (Control trust) s p q =
    control_fits trust.distrust s.doubt s.waiting
left_fits config offers input after speaker.Control (prepared.Control c) (Terminal closed) s p q =
    absurd q
left_fits config offers input after speaker.Control (prepared.Terminal l) left s p q = absurd p
left_fits config offers input after (speaker.Terminal n) (prepared.Control c) left s p q = absurd p
left_fits config offers input after (speaker.Terminal n) (prepared.Terminal l) (Control trust) s p q =
    absurd q
left_fits config offers input after (speaker.Terminal n) (prepared.Terminal l) (Terminal closed) s p q =
    terminal_fits n closed s.doubt s.waiting

module _ (w : WordsValue) (r : Speaker) (input after : Option (List ℕ)) (begun : Prepared)
    (prepared : IsPrepared w r input after begun)
    {W : Type 0} (contents : W → Option (List ℕ)) (form : Option Form) (ended : Prepared)
    (new : W) where
  -- what a station answers that was prepared and has run
  pub answer_after : (peers : ℕ) (result : Result (Unit {0}) AttendingError)
      → HasRun contents form begun ended result new → IsAnswerFor w r peers input result
  answer_after peers (Ok done) (inl short) = absurd short
  answer_after peers (Err error) (inl short) =
      inr (record { after = after; begun = begun; prepared = prepared }, cut_fits r error short)
  answer_after peers result (inr ends) =
      inr (
        record { after = after; begun = begun; prepared = prepared },
        subst (IsResultOf r) (sym ends.concludes.result_is)
            (left_fits prepared.config (offers_in w) prepared.middle after r begun ends.left _
            prepared.station ends.leaves),
      )

  -- what it has printed
  pub report_after : (result : Result (Unit {0}) AttendingError)
      → HasRun contents form begun ended result new
      → IsReportedFor contents w r form input result new
  report_after (Ok done) (inl short) = absurd short
  report_after (Err error) (inl short) = inl (unended_if_cut error short)
  report_after result (inr ends) =
      inr (record {
        after = after;
        begun = begun;
        prepared = prepared;
        ended = ended;
        ends = ends;
      })

-- what a station leaves does not depend on its records
left_by_kind : (before after : Prepared) (left : Left) → IsSameKind before after
    → IsLeftBy after left → IsLeftBy before left
left_by_kind (prepared.Control c) (prepared.Control d) (Control trust) same p = tt
left_by_kind (prepared.Control c) (prepared.Control d) (Terminal closed) same p = p
left_by_kind (prepared.Terminal c) (prepared.Terminal d) (Terminal closed) same p = tt
left_by_kind (prepared.Terminal c) (prepared.Terminal d) (Control trust) same p = p
left_by_kind (prepared.Control c) (prepared.Terminal d) left same p = absurd same
left_by_kind (prepared.Terminal c) (prepared.Control d) left same p = absurd same

-- a station that was filled before it ran
pub ran_filled : {W : Type 0} (contents : W → Option (List ℕ)) (form : Option Form)
    (before after ended : Prepared) (result : Result (Unit {0}) AttendingError) (new : W)
    → IsSameKind before after → HasRun contents form after ended result new
    → HasRun contents form before ended result new
ran_filled contents form before after ended result new same (inl short) = inl short
ran_filled contents form before after ended result new same (inr ends) =
    inr (record {
      left = ends.left;
      leaves = left_by_kind before after ends.left same ends.leaves;
      keeps = ends.keeps;
      before = ends.before;
      concludes = ends.concludes;
    })

-- an error of printing is one that cuts short
cut_if_unprinted : (e : AttendingError) → IsPrintFault e → IsCutShort e
cut_if_unprinted attending.Output p = (cut.Output, refl)
cut_if_unprinted attending.Memory p = (cut.Memory, refl)
cut_if_unprinted error p = absurd p

-- a station that was attended, and then finished
pub has_run : {W : Type 0} (contents : W → Option (List ℕ)) (form : Option Form)
    (begun ended : Prepared) (attended : Result Left CutShort)
    (result : Result (Unit {0}) AttendingError) (before new : W)
    → IfOk attended (λ left. IsLeftBy begun left × IsLeftBy ended left)
    → Finishes form ended attended result (contents before) (contents new)
    → HasRun contents form begun ended result new
has_run contents form begun ended (Ok left) (Ok done) before new leaves (inl fault) = absurd fault
has_run contents form begun ended (Ok left) (Err error) before new leaves (inl fault) =
    inl (cut_if_unprinted error fault)
has_run contents form begun ended (Ok left) result before new leaves (inr concludes) =
    inr (record {
      left = left;
      leaves = leaves.0;
      keeps = leaves.1;
      before = before;
      concludes = concludes;
    })
has_run contents form begun ended (Err why) result before new leaves is =
    inl (subst (λ r. IsErrAnd r IsCutShort) (sym is) (why, refl))

-- the same, where the end of it is known by other names
pub run_is : {W : Type 0} (contents : W → Option (List ℕ)) (form : Option Form)
    (begun ended last : Prepared) (attended got : Result Left CutShort)
    (result : Result (Unit {0}) AttendingError) (before new : W) → ended ≡ last → attended ≡ got
    → IfOk got (λ left. IsLeftBy begun left × IsLeftBy last left)
    → Finishes form ended attended result (contents before) (contents new)
    → HasRun contents form begun ended result new
run_is contents form begun ended last attended got result before new is_last is_got leaves
    finishes =
    has_run contents form begun ended attended result before new
    (subst (λ e. IfOk attended (λ left. IsLeftBy begun left × IsLeftBy e left)) (sym is_last)
    (subst (λ r. IfOk r (λ left. IsLeftBy begun left × IsLeftBy last left)) (sym is_got) leaves))
    finishes

-- what cut it short is its result
pub cut_is : (form : Option Form) (ended : Prepared) (attended : Result Left CutShort)
    (result : Result (Unit {0}) AttendingError) (old new : Option (List ℕ))
    → Finishes form ended attended result old new → IsErr attended → IsErrAnd result IsCutShort
cut_is form ended (Ok left) result old new finishes so =
    let clash : false ≡ true = so in absurd cc
cut_is form ended (Err why) result old new is so =
    subst (λ r. IsErrAnd r IsCutShort) (sym is) (why, refl)

-- what a station answers that could not begin
pub answer_unbegun : (w : WordsValue) (r : Speaker) (peers : ℕ) (input : Option (List ℕ))
    (error : AttendingError) → IsNotBegun w r peers input error
    → IsAnswerFor w r peers input (Err error)
answer_unbegun w r peers input error (inl refused) = inl refused
answer_unbegun w r peers input error (inr (begun, refused)) = inr (begun, store_fits r error refused)

-- the options say which station it is and how its report is printed
pub reported_by : (w : WordsValue) (input : Option (List ℕ)) (settings : SettingsValue)
    (read : settings_in w ≡ Ok settings) {W : Type 0} (contents : W → Option (List ℕ)) (new : W)
    (result : Result (Unit {0}) AttendingError)
    → IsReportedFor contents w settings.speaker settings.reported input result new
    → IsReported contents w input result new
reported_by w input settings read contents new result (inl unended) = inl unended
reported_by w input settings read contents new result (inr report) =
    inr (record { settings = settings; read = read; report = report })

-- one that has not begun has not ended either
pub unended_if_unbegun : (e : AttendingError) → IsUnbegun e → IsUnended e
unended_if_unbegun (attending.Closed error) p = absurd p
unended_if_unbegun attending.NotTrusted p = absurd p
unended_if_unbegun attending.InDoubt p = absurd p
unended_if_unbegun attending.Undelivered p = absurd p
unended_if_unbegun error p = tt

-- a station whose store is refused has not begun
pub unbegun_if_refused : (e : AttendingError) → IsStoreError e → IsUnbegun e
unbegun_if_refused (attending.Store error) p = tt
unbegun_if_refused attending.Memory p = tt
unbegun_if_refused error p = absurd p

-- nor has one that could not be prepared
pub unbegun_if_unprepared : (e : AttendingError) → IsPreparingError e → IsUnbegun e
unbegun_if_unprepared (attending.Config error) p = tt
unbegun_if_unprepared (attending.Options error) p = tt
unbegun_if_unprepared (attending.Offer path error) p = tt
unbegun_if_unprepared (attending.Text error) p = tt
unbegun_if_unprepared attending.Memory p = tt
unbegun_if_unprepared error p = absurd p
