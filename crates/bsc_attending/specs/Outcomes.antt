-- What a station answers: that it could not be prepared, that it was cut short, or how it ended.
use Rattle.std.specs.Prelude.{◌≡◌, ◌⊎◌, ℕ, List, Option, Result, Ok, Err, IsErrAnd}
use Rattle.bsc_options.specs.Words.{WordsValue}
use Rattle.bsc_options.specs.Admission.{IsAdmission}
use Rattle.bsc_options.specs.Settings.{SettingsValue, settings_in}
use Rattle.bsc_options.specs.declared.admission.Admission.{Admission}
use Rattle.bsc_bid.specs.declared.speaker.Speaker.{Speaker}
use Rattle.bsc_bid.specs.declared.speaker.Speaker.TheVariants as speaker
use Rattle.bsc_text.specs.declared.form.Form.{Form}
use Rattle.bsc_attending.specs.Ending.{HasEnded, IsConcluded}
use Rattle.bsc_attending.specs.Errors.{IsUnended, cut_short_error}
use Rattle.bsc_attending.specs.Preparing.{IsBegun, IsOptionsRefused, IsPrepared, IsUnprepared}
use Rattle.bsc_attending.specs.declared.attending.Left.{Left}
use Rattle.bsc_attending.specs.declared.cut_short.CutShort.{CutShort}
use Rattle.bsc_attending.specs.declared.error.AttendingError.{AttendingError}
use Rattle.bsc_attending.specs.declared.error.AttendingError.TheVariants as attending
use Rattle.bsc_attending.specs.declared.preparing.Prepared.{Prepared}

-- The results of a station that was prepared. Only a control station tells that its line is not
-- trusted, and only a terminal that its connection was closed by a fault.
abbrev pub IsResultOf : Speaker → Result (Unit {0}) AttendingError → Type 0
IsResultOf speaker (Ok done) = Unit {0}
IsResultOf speaker (Err (attending.Connections error)) = Unit {0}
IsResultOf speaker (Err (attending.Programs error)) = Unit {0}
IsResultOf (speaker.Terminal number) (Err (attending.Closed error)) = Unit {0}
IsResultOf speaker.Control (Err attending.NotTrusted) = Unit {0}
IsResultOf speaker (Err attending.InDoubt) = Unit {0}
IsResultOf speaker (Err attending.Undelivered) = Unit {0}
IsResultOf speaker (Err attending.Output) = Unit {0}
IsResultOf speaker (Err attending.Unprinted) = Unit {0}
IsResultOf speaker (Err (attending.Store error)) = Unit {0}
IsResultOf speaker (Err (attending.Unkept error)) = Unit {0}
IsResultOf speaker (Err attending.Memory) = Unit {0}
IsResultOf speaker result = ⊥

-- What a station answers whose options were read: the configuration or the station is refused, as
-- the error says, or the station was prepared, and this is a result of it.
abbrev pub IsAnswerFor : WordsValue → Speaker → ℕ → Option (List ℕ)
    → Result (Unit {0}) AttendingError → Type 0
IsAnswerFor w speaker peers input result =
    IsErrAnd result (IsUnprepared w speaker peers input)
    ⊎ (IsBegun w speaker input × IsResultOf speaker result)

-- The options were read, and then the station answered this.
pub record HasAnswered (w : WordsValue) (input : Option (List ℕ))
    (result : Result (Unit {0}) AttendingError) : Type 0 where
  pub settings : SettingsValue
  pub read : settings_in w ≡ Ok settings
  pub admission : Admission
  pub admitted : IsAdmission w (Ok admission)
  pub answer : IsAnswerFor w settings.speaker admission.peers.terminals input result

-- What a station answers to these words. The options are read first, then the configuration, and
-- then the records; only after these are connections made.
abbrev pub IsAnswer : WordsValue → Option (List ℕ) → Result (Unit {0}) AttendingError → Type 0
IsAnswer w input result =
    IsErrAnd result (IsOptionsRefused w) ⊎ HasAnswered w input result

-- For a writer, `contents` is what was written to it.
module _ {W : Type 0} (contents : W → Option (List ℕ)) where
  -- The station that the options select was prepared, and it ended: what it prints at its end was
  -- the last that was written, and the result is that of the state in which it ended.
  pub record HasReported (w : WordsValue) (speaker : Speaker) (form : Option Form)
      (input : Option (List ℕ)) (result : Result (Unit {0}) AttendingError) (new : W)
      : Type 0 where
    pub after : Option (List ℕ)
    pub begun : Prepared
    pub prepared : IsPrepared w speaker input after begun
    pub ended : Prepared
    pub ends : HasEnded contents form begun ended result new

  -- The station did not end, as the error says, or its report was printed.
  abbrev pub IsReportedFor : WordsValue → Speaker → Option Form → Option (List ℕ)
      → Result (Unit {0}) AttendingError → W → Type 0
  IsReportedFor w speaker form input result new =
      IsErrAnd result IsUnended ⊎ HasReported w speaker form input result new

  -- The same, where the options say which station it is and how its report is printed.
  pub record Reports (w : WordsValue) (input : Option (List ℕ))
      (result : Result (Unit {0}) AttendingError) (new : W) : Type 0 where
    pub settings : SettingsValue
    pub read : settings_in w ≡ Ok settings
    pub report : HasReported w settings.speaker settings.reported input result new

  abbrev pub IsReported : WordsValue → Option (List ℕ) → Result (Unit {0}) AttendingError → W
      → Type 0
  IsReported w input result new = IsErrAnd result IsUnended ⊎ Reports w input result new

-- What a station prints at its end and its result, by the result with which it was attended: its
-- report and its outcome, or the error of what cut it short.
abbrev pub Finishes : Option Form → Prepared → Result Left CutShort
    → Result (Unit {0}) AttendingError → Option (List ℕ) → Option (List ℕ) → Type 0
Finishes form station (Ok left) result old new = IsConcluded form station left result old new
Finishes form station (Err why) result old new = result ≡ Err (cut_short_error why)
