-- A walk: transmissions in a row, each heard as it was sent, during which no room is refused.
use Rattle.std.proofs.Common.{◌≡◌, ◌⊎◌, inl, inr, ℕ, zero, suc, ◌+◌, IsTrue, None, Some, Result, Ok}
use Rattle.std.proofs.Common.{Err, sym, ◌∙◌, subst}
use Rattle.bsc_frame.specs.declared.message.Heard.TheVariants.{Whole}
use Rattle.bsc_line_model.specs.declared.transmission.Transmission.{Transmission}
use Rattle.bsc_line_model.specs.declared.error.LineError.{LineError}
use Rattle.bsc_line_model.specs.declared.error.LineError.TheVariants as e
use Rattle.bsc_line_model.specs.declared.error.Stopped.{Stopped}
use Rattle.bsc_line_model.specs.Line.{LineValue}
use Rattle.bsc_line_model.specs.Carries.{IsCarriedBy}
use Rattle.bsc_line_model.specs.Runs.{Carries, CarriesAs}
use Rattle.bsc_line_model.specs.Kept.{IsLine}
use Rattle.bsc_line_model.specs.Together.{AreTogether}
use Rattle.bsc_line_model.specs.Rounds.{SameDelays}
use Rattle.bsc_control.proofs.Calls.{HasPlaces, places}

-- a trusted line that keeps the invariant
pub record IsGood (l : LineValue) : Type 0 where
  pub line : IsLine l
  pub trusted : IsTrue l.trusted
  pub together : AreTogether l

pub good_places : (l : LineValue) → IsGood l → HasPlaces l.control
good_places l g = places l.control g.line.stations.control.entries

-- a transmission is carried as it was sent, and the rest follows
pub record Goes (old : LineValue) (Rest : LineValue → Type 0) : Type 0 where
  pub mid : LineValue
  pub carried : Carries (λ (sent : Transmission). Whole sent.message) old (Ok tt) mid
  pub delays : SameDelays old mid
  pub good : IsGood mid
  pub rest : Rest mid

pub record Halts (at : ℕ) (old : LineValue) (stopped : Stopped) (new : LineValue) : Type 0 where
  pub place : stopped.at ≡ at
  pub refused : Carries (λ (sent : Transmission). Whole sent.message) old (Err stopped.why) new

-- this many transmissions, or fewer if one is refused
abbrev pub Walks : ℕ → ℕ → LineValue → Result (Unit {0}) Stopped → LineValue → Type 0
Walks at zero old (Ok done) new = new ≡ old
Walks at zero old (Err e) new = ⊥
Walks at (suc n) old (Ok done) new = Goes old (λ mid. Walks (at + 1) n mid (Ok done) new)
Walks at (suc n) old (Err e) new = Halts at old e new
    ⊎ Goes old (λ mid. Walks (at + 1) n mid (Err e) new)

-- a pending transmission is not refused
never_refused : (old new : LineValue) (why : LineError) (s : Transmission) → old.pending ≡ Some s
    → Carries (λ (sent : Transmission). Whole sent.message) old (Err why) new → ⊥
never_refused old new e.NothingSent s is h = let none : old.pending ≡ None = h.0 in
    let both : Some s ≡ None = sym is ∙ none in cc
never_refused old new e.NotControl s is h = h
never_refused old new e.WrongCount s is h = h
never_refused old new e.Pending s is h = h
never_refused old new e.NoSuchTerminal s is h = h
never_refused old new e.NoSuchAddress s is h = h
never_refused old new (e.BadRecord r) s is h = h
never_refused old new e.Memory s is h = h
never_refused old new e.NotInDoubt s is h = h
never_refused old new e.CountMismatch s is h = h

-- one step of a walk
pub record Stepped (s : Transmission) (old : LineValue) (Rest : LineValue → Type 0) : Type 0 where
  pub mid : LineValue
  pub carried : IsCarriedBy s.speaker s.message (Whole s.message) old mid
  pub delays : SameDelays old mid
  pub good : IsGood mid
  pub rest : Rest mid

stepped_of_pending : (s : Transmission) (old : LineValue) (Rest : LineValue → Type 0) → old.pending ≡ Some s
    → Goes old Rest → Stepped s old Rest
stepped_of_pending s old Rest is g =
    let h : CarriesAs (λ (sent : Transmission). Whole sent.message) old g.mid = g.carried in
    let both : Some h.sent ≡ Some s = sym h.pending ∙ is in
    let same : h.sent ≡ s = cc in
    record {
      mid = g.mid;
      carried =
          subst (λ (z : Transmission). IsCarriedBy z.speaker z.message (Whole z.message) old g.mid)
          same h.carried;
      delays = g.delays;
      good = g.good;
      rest = g.rest;
    }

pub one_step : (at n k : ℕ) (s : Transmission) (old new : LineValue) (r : Result (Unit {0}) Stopped)
    → old.pending ≡ Some s → k ≡ suc n → Walks at k old r new
    → Stepped s old (λ mid. Walks (at + 1) n mid r new)
one_step at n k s old new r is count w =
    by_result r (subst (λ (j : ℕ). Walks at j old r new) count w)
  where
    by_result : (r : Result (Unit {0}) Stopped) → Walks at (suc n) old r new
        → Stepped s old (λ mid. Walks (at + 1) n mid r new)
    by_result (Ok done) g = stepped_of_pending s old (λ mid. Walks (at + 1) n mid (Ok done) new) is g
    by_result (Err stopped) (inl h) = absurd (never_refused old new stopped.why s is h.refused)
    by_result (Err stopped) (inr g) =
        stepped_of_pending s old (λ mid. Walks (at + 1) n mid (Err stopped) new) is g
