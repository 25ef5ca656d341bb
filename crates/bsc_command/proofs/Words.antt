-- What is told of words that `clap` refuses is a fault of the arguments or of printing.
use Rattle.std.proofs.Common.{◌≡◌, ◌≢◌, ◌⊎◌, List, Result, Ok, Err, IfErr, inl, inr, sym}
use Rattle.std.proofs.Common.{subst, ap}
use Rattle.clap.specs.Words.{HasKind, Text, kind_of}
use Rattle.clap.specs.declared.error.Error.{Error}
use Rattle.clap.specs.declared.error.kind.ErrorKind.TheVariants as kind
use Rattle.bsc_words.specs.CommandLine.{IsHelp, faults_at}
use Rattle.bsc_command.specs.declared.fault.Fault.{Fault}
use Rattle.bsc_command.specs.declared.fault.Fault.TheVariants as fault
use Rattle.bsc_command.specs.Faults.{IsEarly, IsPrintFault}
use Rattle.bsc_command.specs.Program.{IsWordsUsage}

abbrev Outcome : Type 0
Outcome = Result (Unit {0}) Fault

-- what was told if there is no fault of wrong usage
abbrev error_or : Error → Fault → Error
error_or error (fault.Usage e) = e
error_or error f = error

abbrev error_in : Error → Outcome → Error
error_in error (Ok done) = error
error_in error (Err f) = error_or error f

-- What the help or the version, memory that ran out, and wrong usage give. A result that is none of
-- the first two is that of wrong usage.
module _ (error : Error) (result : Outcome)
    (help : IsHelp (kind_of error) → (result ≡ Ok tt) ⊎ (result ≡ Err fault.Output))
    (memory : kind_of error ≡ kind.OutOfMemory → result ≡ Err fault.OutOfMemory)
    (usage : (IsHelp (kind_of error) → ⊥) → kind_of error ≢ kind.OutOfMemory
    → result ≡ Err (fault.Usage error))
    (failed : result ≢ Ok tt) (printed : result ≢ Err fault.Output)
    (had_memory : result ≢ Err fault.OutOfMemory) where
  no_help_by : (result ≡ Ok tt) ⊎ (result ≡ Err fault.Output) → ⊥
  no_help_by (inl is) = failed is
  no_help_by (inr is) = printed is

  no_help : IsHelp (kind_of error) → ⊥
  no_help asked = no_help_by (help asked)

  is_usage : result ≡ Err (fault.Usage error)
  is_usage = usage no_help (λ out. had_memory (memory out))

module _ (words : List Text) (error : Error) where
  words_usage : (result : Outcome) → HasKind (faults_at words) error
      → (IsHelp (kind_of error) → (result ≡ Ok tt) ⊎ (result ≡ Err fault.Output))
      → (kind_of error ≡ kind.OutOfMemory → result ≡ Err fault.OutOfMemory)
      → ((IsHelp (kind_of error) → ⊥) → kind_of error ≢ kind.OutOfMemory
      → result ≡ Err (fault.Usage error))
      → IfErr result (λ f. IsWordsUsage words f ⊎ IsPrintFault f)
  words_usage (Ok done) kinds help memory usage = tt
  words_usage (Err fault.Output) kinds help memory usage = inr tt
  words_usage (Err fault.OutOfMemory) kinds help memory usage = inr tt
  words_usage (Err (fault.Usage e)) kinds help memory usage =
      let is =
      is_usage error (Err (fault.Usage e)) help memory usage (λ c. absurd cc) (λ c. absurd cc)
      (λ c. absurd cc) in
      let none =
      no_help error (Err (fault.Usage e)) help memory usage (λ c. absurd cc) (λ c. absurd cc)
      (λ c. absurd cc) in
      inl
      (subst (λ (x : Error). HasKind (faults_at words) x × (IsHelp (kind_of x) → ⊥))
      (sym (ap (error_in error) is)) (kinds, none))
  words_usage (Err (fault.Naming e)) kinds help memory usage =
      let is =
      is_usage error (Err (fault.Naming e)) help memory usage (λ c. absurd cc) (λ c. absurd cc)
      (λ c. absurd cc) in absurd cc
  words_usage (Err (fault.Charting e)) kinds help memory usage =
      let is =
      is_usage error (Err (fault.Charting e)) help memory usage (λ c. absurd cc) (λ c. absurd cc)
      (λ c. absurd cc) in absurd cc
  words_usage (Err (fault.Running e)) kinds help memory usage =
      let is =
      is_usage error (Err (fault.Running e)) help memory usage (λ c. absurd cc) (λ c. absurd cc)
      (λ c. absurd cc) in absurd cc
  words_usage (Err (fault.Attending e)) kinds help memory usage =
      let is =
      is_usage error (Err (fault.Attending e)) help memory usage (λ c. absurd cc)
      (λ c. absurd cc) (λ c. absurd cc) in absurd cc
  words_usage (Err (fault.Feeding e)) kinds help memory usage =
      let is =
      is_usage error (Err (fault.Feeding e)) help memory usage (λ c. absurd cc)
      (λ c. absurd cc) (λ c. absurd cc) in absurd cc
  words_usage (Err (fault.Storing e)) kinds help memory usage =
      let is =
      is_usage error (Err (fault.Storing e)) help memory usage (λ c. absurd cc) (λ c. absurd cc)
      (λ c. absurd cc) in absurd cc

  -- so it is one of these words or of printing, whatever else there is
  in_any : (Other : Fault → Type 0) (result : Outcome)
      → IfErr result (λ f. IsWordsUsage words f ⊎ IsPrintFault f)
      → IfErr result (λ f. IsWordsUsage words f ⊎ (IsPrintFault f ⊎ Other f))
  in_any Other (Ok done) told = tt
  in_any Other (Err f) (inl usage) = inl usage
  in_any Other (Err f) (inr printing) = inr (inl printing)

  pub words_fault : (Other : Fault → Type 0) (result : Outcome)
      → HasKind (faults_at words) error
      → (IsHelp (kind_of error) → (result ≡ Ok tt) ⊎ (result ≡ Err fault.Output))
      → (kind_of error ≡ kind.OutOfMemory → result ≡ Err fault.OutOfMemory)
      → ((IsHelp (kind_of error) → ⊥) → kind_of error ≢ kind.OutOfMemory
      → result ≡ Err (fault.Usage error))
      → IfErr result (λ f. IsWordsUsage words f ⊎ (IsPrintFault f ⊎ Other f))
  words_fault Other result kinds help memory usage =
      in_any Other result (words_usage result kinds help memory usage)

-- what is early is no help that could not be printed
no_early_help : (f : Fault) → IsEarly f
    → (let result : Outcome = Err f in (result ≡ Ok tt) ⊎ (result ≡ Err fault.Output)) → ⊥
no_early_help f early (inl is) = absurd cc
no_early_help f early (inr is) = subst (λ (r : Outcome). IfErr r IsEarly) is early

-- before it nothing is printed
pub words_early : {Same : Type 0} (error : Error) (result : Outcome)
    → (IsHelp (kind_of error) → (result ≡ Ok tt) ⊎ (result ≡ Err fault.Output))
    → ((IsHelp (kind_of error) → ⊥) → Same) → IfErr result (λ f. IsEarly f → Same)
words_early error (Ok done) help quiet = tt
words_early error (Err f) help quiet = λ early. quiet (λ asked. no_early_help f early (help asked))
