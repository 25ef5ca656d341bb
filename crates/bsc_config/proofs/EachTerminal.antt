-- Reading the terminals of a document one after another.
use Rattle.std.proofs.Common.{◌≡◌, ℕ, ◌+◌, ◌<◌, List, [], ◌∷◌, ◌++◌, Result, Ok, Err, length, drop}
use Rattle.std.proofs.Common.{get_or, refl, ap, sym, ◌∙◌, append_assoc, subst}
use Rattle.toml.specs.declared.value.Value.{Value}
use Rattle.toml.specs.View.{items_view, view}
use Rattle.bsc_bid.specs.Terminal.{TerminalValue}
use Rattle.bsc_config.specs.declared.error.ConfigError.{ConfigError}
use Rattle.bsc_config.specs.declared.error.ConfigError.TheVariants as error
use Rattle.bsc_config.specs.declared.values.Version.{Version}
use Rattle.bsc_config.specs.Faults.{Fault, Reports, ◌>>=◌}
use Rattle.bsc_config.specs.Terminals.{terminal_of_value, terminals_of}
use Rattle.bsc_config.proofs.Items.{items_from_index}

-- the first fault of one reading is the fault of both
pub first_fault_reported : {V W : Type 0} (e : ConfigError) (reading : Result V Fault)
    (next : V → Result W Fault) → Reports e reading → Reports e (reading >>= next)
first_fault_reported (error.UnknownKey key) reading next is = ap (λ r. r >>= next) is
first_fault_reported (error.MissingKey key) reading next is = ap (λ r. r >>= next) is
first_fault_reported (error.WrongValue key) reading next is = ap (λ r. r >>= next) is
first_fault_reported error.Memory reading next is = tt
first_fault_reported (error.NotToml line) reading next is = absurd is
first_fault_reported error.NoTerminal reading next is = absurd is
first_fault_reported error.TooManyTerminals reading next is = absurd is
first_fault_reported (error.SameAddresses first second) reading next is = absurd is
first_fault_reported error.EmptyPollList reading next is = absurd is
first_fault_reported (error.PollListEntry place) reading next is = absurd is

-- the readings before, extended by one more terminal
terminals_after_one_more : {V : Type 0} (done : List V) (x : V) (rest : Result (List V) Fault)
    → ((rest >>= λ xs. Ok (x ∷ xs)) >>= λ xs. Ok (done ++ xs))
    ≡ (rest >>= λ xs. Ok ((done ++ x ∷ []) ++ xs))
terminals_after_one_more done x (Err fault) = refl
terminals_after_one_more done x (Ok xs) = ap Ok (sym (append_assoc done (x ∷ []) xs))

module _ (version : Version) (values : List Value) (n : ℕ) (value : Value) where
  pub one_more_terminal : (done : List TerminalValue) (terminal : TerminalValue) → n < length values
      → value ≡ get_or values n value → terminal_of_value version n (view value) ≡ Ok terminal
      → (terminals_of version n (items_view (drop n values)) >>= λ ts. Ok (done ++ ts))
      ≡ (terminals_of version (n + 1) (items_view (drop (n + 1) values)) >>= λ ts. Ok
      ((done ++ terminal ∷ []) ++ ts))
  one_more_terminal done terminal below is reads =
      let rest = terminals_of version (n + 1) (items_view (drop (n + 1) values)) in
      ap (λ items. terminals_of version n items >>= λ ts. Ok (done ++ ts))
      (items_from_index values n value below is)
      ∙ ap (λ (r : Result TerminalValue Fault). (r >>= λ t. rest >>= λ ts. Ok (t ∷ ts))
      >>= λ ts. Ok (done ++ ts)) reads ∙ terminals_after_one_more done terminal rest

  -- the fault of one terminal is the fault of the whole list
  pub terminal_reported : (done : List TerminalValue) (e : ConfigError) → n < length values → value
      ≡ get_or values n value → Reports e (terminal_of_value version n (view value))
      → Reports e (terminals_of version n (items_view (drop n values)) >>= λ ts. Ok (done ++ ts))
  terminal_reported done e below is reported =
      let rest = terminals_of version (n + 1) (items_view (drop (n + 1) values)) in
      subst (λ items. Reports e (terminals_of version n items >>= λ ts. Ok (done ++ ts)))
      (sym (items_from_index values n value below is))
      (first_fault_reported e _ (λ ts. Ok (done ++ ts))
      (first_fault_reported e (terminal_of_value version n (view value))
      (λ t. rest >>= λ ts. Ok (t ∷ ts)) reported))
