-- The fault for words of `store` that are refused says why.
use Rattle.std.proofs.Common.{◌≡◌, Bool, true, false, if◌then◌else◌, Err, inl, inr}
use Rattle.clap.specs.declared.error.kind.ErrorKind.TheVariants as kind
use Rattle.bsc_options.specs.StoreWords.{AskedStore}
use Rattle.bsc_options.specs.Errors.{is_conflict, refusal}
use Rattle.bsc_options.specs.StoreWorks.{work_in}
use Rattle.bsc_options.specs.declared.error.OptionError.{OptionError}
use Rattle.bsc_command.specs.declared.fault.Fault.{Fault}
use Rattle.bsc_command.specs.declared.fault.Fault.TheVariants as fault
use Rattle.bsc_command.specs.Faults.{IsStoreFault, IsUsageOf, options_kind}
use Rattle.bsc_command.specs.Program.{HasFailedStore}

-- wrong usage of either kind is a fault of a work on a store
usage_of_store : (b : Bool) (f : Fault)
    → IsUsageOf (if b then kind.ArgumentConflict else kind.InvalidValue) f → IsStoreFault f
usage_of_store b (fault.Storing error) p = tt
usage_of_store true f p = inr p
usage_of_store false f p = inl p

-- the fault is one of a work on a store
pub store_fault : (why : OptionError) (f : Fault) → IsUsageOf (options_kind why) f → IsStoreFault f
store_fault why f p = usage_of_store (is_conflict (refusal why)) f p

-- it says why the words are refused
pub store_failed : (w : AskedStore) (why : OptionError) (f : Fault)
    → IsUsageOf (options_kind why) f → work_in w ≡ Err (refusal why) → HasFailedStore f w
store_failed w why (fault.Usage error) p q = (why, p, q)
store_failed w why (fault.Storing error) p q = absurd p
store_failed w why f p q = tt
