-- A terminal with all records that arrived, and the terminal that begins again as it.
use Rattle.std.proofs.Common.{◌≡◌, ◌∙◌, ◌<◌, ◌+◌, ℕ, zero, suc, Bool, List, [], ◌∷◌, length, Option}
use Rattle.std.proofs.Common.{None, Some, refl, sym, ap, subst, arith}
use Rattle.std.proofs.lemmas.Bool.{lt-ltb}
use Rattle.std.proofs.lemmas.List.{drop-map}
use Rattle.std.specs.Prelude.{if◌then◌else◌}
use Rattle.bsc_block.specs.Records.{forgotten}
use Rattle.bsc_spool.specs.Queue.{waiting}
use Rattle.bsc_spool.specs.Spool.{SpoolValue}
use Rattle.bsc_bid.specs.Stored.{FitsOffered, kept_of}
use Rattle.bsc_bid.specs.declared.kept.KeptSender.{KeptSender}
use Rattle.bsc_tributary.specs.Kept.{IsTributary, SuitsMode}
use Rattle.bsc_tributary.specs.Tributary.{TributaryValue, spool_at}
use Rattle.bsc_spool.specs.Contents.{Contents, records_from}
use Rattle.bsc_spool.specs.declared.channel.Channel.TheVariants.{From}
use Rattle.bsc_spool.specs.declared.store.Found.{Found}
use Rattle.bsc_station.specs.LineTerminal.{LineTerminalValue}
use Rattle.bsc_keeping.specs.Changes.{in_doubt_of}
use Rattle.bsc_keeping.specs.Filled.{doubt_of, forgotten_of}
use Rattle.bsc_keeping.specs.Own.{channel_to, spool_of}
use Rattle.bsc_restarts.specs.AfterCrash.{TerminalBeginsAfterCrash, arrived_at_terminal}
use Rattle.bsc_restarts.specs.AfterCrash.{kept_at_terminal, waiting_at_terminal}
use Rattle.bsc_restarts.specs.BegunAgain.{HasReceived, HasSent, HasTerminal, TerminalBeginsAgain}
use Rattle.bsc_restarts.specs.Kept.{HasAllReceived, HasAllSent, HasReceivedOn}
use Rattle.bsc_restarts.proofs.Lists.{all_each}

-- a block in doubt has a record, if it fits
doubt_again : (d : Option ℕ) (offered known : ℕ)
    → FitsOffered (record { known = known; doubt = d }) offered → doubt_of (in_doubt_of d) ≡ d
doubt_again None offered known fits = refl
doubt_again (Some zero) offered known fits = absurd (omega (arith, fits.doubt.some))
doubt_again (Some (suc count)) offered known fits = refl

pub sent_if_fits : (it : Contents) (k : KeptSender) (rest : List (List ℕ)) (offered : ℕ)
    → FitsOffered k offered → HasAllSent it k rest → HasSent it k rest
sent_if_fits it k rest offered fits has =
    record {
      numbers =
          (λ i. record { known = has.known i; doubt = doubt_of (has.in_doubt i) })
          ∙ ap (λ d. record { known = k.known; doubt = d })
          (doubt_again k.doubt offered k.known fits);
      rest = has.rest;
    }

-- what the store has of a channel is what it has, from any place on
pub received_whole : (it : Contents) (forgets_printed : Bool)
    → HasReceived it forgets_printed (records_from 0 it.arrived)
received_whole it forgets_printed =
    sym (drop-map (λ (f : Found). f.«record») (forgotten_of forgets_printed it) it.arrived)

-- the spools with these records
abbrev filled_spools : (ℕ → List (List ℕ)) → ℕ → List SpoolValue → List SpoolValue
filled_spools f n [] = []
filled_spools f n (p ∷ ps) = record p { records = f n } ∷ filled_spools f (suc n) ps

as_many_spools : (f : ℕ → List (List ℕ)) (n : ℕ) (ps : List SpoolValue)
    → length (filled_spools f n ps) ≡ length ps
as_many_spools f n [] = refl
as_many_spools f n (p ∷ ps) = ap suc (as_many_spools f (suc n) ps)

records_in_spool : (f : ℕ → List (List ℕ)) (n : ℕ) (ps : List SpoolValue) (i : ℕ)
    → i < length ps → (spool_at (filled_spools f n ps) i).records ≡ f (n + i)
records_in_spool f n [] i within = absurd (omega (arith, within))
records_in_spool f n (p ∷ ps) zero within = let at : n ≡ n + 0 = omega arith in ap f at
records_in_spool f n (p ∷ ps) (suc i) within =
    let at : suc n + i ≡ n + suc i = omega arith in
    records_in_spool f (suc n) ps i (omega (arith, within)) ∙ ap f at

-- there is this selection address
arrived_at : (l : LineTerminalValue) (s : ℕ) → s < length l.tributary.terminal.selects
    → arrived_at_terminal l s ≡ (spool_at l.tributary.spools s).records
arrived_at l s few =
    ap (λ b. if b then (spool_at l.tributary.spools s).records else [])
    (lt-ltb s (length l.tributary.terminal.selects) few)

pub terminal_after_crash : TerminalBeginsAgain → TerminalBeginsAfterCrash
terminal_after_crash begins left forgets_printed l new filled is fits is_new has made =
    let t = l.tributary in
    let has_of : ℕ → Contents = λ s. left (channel_to t.terminal s) in
    let all : ℕ → List (List ℕ) = λ s. records_from 0 (has_of s).arrived in
    let whole : TributaryValue = record t { spools = filled_spools all 0 t.spools } in
    let as_many : length whole.spools ≡ length t.spools = as_many_spools all 0 t.spools in
    let in_spool : (s : ℕ) → s < length t.terminal.selects
    → (spool_at whole.spools s).records ≡ all s =
    λ s few.
    let at : 0 + s ≡ s = omega arith in
    records_in_spool all 0 t.spools s (omega (arith, few, is.spools)) ∙ ap all at in
    let got : (s : ℕ) → s < length t.terminal.selects
    → HasAllReceived (has_of s) (spool_at t.spools s).records =
    λ s few.
    subst (HasAllReceived (has_of s)) (arrived_at l s few)
    (all_each
    (HasReceivedOn kept_at_terminal waiting_at_terminal arrived_at_terminal left l)
    (spool_of t.terminal) (length t.terminal.selects) s few has.received).0 in
    let tributary : IsTributary whole =
    record {
      distinct = is.distinct;
      terminal = is.terminal;
      spools = as_many ∙ is.spools;
      format = is.format;
      ready = is.ready;
      bid = subst (SuitsMode t.mode t.sender.phase) (sym as_many) is.bid;
    } in
    let keeps : HasTerminal left forgets_printed whole =
    record {
      sent =
          sent_if_fits (left (From t.terminal.poll)) (kept_of t.sender t.queue) (waiting t.queue)
          (length t.queue.offered) fits has.sent.0;
      received = λ s few.
          subst (HasReceived (has_of s) forgets_printed) (sym (in_spool s few))
          (received_whole (has_of s) forgets_printed);
    } in (
      whole,
      record {
        others = refl;
        spools = as_many;
        all = in_spool;
        same = λ s few. (
          (got s few).places,
          (got s few).same ∙ ap (forgotten (got s few).places) (sym (in_spool s few)),
        );
      },
      begins left forgets_printed whole new filled tributary fits is_new keeps made,
    )
