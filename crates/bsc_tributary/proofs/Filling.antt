-- A new terminal that is filled with records, and recalls what was kept, is the restarted one.
use Rattle.std.proofs.Common.{◌≡◌, ◌∙◌, ℕ, zero, suc, List, [], ◌∷◌, ◌++◌, length, map, replicate}
use Rattle.std.proofs.Common.{get_or, set, sym, ap, refl, arith, Ok, false}
use Rattle.std.proofs.Math.ListN.{get_or-map}
use Rattle.std.proofs.lemmas.List.{map-set}
use Rattle.std.proofs.lemmas.Simd.{map-map}
use Rattle.std.specs.List.{All}
use Rattle.bsc_spool.specs.Queue.{QueueValue, queue_of}
use Rattle.bsc_spool.specs.Spool.{SpoolValue, GainsRecord, without_room}
use Rattle.bsc_bid.specs.declared.kept.KeptSender.{KeptSender}
use Rattle.bsc_bid.specs.Sender.{SenderValue, restarted_sender}
use Rattle.bsc_bid.specs.Setup.{SetupValue}
use Rattle.bsc_bid.specs.Stored.{FitsOffered, RecallStep, RecallsKept, kept_of, new_sender}
use Rattle.bsc_bid.specs.Stored.{recall_step}
use Rattle.bsc_bid.specs.Terminal.{TerminalValue}
use Rattle.bsc_tributary.specs.Kept.{IsTributary, IsNewTerminal}
use Rattle.bsc_tributary.specs.Stored.{IsFilled, BecomesRestarted, arrived}
use Rattle.bsc_tributary.specs.Tributary.{TributaryValue, empty_spool, spool_at}

-- nothing arrived in any of these spools
nothing_arrived : (spools : List SpoolValue) (n : ℕ) → length spools ≡ n
    → All (λ (s : SpoolValue). (s.records ≡ []) × (s.delays ≡ 0)) spools
    → map (λ (s : SpoolValue). s.records) spools ≡ replicate n []
nothing_arrived [] zero e all = refl
nothing_arrived [] (suc n) e all = absurd (omega (arith, e))
nothing_arrived (s ∷ spools) zero e all = absurd (omega (arith, e))
nothing_arrived (s ∷ spools) (suc n) e all =
    ap (λ (rs : List (List ℕ)). rs ∷ map (λ (x : SpoolValue). x.records) spools)
    (all 0 s (omega arith)).0
    ∙ ap (λ (rss : List (List (List ℕ))). [] ∷ rss)
    (nothing_arrived spools n (omega (arith, e)) (λ i d within. all (suc i) d (omega arith)))

pub filled_new : (setup : SetupValue) (terminal : TerminalValue) (t : TributaryValue)
    → IsNewTerminal setup terminal t
    → IsFilled setup terminal [] (replicate (length terminal.selects) []) t
filled_new setup terminal t new =
    record {
      terminal_given = new.terminal_given;
      mode = new.mode;
      ready = new.ready;
      not_urgent = new.not_urgent;
      sender = new.sender;
      receiver = new.receiver;
      queue = new.queue;
      spools =
          nothing_arrived t.spools (length terminal.selects)
          (new.tributary.spools
          ∙ ap (λ (x : TerminalValue). length x.selects) new.terminal_given)
          new.spools;
    }

pub filled_spooled : (setup : SetupValue) (terminal : TerminalValue) (rs : List (List ℕ))
    (rss : List (List (List ℕ))) (t : TributaryValue) (r : List ℕ) (s : ℕ) (x : SpoolValue)
    → IsFilled setup terminal rs rss t → GainsRecord (spool_at t.spools s) r x
    → IsFilled setup terminal rs (set rss s (get_or rss s [] ++ r ∷ []))
    (record t { spools = set t.spools s x })
filled_spooled setup terminal rs rss t r s x filled gains =
    record {
      terminal_given = filled.terminal_given;
      mode = filled.mode;
      ready = filled.ready;
      not_urgent = filled.not_urgent;
      sender = filled.sender;
      receiver = filled.receiver;
      queue = filled.queue;
      spools =
          map-set (λ (y : SpoolValue). y.records) t.spools s x
          ∙ ap (set (arrived t) s)
          (gains.records
          ∙ ap (λ (ys : List (List ℕ)). ys ++ r ∷ [])
          (sym (get_or-map (λ (y : SpoolValue). y.records) t.spools s empty_spool)))
          ∙ ap (λ (yss : List (List (List ℕ))). set yss s (get_or yss s [] ++ r ∷ []))
          filled.spools;
    }

-- spools with the same records are the same apart from their room
same_apart_from_room : (xs ys : List SpoolValue) → map (λ (s : SpoolValue). s.records) xs
    ≡ map (λ (s : SpoolValue). s.records) ys → map without_room xs ≡ map without_room ys
same_apart_from_room xs ys e =
    let spool_of : List (List ℕ) → SpoolValue =
    λ rs. record { records = rs; room = false; delays = 0 } in
    sym (map-map spool_of (λ (s : SpoolValue). s.records) xs) ∙ ap (map spool_of) e
    ∙ map-map spool_of (λ (s : SpoolValue). s.records) ys

pub becomes_restarted : RecallsKept → (t n : TributaryValue) → IsTributary t
    → FitsOffered (kept_of t.sender t.queue) (length t.queue.offered)
    → IsFilled t.sender.setup t.terminal t.queue.offered (arrived t) n → BecomesRestarted t n
becomes_restarted law t n is fits filled =
    let k : KeptSender = kept_of t.sender t.queue in
    let queue : n.queue ≡ queue_of t.queue.format t.queue.offered 0 =
    filled.queue ∙ ap (λ f. queue_of f t.queue.offered 0) (sym is.format) in
    let step : recall_step n.sender n.queue k
    ≡ record { sender = restarted_sender t.sender; queue = t.queue; answer = Ok tt } =
    ap (λ (s : SenderValue). recall_step s n.queue k) filled.sender
    ∙ ap (λ (q : QueueValue). recall_step (new_sender t.sender.setup) q k) queue
    ∙ law t.sender t.queue fits in
    let sender : (recall_step n.sender n.queue k).sender ≡ restarted_sender t.sender =
    ap (λ (x : RecallStep). x.sender) step in
    let known : (recall_step n.sender n.queue k).queue ≡ t.queue =
    ap (λ (x : RecallStep). x.queue) step in
    let spools : map without_room n.spools ≡ map without_room t.spools =
    same_apart_from_room n.spools t.spools filled.spools in
    record {
      recalls = ap (λ (x : RecallStep). x.answer) step;
      restarts = cc (sender, known, spools);
    }
