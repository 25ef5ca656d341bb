-- Neither what is to be kept of a channel nor how many records arrived changes with forgetting.
use Rattle.std.proofs.Common.{ap, length, refl, inl, inr}
use Rattle.std.proofs.lemmas.List.{length-set}
use Rattle.bsc_control.specs.Control.{peer_at}
use Rattle.bsc_control.specs.Peer.{PeerValue, forgotten_to, no_peer}
use Rattle.bsc_keeping.proofs.ForgottenKept.{all_in_turn, all_of, all_of_like, same_at_control}
use Rattle.bsc_keeping.proofs.ForgottenKept.{same_count, same_length, same_outbounds, same_spools}
use Rattle.bsc_keeping.proofs.OffersKept.{same_at, same_received}
use Rattle.bsc_spool.specs.Spool.{SpoolValue}
use Rattle.bsc_tributary.specs.Tributary.{empty_spool, spool_at}
use Rattle.bsc_keeping.proofs.laws.kept_though_forgotten.Goals as goal

pub returns-clause-terminal : goal.returns-clause-terminal
returns-clause-terminal g c =
    record {
      sent = λ keeper old new has forgets. elim forgets [
        | inl is ↦ all_of _ _ g.K.Store g.M.Prints.printed keeper old new is has
        | inr one ↦ all_of_like _ _ g.K.Store g.M.Prints.printed keeper old _ new one.state
            (λ t s. refl) (λ n. refl) has
      ];
      arrived = λ keeper number count old new has forgets. elim forgets [
        | inl is ↦ all_of _ _ g.K.Store g.M.Prints.printed keeper old new is has
        | inr one ↦ all_of_like _ _ g.K.Store g.M.Prints.printed keeper old _ new one.others
            (λ t s. refl)
            (λ n. same_count n _ _ _ _ refl
            (same_at (λ (it : SpoolValue). length it.records) old.tributary.spools number n
            (spool_at new.tributary.spools number) empty_spool
            (same_length _ _ one.n one.there one.forgets)))
            has
      ];
    }

pub returns-clause-control : goal.returns-clause-control
returns-clause-control g c =
    record {
      sent = λ keeper old new has forgets. all_in_turn _ _ g.K.Store g.M.Prints.printed keeper
          (λ mid after t s before one. elim one [
            | inl is ↦ all_of _ _ g.K.Store g.M.Prints.printed keeper mid after is before
            | inr it ↦ all_of_like _ _ g.K.Store g.M.Prints.printed keeper mid _ after it.state
                (same_at_control mid t s it.n)
                (λ n. ap (λ rs. length rs) (same_received n _ _ _ _
                (length-set mid.peers t (forgotten_to (peer_at mid t) s it.n))
                (same_spools mid t s it.n n)))
                before
          ])
          forgets has;
      arrived = λ keeper number count old new has forgets. elim forgets [
        | inl is ↦ all_of _ _ g.K.Store g.M.Prints.printed keeper old new is has
        | inr one ↦ all_of_like _ _ g.K.Store g.M.Prints.printed keeper old _ new one.others
            (same_outbounds old number (peer_at new number).spool)
            (λ n. same_count n _ _ _ _ (length-set old.peers number _)
            (same_at (λ (it : PeerValue). length it.spool.records) old.peers number n
            (record (peer_at old number) { spool = (peer_at new number).spool }) no_peer
            (same_length _ _ one.n one.there one.forgets)))
            has
      ];
    }
