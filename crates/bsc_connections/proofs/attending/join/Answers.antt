-- `join` puts a new connection in the place for a newcomer, or tells that the newcomer is refused.
use Rattle.std.proofs.Common.{◌≡◌, ℕ, Bool, Option, Some, None, [], ◌∷◌, length, refl, subst}
use Rattle.std.proofs.Common.{sym, ◌∙◌, ap, slice_get}
use Rattle.std.proofs.lemmas.Option.{slice_get-get_or}
use Rattle.bsc_connections.specs.declared.monitor.Refusal.TheVariants.{NoPlace}
use Rattle.bsc_connections.specs.Histories.{HasJoined, WasRefused}
use Rattle.bsc_connections.specs.Attending.{PlaceFor, first_closed, is_open_at}
use Rattle.bsc_connections.proofs.attending.join.Goals as goal

none_if_not_some : (o : Option ℕ) → ((x : ℕ) → o ≡ Some x → ⊥) → o ≡ None
none_if_not_some None not = refl
none_if_not_some (Some x) not = absurd (not x refl)

pub returns-in_default-clause-does : goal.returns-in_default-clause-does
returns-in_default-clause-does g c = (
  WasRefused c.newcomer-peer.result NoPlace ∷ [],
  (
    refl,
    None,
    (subst (λ (o : Option ℕ). PlaceFor g.T.Waiter.may_replace (first_closed c.args.connections.now) (length c.args.connections.now) c.args.waiter.now o) (none_if_not_some _ c.in_default.not-Some) c.place_for.ensures.place),
    (
      refl,
      c.turn_away.ensures,
      c.newcomer-peer.result,
      c.newcomer-peer.ensures,
      (refl, c.note.ensures.told),
    ),
  ),
)

pub returns-clause-does : goal.returns-clause-does
returns-clause-does g c =
    let place : ℕ = c.in-Some.connection in
    let there = slice_get-get_or c.args.connections.now place
    c.index-connections-connection.result c.in-Some.ensures.within in
    let was_open : c.is_open-replaces.result ≡ is_open_at (slice_get c.args.connections.now place)
    = c.is_open-replaces.ensures ∙ sym (ap is_open_at there) in (
      HasJoined place c.peer-peer.result c.is_open-replaces.result ∷ [],
      (
        refl,
        Some place,
        subst (λ (o : Option ℕ). PlaceFor g.T.Waiter.may_replace
            (first_closed c.args.connections.now) (length c.args.connections.now)
            c.args.waiter.now o) c.in-Some.is c.place_for.ensures.place,
        (
          Some (c.in-Some-join.reader, c.in-Some-join.writer),
          subst (λ (o : Option (g.row.R.Denot × g.row.W.Denot)).
              g.T.Waiter.joins c.args.waiter.now place o c.join.new.self) c.in-Some-join.is
              c.join.ensures,
          (
            (
              _,
              c.new.result,
              there,
              refl,
              (c.new.ensures.is_open, c.new.ensures.unwritten, c.new.ensures.starts),
            ),
            c.peer-peer.result,
            c.peer-peer.ensures,
            (
              ap (λ (b : Bool). HasJoined place c.peer-peer.result b ∷ []) was_open,
              subst (λ (b : Bool). g.M.Monitor.is_told c.args.monitor.now c.args.station.now
                  (HasJoined place c.peer-peer.result b) c.note-2.result c.note-2.new.self)
                  was_open c.note-2.ensures.told,
            ),
          ),
        ),
      ),
    )
