-- `passed_over` looks at the entries from the place on, and then at those before it.
use Rattle.std.proofs.Common.{◌≡◌, ℕ, ◌+◌, List, length, take, drop, position, option_map, Option}
use Rattle.std.proofs.Common.{None, Some, sym, ◌∙◌, ap}
use Rattle.std.specs.Prelude.{slice_index_or}
use Rattle.bsc_control.specs.CallOrder.{is_polled, passed_over}
use Rattle.bsc_control.specs.Control.{ControlValue}
use Rattle.bsc_control.specs.Peer.{PeerValue, no_peer}
use Rattle.bsc_control.proofs.Positions.{position_in_front, position_behind}
use Rattle.bsc_control.proofs.procedure.Procedure.passed_over.Goals as goal

-- a search of these terminals is one of the station's
searched : (now : ControlValue) (ps : List PeerValue) (terminals part : List ℕ)
    (found : Option ℕ) → ps ≡ now.peers → terminals ≡ part
    → found ≡ position (λ (t : ℕ). (slice_index_or ps t no_peer).polled) terminals
    → found ≡ position (is_polled now) part
searched now ps terminals part found peers same is =
    is ∙ ap (λ (xs : List PeerValue). position (λ (t : ℕ). (slice_index_or xs t no_peer).polled)
    terminals) peers ∙ ap (position (is_polled now)) same

-- what is found in the first part is found, and else what is found in the second comes after it
found_in_back : (now : ControlValue) (place more : ℕ) (found : Option ℕ)
    → found ≡ position (is_polled now) (drop place now.poll_list) → found ≡ Some more
    → Some more ≡ passed_over now place
found_in_back now place more found is some =
    sym (position_in_front (is_polled now) (drop place now.poll_list) (take place now.poll_list)
    more (sym is ∙ some))

found_in_front : (now : ControlValue) (place : ℕ) (back front : Option ℕ)
    → back ≡ position (is_polled now) (drop place now.poll_list) → back ≡ None
    → front ≡ position (is_polled now) (take place now.poll_list)
    → passed_over now place ≡ option_map (λ (k : ℕ). length (drop place now.poll_list) + k) front
found_in_front now place back front is none there =
    position_behind (is_polled now) (drop place now.poll_list) (take place now.poll_list)
    (sym is ∙ none)
    ∙ ap (option_map (λ (k : ℕ). length (drop place now.poll_list) + k)) (sym there)

pub returns-in-Some : goal.returns-in-Some
returns-in-Some g c =
    let now : ControlValue = c.args.self.now in
    let list = c.as_slice.ensures.value ∙ ap (λ (x : ControlValue). x.poll_list) c.self.view_is in
    found_in_back now c.args.place c.in-Some.more c.first_polled.result
    (searched now c.deref.result.now _ _ c.first_polled.result
    (c.deref.ensures.value ∙ ap (λ (x : ControlValue). x.peers) c.self.view_is)
    (c.split_at.ensures.back ∙ ap (drop c.args.place) list) c.first_polled.ensures) c.in-Some.is

pub returns-in_ok-first_polled-in-None : goal.returns-in_ok-first_polled-in-None
returns-in_ok-first_polled-in-None g c =
    let now : ControlValue = c.args.self.now in
    let list = c.as_slice.ensures.value ∙ ap (λ (x : ControlValue). x.poll_list) c.self.view_is in
    let peers = ap (λ (x : ControlValue). x.peers) c.self.view_is in
    let back = c.split_at.ensures.back ∙ ap (drop c.args.place) list in
    ap (λ (xs : List ℕ). Some (length xs + c.in_ok-first_polled-in-None.field-0)) back
    ∙ sym (found_in_front now c.args.place c.first_polled.result c.first_polled-in-None.result
    (searched now c.deref.result.now _ _ c.first_polled.result (c.deref.ensures.value ∙ peers) back
    c.first_polled.ensures) c.in-None.is
    (searched now c.deref-in-None.result.now _ _ c.first_polled-in-None.result
    (c.deref-in-None.ensures.value ∙ peers)
    (c.split_at.ensures.front ∙ ap (take c.args.place) list) c.first_polled-in-None.ensures)
    ∙ ap (option_map (λ (k : ℕ). length (drop c.args.place now.poll_list) + k))
    c.in_ok-first_polled-in-None.was)

pub returns-in_err-first_polled-in-None : goal.returns-in_err-first_polled-in-None
returns-in_err-first_polled-in-None g c =
    let now : ControlValue = c.args.self.now in
    let list = c.as_slice.ensures.value ∙ ap (λ (x : ControlValue). x.poll_list) c.self.view_is in
    let peers = ap (λ (x : ControlValue). x.peers) c.self.view_is in
    let back = c.split_at.ensures.back ∙ ap (drop c.args.place) list in
    c.from_residual.ensures
    ∙ sym (found_in_front now c.args.place c.first_polled.result c.first_polled-in-None.result
    (searched now c.deref.result.now _ _ c.first_polled.result (c.deref.ensures.value ∙ peers) back
    c.first_polled.ensures) c.in-None.is
    (searched now c.deref-in-None.result.now _ _ c.first_polled-in-None.result
    (c.deref-in-None.ensures.value ∙ peers)
    (c.split_at.ensures.front ∙ ap (take c.args.place) list) c.first_polled-in-None.ensures)
    ∙ ap (option_map (λ (k : ℕ). length (drop c.args.place now.poll_list) + k))
    c.in_err-first_polled-in-None.was)
