-- Records are offered at a terminal or at the control station.
use Rattle.std.proofs.Common.{◌≡◌, ℕ, ◌<◌, ◌≤◌, arith, refl, Bool, true, false, List, Option, None}
use Rattle.std.proofs.Common.{Some, Result, Ok, Err, OnOk, OnErr, IfErr, length, position, nat_lt}
use Rattle.std.proofs.Common.{not, if◌then◌else◌, sym, ◌∙◌, ap, subst}
use Rattle.std.proofs.lemmas.List.{set-get_or}
use Rattle.std.proofs.lemmas.Bool.Decides.{nat_tests}
use Rattle.bsc_frame.specs.Octet.{is_record_char}
use Rattle.bsc_block.specs.declared.record.RecordError.{RecordError}
use Rattle.bsc_block.specs.declared.record.RecordError.TheVariants.{TooLong}
use Rattle.bsc_block.specs.Records.{record_of, unless_wrong}
use Rattle.bsc_spool.specs.Queue.{with_offered}
use Rattle.bsc_block.specs.Format.{FormatValue}
use Rattle.bsc_bid.specs.Setup.{SetupValue}
use Rattle.bsc_tributary.specs.Tributary.{TributaryValue}
use Rattle.bsc_tributary.specs.Kept.{KeepsSetupAndMode}
use Rattle.bsc_control.specs.Control.{ControlValue, peer_at, with_peer}
use Rattle.bsc_bid.specs.Terminal.{TerminalValue}
use Rattle.bsc_control.specs.Peer.{IsPeer, no_peer, offered_to}
use Rattle.bsc_control.specs.Kept.{IsControl}
use Rattle.bsc_line_model.specs.declared.error.LineError.{LineError}
use Rattle.bsc_line_model.specs.declared.error.LineError.TheVariants.{Memory}
use Rattle.bsc_line_model.specs.Line.{LineValue, no_terminal, terminal_at, terminal_count}
use Rattle.bsc_line_model.specs.Line.{with_terminal, with_control}
use Rattle.bsc_line_model.specs.Offers.{OffersAt, full_length, select_count, or_bad, read_for}
use Rattle.bsc_line_model.specs.Kept.{IsLine, IsMember}
use Rattle.bsc_line_model.specs.Stays.{OfferAtStays, OfferForStays}

-- what was read is a record
record_of_good_read : (x : Result (List ℕ) RecordError) (r : List ℕ) → or_bad x ≡ Ok r → x ≡ Ok r
record_of_good_read (Ok y) r e = let same : y ≡ r = cc in ap (λ (z : List ℕ). Ok z) same
record_of_good_read (Err y) r e = absurd (cc)

-- and has these codes
own_codes : (long : Bool) (wrong : Option ℕ) (codes r : List ℕ)
    → (if long then Err TooLong else unless_wrong wrong codes) ≡ Ok r → r ≡ codes
own_codes true wrong codes r e = absurd (cc)
own_codes false None codes r e = let same : codes ≡ r = cc in sym same
own_codes false (Some place) codes r e = absurd (cc)

pub read_codes : (full : ℕ) (codes r : List ℕ) → read_for full codes ≡ Ok r → r ≡ codes
read_codes full codes r e =
    own_codes (nat_lt full (length codes)) (position (λ c. not (is_record_char c)) codes) codes r
    (record_of_good_read (record_of full codes) r e)

pub read_good : (full : ℕ) (codes r : List ℕ) → read_for full codes ≡ Ok r → record_of full codes
    ≡ Ok codes
read_good full codes r e = record_of_good_read (record_of full codes) r e
    ∙ ap (λ (z : List ℕ). Ok z) (read_codes full codes r e)

-- which are not too many
few_codes : (full n : ℕ) (long : Bool) (wrong : Option ℕ) (codes r : List ℕ) → nat_lt full n ≡ long
    → (if long then Err TooLong else unless_wrong wrong codes) ≡ Ok r → n ≤ full
few_codes full n true wrong codes r e h = absurd (cc)
few_codes full n false wrong codes r e h = grind (arith, nat_tests)

pub read_short : (full : ℕ) (codes r : List ℕ) → read_for full codes ≡ Ok r → length r ≤ full
read_short full codes r e =
    subst (λ (xs : List ℕ). length xs ≤ full) (sym (read_codes full codes r e))
    (few_codes full (length codes) (nat_lt full (length codes))
    (position (λ c. not (is_record_char c)) codes) codes r refl
    (record_of_good_read (record_of full codes) r e))

-- writing back the terminal that was read changes nothing
put_back : (l : LineValue) (t : ℕ) → with_terminal l t (terminal_at l t) ≡ l
put_back l t =
    ap (λ (ts : List TributaryValue). record l { terminals = ts })
    (set-get_or l.terminals t no_terminal)

pub offer_at_terminal : (old new : LineValue) (t : ℕ) (codes r : List ℕ) (x u : TributaryValue)
    (result : Result (Unit {0}) LineError) → t < terminal_count old
    → read_for (full_length old) codes ≡ Ok r → terminal_at old t ≡ x → new ≡ with_terminal old t u
    →
    OnOk result (u ≡ record x { queue = with_offered x.queue r }) → OnErr result (u ≡ x)
    → IfErr result (λ e. e ≡ Memory) → OffersAt old t codes result new
offer_at_terminal old new t codes r x u (Ok done) less read here is ok err memory =
    let same : u ≡ record (terminal_at old t)
    { queue = with_offered (terminal_at old t).queue codes } =
    ok ∙ ap (λ (y : TributaryValue). record y { queue = with_offered y.queue r }) (sym here)
    ∙ ap (λ (z : List ℕ). record (terminal_at old t)
    { queue = with_offered (terminal_at old t).queue z })
    (read_codes (full_length old) codes r read) in (
      less,
      read_good (full_length old) codes r read,
      is
          ∙ ap (λ (y : TributaryValue). with_terminal old t y) same,
    )
offer_at_terminal old new t codes r x u (Err e) less read here is ok err memory =
    subst (λ (f : LineError). OffersAt old t codes (Err f) new) (sym memory) (
      less,
      read_good (full_length old) codes r read,
      is
          ∙ ap (λ (y : TributaryValue). with_terminal old t y) (err ∙ sym here) ∙ put_back old t,
    )

-- an offer at a terminal, accepted or not, keeps the line's invariant
pub offer_line : (stays : OfferAtStays) (l : LineValue) (t : ℕ) (r : List ℕ) (x u : TributaryValue)
    (result : Result (Unit {0}) LineError) → IsLine l → t < terminal_count l → terminal_at l t ≡ x
    → length r ≤ full_length l → KeepsSetupAndMode x u →
    OnOk result (u ≡ record x { queue = with_offered x.queue r }) → OnErr result (u ≡ x)
    → IsLine (with_terminal l t u)
offer_line stays l t r x u (Ok done) line less here short is ok err =
    stays l t r u line less short is.tributary
    (ok ∙ ap (λ (y : TributaryValue). record y { queue = with_offered y.queue r }) (sym here))
offer_line stays l t r x u (Err e) line less here short is ok err =
    subst (λ (y : TributaryValue). IsLine (with_terminal l t y)) (here ∙ sym err)
    (subst IsLine (sym (put_back l t)) line)

-- and so does an offer for a selection address
pub offer_for_line : {E : Type 0}
    → (stays : OfferForStays) (l : LineValue) (t s : ℕ) (r : List ℕ) (c : ControlValue)
    (result : Result (Unit {0}) E) → IsLine l → t < terminal_count l → s < select_count l t
    → length r ≤ full_length l → IsControl c →
    OnOk result (c ≡ with_peer l.control t (offered_to (peer_at l.control t) s r))
    → OnErr result (c ≡ l.control) → IsLine (with_control l c) × (c.setup ≡ l.control.setup)
offer_for_line stays l t s r c (Ok done) line less select short is ok err =
    (stays l t s r c line less select short is ok, ap (λ (z : ControlValue). z.setup) ok)
offer_for_line stays l t s r c (Err e) line less select short is ok err = (
  subst (λ (z : ControlValue). IsLine (with_control l z)) (sym err) line,
  ap (λ (z : ControlValue). z.setup) err,
)

-- the full length at the control station is that at a terminal
pub terminal_full : (l : LineValue) (t : ℕ) → IsLine l → t < terminal_count l
    → (terminal_at l t).queue.format.full ≡ full_length l
terminal_full l t line less =
    let was : IsMember l.control t (terminal_at l t) = line.stations.members t less in
    ap (λ (f : FormatValue). f.full) (was.tributary.format
    ∙ ap (λ (u : SetupValue). u.format) was.setup)

-- a selection address at the control station is one of the terminal's
pub select_back : (l : LineValue) (t s : ℕ) → IsLine l → t < terminal_count l → s
    < length (peer_at l.control t).outbounds → s < select_count l t
select_back l t s line less within =
    let before : t < length l.control.peers =
    subst (λ (n : ℕ). t < n) (sym line.stations.count) less in
    let of_peer : IsPeer (peer_at l.control t) =
    line.stations.control.entries.peers t no_peer before in
    let here : s < length (peer_at l.control t).terminal.selects =
    subst (λ (n : ℕ). s < n) of_peer.outbounds within in
    subst (λ (y : TerminalValue). s < length y.selects)
    (sym (line.stations.members t less).addresses) here
