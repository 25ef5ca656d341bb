-- `called` returns the address of the call that the octets carry, or `None` if there is no call.
use Rattle.std.proofs.Common.{refl, sym, ◌∙◌, arith}
use Rattle.bsc_frame.proofs.Calls.{call_ends, call_early, call_empty, call_full, call_wrong}
use Rattle.bsc_frame.proofs.Calls.{call_wrong_code, call_goes_on, call_none}
use Rattle.bsc_frame.proofs.address.Address.called.Goals as goal
use Rattle.bsc_frame.proofs.address.Address.called.Goals.{else-i-gt0-via-then-i-gt0+else-i-octets}
use Rattle.bsc_frame.proofs.address.Address.called.Goals.{else-i-gt0-via-else-i-gt0}

pub returns-then-i-octets : goal.returns-then-i-octets
returns-then-i-octets c =
    call_ends c.loop-i.buffer c.loop-i.i c.args.octets.now c.loop-i.invariant c.loop-i-test.true
    c.if-octet.true c.if-i-gt0.true c.if-i-octets.true

pub returns-else-i-gt0 : goal.returns-else-i-gt0
returns-else-i-gt0 c = elim c.else-i-gt0.branch [
  | else-i-gt0-via-then-i-gt0+else-i-octets w ↦
      call_early c.loop-i.buffer c.loop-i.i c.args.octets.now c.loop-i.invariant c.loop-i-test.true
      c.if-octet.true w.if-i-octets.false
  | else-i-gt0-via-else-i-gt0 w ↦
      call_empty c.loop-i.buffer c.loop-i.i c.args.octets.now _ refl c.loop-i.invariant
      c.loop-i-test.true c.if-octet.true (omega (arith, w.if-i-gt0.false))
]

pub returns-then-i-eq-MAX_ADDRESS : goal.returns-then-i-eq-MAX_ADDRESS
returns-then-i-eq-MAX_ADDRESS c =
    call_full c.loop-i.buffer c.loop-i.i c.args.octets.now c.loop-i.invariant c.loop-i-test.true
    c.if-octet.false c.if-i-eq-MAX_ADDRESS.true

pub returns-in_default : goal.returns-in_default
returns-in_default c =
    call_wrong c.loop-i.buffer c.loop-i.i c.args.octets.now c.loop-i.invariant c.loop-i-test.true
    c.if-octet.false c.if-i-eq-MAX_ADDRESS.false
    (sym c.from_line.ensures.value ∙ c.in_default.is)

pub returns-then-not-is_address_code : goal.returns-then-not-is_address_code
returns-then-not-is_address_code c =
    call_wrong_code c.loop-i.buffer c.loop-i.i c.args.octets.now c.in-Some.code c.loop-i.invariant
    c.loop-i-test.true c.if-octet.false c.if-i-eq-MAX_ADDRESS.false
    (sym c.from_line.ensures.value ∙ c.in-Some.is)
    (sym c.is_address_code.ensures ∙ c.if-not-is_address_code.true)

pub loop-i-preserved : goal.loop-i-preserved
loop-i-preserved c =
    call_goes_on c.loop-i.buffer c.loop-i.i c.args.octets.now c.in-Some.code c.loop-i.invariant
    c.loop-i-test.true c.if-octet.false c.if-i-eq-MAX_ADDRESS.false
    (sym c.from_line.ensures.value ∙ c.in-Some.is)
    (sym c.is_address_code.ensures ∙ c.if-not-is_address_code.false)

pub returns : goal.returns
returns c =
    call_none c.loop-i.buffer c.loop-i.i c.args.octets.now c.loop-i.invariant c.loop-i-test.false
