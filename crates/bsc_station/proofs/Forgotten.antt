-- What a control station forgets in two turns.
use Rattle.bsc_control.specs.Control.{ControlValue}
use Rattle.bsc_station.specs.Forgetting.{ForgetsSent, nothing, further}

pub forgets_in_turn : {first mid last : ControlValue} → ForgetsSent first mid
    → ForgetsSent mid last → ForgetsSent first last
forgets_in_turn before nothing = before
forgets_in_turn before (further after one) = further (forgets_in_turn before after) one
