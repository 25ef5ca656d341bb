-- The text of each reason for which a line is not trusted.
use Rattle.std.specs.Prelude.{ℕ, List, [], ◌∷◌, codes, decimal}
use Rattle.std.specs.List.{concat}
use Rattle.bsc_trust.specs.declared.distrust.Distrust.{Distrust}
use Rattle.bsc_trust.specs.declared.distrust.Distrust.TheVariants.{NothingSent, Barred}
use Rattle.bsc_trust.specs.declared.distrust.Distrust.TheVariants.{OtherTerminal}
use Rattle.bsc_trust.specs.declared.distrust.Distrust.TheVariants.{SecondConnection, OtherAddress}
use Rattle.bsc_trust.specs.declared.distrust.Distrust.TheVariants.{LateAnswer, LateReply}

-- The parts of the text, in order.
abbrev pub reason_parts : Distrust → List (List ℕ)
reason_parts (NothingSent connection) =
    codes "connection " ∷ decimal connection
    ∷ codes " was heard though nothing had been sent since the last answer" ∷ []
reason_parts (Barred connection) =
    codes "connection " ∷ decimal connection ∷ codes " had answered out of turn before" ∷ []
reason_parts (OtherTerminal connection terminal called) =
    codes "connection " ∷ decimal connection ∷ codes " of terminal " ∷ decimal terminal
    ∷ codes " answered when terminal " ∷ decimal called ∷ codes " was called" ∷ []
reason_parts (SecondConnection connection first terminal) =
    codes "connections " ∷ decimal first ∷ codes " and " ∷ decimal connection
    ∷ codes " answered when terminal " ∷ decimal terminal ∷ codes " was called" ∷ []
reason_parts (OtherAddress connection terminal) =
    codes "connection " ∷ decimal connection ∷ codes " answered for terminal " ∷ decimal terminal
    ∷ codes " from another address" ∷ []
reason_parts LateAnswer = codes "an answer took longer than the time-out" ∷ []
reason_parts LateReply = codes "a reply was sent later than the time-out" ∷ []

abbrev pub reason_text : Distrust → List ℕ
reason_text distrust = concat (reason_parts distrust)
