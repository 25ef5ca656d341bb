-- An error is the same, whatever the result would be without it.
use Rattle.std.proofs.Common.{Result, Ok, Err, ap}
use Rattle.std.specs.Prelude.{IsErrOf}

error_or : {T E : Type 0} → E → Result T E → E
error_or other (Ok value) = other
error_or other (Err error) = error

pub error_moved : {T U E : Type 0} (is error : E) → IsErrOf {T = T} (Err is) error
    → IsErrOf {T = U} (Err is) error
unfolding error_or
error_moved is error same = ap Err (ap (error_or is) same)
