-- The comparison of two messages decides whether they are the same.
use Rattle.std.proofs.Common.{◌≡◌, true, false, refl, sym, ap, subst}
use Rattle.std.specs.Bool.{Decides}
use lib.Pointwise.{bytes_decides}
use mathlib.Core.Bool.{true≢false}
use Rattle.bsc_frame.specs.TextEquality.{text_decides}
use Rattle.bsc_frame.specs.declared.message.Message.{Message}
use Rattle.bsc_frame.specs.declared.message.Message.TheVariants.{Eot, Call, Enq, Reply, Text}
use Rattle.bsc_frame.specs.contracts.message.MessagePartialEq.TheImpl.{eq-value}
use Rattle.bsc_frame.proofs.Replies.{reply_decides}

-- false is not true
false_is_not_true : false ≡ true → ⊥
false_is_not_true e = true≢false (sym e)

-- messages that compare as equal are the same
equal_messages_are_same : (m n : Message) → eq-value.it m n ≡ true → m ≡ n
equal_messages_are_same Eot Eot e = refl
equal_messages_are_same Eot (Call b) e = absurd (false_is_not_true e)
equal_messages_are_same Eot Enq e = absurd (false_is_not_true e)
equal_messages_are_same Eot (Reply s) e = absurd (false_is_not_true e)
equal_messages_are_same Eot (Text u) e = absurd (false_is_not_true e)
equal_messages_are_same (Call a) Eot e = absurd (false_is_not_true e)
equal_messages_are_same (Call a) (Call b) e = ap Call ((bytes_decides a b).0 e)
equal_messages_are_same (Call a) Enq e = absurd (false_is_not_true e)
equal_messages_are_same (Call a) (Reply s) e = absurd (false_is_not_true e)
equal_messages_are_same (Call a) (Text u) e = absurd (false_is_not_true e)
equal_messages_are_same Enq Eot e = absurd (false_is_not_true e)
equal_messages_are_same Enq (Call b) e = absurd (false_is_not_true e)
equal_messages_are_same Enq Enq e = refl
equal_messages_are_same Enq (Reply s) e = absurd (false_is_not_true e)
equal_messages_are_same Enq (Text u) e = absurd (false_is_not_true e)
equal_messages_are_same (Reply r) Eot e = absurd (false_is_not_true e)
equal_messages_are_same (Reply r) (Call b) e = absurd (false_is_not_true e)
equal_messages_are_same (Reply r) Enq e = absurd (false_is_not_true e)
equal_messages_are_same (Reply r) (Reply s) e = ap Reply ((reply_decides r s).0 e)
equal_messages_are_same (Reply r) (Text u) e = absurd (false_is_not_true e)
equal_messages_are_same (Text t) Eot e = absurd (false_is_not_true e)
equal_messages_are_same (Text t) (Call b) e = absurd (false_is_not_true e)
equal_messages_are_same (Text t) Enq e = absurd (false_is_not_true e)
equal_messages_are_same (Text t) (Reply s) e = absurd (false_is_not_true e)
equal_messages_are_same (Text t) (Text u) e = ap Text ((text_decides t u).0 e)

-- a message compares as equal to itself
message_equals_itself : (m : Message) → eq-value.it m m ≡ true
message_equals_itself Eot = refl
message_equals_itself (Call a) = (bytes_decides a a).1 refl
message_equals_itself Enq = refl
message_equals_itself (Reply r) = (reply_decides r r).1 refl
message_equals_itself (Text t) = (text_decides t t).1 refl

-- the comparison decides whether two messages are the same
pub message_decides : (m n : Message) → Decides (eq-value.it m n) (m ≡ n)
message_decides m n = (equal_messages_are_same m n, λ e. subst (λ (k : Message). eq-value.it m k ≡ true) e (message_equals_itself m))
