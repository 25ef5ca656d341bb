-- What octets are read as, from left to right.
use Rattle.std.specs.Prelude.{ℕ, ◌-◌, ◌==◌, ◌||◌, ◌&&◌, not, Bool, true, false, zero, suc}
use Rattle.std.specs.Prelude.{nat_lt, take, if◌then◌else◌, List, [], ◌∷◌, ◌++◌, ◌≡◌, length, drop}
use Rattle.std.specs.Prelude.{Option, Some, None, Result, Ok, Err, option_and_then}
use Rattle.std.specs.Str.{bytes_eq}
use Rattle.std.specs.List.{prefix_len}
use Rattle.bsc_octet.specs.Octet.{code_of, code_in, is_record_char, is_pad_octet}
use Rattle.bsc_octet.specs.Check.{after_check}
use Rattle.bsc_frame.specs.Texts.{TextUnit, TextValue}
use Rattle.bsc_frame.specs.declared.limits.TheConstants.{MAX_UNITS, MAX_CHARS, MAX_UNIT_CODES}
use Rattle.bsc_frame.specs.declared.limits.TheConstants.{MAX_ADDRESS, MAX_HEARD}
use Rattle.bsc_frame.specs.declared.text.End.TheVariants.{Etb, Etx}
use Rattle.bsc_frame.specs.Message.{read_address}
use Rattle.bsc_frame.specs.Replies.{reply_spelled}
use Rattle.bsc_frame.specs.declared.reply.Reply.{Reply as ReplyValue}
use Rattle.bsc_frame.specs.declared.address.AddressError.{AddressError}
use Rattle.bsc_frame.specs.declared.message.Message.{Message}
use Rattle.bsc_frame.specs.declared.message.Message.TheVariants.{Eot, Call, Enq, Reply, Text}
use Rattle.bsc_frame.specs.declared.message.Heard.{Heard}
use Rattle.bsc_frame.specs.declared.message.Heard.TheVariants.{Whole, Failed, Noise}
use Rattle.bsc_octet.specs.declared.controls.TheConstants.{EM_CODE, ENQ, EOT, ETB, ETB_CODE, ETX}
use Rattle.bsc_octet.specs.declared.controls.TheConstants.{ETX_CODE, PAD, STX, SYN, US, US_CODE}

-- What follows the octets at the front that pass the test.
unfoldable pub skip : (ℕ → Bool) → List ℕ → List ℕ
skip test [] = []
skip test (x ∷ xs) = if test x then skip test xs else x ∷ xs

abbrev pub is_octet : ℕ → ℕ → Bool
is_octet octet x = x == octet

-- Whether an octet is one of two.
abbrev pub is_either : ℕ → ℕ → ℕ → Bool
is_either one other x = (x == one) || (x == other)

-- An octet in front of the rest; it is dropped if it is a PAD and the rest is empty.
abbrev pub before_rest : ℕ → List ℕ → List ℕ
before_rest x [] = if x == PAD then [] else x ∷ []
before_rest x (y ∷ ys) = x ∷ y ∷ ys

-- The octets without PAD at their end.
unfoldable pub trimmed : List ℕ → List ℕ
trimmed [] = []
trimmed (x ∷ xs) = before_rest x (trimmed xs)

-- Nothing may follow the ENQ.
abbrev pub at_end : List ℕ → Option (List ℕ)
at_end [] = Some []
at_end (x ∷ xs) = None

abbrev pub with_code : Option ℕ → Option (List ℕ) → Option (List ℕ)
with_code None codes = None
with_code (Some c) None = None
with_code (Some c) (Some codes) = Some (c ∷ codes)

-- The codes up to an ENQ that ends the octets, at most as many as there is room for.
unfoldable pub called : ℕ → List ℕ → Option (List ℕ)
called room [] = None
called room (x ∷ xs) =
    if x == ENQ then at_end xs
    else if room == 0 then None
    else with_code (code_of x) (called (room - 1) xs)

abbrev pub call_to : Result (List ℕ) AddressError → Option Message
call_to (Ok a) = Some (Call a)
call_to (Err e) = None

-- The call of the address that the octets carry, up to their ENQ.
abbrev pub call_of : List ℕ → Option Message
call_of octets =
    option_and_then (λ codes. call_to (read_address codes)) (called MAX_ADDRESS octets)

-- The call, from the octets after its EOT.
unfoldable pub call : List ℕ → Option Message
call rest = call_of (skip (is_octet SYN) (skip (is_octet PAD) rest))

-- Whether there is a first octet and it passes the test.
abbrev pub begins : (ℕ → Bool) → List ℕ → Bool
begins test [] = false
begins test (x ∷ xs) = test x

-- The reply that a body spells, or else the call that it is.
abbrev pub reply_or_call : Option ReplyValue → List ℕ → Option Message
reply_or_call (Some r) body = Some (Reply r)
reply_or_call None body = if begins (is_octet EOT) body then call (drop 1 body) else None

-- The message of a body that is not a text.
unfoldable pub control : List ℕ → Option Message
control body =
    if bytes_eq body (EOT ∷ []) then Some Eot
    else if bytes_eq body (ENQ ∷ []) then Some Enq
    else reply_or_call (reply_spelled body) body

abbrev pub whole_or_noise : Option Message → Heard
whole_or_noise (Some m) = Whole m
whole_or_noise None = Noise

-- ---- texts

infixl 10 ◌>>=◌
abbrev pub ◌>>=◌ : {A B : Type 0} → Option A → (A → Option B) → Option B
None >>= f = None
(Some x) >>= f = f x

-- Whether a code is US, ETB or ETX.
abbrev pub is_ending_code : ℕ → Bool
is_ending_code c = (c == US_CODE) || ((c == ETB_CODE) || (c == ETX_CODE))

-- Whether an octet carries US, ETB or ETX.
abbrev pub is_ending_octet : ℕ → Bool
is_ending_octet x = (x == US) || ((x == ETB) || (x == ETX))

-- Whether an octet carries none of these.
abbrev pub is_before_ending : ℕ → Bool
is_before_ending x = not (is_ending_octet x)

-- Whether an octet is not SYN.
abbrev pub is_other : ℕ → Bool
is_other x = not (x == SYN)

-- Whether an octet carries a record character.
abbrev pub is_char_octet : ℕ → Bool
is_char_octet x = is_record_char (code_in x)

abbrev pub before_gathered : ℕ → Option (List ℕ × List ℕ) → Option (List ℕ × List ℕ)
before_gathered c None = None
before_gathered c (Some g) = Some (c ∷ g.0, g.1)

abbrev pub gather_code : Option ℕ → List ℕ → Option (List ℕ × List ℕ) → Option (List ℕ × List ℕ)
gather_code None rest more = None
gather_code (Some c) rest more =
    if is_ending_code c then Some (c ∷ [], rest) else before_gathered c more

-- The codes up to the first ending character, without SYN, and the octets after it. There are at
-- most as many codes as there is room for.
unfoldable pub gathered : ℕ → List ℕ → Option (List ℕ × List ℕ)
gathered room [] = None
gathered room (x ∷ xs) =
    if x == SYN then gathered room xs
    else if room == 0 then None
    else gather_code (code_of x) xs (gathered (room - 1) xs)

-- The codes without an STX at their front, if they follow the check of a unit with US.
abbrev pub after_start : Bool → List ℕ → List ℕ
after_start after_us codes =
    if after_us && begins (is_octet STX) codes then drop 1 codes else codes

-- The unit of these characters and its ending character, by the codes that follow the characters.
abbrev pub unit_of_tail : List ℕ → List ℕ → Option (TextUnit × ℕ)
unit_of_tail chars [] = None
unit_of_tail chars (e ∷ []) = Some (record { chars = chars; em = false }, e)
unit_of_tail chars (m ∷ e ∷ []) =
    if m == EM_CODE then Some (record { chars = chars; em = true }, e) else None
unit_of_tail chars (m ∷ e ∷ x ∷ xs) = None

unfoldable pub read_unit : List ℕ → Option (TextUnit × ℕ)
read_unit codes =
    if nat_lt MAX_CHARS (prefix_len is_record_char codes) then None
    else
    unit_of_tail (take (prefix_len is_record_char codes) codes)
    (drop (prefix_len is_record_char codes) codes)

-- Octets of which the last carries an ending character.
pub record IsFront (octets : List ℕ) : Type 0 where
  pub front : List ℕ
  pub last : ℕ
  pub whole : octets ≡ front ++ last ∷ []
  pub ends : is_ending_octet last ≡ true

-- The octets are the characters, EM if the unit has it, and one octet more.
pub record AreParts (octets chars : List ℕ) (em : Bool) (last : ℕ) : Type 0 where
  pub whole : octets ≡ chars ++ (if em then EM_CODE ∷ [] else []) ++ last ∷ []
  pub no_em : em ≡ false → (front : List ℕ) → chars ≡ front ++ EM_CODE ∷ [] → ⊥

-- The unit of these codes, its ending character, and the octets after its check, which comes first
-- in the octets.
abbrev pub unit_before : Bool → List ℕ → List ℕ → Option (TextUnit × ℕ × List ℕ)
unit_before after_us codes octets = do
  rest ← after_check codes octets
  u ← read_unit (after_start after_us codes)
  Some (u.0, u.1, rest)

-- The first unit, its ending character, and the octets after its check.
unfoldable pub unit_at : Bool → List ℕ → Option (TextUnit × ℕ × List ℕ)
unit_at after_us octets = do
  g ← gathered MAX_UNIT_CODES octets
  unit_before after_us g.0 g.1

abbrev pub before_units : TextUnit → Option TextValue → Option TextValue
before_units u None = None
before_units u (Some t) = Some (record { units = u ∷ t.units; end = t.end })

-- Nothing may follow the last unit.
abbrev pub last_unit : TextUnit → ℕ → List ℕ → Option TextValue
last_unit u e [] = Some (record { units = u ∷ []; end = if e == ETB_CODE then Etb else Etx })
last_unit u e (x ∷ xs) = None

-- The text of at most this many units.
unfoldable pub units_at : ℕ → Bool → List ℕ → Option TextValue
units_at zero after_us octets = None
units_at (suc n) after_us octets = do
  u ← unit_at after_us octets
  if u.1 == US_CODE then before_units u.0 (units_at n true u.2) else last_unit u.0 u.1 u.2

abbrev pub whole_or_failed : Option TextValue → Heard
whole_or_failed (Some t) = Whole (Text t)
whole_or_failed None = Failed

-- What a body is heard as.
unfoldable pub heard_body : List ℕ → Heard
heard_body body =
    if begins (is_octet STX) body then whole_or_failed (units_at MAX_UNITS false (drop 1 body))
    else whole_or_noise (control body)

-- What is heard, from the octets after the leading pads.
abbrev pub heard_from_syn : List ℕ → Heard
heard_from_syn rest =
    if begins (is_octet SYN) rest then heard_body (trimmed (skip (is_octet SYN) rest)) else Noise

unfoldable pub heard : List ℕ → Heard
heard octets =
    if nat_lt MAX_HEARD (length octets) then Noise else heard_from_syn (skip is_pad_octet octets)
