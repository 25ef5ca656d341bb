-- The address of a call, read octet by octet.
use Rattle.std.proofs.Common.{◌≡◌, ℕ, ◌+◌, ◌-◌, ◌<◌, ◌≤◌, ◌==◌, Bool, true, false, refl, sym, ap}
use Rattle.std.proofs.Common.{◌∙◌, arith}
use Rattle.std.proofs.Common.{List, [], ◌∷◌, ◌++◌, length, take, drop, set, get_or, replicate}
use Rattle.std.proofs.Common.{IsTrue, subst}
use Rattle.std.proofs.Common.{length-take, length-set, append_assoc, drop-drop}
use Rattle.std.proofs.Common.{Option, Some, None, Result, Ok, Err, option_and_then}
use Rattle.std.specs.List.{AllByRecursion}
use Rattle.std.proofs.lemmas.Bool.{eqb-true, eqb-false}
use Rattle.std.proofs.lemmas.List.{take_more_set, drop-set-lt, drop-replicate}
use Rattle.bsc_octet.specs.Octet.{code_of, is_address_code}
use Rattle.bsc_frame.specs.Addresses.{IsAddress}
use Rattle.bsc_frame.specs.Message.{read_address}
use Rattle.bsc_frame.specs.Reading.{called, call_of, call_to}
use Rattle.bsc_frame.specs.declared.address.AddressError.{AddressError}
use Rattle.bsc_frame.specs.declared.limits.TheConstants.{MAX_ADDRESS}
use Rattle.bsc_frame.specs.declared.message.Message.TheVariants.{Call}
use Rattle.bsc_octet.specs.declared.controls.TheConstants.{ENQ}
use Rattle.bsc_frame.proofs.ControlSequences.{address_read, address_reads}
use Rattle.bsc_frame.proofs.ReadingSteps.{Reads, with_codes, called_end, called_early, called_full}
use Rattle.bsc_frame.proofs.ReadingSteps.{called_wrong}
use Rattle.bsc_frame.proofs.ReadingSteps.{called_more, called_none}
use Rattle.bsc_octet.proofs.Elements.{all_append}

-- The loop invariant: the codes before the place stand at the front of the buffer, all of them may
-- stand in an address, and zeros follow.
pub record Called (buffer : List ℕ) (i : ℕ) (s : List ℕ) : Type 0 where
  pub within : i ≤ MAX_ADDRESS
  pub whole : length buffer ≡ MAX_ADDRESS
  pub codes : AllByRecursion (λ c. IsTrue (is_address_code c)) (take i buffer)
  pub zeros : drop i buffer ≡ replicate (MAX_ADDRESS - i) 0
  pub reads : Reads (take i buffer) i s

-- there are as many codes as octets before the place
called_front_length : (b : List ℕ) (i : ℕ) (s : List ℕ) → Called b i s → length (take i b) ≡ i
called_front_length b i s c = omega (arith, length-take i b, c.within, c.whole)

-- codes that were read are an address
front_is : (b : List ℕ) (i : ℕ) (s : List ℕ) → Called b i s → 0 < i → IsAddress (take i b)
front_is b i s c h =
    let long = called_front_length b i s c in
    record { some = omega (arith, long); most = omega (arith, long, c.within); each = c.codes }

-- the codes that are read up to ENQ decide the message
call_of_codes_up_to_enq : (s : List ℕ) (o : Option (List ℕ)) → o ≡ called MAX_ADDRESS s
    → option_and_then (λ codes. call_to (read_address codes)) o ≡ call_of s
call_of_codes_up_to_enq s o e = ap (option_and_then (λ codes. call_to (read_address codes))) e

-- an ENQ at the end, after codes, ends the call
pub call_ends : (b : List ℕ) (i : ℕ) (s : List ℕ) → Called b i s → i < length s → get_or s i 0
    ≡ ENQ
    → 0 < i → i + 1 ≡ length s → Some (Call (take i b)) ≡ call_of s
call_ends b i s c l e some last =
    sym (ap call_to (address_read (take i b) (front_is b i s c some)))
    ∙ call_of_codes_up_to_enq s (Some (take i b)) (called_end (take i b) i s c.reads l e last)

-- an ENQ before the end is no call
pub call_early : (b : List ℕ) (i : ℕ) (s : List ℕ) → Called b i s → i < length s → get_or s i 0
    ≡ ENQ
    → (i + 1 ≡ length s → ⊥) → None ≡ call_of s
call_early b i s c l e more = call_of_codes_up_to_enq s None (called_early (take i b) i s c.reads l e more)

-- an ENQ before any code is no call
pub call_empty : (b : List ℕ) (i : ℕ) (s : List ℕ) (last : Bool) → (i + 1 == length s) ≡ last
    → Called b i s
    → i < length s → get_or s i 0 ≡ ENQ → i ≡ 0 → None ≡ call_of s
call_empty b i s true t c l e none =
    let nothing : [] ≡ take i b = rw none refl in
    call_of_codes_up_to_enq s (Some []) (ap Some nothing
    ∙ called_end (take i b) i s c.reads l e (eqb-true (i + 1) (length s) t))
call_empty b i s false t c l e none = call_early b i s c l e (eqb-false (i + 1) (length s) t)

-- more codes than an address has are no address
pub call_full : (b : List ℕ) (i : ℕ) (s : List ℕ) → Called b i s → i < length s
    → (get_or s i 0 ≡ ENQ → ⊥)
    → i ≡ MAX_ADDRESS → None ≡ call_of s
call_full b i s c l e full =
    call_of_codes_up_to_enq s None (called_full (take i b) i s c.reads l e (called_front_length b i s c ∙ full))

-- an octet of even parity is in no address
pub call_wrong : (b : List ℕ) (i : ℕ) (s : List ℕ) → Called b i s → i < length s
    → (get_or s i 0 ≡ ENQ → ⊥)
    → (i ≡ MAX_ADDRESS → ⊥) → code_of (get_or s i 0) ≡ None → None ≡ call_of s
call_wrong b i s c l e less k =
    call_of_codes_up_to_enq s None (called_wrong (take i b) i s c.reads l e
    (omega (arith, called_front_length b i s c, c.within)) k)

-- octets without ENQ are no call
pub call_none : (b : List ℕ) (i : ℕ) (s : List ℕ) → Called b i s → length s ≤ i → None ≡ call_of s
call_none b i s c l = call_of_codes_up_to_enq s None (called_none (take i b) i s c.reads l)

-- ---- a code that may not stand in an address

-- codes with a wrong one among them are not all allowed
not_all : (front rest : List ℕ) (c : ℕ) → is_address_code c ≡ false
    → AllByRecursion (λ c. IsTrue (is_address_code c)) (front ++ c ∷ rest) → ⊥
not_all [] rest c e h = let k : true ≡ false = sym h.0 ∙ e in cc
not_all (x ∷ front) rest c e h = not_all front rest c e h.1

-- codes that are no address are read as no call
no_call : (r : Result (List ℕ) AddressError) (codes : List ℕ) → read_address codes ≡ r
    → (IsAddress codes → ⊥) → call_to r ≡ None
no_call (Err x) codes e n = refl
no_call (Ok a) codes e n =
    let k = address_reads codes a e in
    absurd (n (subst IsAddress (sym k.0) k.1))

-- whatever follows a wrong code, there is no call
with_wrong : (front : List ℕ) (c : ℕ) (x : Option (List ℕ)) → is_address_code c ≡ false
    → option_and_then (λ codes. call_to (read_address codes)) (with_codes (front ++ c ∷ []) x)
    ≡ None
with_wrong front c None e = refl
with_wrong front c (Some cs) e = rw (append_assoc front (c ∷ []) cs)
    (no_call (read_address (front ++ c ∷ cs)) (front ++ c ∷ cs) refl
    (λ a. not_all front cs c e a.each))

-- one code more was read
code_more : (b : List ℕ) (i : ℕ) (s : List ℕ) (k : ℕ) → Called b i s → i < length s
    → (get_or s i 0 ≡ ENQ → ⊥) → (i ≡ MAX_ADDRESS → ⊥) → code_of (get_or s i 0) ≡ Some k
    → Reads (take i b ++ k ∷ []) (i + 1) s
code_more b i s k c l e less h =
    called_more (take i b) i s k c.reads l e
    (omega (arith, called_front_length b i s c, c.within)) h

-- if the code may not stand in an address, there is no call
pub call_wrong_code : (b : List ℕ) (i : ℕ) (s : List ℕ) (k : ℕ) → Called b i s → i < length s
    → (get_or s i 0 ≡ ENQ → ⊥) → (i ≡ MAX_ADDRESS → ⊥) → code_of (get_or s i 0) ≡ Some k
    → is_address_code k ≡ false → None ≡ call_of s
call_wrong_code b i s k c l e less h wrong =
    sym (with_wrong (take i b) k _ wrong) ∙ call_of_codes_up_to_enq s _ (code_more b i s k c l e less h).rest

-- if the code may stand in an address, the loop goes on
pub call_goes_on : (b : List ℕ) (i : ℕ) (s : List ℕ) (k : ℕ) → Called b i s → i < length s
    → (get_or s i 0 ≡ ENQ → ⊥) → (i ≡ MAX_ADDRESS → ⊥) → code_of (get_or s i 0) ≡ Some k
    → is_address_code k ≡ true → Called (set b i k) (i + 1) s
call_goes_on b i s k c l e less h right =
    let front : take (i + 1) (set b i k) ≡ take i b ++ k ∷ [] =
    take_more_set b i k (omega (arith, c.within, c.whole)) in
    let fewer : MAX_ADDRESS - i - 1 ≡ MAX_ADDRESS - (i + 1) = omega arith in
    record {
      within = omega (arith, c.within);
      whole = length-set b i k ∙ c.whole;
      codes =
          rw front (all_append (λ c. IsTrue (is_address_code c)) (take i b) (k ∷ []) c.codes
          (right, tt));
      zeros = drop-set-lt (i + 1) b i k (omega arith) ∙ sym (drop-drop 1 i b) ∙ ap (drop 1) c.zeros
          ∙ drop-replicate 1 (MAX_ADDRESS - i) 0 ∙ ap (λ n. replicate n 0) fewer;
      reads = rw front (code_more b i s k c l e less h);
    }
