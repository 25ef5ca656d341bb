-- The texts so far are copied.
use Rattle.std.proofs.Common.{◌≡◌, map, take, string_bytes}
use Rattle.bsc_words.proofs.given.texts_of.Given as goal

abbrev pub invariant-texts : goal.invariant-texts
invariant-texts l = map string_bytes l.own.items ≡ map (λ t. t.now) (take l.text-index l.texts)
