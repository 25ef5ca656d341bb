-- The line of a fault is one line.
use Rattle.std.proofs.Common.{◌≡◌, List, [], ◌∷◌, ◌++◌, refl, sym, append_assoc, codes, true}
use Rattle.std.specs.List.{AllPass}
use Rattle.std.proofs.lemmas.List.Elements.{All-append}
use Rattle.std.proofs.lemmas.List.Sums.{AllPass-from_list_all}
use Rattle.bsc_text.proofs.Escapes.{is_one_line}
use Rattle.bsc_text.specs.Forms.{AreOctets, escaped, is_printable}
use Rattle.bsc_command.specs.Faults.{IsOneFaultLine, fault_line}

name_printable : AllPass is_printable (codes "bscline: ")
name_printable = AllPass-from_list_all is_printable (codes "bscline: ") refl

pub is_one_fault_line : IsOneFaultLine
is_one_fault_line text octets =
    let line = codes "bscline: " ++ escaped text in (
      line,
      All-append (λ c. is_printable c ≡ true) (codes "bscline: ") (escaped text) name_printable
          (is_one_line text octets),
      sym (append_assoc (codes "bscline: ") (escaped text) (10 ∷ [])),
    )
