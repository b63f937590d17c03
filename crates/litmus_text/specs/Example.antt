-- Store buffering (Sewell et al., CACM 2010) with an MFENCE in each of its gaps, as an example of canonical text.
use Rattle.std.specs.Prelude.{◌≡◌, ℕ, Bool, true, false, nat_le, List, [], ◌∷◌, ◌++◌, codes}
use Rattle.tso_program.specs.declared.instruction.Reg.TheVariants.{Eax}
use Rattle.tso_program.specs.declared.listing.Listing.{Listing}
use Rattle.tso_program.specs.Fences.{fence}
use Rattle.tso_program.specs.declared.atom.Atom.TheVariants as atom
use Rattle.conditions.specs.declared.condition.Quantifier.TheVariants.{Exists}
use Rattle.tso_program.specs.Tree as tree
use Rattle.tso_machine.specs.Examples.{store_buffering}
use Rattle.litmus_reader.specs.declared.litmus.Litmus.{Litmus}
use Rattle.litmus_reader.specs.Names.{TextNames}
use Rattle.litmus_text.specs.Canonical.{canonical_text}

-- EAX alone is named
abbrev pub eax : List Bool
eax = true ∷ false ∷ false ∷ false ∷ false ∷ false ∷ []

abbrev pub eax_names : TextNames
eax_names = record { locations = codes "x" ∷ codes "y" ∷ []; registers = eax ∷ eax ∷ [] }

-- with an MFENCE in each gap
abbrev pub fenced : Litmus Listing
fenced = record {
  name = codes "SB";
  program = fence (λ t k. nat_le 1 k) store_buffering;
  names = eax_names;
  condition = record { quantifier = Exists; formula = tree.And (tree.Atom (atom.Register 0 Eax 0)) (tree.Atom (atom.Register 1 Eax 0)) };
  observed = [];
  labels = [] ∷ [] ∷ [];
}

-- a line and what follows it
abbrev pub line : List ℕ → List ℕ → List ℕ
line bytes rest = bytes ++ 10 ∷ rest

-- its canonical text
abbrev pub StoreBufferingIsWritten : Type 0
StoreBufferingIsWritten =
    canonical_text fenced
    ≡ line (codes "X86 SB") (line (codes "{ x=0; y=0; 0:EAX=0; 1:EAX=0; }") (line (codes "P0 | P1 ;")
    (line (codes "MOV [x],$1 | MOV [y],$1 ;") (line (codes "MFENCE | MFENCE ;") (line (codes "MOV EAX,[y] | MOV EAX,[x] ;")
    (line (codes "exists (0:EAX=0 /\\ 1:EAX=0)") []))))))
