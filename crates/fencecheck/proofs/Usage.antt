-- When the program prints how it is called.
use Rattle.fencecheck.proofs.Vocabulary.{◌≡◌, ◌==◌, ◌||◌, ℕ, true, false, true≢false, List, [], ◌∷◌, Option, length, map, refl, sym, ◌∙◌, codes, nat_lt, asks_version, version_line, ReadsForVerdict, IsCheckOutput, IsUsage, misused, version}
use Rattle.std.proofs.lemmas.Slice.Eq.{bytes_eq-Decides}

-- the version, where the one word asks for it, and nothing is read then
pub version_output : {W : Type 0} (text : W → List ℕ) (words : List W) (input : Option (List ℕ)) (files : List ℕ → Option (List ℕ)) → asks_version (map text words) ≡ true
    → IsCheckOutput (map text words) input files 0 (version_line (codes "fencecheck")) × ReadsForVerdict (map text words) input input
version_output text (a ∷ []) input files asked = (version ((bytes_eq-Decides (text a) (codes "--version")).0 asked), refl)
version_output text words input files asked = absurd cc

-- for one word, and for more than three; it reads nothing then
pub usage_output : {W : Type 0} (text : W → List ℕ) (words : List W) (input : Option (List ℕ)) (files : List ℕ → Option (List ℕ)) → asks_version (map text words) ≡ false → (length words == 1 || nat_lt 3 (length words)) ≡ true
    → ((status : ℕ) (out : List ℕ) → IsUsage status out → IsCheckOutput (map text words) input files status out) × ReadsForVerdict (map text words) input input
usage_output text (a ∷ []) input files no_version few = ((λ status out. misused status out (λ same. true≢false (sym ((bytes_eq-Decides (text a) (codes "--version")).1 same) ∙ no_version))), refl)
usage_output text (a ∷ (b ∷ (c ∷ (d ∷ words)))) input files no_version few = ((λ status out is. is), refl)
usage_output text words input files no_version few = absurd cc
