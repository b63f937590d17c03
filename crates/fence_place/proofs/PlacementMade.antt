-- A certificate that is valid and has each run once is a placement.
use Rattle.fence_place.proofs.Vocabulary.{◌≡◌, ℕ, List, SetOfGaps, total, Certificate, IsValidCertificate, IsProof, AreDistinct, Question, Headline}
use Rattle.tree_laws.specs.Certificates.{names_of}
use Rattle.tree_laws.specs.Laws.{IsProved}
use Rattle.tree_laws.proofs.RightClaims.{right_claim}
use Rattle.cert_check.proofs.AllowedSets.{of_allowed}
use Rattle.search_core.specs.Answers.{the_answer, least_cost}
use Rattle.fence_place.specs.Placements.{IsPlacement}

-- what the law of the checker says: a valid certificate proves the headline, and the headline determines the answer
abbrev pub Proves : Question → List ℕ → Type 0
Proves q costs = (c : Certificate) → IsValidCertificate q costs c → IsProved q costs c

abbrev pub Determines : Question → List ℕ → Type 0
Determines q costs = (gaps : SetOfGaps) (cost : ℕ) → Headline q costs gaps → cost ≡ total costs gaps → (gaps ≡ the_answer q costs) × (cost ≡ least_cost q costs)

module _ (q : Question) (costs : List ℕ) (certificate : Certificate) (proof : IsProof q costs certificate) (once : AreDistinct certificate.runs) where
  pub is_placement : Proves q costs → Determines q costs → IsPlacement q costs certificate
  is_placement proves determines =
      let proved = proves certificate proof.valid in
      let right = right_claim q costs certificate proof.valid in
      let told = determines (names_of q certificate) certificate.cost proved.headline right.cost in
      record {
        headline = proved.headline;
        cost = right.cost;
        best = told.0;
        least = told.1;
        answer = proved.answer;
        fenced = of_allowed q costs certificate.gaps right.right_set.of_program right.right_set.allowed proved.headline;
        proof = proof;
        once = once;
      }
