-- What a valid certificate claims of itself is right of the question too, whichever question its rule judges: what is shown, the set and the cost.
use Rattle.tree_laws.proofs.Vocabulary.{◌≡◌, ℕ, List, ap, sym, arith, length, ◌∙◌, gap_count, HasRightSet, names_of, Listing, Question, Rule, Whole, Early, IsJudged, IsValidCertificate, IsValidCertificateOf}
use Rattle.gap_sets.specs.Order.{total}
use Rattle.cert_forest.specs.Certificates.{Certificate}
use Rattle.cert_forest.specs.Shows.{shows_of}
use Rattle.dataflow_laws.proofs.{DroppedPlaces.gaps_kept}

pub record IsRightClaim (q : Question) (costs : List ℕ) (c : Certificate) : Type 0 where
  pub shown : c.shown ≡ shows_of q.shown
  pub right_set : HasRightSet q c.gaps
  pub one_cost_each : length costs ≡ gap_count q.program.threads
  pub cost : c.cost ≡ total costs (names_of q c)

by_rule : (rule : Rule) (q : Question) (costs : List ℕ) (c : Certificate) → IsJudged rule q (λ judged. IsValidCertificateOf judged costs c) → IsRightClaim q costs c
by_rule Whole q costs c valid = record { shown = valid.shown; right_set = valid.right_set; one_cost_each = valid.one_cost_each; cost = valid.cost }
by_rule Early q costs c (slim, (here, are, is), valid) =
    let many : gap_count slim.threads ≡ gap_count q.program.threads = ap (λ (p : Listing). gap_count p.threads) is ∙ (gaps_kept q.program here).0 in
    record {
      shown = valid.shown;
      right_set = record { of_program = λ gap there. (let h = valid.right_set.of_program gap there in omega arith); allowed = valid.right_set.allowed };
      one_cost_each = valid.one_cost_each ∙ many;
      cost = valid.cost;
    }

pub right_claim : (q : Question) (costs : List ℕ) (c : Certificate) → IsValidCertificate q costs c → IsRightClaim q costs c
right_claim q costs c valid = by_rule c.rule q costs c valid
