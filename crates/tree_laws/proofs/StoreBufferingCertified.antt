-- Store buffering: its certificate is valid, so both gaps are the answer.
use Rattle.std.proofs.Common.{◌≤◌, [], ◌∷◌, All, refl, sym, ap, ◌∙◌, subst, inl, inr, arith}
use Rattle.std.specs.FinSet as set
use Rattle.tree_laws.proofs.Vocabulary.{All-nil, All-cons, SetOfGaps, IsValidGap, all_sets, IsWithinLimits, SequentialMachine, AreGapsOf, store_buffering, IsValidCertificate, certificate, costs, StoreBufferingIsCertified}
use Rattle.gap_sets.specs.Order.{total}
use Rattle.gap_sets.proofs.{Examples.total-these, Naming.own_names}
use Rattle.tso_program.proofs.WithinLimits.{limits_are_the_refusals}
use Rattle.candidate_executions.specs.declared.event.Kind.TheVariants as union
use Rattle.tree_laws.proofs.{Regions.new_or_old, CertificateIsProof.certificate_proves, StoreBufferingCovered.question, StoreBufferingCovered.outcomes, StoreBufferingCovered.cover_is_valid}
use Rattle.tree_laws.proofs.{StoreBufferingCycles.both_fenced, StoreBufferingCycles.sequential_cycle, StoreBufferingCycles.fenced_cycle, StoreBufferingRuns.replayed, StoreBufferingRuns.all_outside}
use Rattle.tree_laws.proofs.StoreBufferingGaps.{both_gaps, not_empty, gap_tree_is_valid}
use Rattle.tree_laws.proofs.StoreBufferingBounded.{bounded}

two_gaps : AreGapsOf store_buffering both_gaps
two_gaps gap there = elim (new_or_old (set.insert set.empty 1) 0 gap there) [
  | inl e ↦ omega arith
  | inr later ↦ elim (new_or_old set.empty 1 gap later) [ inl e ↦ omega arith | inr none ↦ absurd (not_empty gap none) ]
]

valid : IsValidCertificate question costs certificate
valid = record {
  shown = refl;
  right_set = record { of_program = two_gaps; allowed = own_names both_gaps };
  one_cost_each = refl;
  cost = sym (total-these costs (0 ∷ 1 ∷ [])) ∙ ap (total costs) (sym (own_names both_gaps));
  outcomes = outcomes;
  replayed = replayed;
  sequential = cover_is_valid SequentialMachine union.Sequential sequential_cycle;
  foreign = all_outside;
  fenced = cover_is_valid both_fenced union.Global fenced_cycle;
  least = subst (λ (gaps : SetOfGaps). IsValidGap question costs gaps certificate.runs certificate.gap_tree all_sets) (sym (own_names both_gaps)) gap_tree_is_valid;
}

within : IsWithinLimits store_buffering.threads store_buffering.memory
within = (limits_are_the_refusals store_buffering.threads store_buffering.memory).0 refl

each_costs : All (λ cost. 1 ≤ cost) costs
each_costs = All-cons (λ cost. 1 ≤ cost) 1 (1 ∷ []) (omega arith) (All-cons (λ cost. 1 ≤ cost) 1 [] (omega arith) (All-nil (λ cost. 1 ≤ cost)))

pub store_buffering_is_certified : StoreBufferingIsCertified
store_buffering_is_certified = record { valid = valid; proved = certificate_proves question costs certificate within each_costs valid; bounded = bounded }
