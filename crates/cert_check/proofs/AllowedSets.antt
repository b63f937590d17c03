-- What the headline says of names, said of the gaps that they stand for.
use Rattle.cert_check.proofs.Vocabulary.{◌↔◌, ℕ, ◌<◌, ◌≤◌, List, arith, subst, SetOfGaps, AreGapsOf, Outcome, Question}
use Rattle.gap_sets.specs.Ties.{IsAllowed, names_in}
use Rattle.gap_sets.proofs.{Naming.names_contain, Spreading.no_greater}
use Rattle.tso_program.specs.Listings.{gap_count}
use Rattle.tso_machine.specs.Outcomes.{FencedLeavesOutcome, Headline, IsFencedOutcome, IsSequentialOutcome}
use Rattle.tso_machine.specs.TieLaws.{untied}
use Rattle.cert_check.specs.Headlines.{HeadlineOfAllowed}

module _ (q : Question) where
  -- the names of a program's gaps are numbers of its gaps
  names_within : (gaps : SetOfGaps) → AreGapsOf q.program gaps → AreGapsOf q.program (names_in q.ties gaps)
  names_within gaps are name there =
      let (gap, in_gaps, same) = (names_contain q.ties gaps name).0 there in
      let below : gap < gap_count q.program.threads = are gap in_gaps in
      let low : name ≤ gap = subst (λ (n : ℕ). n ≤ gap) same (no_greater q.ties gap) in
      omega arith

  -- what is left with the names of an allowed set fenced is left with its gaps fenced
  left_at : (other : SetOfGaps) → IsAllowed q.ties other → FencedLeavesOutcome q (names_in q.ties other) → FencedLeavesOutcome (untied q) other
  left_at other allowed left = record {
    outcome = left.outcome;
    left = subst (λ (fenced : SetOfGaps). IsFencedOutcome (untied q) fenced left.outcome) allowed left.left;
    foreign = left.foreign;
  }

  pub of_allowed : (costs : List ℕ) (gaps : SetOfGaps) → AreGapsOf q.program gaps → IsAllowed q.ties gaps → Headline q costs (names_in q.ties gaps) → HeadlineOfAllowed q costs gaps
  of_allowed costs gaps are allowed headline = record {
    of_program = are;
    allowed = allowed;
    exactly_sequential = subst (λ (fenced : SetOfGaps). (o : Outcome) → IsFencedOutcome (untied q) fenced o ↔ IsSequentialOutcome q o) allowed headline.exactly_sequential;
    each_better_leaves_an_outcome = λ other of_program is_allowed better.
        left_at other is_allowed (headline.each_better_leaves_an_outcome (names_in q.ties other) (names_within other of_program) better);
  }
