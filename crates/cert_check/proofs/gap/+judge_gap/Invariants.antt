use Rattle.cert_check.proofs.Vocabulary.{◌≡◌, ◌+◌, ◌*◌, ◌≤◌, ◌<◌, List, All, length, take, drop, numbers_of_set, MAX_GAPS, Question, Label, spell_gaps, HavePassed}
use Rattle.cert_check.proofs.GapSteps.{IsLeft}
use Rattle.cert_check.proofs.gap.+judge_gap.Given as goal

-- the nodes that are left, and the calls before the next one is taken
abbrev pub decreases-judge_gap : goal.decreases-judge_gap
decreases-judge_gap l = 4 * length (spell_gaps l.walk.now)

abbrev pub decreases-judge_gap_child : goal.decreases-judge_gap_child
decreases-judge_gap_child l = 4 * length (spell_gaps l.walk.now) + 1

abbrev pub decreases-judge_gaps : goal.decreases-judge_gaps
decreases-judge_gaps l = 4 * length (spell_gaps l.walk.now) + 2

abbrev pub decreases-judge_split : goal.decreases-judge_split
decreases-judge_split l = 4 * length (spell_gaps l.walk.now) + 3

-- the walk is past the children that were judged, and those that are left decide
abbrev pub invariant-judge_gaps-loop-number : goal.invariant-judge_gaps-loop-number
invariant-judge_gaps-loop-number l = record {
  walked : l.walk ≡ drop l.number l.fn.walk;
  counted : l.number + length l.gap-iterator ≡ length (numbers_of_set l.fn.gaps);
  few : l.number + length l.gap-iterator ≤ MAX_GAPS;
  low : All (λ gap. gap < MAX_GAPS) l.gap-iterator;
  left : (q : Question) (runs : List (List Label)) → HavePassed q runs l.bounds.passed.now →
      IsLeft q l.bounds.costs.now l.bounds.answer runs (take (length (numbers_of_set l.fn.gaps)) l.fn.walk) l.region (numbers_of_set l.fn.gaps) l.number (take (length l.gap-iterator) l.walk) l.rest l.gap-iterator;
}
