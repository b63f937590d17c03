-- What the headline says of fenced programs, the answer says of sets of fenced gaps.
use Rattle.std.proofs.Common.{ℕ, List}
use Rattle.gap_sets.specs.Gaps.{SetOfGaps}
use Rattle.tso_program.specs.declared.question.Question.{Question}
use Rattle.tso_machine.specs.Outcomes.{gaps_named, IsTheAnswer, Headline}
use Rattle.tso_machine.specs.FenceLaws.{TheHeadlineIsTheAnswer}
use Rattle.tso_machine.proofs.FencingIsTheMachine.{fencing_is_the_machine}

-- the set of a fenced program
answer_of : (q : Question) (costs : List ℕ) (gaps : SetOfGaps) → Headline q costs gaps → IsTheAnswer q costs gaps
answer_of q costs gaps h = record {
  of_program = h.of_program;
  serves = λ o. let same = fencing_is_the_machine q (gaps_named q gaps) o in ((λ allowed. (h.exactly_sequential o).0 (same.1 allowed)), (λ sequential. same.0 ((h.exactly_sequential o).1 sequential)));
  least = λ other of_program better. let left = h.each_better_leaves_an_outcome other of_program better in record { outcome = left.outcome; left = (fencing_is_the_machine q (gaps_named q other) left.outcome).0 left.left; foreign = left.foreign };
}

-- the fenced program of a set
headline_of : (q : Question) (costs : List ℕ) (gaps : SetOfGaps) → IsTheAnswer q costs gaps → Headline q costs gaps
headline_of q costs gaps a = record {
  of_program = a.of_program;
  exactly_sequential = λ o. let same = fencing_is_the_machine q (gaps_named q gaps) o in ((λ allowed. (a.serves o).0 (same.0 allowed)), (λ sequential. same.1 ((a.serves o).1 sequential)));
  each_better_leaves_an_outcome = λ other of_program better. let left = a.least other of_program better in record { outcome = left.outcome; left = (fencing_is_the_machine q (gaps_named q other) left.outcome).1 left.left; foreign = left.foreign };
}

-- both ways
pub headline_is_the_answer : TheHeadlineIsTheAnswer
headline_is_the_answer q costs gaps = (answer_of q costs gaps, headline_of q costs gaps)
