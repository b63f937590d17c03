use Rattle.cover_judge.proofs.Vocabulary.{◌+◌, ◌*◌, length, spell_all, choices_in}
use Rattle.cover_judge.proofs.CoverSteps.{IsJudgedTo}
use Rattle.cover_judge.proofs.cover.CoverJudge.+judge.Given as goal

-- the nodes that are left, and the calls before the next one is taken
abbrev pub decreases-judge : goal.decreases-judge
decreases-judge l = 4 * length (spell_all l.walk.now)

abbrev pub decreases-judge_after : goal.decreases-judge_after
decreases-judge_after l = 4 * length (spell_all l.walk.now) + 1

abbrev pub decreases-judge_each : goal.decreases-judge_each
decreases-judge_each l = 4 * length (spell_all l.walk.now) + 2

abbrev pub decreases-judge_children : goal.decreases-judge_children
decreases-judge_children l = 4 * length (spell_all l.walk.now) + 3

-- so many children are judged
abbrev pub invariant-judge_each-loop-number : goal.invariant-judge_each-loop-number
invariant-judge_each-loop-number l = IsJudgedTo l.self.rule l.self.shown.now l.self.outcomes.now l.fn.sketch (choices_in l.choices) l.fn.walk l.number l.sketch l.walk
