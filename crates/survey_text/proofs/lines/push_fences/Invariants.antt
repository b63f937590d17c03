use Rattle.survey_text.proofs.Vocabulary.{◌≡◌, ◌++◌, flat_map, fence_line}
use Rattle.survey_text.proofs.lines.push_fences.Given as goal

-- the fences so far have their lines
abbrev pub invariant-loop-gap : goal.invariant-loop-gap
invariant-loop-gap l = l.out.items ≡ l.initial.out.items ++ flat_map (fence_line l.litmus l.lines) l.yielded
