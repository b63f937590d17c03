use Rattle.survey_text.proofs.Vocabulary.{◌≡◌, ◌++◌, take, flat_map, unexecuted_line}
use Rattle.survey_text.proofs.lines.push_all_unexecuted.Given as goal

-- the instructions so far have their lines
abbrev pub invariant-loop-visit : goal.invariant-loop-visit
invariant-loop-visit l = l.out.items ≡ l.initial.out.items ++ flat_map (unexecuted_line l.litmus l.lines) (take l.visit-index l.visits)
