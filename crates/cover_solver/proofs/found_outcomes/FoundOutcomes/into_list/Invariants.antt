use Rattle.cover_solver.proofs.Vocabulary.{◌≡◌, map}
use Rattle.std.proofs.Common.{take}
use Rattle.cover_solver.proofs.found_outcomes.FoundOutcomes.into_list.Given as goal

-- the runs so far are listed
abbrev pub invariant-loop-labels : goal.invariant-loop-labels
invariant-loop-labels l = l.listed ≡ map (λ labels. labels.items) (take l.labels-index l.labels-items)
