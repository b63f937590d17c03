use Rattle.hunt_calls.proofs.Vocabulary.{◌≡◌}
use Rattle.hunt_calls.proofs.search.push_script.Given as goal

abbrev pub invariant-loop-word : goal.invariant-loop-word
invariant-loop-word g l = (l.tree.question ≡ l.inquiry.table.now.question) × (l.tree.seats ≡ 2)
