use Rattle.cert_check.proofs.Vocabulary.{◌↔◌, Contains, IsTrue, take, Bor, contains, Outcome, borrowed_cmp}
use Rattle.cert_check.proofs.runs.in_order.Given as goal

-- the set has the outcomes so far
abbrev pub invariant-loop-outcome : goal.invariant-loop-outcome
invariant-loop-outcome l = (o : Bor Outcome) → IsTrue (contains borrowed_cmp l.outcomes o) ↔ Contains (take l.outcome-index l.list) o.now
