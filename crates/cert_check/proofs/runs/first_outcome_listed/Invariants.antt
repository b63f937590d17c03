use Rattle.cert_check.proofs.Vocabulary.{◌≡◌, ℕ, ◌<◌, get_or, Outcome, IsOutside}
use Rattle.cert_check.proofs.runs.first_outcome_listed.Given as goal

-- the outcomes so far are not in the list
abbrev pub invariant-loop-number : goal.invariant-loop-number
invariant-loop-number l = (k : ℕ) (o : Outcome) → k < l.number → get_or l.outcomes k o ≡ o → IsOutside l.list o
