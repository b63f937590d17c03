-- The answer, computed (Bouajjani et al., ESOP 2013, for least sets of fences; that it is computed by trying each set is this project's own, docs/definitions.md).
use Rattle.std.specs.Prelude.{ℕ, zero, suc, ◌+◌, Bool, nat_lt, List, Option, Some, None, unwrap_or, if◌then◌else◌}
use Rattle.std.specs.List.{list_any, list_all}
use Rattle.std.specs.Ordering.{eq_by_cmp}
use Rattle.std.specs.FinSet as set
use Rattle.gap_sets.specs.Gaps.{SetOfGaps}
use Rattle.gap_sets.specs.Order.{total}
use Rattle.tso_program.specs.declared.outcome.Outcome.{Outcome}
use Rattle.tso_program.specs.Ordered.{outcome_cmp}
use Rattle.tso_program.specs.declared.question.Question.{Question}
use Rattle.tso_program.specs.Listings.{gap_count}
use Rattle.tso_machine.specs.Machine.{SequentialMachine, StoreBufferMachine}
use Rattle.tso_machine.specs.Outcomes.{gaps_named}
use Rattle.the_answer.specs.OutcomeLists.{outcomes_of}

-- whether each outcome of the first list is one of the second
abbrev pub are_among : List Outcome → List Outcome → Bool
are_among outcomes others = list_all (λ o. list_any (eq_by_cmp outcome_cmp o) others) outcomes

-- whether the set serves: with its gaps fenced each outcome is a sequential one, as far as outcomes are shown
unfoldable pub does_serve : Question → SetOfGaps → Bool
does_serve q gaps = are_among (outcomes_of q (StoreBufferMachine (gaps_named q gaps))) (outcomes_of q SequentialMachine)

-- the cheaper of two sets, the first where they cost the same, and one alone where the other is missing
abbrev pub cheaper : List ℕ → Option SetOfGaps → Option SetOfGaps → Option SetOfGaps
cheaper costs None other = other
cheaper costs (Some gaps) None = Some gaps
cheaper costs (Some gaps) (Some other) = Some (if nat_lt (total costs other) (total costs gaps) then other else gaps)

-- of the sets that have the chosen gaps and any of the next n, from gap on: the best that passes the test
abbrev pub best_of : (SetOfGaps → Bool) → List ℕ → ℕ → ℕ → SetOfGaps → Option SetOfGaps
best_of test costs zero gap chosen = if test chosen then Some chosen else None
best_of test costs (suc n) gap chosen = cheaper costs (best_of test costs n (gap + 1) (set.insert chosen gap)) (best_of test costs n (gap + 1) chosen)

-- the best of the sets of the program's gaps that serve; the set of all of them does
unfoldable pub the_answer : Question → List ℕ → SetOfGaps
the_answer q costs = unwrap_or (best_of (does_serve q) costs (gap_count q.program.threads) 0 set.empty) set.empty

-- what the answer costs
abbrev pub least_cost : Question → List ℕ → ℕ
least_cost q costs = total costs (the_answer q costs)
