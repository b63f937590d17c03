use Rattle.std.proofs.Common.{◌≡◌, length}
use Rattle.text_calls.proofs.questions.equal_costs.Given as goal

abbrev pub invariant-loop : goal.invariant-loop
invariant-loop l = length l.list.items ≡ l.counter
