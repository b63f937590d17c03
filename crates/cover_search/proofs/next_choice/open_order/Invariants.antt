use Rattle.cover_search.proofs.Vocabulary.{ℕ, ◌<◌, IsInOrderWithLater}
use Rattle.cover_search.proofs.next_choice.open_order.Given as goal

-- the writes so far are in order with all later ones
abbrev pub invariant-loop-place : goal.invariant-loop-place
invariant-loop-place l = (i : ℕ) → i < l.place → IsInOrderWithLater l.sketch l.accesses.writes.items i
