use Rattle.cover_search.proofs.Vocabulary.{ℕ, ◌<◌, get_or, WrittenValue, AreWritesInOrder}
use Rattle.cover_search.proofs.next_choice.order_with_later.Given as goal

-- the write is in order with the later ones so far
abbrev pub invariant-loop-later : goal.invariant-loop-later
invariant-loop-later l = (j : ℕ) (d : WrittenValue) → l.place < j → j < l.later → AreWritesInOrder l.sketch (get_or l.accesses.writes.items l.place d) (get_or l.accesses.writes.items j d)
