use Rattle.search_core.proofs.Vocabulary.{◌≡◌, ◌++◌, filter, children, open_entries, is_free}
use Rattle.search_core.proofs.Opening.{kids}
use Rattle.search_core.proofs.entries.open_children.Given as goal

-- the children so far, and those to come
abbrev pub invariant-loop-gap : goal.invariant-loop-gap
invariant-loop-gap l = l.found.items ++ kids l.seat l.rest (filter (is_free l.node.never) l.gap-iterator) ≡ open_entries l.seat (children l.node l.fn.passed)
