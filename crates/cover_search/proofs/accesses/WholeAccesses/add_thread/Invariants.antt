use Rattle.cover_search.proofs.Vocabulary.{◌≡◌, ◌<◌, AccessId, TakesIn}
use Rattle.cover_search.proofs.accesses.WholeAccesses.add_thread.Given as goal

-- the thread's first accesses are taken in
abbrev pub invariant-loop-access : goal.invariant-loop-access
invariant-loop-access l = TakesIn l.sketch (λ (a : AccessId). (a.thread ≡ l.t) × (a.access < l.access)) l.fn.self l.self
