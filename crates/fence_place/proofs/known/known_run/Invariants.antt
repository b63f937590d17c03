use Rattle.fence_place.proofs.Vocabulary.{◌≡◌, Some, slice_get, IfSome, Foreign, PassesNoneOf}
use Rattle.fence_place.proofs.known.known_run.Given as goal

-- the best so far is one of them, and passes none of these gaps
abbrev pub invariant-loop-place : goal.invariant-loop-place
invariant-loop-place l = IfSome l.best (λ place. (run : Foreign) × (slice_get l.known place ≡ Some run) × PassesNoneOf l.node.must run)
