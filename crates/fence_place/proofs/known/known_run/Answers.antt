use Rattle.fence_place.proofs.Vocabulary.{◌≡◌, ℕ, Option, Some, sym, subst, refl, slice_get, IfSome, Foreign, PassesNoneOf, slice_get_read}
use Rattle.fence_place.proofs.known.known_run.Goals as goal
use Rattle.fence_place.proofs.known.known_run.Goals.{then-count-fewest+then-may_split, else-count-fewest}

pub loop-place-preserved : goal.loop-place-preserved
loop-place-preserved c = elim c.if-count-fewest.branch [
  | then-count-fewest+then-may_split w ↦ subst (λ (best : Option ℕ). IfSome best (λ place. (run : Foreign) × (slice_get c.args.known.now place ≡ Some run) × PassesNoneOf c.args.node.now.must run)) (sym w.best-is)
      (c.index-known-place.result, slice_get_read c.args.known.now _ c.loop-place.place c.index-known-place.result refl c.loop-place-test.true c.index-known-place.is, w.may_split.ensures.0 w.if-may_split.true)
  | else-count-fewest w ↦ subst (λ (best : Option ℕ). IfSome best (λ place. (run : Foreign) × (slice_get c.args.known.now place ≡ Some run) × PassesNoneOf c.args.node.now.must run)) (sym w.best-is) c.loop-place.invariant
]
