use Rattle.fence_place.proofs.Vocabulary.{◌+◌, ◌<◌, ◌^◌, not, sym, ap, ◌∙◌, arith}
use Rattle.search_core.proofs.Opening.{count_fits}
use Rattle.fence_place.proofs.gaps.count_open.Goals as goal

pub overflow_add-count : goal.overflow_add-count
overflow_add-count c =
    let fits : c.loop-gap.count + 1 < 2 ^ 64 = count_fits c.args.passed c.args.never c.loop-gap.count c.in-Some.gap c.loop-gap.gap-iterator c.next.new.self c.in-Some.ensures.steps (ap not (sym c.has.ensures.value ∙ c.if-not-has.true)) c.loop-gap.invariant in
    omega arith
