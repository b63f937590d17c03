use Rattle.hunt_board.proofs.Vocabulary.{◌+◌, ◌<◌, ◌^◌, not, sym, ap, ◌∙◌, arith}
use Rattle.search_core.proofs.Opening.{count_fits}
use Rattle.hunt_board.proofs.record.number_of_child.Goals as goal

pub overflow_add-number : goal.overflow_add-number
overflow_add-number c =
    let fits : c.loop-gap.number + 1 < 2 ^ 64 = count_fits c.args.passed c.args.never.now c.loop-gap.number c.in-Some.gap c.loop-gap.gap-iterator c.next.new.self c.in-Some.ensures.steps (ap not (sym c.has.ensures.value ∙ c.if-not-has.true)) c.loop-gap.invariant.1 in
    omega arith
