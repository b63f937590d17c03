use Rattle.cover_search.proofs.Vocabulary.{each_index, IsInOrderWithLater, arith}
use Rattle.cover_search.proofs.NothingLeft.{complete_of}
use Rattle.cover_search.proofs.next_choice.open_order.Goals as goal

pub loop-place-preserved : goal.loop-place-preserved
loop-place-preserved c = each_index (IsInOrderWithLater c.args.sketch.now c.args.accesses.now.writes.items) c.loop-place.place c.loop-place.invariant c.in_default.ensures

pub returns : goal.returns
returns c =
    complete_of c.args.sketch.now c.args.accesses.now c.requires.accesses c.requires.sources
    (λ i j d less l. c.loop-place.invariant i (omega (arith, less, l, c.len-place-end.ensures, c.args.accesses.now.writes.ok.0, c.loop-place-test.false)) j d less l)
