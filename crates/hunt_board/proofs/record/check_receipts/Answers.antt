use Rattle.hunt_board.proofs.Vocabulary.{refl, sym, ◌∙◌, slice_get_read, IsMarked, IsNotMarked, MatchBool-at_true, MatchBool-at_false}
use Rattle.hunt_board.proofs.Marks.{fresh_marks, one_more_marked, all_named, too_few, first_wrong}
use Rattle.hunt_board.proofs.record.check_receipts.Goals as goal

pub loop-number-init : goal.loop-number-init
loop-number-init c = fresh_marks c.args.finished.now.entries c.args.receipts.now c.in_ok-named.named.items c.nodes-nodes.result c.nodes-nodes.ensures c.in_ok-named.ensures

pub loop-number-preserved : goal.loop-number-preserved
loop-number-preserved c =
    let here = slice_get_read c.args.receipts.now _ c.loop-number.number c.index-receipts-number.result refl c.loop-number-test.true c.index-receipts-number.is in
    one_more_marked c.args.finished.now.entries c.args.receipts.now c.loop-number.named.items c.loop-number.number c.loop-number.invariant c.index-receipts-number.result here c.mark.new.named.items
    (MatchBool-at_true (IsMarked c.args.finished.now.entries c.index-receipts-number.result c.loop-number.named.items c.mark.new.named.items)
    (IsNotMarked c.args.finished.now.entries c.index-receipts-number.result c.loop-number.named.items c.mark.new.named.items) c.if-not-mark.false c.mark.ensures)

pub returns-then-not-mark-clause-fault : goal.returns-then-not-mark-clause-fault
returns-then-not-mark-clause-fault c =
    let here = slice_get_read c.args.receipts.now _ c.loop-number.number c.index-receipts-number.result refl c.loop-number-test.true c.index-receipts-number.is in
    first_wrong c.args.finished.now.entries c.args.receipts.now c.loop-number.named.items c.loop-number.number c.loop-number.invariant c.index-receipts-number.result here c.mark.new.named.items
    (MatchBool-at_false (IsMarked c.args.finished.now.entries c.index-receipts-number.result c.loop-number.named.items c.mark.new.named.items)
    (IsNotMarked c.args.finished.now.entries c.index-receipts-number.result c.loop-number.named.items c.mark.new.named.items) c.if-not-mark.true c.mark.ensures)

pub returns-then-receipts-nodes-clause-fault : goal.returns-then-receipts-nodes-clause-fault
returns-then-receipts-nodes-clause-fault c = too_few c.args.finished.now.entries c.args.receipts.now c.loop-number.named.items c.loop-number.number c.loop-number.invariant c.loop-number-test.false
    (λ same. c.if-receipts-nodes.true (same ∙ sym c.nodes-nodes.ensures))

pub returns-clause-named : goal.returns-clause-named
returns-clause-named c = all_named c.args.finished.now.entries c.args.receipts.now c.loop-number.named.items c.loop-number.number c.loop-number.invariant c.loop-number-test.false
    (c.if-receipts-nodes.false ∙ c.nodes-nodes.ensures)
