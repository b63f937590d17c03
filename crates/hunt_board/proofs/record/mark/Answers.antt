use Rattle.hunt_board.proofs.Vocabulary.{refl, inl, inr, sym, ◌∙◌, true≢false}
use Rattle.hunt_board.proofs.Marks.{mark_of, stands_nowhere, stands_not}
use Rattle.hunt_board.proofs.record.mark.Goals as goal

pub returns-in_default : goal.returns-in_default
returns-in_default c = record { why = inl (stands_nowhere c.args.finished.now.entries c.args.receipt.now c.place_of-place.result c.place_of-place.ensures.only c.in_default.ensures); same = refl }

pub returns-then-not-is_receipt_of : goal.returns-then-not-is_receipt_of
returns-then-not-is_receipt_of c = record {
  why = inl (stands_not c.args.finished.now.entries c.args.receipt.now c.place_of-place.result c.place_of-place.ensures.only c.in-Some.settled c.in-Some.ensures
      (λ same. true≢false (sym (c.is_receipt_of.ensures.1 same) ∙ c.if-not-is_receipt_of.true)));
  same = refl;
}

pub returns-then-index : goal.returns-then-index
returns-then-index c = record {
  why = inr (mark_of c.args.finished.now.entries c.args.receipt.now c.args.named.now.items c.place_of-place.result c.in-Some.settled c.index.result.now _ c.place_of-place.ensures.leads c.in-Some.ensures
      (c.is_receipt_of.ensures.0 c.if-not-is_receipt_of.false) c.requires c.index.ensures c.if-index.true);
  same = refl;
}

pub returns : goal.returns
returns c = record {
  unmarked = mark_of c.args.finished.now.entries c.args.receipt.now c.args.named.now.items c.place_of-place.result c.in-Some.settled c.index.result.now _ c.place_of-place.ensures.leads c.in-Some.ensures
      (c.is_receipt_of.ensures.0 c.if-not-is_receipt_of.false) c.requires c.index.ensures c.if-index.false;
  marked = refl;
}
