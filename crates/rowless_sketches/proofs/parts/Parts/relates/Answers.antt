use Rattle.rowless_sketches.proofs.Vocabulary.{inl, inr, KnownRelates, yes, not_by, to_relates, last_part}
use Rattle.rowless_sketches.proofs.parts.Parts.relates.Goals as goal

pub returns-then-keeps_order : goal.returns-then-keeps_order
returns-then-keeps_order c = yes (KnownRelates c.args.self.now.chosen c.args.kind c.args.from c.args.x c.args.to c.args.y)
    (to_relates c.args.self.now.chosen c.args.kind c.args.from c.args.x c.args.to c.args.y (inl (c.keeps_order.ensures.0 c.if-keeps_order.true)))

pub returns-then-is_read_by : goal.returns-then-is_read_by
returns-then-is_read_by c = yes (KnownRelates c.args.self.now.chosen c.args.kind c.args.from c.args.x c.args.to c.args.y)
    (to_relates c.args.self.now.chosen c.args.kind c.args.from c.args.x c.args.to c.args.y (inr (inl (c.is_read_by.ensures.0 c.if-is_read_by.true))))

pub returns-then-is_before : goal.returns-then-is_before
returns-then-is_before c = yes (KnownRelates c.args.self.now.chosen c.args.kind c.args.from c.args.x c.args.to c.args.y)
    (to_relates c.args.self.now.chosen c.args.kind c.args.from c.args.x c.args.to c.args.y (inr (inr (inl (c.is_before.ensures.0 c.if-is_before.true)))))

pub returns : goal.returns
returns c = last_part c.args.self.now.chosen c.args.kind c.args.from c.args.x c.args.to c.args.y c.reads_before.result
    (not_by _ _ c.keeps_order.ensures c.if-keeps_order.false)
    (not_by _ _ c.is_read_by.ensures c.if-is_read_by.false)
    (not_by _ _ c.is_before.ensures c.if-is_before.false)
    c.reads_before.ensures
