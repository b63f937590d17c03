use Rattle.cert_check.proofs.Vocabulary.{true, refl}
use Rattle.cert_check.proofs.PackedGaps.{packed_by, packed_none}
use Rattle.cert_check.proofs.packing.Packing.with_gaps.Goals as goal

pub returns-in-Some : goal.returns-in-Some
returns-in-Some c =
    packed_by c.args.costs.now c.args.self (record { least = c.with.result; gaps = c.joined-all.result; has_none = c.args.self.has_none }) c.args.gaps c.recall_facts.ensures.gaps c.joined-all.ensures c.in-Some.gap
    c.in-Some.ensures.cheapest c.with.ensures refl

pub returns-in-None : goal.returns-in-None
returns-in-None c =
    packed_none c.args.costs.now c.args.self (record { least = c.args.self.least; gaps = c.joined-all.result; has_none = true }) c.args.gaps c.recall_facts.ensures.gaps c.joined-all.ensures c.in-None.ensures.cheapest refl
