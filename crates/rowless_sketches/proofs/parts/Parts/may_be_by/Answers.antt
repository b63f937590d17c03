use Rattle.rowless_sketches.proofs.Vocabulary.{◌≡◌, ℕ, ◌==◌, ap, length, arith, At, IsLastWith, IsOfThread, MayBeBy, each_index, no, not_by}
use Rattle.rowless_sketches.proofs.Known.{one_does}
use Rattle.rowless_sketches.proofs.parts.Parts.may_be_by.Goals as goal

pub loop-i-preserved : goal.loop-i-preserved
loop-i-preserved c = each_index (λ k. ((w : ℕ) × IsLastWith c.args.self.now c.args.location w (At c.args.t k) × ((w == c.args.value) ≡ c.args.is)) → ⊥)
    c.loop-i.i c.loop-i.invariant (not_by _ _ c.ends_so.ensures c.if-ends_so.false)

pub returns : goal.returns
returns c = no (MayBeBy c.args.self.now c.args.location c.args.value c.args.is (IsOfThread c.args.t)) (λ may.
    let (i, within, does) = one_does c.args.self.now c.args.location c.args.value c.args.is c.args.t may in
    let same = ap length c.accesses_of-access-items.ensures.value in
    c.loop-i.invariant i (omega (arith, c.loop-i-test.false)) does)
