use Rattle.thread_traces.proofs.Vocabulary.{◌≡◌, ℕ, Some, slice_get, subst, arith, below_more, slice_get_within, get_or_from_slice_get, Access, HasBit, write_bit}
use Rattle.thread_traces.proofs.write_bits.write_bits.Goals as goal

pub loop-access-preserved : goal.loop-access-preserved
loop-access-preserved c i x v below at writes =
    let accesses = c.args.accesses.now in
    let n = c.loop-access.access-index in
    let bits = c.set_bit.new.written in
    let Has : ℕ → Type 0 = λ k. (y : Access) (w : ℕ) → slice_get accesses k ≡ Some y → y.written ≡ Some w → HasBit bits (write_bit y.location w) in
    below_more Has n (λ k h y w a b. c.set_bit.ensures.kept (write_bit y.location w) (c.loop-access.invariant k y w h a b))
    (λ y w a b. subst (λ (z : Access). z.written ≡ Some w → HasBit bits (write_bit z.location w)) (get_or_from_slice_get accesses n y _ a) (c.set_bit.ensures.added w) b)
    i below x v at writes

pub returns : goal.returns
returns c i x v at writes = c.loop-access.invariant i x v (omega (arith, slice_get_within c.args.accesses.now i x at, c.loop-access-test.false)) at writes
