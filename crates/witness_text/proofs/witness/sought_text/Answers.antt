use Rattle.witness_text.proofs.Vocabulary.{subst, Machine, HasNoWitness}
use Rattle.witness_text.proofs.witness.sought_text.Goals as goal

pub none_text-requires : goal.none_text-requires
none_text-requires c =
    let source = c.args.litmus.now in
    let sought = c.args.sought in
    let none = rw c.in-None.is at c.in_ok-found.ensures.found in
    record { none = subst (λ (machine : Machine). HasNoWitness source.program machine source.condition.formula sought.meets) (c.new-mode.ensures source.program) none }
