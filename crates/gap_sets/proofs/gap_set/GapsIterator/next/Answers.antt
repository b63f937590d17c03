use Rattle.gap_sets.proofs.Vocabulary.{◌∙◌, ap, sym, arith, length, list_of}
use Rattle.gap_sets.proofs.Listed.{list_of-zero, list_of-first}
use Rattle.gap_sets.proofs.gap_set.GapsIterator.next.Goals as goal

pub returns-then-self-eq0-clause-steps : goal.returns-then-self-eq0-clause-steps
returns-then-self-eq0-clause-steps c =
    let none = sym c.self.view_is ∙ ap list_of c.if-self-eq0.true ∙ list_of-zero in
    (none, none)

pub returns-clause-steps : goal.returns-clause-steps
returns-clause-steps c = sym c.self.view_is ∙ list_of-first c.self.inside.left c.if-self-eq0.false c.self.invariant

pub returns-clause-goes : goal.returns-clause-goes
returns-clause-goes c =
    let e = ap length (sym c.self.view_is ∙ list_of-first c.self.inside.left c.if-self-eq0.false c.self.invariant) in
    record { on = λ _. (tt, tt, omega arith); keeps = tt; rests = λ _. tt }
