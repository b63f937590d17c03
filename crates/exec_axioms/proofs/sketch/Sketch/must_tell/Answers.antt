use Rattle.exec_axioms.proofs.Vocabulary.{true, false, subst, Truth, ProgramSketch, Knows, ends_only}
use Rattle.exec_axioms.proofs.OnlyOutcome.{must_tell}
use Rattle.exec_axioms.proofs.sketch.Sketch.must_tell.Goals as goal

pub returns-then-known-clause-end : goal.returns-then-known-clause-end
returns-then-known-clause-end c =
    let known = subst (λ (s : ProgramSketch). Knows s c.args.formula.now c.in_ok-known.known) c.parts.ensures c.in_ok-known.ensures in
    must_tell c.args.self.now c.args.formula.now true c.in_ok-told.field-0 c.recall_facts.ensures.lawful
    (known.of_true.0 c.if-known.true) c.in_ok-told.ensures

pub returns-then-known-clause-completions : goal.returns-then-known-clause-completions
returns-then-known-clause-completions c =
    let known = subst (λ (s : ProgramSketch). Knows s c.args.formula.now c.in_ok-known.known) c.parts.ensures c.in_ok-known.ensures in
    let so = must_tell c.args.self.now c.args.formula.now true c.in_ok-told.field-0 c.recall_facts.ensures.lawful (known.of_true.0 c.if-known.true) c.in_ok-told.ensures in
    ends_only c.args.self.now (Truth c.args.formula.now) c.in_ok-told.field-0 c.recall_facts.ensures.lawful so.must_end

pub returns-then-known-2-clause-completions : goal.returns-then-known-2-clause-completions
returns-then-known-2-clause-completions c =
    let known = subst (λ (s : ProgramSketch). Knows s c.args.formula.now c.in_ok-known.known) c.parts.ensures c.in_ok-known.ensures in
    let so = must_tell c.args.self.now c.args.formula.now false c.in_ok-told-2.field-0 c.recall_facts.ensures.lawful (known.of_false.0 c.if-known-2.true) c.in_ok-told-2.ensures in
    ends_only c.args.self.now (Truth c.args.formula.now) c.in_ok-told-2.field-0 c.recall_facts.ensures.lawful so.must_end
