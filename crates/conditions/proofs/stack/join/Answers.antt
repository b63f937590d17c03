use Rattle.conditions.proofs.Vocabulary.{◌≡◌, [], ◌∙◌, sym, arith, append-nil, nil_from_length}
use Rattle.std.proofs.lemmas.Grind.{common_steps}
use Rattle.conditions.proofs.Joins.{join_none, join_not, join_and, join_or, join_open}
use Rattle.conditions.proofs.stack.join.Goals as goal

pub loop-nodes-preserved-in-Continue-1 : goal.loop-nodes-preserved-in-Continue-1
loop-nodes-preserved-in-Continue-1 c = λ k f h.
    let top = rw c.in-Some-Not.field-0-is at c.in-Some-Not.ensures.items in
    let j = join_not (k, f) c.loop-nodes.nodes.items c.loop-nodes.stack.items c.pop.new.self.items (c.loop-nodes.invariant k f h) top in
    rw c.in_ok-push-in-Some-Not.ensures.items j

pub loop-nodes-preserved : goal.loop-nodes-preserved
loop-nodes-preserved c = λ k f h.
    let top = rw c.in-Some-And.field-0-is at c.in-Some-And.ensures.items in
    let j = join_and (k, f) c.loop-nodes.nodes.items c.loop-nodes.stack.items c.pop.new.self.items (c.loop-nodes.invariant k f h) top in
    rw c.in_ok-push-in-Some-And.ensures.items j

pub returns-in-None : goal.returns-in-None
returns-in-None c = λ k f h.
    let none : c.loop-nodes.stack.items ≡ [] = nil_from_length c.loop-nodes.stack.items (grind (arith, common_steps)) in
    let j = join_none (k, f) c.loop-nodes.nodes.items c.loop-nodes.stack.items (c.loop-nodes.invariant k f h) none in
    (j.0, sym (c.in-None.ensures.items ∙ append-nil c.pop.new.self.items) ∙ j.1)

pub returns-in-Some-Or : goal.returns-in-Some-Or
returns-in-Some-Or c = λ k f h.
    let top = rw c.in-Some-Or.field-0-is at c.in-Some-Or.ensures.items in
    let j = join_or (k, f) c.loop-nodes.nodes.items c.loop-nodes.stack.items c.pop.new.self.items (c.loop-nodes.invariant k f h) top in
    (j.0, c.in_ok-push-in-Some-Or.ensures.items ∙ sym top ∙ j.1)

pub returns-in-Some-Open : goal.returns-in-Some-Open
returns-in-Some-Open c = λ k f h.
    let top = rw c.in-Some-Open.field-0-is at c.in-Some-Open.ensures.items in
    let j = join_open (k, f) c.loop-nodes.nodes.items c.loop-nodes.stack.items c.pop.new.self.items (c.loop-nodes.invariant k f h) top in
    (j.0, c.in_ok-push-in-Some-Open.ensures.items ∙ sym top ∙ j.1)
