use Rattle.cert_check.proofs.Vocabulary.{◌≡◌, true, false, sym, ◌∙◌, subst, IsOutside, each_more}
use Rattle.cert_check.proofs.{Found.first_without, OutcomesListed.borrowed}
use Rattle.cert_check.proofs.runs.first_outcome_listed.Goals as goal

pub returns-then-contains : goal.returns-then-contains
returns-then-contains c =
    first_without (IsOutside c.args.list.now) c.args.outcomes.now c.loop-number.number c.index-outcomes-number.result c.loop-number-test.true c.index-outcomes-number.is
    (λ outside. outside ((c.in_ok-listed.ensures (borrowed c.index-outcomes-number.result)).0 (sym c.contains.ensures ∙ c.if-contains.true))) c.loop-number.invariant

pub loop-number-preserved : goal.loop-number-preserved
loop-number-preserved c =
    each_more (IsOutside c.args.list.now) c.args.outcomes.now c.loop-number.number c.index-outcomes-number.result c.loop-number-test.true c.loop-number.invariant
    (subst (IsOutside c.args.list.now) c.index-outcomes-number.is
    (λ has. (let yes = (c.in_ok-listed.ensures (borrowed c.index-outcomes-number.result)).1 has in let no : true ≡ false = sym yes ∙ sym c.contains.ensures ∙ c.if-contains.false in cc)))
