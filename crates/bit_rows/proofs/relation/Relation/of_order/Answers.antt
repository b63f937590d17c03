use Rattle.bit_rows.proofs.Vocabulary.{◌≡◌, true, false}
use Rattle.bit_rows.proofs.Paths.{order_is_reach, order_has_no_round}
use Rattle.bit_rows.proofs.relation.Relation.of_order.Goals as goal

pub invariant_of-result : goal.invariant_of-result
invariant_of-result c = (order_is_reach c.args.rows c.requires.transitive, (λ e. absurd (let f : false ≡ true = e in cc), λ h. absurd (order_has_no_round c.args.rows c.requires.transitive c.requires.irreflexive h)))
