use Rattle.std.proofs.lemmas.Result.{IfOk-weaker}
use Rattle.cover_search.proofs.Vocabulary.{sym, subst, IfOk, MayChooseEach, IsOpen, event_of}
use Rattle.cover_judge.proofs.ChoicesJudged.{no_order}
use Rattle.cover_judge.specs.Choices.{AreChoicesOf}
use Rattle.tree_laws.specs.declared.choice.OpenChoice.TheVariants as left
use Rattle.cover_search.proofs.NothingLeft.{both_may}
use Rattle.cover_search.proofs.choice.choices_of.Goals as goal

pub returns-in-Order-clause-choices : goal.returns-in-Order-clause-choices
returns-in-Order-clause-choices c = subst (λ next. IfOk c.both_orders.result (λ choices. AreChoicesOf c.args.sketch.now next choices.items)) (sym c.in-Order.is)
    (IfOk-weaker c.both_orders.result _ (λ choices. AreChoicesOf c.args.sketch.now (left.Order c.in-Order.first c.in-Order.second) choices.items)
    (λ choices same. record { free = no_order c.args.sketch.now (event_of c.in-Order.first) (event_of c.in-Order.second) (subst (IsOpen c.args.sketch.now) c.in-Order.is c.requires); both = same }) c.both_orders.ensures)

pub returns-in-Order-clause-may : goal.returns-in-Order-clause-may
returns-in-Order-clause-may c = IfOk-weaker c.both_orders.result _ (λ choices. MayChooseEach c.args.sketch.now choices.items)
    (λ choices same. both_may c.args.sketch.now c.in-Order.first c.in-Order.second choices.items (subst (IsOpen c.args.sketch.now) c.in-Order.is c.requires) same) c.both_orders.ensures
