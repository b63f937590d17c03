use Rattle.cover_judge.proofs.Vocabulary.{[], ◌∷◌, ◌≡◌, true, false, refl, sym, ◌∙◌, subst, event_of, AreChoicesOfBy}
use Rattle.tree_laws.specs.declared.choice.Choice.TheVariants as choice
use Rattle.cover_judge.proofs.{Answered.if_ok, ChoicesJudged.can_follow, ChoicesJudged.no_order_by, ChoicesJudged.found_choices}
use Rattle.cover_judge.proofs.choices.open_choices.Goals as goal

pub returns-then-not-allows_source : goal.returns-then-not-allows_source
returns-then-not-allows_source c cs are =
    let own = subst (λ next. AreChoicesOfBy c.args.rule c.args.sketch.now next cs) c.in-Source.is are in
    let allows = rw c.event_of.ensures at c.allows_source.ensures in
    let yes = allows.1 own.next.allowed in
    let no : true ≡ false = sym yes ∙ c.if-not-allows_source.true in
    cc

pub returns-else-not-allows_source : goal.returns-else-not-allows_source
returns-else-not-allows_source c =
    let allows = rw c.event_of.ensures at c.allows_source.ensures in
    if_ok c.open_sources.result _ _ (found_choices c.args.rule c.args.sketch.now c.args.next c.in-Source.read c.in-Source.is (allows.0 c.if-not-allows_source.false)) c.open_sources.ensures

pub returns-then-not-allows_order : goal.returns-then-not-allows_order
returns-then-not-allows_order c cs are =
    let own = subst (λ next. AreChoicesOfBy c.args.rule c.args.sketch.now next cs) c.in-Order.is are in
    let yes = c.allows_order.ensures.1 own.free.allowed in
    let no : true ≡ false = sym yes ∙ c.if-not-allows_order.true in
    cc

pub returns-then-not-is_order_open : goal.returns-then-not-is_order_open
returns-then-not-is_order_open c cs are =
    let own = subst (λ next. AreChoicesOfBy c.args.rule c.args.sketch.now next cs) c.in-Order.is are in
    let is_open = rw (c.event_of-in-Order.ensures, c.event_of-in-Order-2.ensures) at c.is_order_open.ensures in
    let yes = is_open.1 (can_follow c.args.rule c.args.sketch.now (event_of c.in-Order.first) (event_of c.in-Order.second) own.free) in
    let no : true ≡ false = sym yes ∙ c.if-not-is_order_open.true in
    cc

pub returns-else-not-is_order_open : goal.returns-else-not-is_order_open
returns-else-not-is_order_open c =
    let cs = choice.Order c.in-Order.first c.in-Order.second ∷ choice.Order c.in-Order.second c.in-Order.first ∷ [] in
    let is_open = rw (c.event_of-in-Order.ensures, c.event_of-in-Order-2.ensures) at c.is_order_open.ensures in
    let can = is_open.0 c.if-not-is_order_open.false in
    let allowed = c.allows_order.ensures.0 c.if-not-allows_order.false in
    subst (λ next. AreChoicesOfBy c.args.rule c.args.sketch.now next cs) (sym c.in-Order.is)
    (record { free = no_order_by c.args.rule c.args.sketch.now (event_of c.in-Order.first) (event_of c.in-Order.second) allowed can; both = refl })
