use Rattle.search_core.proofs.Vocabulary.{◌≡◌, Option, Some, None, sym, ◌∙◌, subst, the_view, SearchState, IsDone, none-some, IsTheAnswer, Serving, IfSome, IfNone, option_copied}
use Rattle.std.specs.Borrow.{Bor}
use Rattle.search_core.proofs.Answered.{best_is_answer, found_is_answer}
use Rattle.search_core.proofs.tree.SearchTree.answer.Goals as goal

if_some : (P : Serving → Type 0) (o : Option (Bor Serving)) (best : Option Serving) → option_copied o ≡ best → ((b : Serving) → best ≡ Some b → P b) → IfSome o (λ served. P served.now)
if_some P None best is give = tt
if_some P (Some r) best is give = give r.now (sym is)

if_none : (P : Type 0) (o : Option (Bor Serving)) (best : Option Serving) → option_copied o ≡ best → (best ≡ None → P) → IfNone o P
if_none P None best is give = give (sym is)
if_none P (Some r) best is give = tt

pub returns-then-is_done-clause-answer : goal.returns-then-is_done-clause-answer
returns-then-is_done-clause-answer c =
    let s = the_view c.self.inside in
    let done : IsDone s = subst IsDone (sym c.self.view_is) (c.is_done.ensures.0 c.if-is_done.true) in
    if_some (λ b. (b.question ≡ c.args.self.now.question) × IsTheAnswer c.args.self.now.question c.args.self.now.costs b.gaps) c.as_ref.result c.self.inside.best c.as_ref.ensures.value
    (λ b is. subst (λ (t : SearchState). (b.question ≡ t.question) × IsTheAnswer t.question t.costs b.gaps) c.self.view_is (found_is_answer s b c.self.invariant done is))

pub returns-then-is_done-clause-none : goal.returns-then-is_done-clause-none
returns-then-is_done-clause-none c = if_none (¬ IsDone c.args.self.now) c.as_ref.result c.self.inside.best c.as_ref.ensures.value
    (λ none done. (let b = best_is_answer (the_view c.self.inside) c.self.invariant (subst IsDone (sym c.self.view_is) done) in none-some b.0 (sym none ∙ b.1)))
