use Rattle.cover_solver.proofs.Vocabulary.{ap, ◌∙◌, asked, Asked, Outcome, Vec}
use Rattle.cover_solver.proofs.Tables.{lacks_moved, tree_moved}
use Rattle.cover_solver.proofs.solver.Solver.searched.Goals as goal

pub verdict-requires-clause-stop : goal.verdict-requires-clause-stop
verdict-requires-clause-stop c =
    let s = c.args.self.now in
    let search = c.search-search.result in
    let q = asked search.program.now search.shown.now in
    let listed = c.deref-2.ensures.value ∙ ap (λ (v : Vec Outcome). v.items) c.deref.ensures ∙ ap (λ (a : Asked). a.outcomes) c.self.view_is in
    lacks_moved c.cover-found.result q s.question search.mode c.args.set.now c.deref-2.result.now s.outcomes c.search-search.ensures.question c.search-search.ensures.mode listed c.cover-found.ensures.stop

pub verdict-requires-clause-tree : goal.verdict-requires-clause-tree
verdict-requires-clause-tree c =
    let s = c.args.self.now in
    let search = c.search-search.result in
    let q = asked search.program.now search.shown.now in
    let listed = c.deref-2.ensures.value ∙ ap (λ (v : Vec Outcome). v.items) c.deref.ensures ∙ ap (λ (a : Asked). a.outcomes) c.self.view_is in
    tree_moved c.cover-found.result q s.question search.mode c.args.set.now c.deref-2.result.now s.outcomes c.search-search.ensures.question c.search-search.ensures.mode listed c.cover-found.ensures.tree
