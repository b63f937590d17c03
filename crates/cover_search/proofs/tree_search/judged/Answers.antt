use Rattle.cover_search.proofs.tree_search.judged.Goals as goal

pub returns : goal.returns
returns c = rw c.in_ok-own.ensures at c.judge.ensures.valid
