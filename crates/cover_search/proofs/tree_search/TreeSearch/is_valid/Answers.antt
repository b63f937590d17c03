use Rattle.cover_search.proofs.Vocabulary.{sym, tree_of, alone}
use Rattle.cover_search.proofs.tree_search.TreeSearch.is_valid.Goals as goal

pub over-requires : goal.over-requires
over-requires c = (let xs = c.args.nodes.now in alone (tree_of xs) xs (sym c.requires.tree))
