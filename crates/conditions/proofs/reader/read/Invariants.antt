use Rattle.conditions.proofs.Vocabulary.{drop, map, take, sign_of_token, tree_read}
use Rattle.conditions.proofs.Steps.{Left}
use Rattle.conditions.proofs.reader.read.Given as goal

-- the tokens that are read and those that are left, as signs
abbrev pub invariant-loop-at : goal.invariant-loop-at
invariant-loop-at l = Left l.wanted l.nodes.items l.stack.items (map sign_of_token (take l.at l.tokens)) (map sign_of_token (drop l.at l.tokens)) (tree_read (map sign_of_token l.tokens))
