use Rattle.cert_pages.proofs.Vocabulary.{◌≡◌, ◌-◌, after}
use Rattle.cert_pages.proofs.parts.pass_nodes.Given as goal

-- what is left after the nodes to come
abbrev pub invariant-loop : goal.invariant-loop
invariant-loop l = after (l.nodes - l.counter) l.walk ≡ after l.nodes l.fn.walk
