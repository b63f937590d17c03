use Rattle.cert_pages.proofs.Vocabulary.{◌≡◌, ◌++◌, ◌-◌, draft_text, trees_text, after}
use Rattle.cert_pages.proofs.parts.write_nodes.Given as goal

-- the text so far and that of the trees to come, and what is left after the nodes to come
abbrev pub invariant-loop : goal.invariant-loop
invariant-loop l = record {
  text : draft_text l.out ++ trees_text l.walk ≡ draft_text l.fn.out ++ trees_text l.fn.walk;
  walk : after (l.nodes - l.counter) l.walk ≡ after l.nodes l.fn.walk;
}
