use Rattle.cover_search.proofs.Vocabulary.{◌≡◌, ◌+◌, length}
use Rattle.cover_search.proofs.Rounds.{rounds}
use Rattle.cover_search.specs.Covers.{node_over}
use Rattle.cover_search.proofs.Covering.{Covering}
use Rattle.cover_search.proofs.tree_search.TreeSearch.+cover.Given as goal

abbrev pub decreases-cover : goal.decreases-cover
decreases-cover l = rounds l.sketch.now + 2

abbrev pub decreases-cover_over : goal.decreases-cover_over
decreases-cover_over l = rounds l.sketch.now + 1

abbrev pub decreases-cover_after : goal.decreases-cover_after
decreases-cover_after l = rounds l.sketch.now

-- the sketch is as before, and after the root come valid trees over the outcomes after the choices so far
abbrev pub invariant-cover_over-loop-choice : goal.invariant-cover_over-loop-choice
invariant-cover_over-loop-choice l = record {
  kept : l.sketch ≡ l.fn.sketch;
  covering : Covering l.fn.sketch l.self.shown.now l.choices (node_over l.fn.next (length l.choices)) l.fn.nodes.items l.self.outcomes.now l.choice-index l.nodes.items;
}
