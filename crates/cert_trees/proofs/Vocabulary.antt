-- What many proofs of this crate speak of, imported once.
pub use Rattle.std.proofs.Common.{List, None, Option, Some, [], ap, append_assoc, arith, drop, inl, inr, length, refl, subst, suc, sym, take, ℕ, ◌%◌, ◌*◌, ◌++◌, ◌+◌, ◌-◌, ◌/◌, ◌<◌, ◌∙◌, ◌∷◌, ◌≡◌, ◌≤◌}
pub use Rattle.std.proofs.lemmas.Bool.{cases_Bool}
pub use Rattle.std.proofs.lemmas.List.{append-nil, append_cancel_left, length-append, length-drop, take_all}
pub use Rattle.std.proofs.lemmas.Option.{same_Some}
pub use Rattle.std.specs.List.{copy_within, remove_range}
pub use Rattle.std.specs.Prelude.{nat_lt}
pub use Rattle.candidate_executions.specs.declared.event.Kind.{Kind}
pub use Rattle.cert_trees.specs.GapNodes.{AreGapTrees, IsGapTree, first_gap, bound_nodes, bounded_by, gap_before, gap_tree_of, gap_trees_in, runs_first, spell_gap, spell_gap_row, spell_gaps}
pub use Rattle.cert_trees.specs.Nodes.{AreTrees, BeginsCycle, BeginsKnown, IsTree, before, cycle_end, cycle_nodes, events_of, first_tree, gathered, known_nodes, lengthened, spell, spell_all}
pub use Rattle.cert_trees.specs.Nodes.{spell_row, tree_of, trees_of}
pub use Rattle.cert_trees.specs.Spelling.{spell_each}
pub use Rattle.cert_trees.specs.Trees.{Bound, Cover, Covers, Cycle, Gap, GapTrees, Known, MoreCovers, MoreGaps, NoCover, NoGap, Order, Source, Split, Value, count_covers, count_gaps, cover_list}
pub use Rattle.cert_trees.specs.Trees.{covers_of, gap_list, gap_trees_of}
pub use Rattle.cert_trees.specs.Walks.{IsNext, IsNextGap, bound_len, children_of, gap_children_of, gap_root_of, root_of}
pub use Rattle.cert_trees.specs.declared.node.GapNode.{GapNode}
pub use Rattle.cert_trees.specs.declared.node.Node.{Node}
pub use Rattle.cert_trees.specs.declared.node.TheConstants.{NEAR_RUNS}
pub use Rattle.cert_trees.specs.declared.tree.AccessId.{AccessId}
