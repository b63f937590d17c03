use Rattle.search_core.proofs.Refusals.{only_memory}
use Rattle.search_core.proofs.tree.SearchTree.split_held.Goals as goal

pub unreachable-requires : goal.unreachable-requires
unreachable-requires c = c.in_default-fault.not-OutOfMemory (only_memory c.args.self.now c.args.seat c.args.run.now c.in-Err.fault c.requires c.in-Err.ensures.fault)
