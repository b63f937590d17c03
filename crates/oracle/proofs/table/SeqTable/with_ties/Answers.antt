use Rattle.oracle.proofs.Vocabulary.{Question}
use Rattle.std.specs.Arc.{arc_value}
use Rattle.tso_machine.specs.Machine.{SequentialMachine}
use Rattle.tree_laws.proofs.TiesApart.{ties_change_no_whole_cover}
use Rattle.oracle.proofs.table.SeqTable.with_ties.Goals as goal

-- what a table keeps is the same whatever gaps go together
pub invariant_of-result : goal.invariant_of-result
invariant_of-result c =
    let q : Question = c.self.inside.question in
    record {
      listed = record { ascend = c.self.invariant.listed.ascend; exact = c.self.invariant.listed.exact };
      runs = c.self.invariant.runs;
      tree = ties_change_no_whole_cover q.program q.shown q.ties c.args.ties SequentialMachine (arc_value c.self.inside.outcomes).items c.self.inside.tree c.self.invariant.tree;
    }
