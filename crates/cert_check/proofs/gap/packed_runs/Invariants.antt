use Rattle.cert_check.proofs.Vocabulary.{◌≡◌, ◌↔◌, ◌<◌, List, ◌∷◌, length, drop, first_gap, spell_gaps, Question, Label, HavePassed}
use Rattle.tree_laws.specs.GapTrees.{IsBoundBy}
use Rattle.cert_check.specs.Internal.Packed.{runs_of, IsBoundTree, IsBoundWith}
use Rattle.cert_check.proofs.gap.packed_runs.Given as goal

-- the runs that are left come first in the walk, and decide
abbrev pub invariant-loop-run : goal.invariant-loop-run
invariant-loop-run l = record {
  bound : IsBoundTree (first_gap l.walk);
  some : 0 < length l.walk;
  rest : drop 1 l.walk ≡ drop 1 l.fn.walk;
  packed : (q : Question) (runs : List (List Label)) → HavePassed q runs l.bounds.passed.now →
      IsBoundBy q l.bounds.costs.now l.bounds.answer runs l.region (l.first ∷ runs_of (first_gap l.fn.walk)) ↔ IsBoundWith q l.bounds.costs.now l.bounds.answer runs l.region l.packing (runs_of (first_gap l.walk));
}

abbrev pub decreases-loop-run : goal.decreases-loop-run
decreases-loop-run l = length (spell_gaps l.walk)
