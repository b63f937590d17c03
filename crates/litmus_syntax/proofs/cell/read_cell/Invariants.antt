use Rattle.litmus_syntax.proofs.Vocabulary.{◌≡◌, ◌≤◌, ◌++◌, map, length, toks, label_view}
use Rattle.litmus_syntax.proofs.CellLaws.{LabelsSoFar}
use Rattle.litmus_syntax.proofs.cell.read_cell.Given as goal

abbrev pub invariant-loop-rest : goal.invariant-loop-rest
invariant-loop-rest l = record {
  cell : LabelsSoFar (toks l.tokens) (map (λ name. name.now) l.own.items) (toks l.rest);
  labels : map label_view l.labels.items ≡ map label_view l.fn.labels.items ++ map (λ name. (l.thread, name)) (map (λ name. name.now) l.own.items);
  within : length l.rest ≤ length l.tokens;
}

abbrev pub decreases-loop-rest : goal.decreases-loop-rest
decreases-loop-rest l = length l.rest
