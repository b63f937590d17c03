use Rattle.known_edges.proofs.Vocabulary.{IsRowOf}
use Rattle.known_edges.proofs.Masks.{IsReaderBelow}
use Rattle.known_edges.proofs.access_rows.readers_of.Given as goal

abbrev pub invariant-loop-chosen : goal.invariant-loop-chosen
invariant-loop-chosen l = IsRowOf l.traces.events (IsReaderBelow l.sources l.chosen-index l.source l.except) l.row
