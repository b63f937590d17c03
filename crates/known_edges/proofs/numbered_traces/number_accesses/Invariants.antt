use Rattle.known_edges.proofs.Vocabulary.{◌≡◌, [], length, MAX_THREADS, AreStarts, AreCounts, IsGrown}
use Rattle.known_edges.proofs.Accesses.{IsBelow}
use Rattle.known_edges.proofs.numbered_traces.number_accesses.Given as goal

-- the accesses of the threads so far have come, their starts and how many they are
abbrev pub invariant-loop-t : goal.invariant-loop-t
invariant-loop-t l = record {
  grown : IsGrown (IsBelow l.thread_traces l.t) [] l.events.items;
  starts_are : AreStarts l.events.items l.starts;
  long : length l.starts ≡ MAX_THREADS;
  counts_are : AreCounts l.events.items l.counts;
  as_long : length l.counts ≡ MAX_THREADS;
}
