use Rattle.cover_search.proofs.Vocabulary.{◌<◌, All, IsRead, AccessId, event_of, IsReadValue, NamesRead, IsWrittenValue, IsWrite, NamesWrite}
use Rattle.cover_search.proofs.accesses.whole_accesses.Given as goal

-- what the first threads read and write is taken in, and nothing else
abbrev pub invariant-loop-t : goal.invariant-loop-t
invariant-loop-t l = record {
  reads : All (IsReadValue l.sketch) l.accesses.reads.items;
  writes : All (IsWrittenValue l.sketch) l.accesses.writes.items;
  read : (a : AccessId) → a.thread < l.t → IsRead l.sketch (event_of a) → NamesRead l.accesses.reads.items a;
  written : (a : AccessId) → a.thread < l.t → IsWrite l.sketch a → NamesWrite l.accesses.writes.items a;
}
