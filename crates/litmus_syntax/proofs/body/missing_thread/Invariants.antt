use Rattle.litmus_syntax.proofs.Vocabulary.{map, take, All, HasThread, place_of_entry, entry_view}
use Rattle.litmus_syntax.proofs.body.missing_thread.Given as goal

-- the threads of the entries so far are there
abbrev pub invariant-loop-entry : goal.invariant-loop-entry
invariant-loop-entry l = All (HasThread l.threads) (map place_of_entry (map entry_view (take l.entry-index l.entries)))
