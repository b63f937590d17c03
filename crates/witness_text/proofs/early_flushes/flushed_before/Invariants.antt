use Rattle.witness_text.proofs.Vocabulary.{◌≡◌, vec_len, IsSoughtRun}
use Rattle.witness_text.proofs.early_flushes.flushed_before.Given as goal

-- the run so far is sought, and as long as the first
abbrev pub invariant-loop-later : goal.invariant-loop-later
invariant-loop-later l = record { run : IsSoughtRun l.litmus l.sought l.run.items; long : vec_len l.run ≡ vec_len l.initial.run }
