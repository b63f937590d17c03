use Rattle.witness_text.proofs.Vocabulary.{◌≡◌, vec_len, IsSoughtRun}
use Rattle.witness_text.proofs.early_flushes.with_early_flushes.Given as goal

-- the run so far is sought, and as long as the first
abbrev pub invariant-loop-place : goal.invariant-loop-place
invariant-loop-place l = record { run : IsSoughtRun l.litmus l.sought l.run.items; long : vec_len l.run ≡ vec_len l.initial.run }
