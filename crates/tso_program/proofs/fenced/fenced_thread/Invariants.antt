use Rattle.tso_program.proofs.Vocabulary.{◌≡◌, ◌++◌, drop, gaps_in, fenced_code}
use Rattle.tso_program.proofs.fenced.fenced_thread.Given as goal

-- followed by the fenced rest, it is the fenced code
abbrev pub invariant-loop-k : goal.invariant-loop-k
invariant-loop-k l = l.fenced ++ fenced_code (gaps_in l.program l.gaps l.t) l.k (drop l.k l.code) ≡ fenced_code (gaps_in l.program l.gaps l.t) 0 l.code
