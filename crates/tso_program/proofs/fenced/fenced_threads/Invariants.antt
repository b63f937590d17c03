use Rattle.tso_program.proofs.Vocabulary.{◌≡◌, ◌++◌, drop, gaps_in, fenced_threads}
use Rattle.tso_program.proofs.fenced.fenced_threads.Given as goal

-- with the fenced rest behind them, they are the fenced threads
abbrev pub invariant-loop-t : goal.invariant-loop-t
invariant-loop-t l = l.fenced.items ++ fenced_threads (gaps_in l.program l.gaps) l.t (drop l.t l.program.threads) ≡ fenced_threads (gaps_in l.program l.gaps) 0 l.program.threads
