use Rattle.tso_program.proofs.Vocabulary.{◌≡◌, ◌≤◌, ◌*◌, gaps_in, place_of}
use Rattle.tso_program.proofs.fenced.fenced_place.Given as goal

-- the place so far, at most two for each instruction
abbrev pub invariant-loop-earlier : goal.invariant-loop-earlier
invariant-loop-earlier l = record { so_far : l.place ≡ place_of (gaps_in l.program l.gaps l.t) l.earlier; small : l.place ≤ 2 * l.earlier }
