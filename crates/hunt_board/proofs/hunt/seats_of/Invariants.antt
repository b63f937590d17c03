use Rattle.hunt_board.proofs.Vocabulary.{◌≡◌, AreFreshAt, IsSeatOf, no_ceiling}
use Rattle.hunt_board.proofs.hunt.seats_of.Given as goal

-- so many seats are fresh, and the first one at the word is as it was
abbrev pub invariant-loop-number : goal.invariant-loop-number
invariant-loop-number l = AreFreshAt l.word l.number l.row.items × IsSeatOf l.word l.first × (l.first.least ≡ no_ceiling)
