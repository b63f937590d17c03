use Rattle.hunt_board.proofs.Vocabulary.{vec_len, All, SeatView, IsSeatOf}
use Rattle.hunt_board.proofs.hunt.join_all.Given as goal

-- all seats are of the word
abbrev pub invariant-loop-seat : goal.invariant-loop-seat
invariant-loop-seat l = IsSeatOf l.word l.last.known × All (λ (s : SeatView). IsSeatOf l.word s.known) l.seats.items

abbrev pub decreases-loop-seat : goal.decreases-loop-seat
decreases-loop-seat l = vec_len l.seats
