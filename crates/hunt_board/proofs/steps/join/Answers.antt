use Rattle.hunt_board.proofs.Vocabulary.{◌≡◌, arith, goal_of}
use Rattle.hunt_board.proofs.Moves.{joins}
use Rattle.hunt_board.proofs.steps.join.Goals as goal

pub join_seat-requires : goal.join_seat-requires
join_seat-requires c =
    let one : c.args.word.now.table_id.words ≡ 1 = c.requires.seat.one_word in
    (c.requires.seat.of_table, c.requires.other.of_table, c.requires.other.live.slots, omega arith, joins (goal_of c.args.word.now.key) c.args.seat.now.id c.args.seat.now.me.0 c.args.other.id c.args.other.me.0 c.requires.seat.live.live c.requires.other.live.live)
