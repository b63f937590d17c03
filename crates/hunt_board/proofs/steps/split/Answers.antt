use Rattle.hunt_board.proofs.Vocabulary.{◌≡◌, arith, goal_of}
use Rattle.hunt_board.proofs.Moves.{splits}
use Rattle.hunt_board.proofs.steps.split.Goals as goal

pub split_seat-requires : goal.split_seat-requires
split_seat-requires c =
    let one : c.args.word.now.table_id.words ≡ 1 = c.requires.seat.one_word in
    (c.requires.seat.of_table, omega arith, splits (goal_of c.args.word.now.key) c.args.seat.now.id c.args.seat.now.me.0)
