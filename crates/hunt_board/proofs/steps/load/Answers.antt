use Rattle.hunt_board.proofs.Vocabulary.{◌≡◌, arith, goal_of}
use Rattle.hunt_board.proofs.Moves.{loads}
use Rattle.hunt_board.proofs.steps.load.Goals as goal

pub load-requires : goal.load-requires
load-requires c =
    let one : c.args.word.now.table_id.words ≡ 1 = c.requires.seat.one_word in
    (c.requires.seat.of_table, omega arith, loads (goal_of c.args.word.now.key) c.args.word.now.table_id.slots c.args.seat.now.id c.args.seat.now.me c.requires.seat.live.live)
