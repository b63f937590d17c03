use Rattle.hunt_board.proofs.Vocabulary.{◌≡◌, arith, goal_of}
use Rattle.hunt_board.proofs.Moves.{lowers}
use Rattle.hunt_board.proofs.steps.lower.Goals as goal

pub fetch_min-requires : goal.fetch_min-requires
fetch_min-requires c =
    let one : c.args.word.now.table_id.words ≡ 1 = c.requires.seat.one_word in
    (c.requires.seat.of_table, omega arith, lowers (goal_of c.args.word.now.key) c.args.word.now.table_id.slots c.args.seat.now.id c.args.seat.now.me c.args.to c.requires.seat.live.live c.requires.to (omega arith))
