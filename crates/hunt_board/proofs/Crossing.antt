-- A seat may go from one thread to another: each of its fields may.
use denote.Param.Send.{IsSend, view_send, recorded_send, struct_send, sendable}
use denote.Struct.Declared.{shape}
use Rattle.std.proofs.Crossing.{crosses}
use Rattle.gap_sets.proofs.gap_set.GapSet.TheSendSync as gaps
use Rattle.gap_sets.proofs.region.Region.TheSendSync as region
use Rattle.hunt_board.proofs.word.WordSeat.TheSendSync as word_seat
use Rattle.hunt_board.specs.contracts.seat.Confirmed as confirmed
use Rattle.hunt_board.specs.contracts.seat.HuntSeat as hunt_seat
use Rattle.hunt_board.specs.contracts.seat.HuntSeat.TheInside as seat_inside

confirmed_send : IsSend confirmed.the_row
confirmed_send =
    recorded_send (confirmed.the_field).row _ _ (confirmed.the_type).to_one
    (struct_send (shape confirmed.the_type) (gaps.the_send, (search (crosses, sendable), tt)))

pub seat_send : IsSend hunt_seat.the_row
seat_send =
    view_send seat_inside.the_row _ _ _ _
    (recorded_send (seat_inside.the_field).row _ _ (seat_inside.the_type).to_one
    (struct_send (shape seat_inside.the_type) (search sendable, (search (crosses, sendable, region.the_send), (search (crosses, sendable, confirmed_send), (word_seat.the_send, (search sendable, tt)))))))
