use Rattle.litmus_text.proofs.Vocabulary.{◌≡◌, ◌<◌, arith, gaps_in, place_of}
use Rattle.litmus_text.proofs.LabelPlaces.{place_between}
use Rattle.litmus_text.proofs.labels.position_at.Goals as goal

pub returns-else-reached-place-clause-none : goal.returns-else-reached-place-clause-none
returns-else-reached-place-clause-none c =
    let gap = gaps_in c.args.program.now c.args.gaps.now c.args.t in
    let reached : c.loop-reached.reached ≡ place_of gap c.loop-reached.position = c.loop-reached.invariant.0 in
    let past : c.args.place < place_of gap c.loop-reached.position = omega arith in
    place_between gap c.loop-reached.position c.args.place c.loop-reached.invariant.3 past
