use Rattle.known_edges.proofs.round.next_number.Goals as goal

pub lowest_of-requires : goal.lowest_of-requires
lowest_of-requires c = let (e, edge, there) = c.requires.on c.args.d c.requires.there in (e, (c.common.ensures e).1 ((c.row.ensures e).1 edge, there))
