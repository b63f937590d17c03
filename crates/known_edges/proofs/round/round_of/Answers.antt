use Rattle.known_edges.proofs.Rounds.{goes_on_in}
use Rattle.known_edges.proofs.round.round_of.Goals as goal

pub number_on_round-first-requires-clause-some : goal.number_on_round-first-requires-clause-some
number_on_round-first-requires-clause-some c = let (d, reach) = c.requires.round in (d, (c.on_cycles-on_cycles.ensures d).1 reach)

pub number_on_round-first-requires-clause-on : goal.number_on_round-first-requires-clause-on
number_on_round-first-requires-clause-on c = goes_on_in c.args.relation.now c.on_cycles-on_cycles.result c.on_cycles-on_cycles.ensures

pub walk-requires-clause-on : goal.walk-requires-clause-on
walk-requires-clause-on c = goes_on_in c.args.relation.now c.on_cycles-on_cycles.result c.on_cycles-on_cycles.ensures
