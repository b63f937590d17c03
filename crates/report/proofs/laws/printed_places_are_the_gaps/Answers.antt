use Rattle.tso_program.proofs.GapPlaces.{places_are_numbered}
use Rattle.report.proofs.laws.printed_places_are_the_gaps.Goals as goal

pub returns : goal.returns
returns c = places_are_numbered
