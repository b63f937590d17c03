use Rattle.known_edges.proofs.Vocabulary.{none_in_zero}
use Rattle.known_edges.proofs.access_rows.row_at.Goals as goal

pub returns-in-Some-clause-from : goal.returns-in-Some-clause-from
returns-in-Some-clause-from c d h = (c.in-Some.d, c.in-Some.ensures.1, h)

pub returns-in-Some-clause-whole : goal.returns-in-Some-clause-whole
returns-in-Some-clause-whole c k h = (c.in-Some.d, c.in-Some.ensures.1, λ d r. r)

pub returns-in-None-clause-from : goal.returns-in-None-clause-from
returns-in-None-clause-from c d h = absurd (none_in_zero d h)

pub returns-in-None-clause-whole : goal.returns-in-None-clause-whole
returns-in-None-clause-whole c k h = absurd (c.in-None.ensures k h)
