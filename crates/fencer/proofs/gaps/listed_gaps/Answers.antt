use Rattle.fencer.proofs.gaps.listed_gaps.Goals as goal

pub returns : goal.returns
returns c = rw (c.costs_shown-shown.ensures, c.as_deref.ensures.value) at c.gap_list.ensures
