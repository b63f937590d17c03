use Rattle.run_views.proofs.table.run_table.Goals as goal

pub returns : goal.returns
returns c = rw (c.as_slice.ensures.value, c.in_ok-rows.ensures) at c.lines_of.ensures
