use Rattle.cover_solver.proofs.outcome_list.proposed_or_found.Goals as goal

pub returns-in-Some : goal.returns-in-Some
returns-in-Some c =
    let made = rw c.in-Some.is at c.requires in
    record { ascend = made.ascend; runs = made.runs; exact = made.exact }
