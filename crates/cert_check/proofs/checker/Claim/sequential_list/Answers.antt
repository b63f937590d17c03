use Rattle.cert_check.proofs.checker.Claim.sequential_list.Goals as goal

pub returns-in-Ok-judge_from_start-clause-replayed : goal.returns-in-Ok-judge_from_start-clause-replayed
returns-in-Ok-judge_from_start-clause-replayed c = rw (← c.certificate.view_is) (rw c.deref.ensures at c.in-Ok.ensures.replays.are_runs)

pub returns-in-Err-Wrong-clause-fault : goal.returns-in-Err-Wrong-clause-fault
returns-in-Err-Wrong-clause-fault c = rw (← c.certificate.view_is) (λ costs head. (
  c.in-Ok.replays.outcomes.items,
  record { head = head; replayed = rw c.deref.ensures at c.in-Ok.ensures.replays.are_runs },
  rw (← c.certificate.view_is) at (rw c.deref-2.ensures.value at (rw c.in-Err-Wrong.field-0-is at c.in-Err-Wrong.ensures.wrong)),
))
