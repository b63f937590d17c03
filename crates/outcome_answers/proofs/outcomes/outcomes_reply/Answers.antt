use Rattle.std.proofs.lemmas.Result.{err_from_is_err_and}
use Rattle.outcome_answers.proofs.outcomes.outcomes_reply.Goals as goal

-- the refusal of the text is handed on
pub returns-in_err-litmus-clause-refused : goal.returns-in_err-litmus-clause-refused
returns-in_err-litmus-clause-refused g c =
    let p = err_from_is_err_and c.from_residual.result c.from_residual.ensures.1 in
    rw (p.1, p.2) (record { why = c.in_err-litmus.ensures.refused; none = c.in_err-litmus.ensures.only })
