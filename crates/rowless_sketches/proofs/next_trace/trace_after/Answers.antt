use Rattle.rowless_sketches.proofs.Vocabulary.{◌++◌, ◌∷◌, [], List, ℕ, subst, machine_of_mode, IsThreadTraceOf}
use Rattle.rowless_sketches.proofs.next_trace.trace_after.Goals as goal

pub returns-in-Some-clause-trace : goal.returns-in-Some-clause-trace
returns-in-Some-clause-trace c given is same =
    subst (λ (g : List ℕ). IsThreadTraceOf c.args.base.now.program (machine_of_mode c.args.base.now.program c.args.base.now.mode) c.args.t (g ++ c.args.value ∷ []) c.in-Some.found) same
    (c.in-Some.ensures.found c.args.base.now.program c.args.base.now.mode given is)

pub returns-in-Some-clause-moved : goal.returns-in-Some-clause-moved
returns-in-Some-clause-moved c given more is m = c.in-Some.ensures.moved c.args.base.now.program c.args.base.now.mode given more is m
