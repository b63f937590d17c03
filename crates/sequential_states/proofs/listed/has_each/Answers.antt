use Rattle.sequential_states.proofs.Vocabulary.{ap, inl, inr, length, sym, subst, arith, cases_eq, cases_lt, code_of, HasFirst}
use Rattle.tso_program.proofs.Found.{no_code}
use Rattle.sequential_states.proofs.listed.has_each.Goals as goal

pub loop-t-preserved : goal.loop-t-preserved
loop-t-preserved c = λ u h. elim (cases_eq u c.loop-t.t) [
  | inl q ↦ subst (λ n. HasFirst c.args.listed.now n (length (code_of c.args.program.now.threads n))) (sym q)
      (subst (HasFirst c.args.listed.now c.loop-t.t) c.code_len.ensures (c.has_first.ensures c.if-not-has_first.false))
  | inr n ↦ c.loop-t.invariant u (omega arith)
]

pub returns : goal.returns
returns c = λ yes_it t. elim (cases_lt t c.loop-t.t) [
  | inl h ↦ c.loop-t.invariant t h
  | inr h ↦ (λ k less. absurd (
      let count = ap length c.threads.ensures.value in
      let none = ap length (no_code c.args.program.now.threads t (omega arith)) in
      omega arith))
]
