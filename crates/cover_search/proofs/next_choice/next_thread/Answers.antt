use Rattle.cover_search.proofs.Vocabulary.{ap, ◌∙◌, arith, inl, inr, cases_lt}
use Rattle.cover_search.proofs.NothingLeft.{no_read}
use Rattle.cover_search.proofs.next_choice.next_thread.Goals as goal

pub returns : goal.returns
returns c u = elim (cases_lt u c.loop-t.t) [
  | inl low ↦ c.loop-t.invariant u low
  | inr high ↦ no_read c.args.sketch.now c.threads.result.now u (c.threads.ensures.value ∙ ap (λ p. p.threads) c.program.ensures.value) (omega (arith, c.loop-t-test.false, high))
]
