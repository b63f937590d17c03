use Rattle.sequential_states.proofs.Vocabulary.{◌∙◌, ℕ, ap, not, inl, inr, sym, subst, arith, cases_eq, IsPlaceAt}
use Rattle.sequential_states.proofs.EachFound.{some_place}
use Rattle.sequential_states.proofs.listed.has_first.Goals as goal

pub loop-k-preserved : goal.loop-k-preserved
loop-k-preserved c = λ k h. elim (cases_eq k c.loop-k.k) [
  | inl q ↦ subst (λ n. (place : ℕ) × IsPlaceAt c.args.listed.now c.args.t n place) (sym q)
      (some_place c.place_at.result (IsPlaceAt c.args.listed.now c.args.t c.loop-k.k) c.place_at.ensures.found (c.is_none.ensures ∙ ap not c.if-is_none.false))
  | inr n ↦ c.loop-k.invariant k (omega arith)
]
