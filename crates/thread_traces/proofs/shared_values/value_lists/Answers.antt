use Rattle.thread_traces.proofs.Vocabulary.{◌≡◌, ◌∙◌, ◌+◌, ◌++◌, ◌∷◌, [], ℕ, List, Some, slice_get, length, ap, sym, subst, inl, inr, length_push, Listing, IsValueList, get_cases}
use Rattle.thread_traces.proofs.shared_values.value_lists.Goals as goal

made_more : (p : Listing) (lists : List (List ℕ)) (location : ℕ) (new : List ℕ) → length lists ≡ location →
    ((k : ℕ) (values : List ℕ) → slice_get lists k ≡ Some values → IsValueList p k values) → IsValueList p location new →
    (k : ℕ) (values : List ℕ) → slice_get (lists ++ new ∷ []) k ≡ Some values → IsValueList p k values
made_more p lists location new many made is k values e = elim (get_cases lists new k values e) [
  | inl a ↦ made k values a
  | inr b ↦ subst (λ (x : List ℕ). IsValueList p k x) (sym b.1) (subst (λ l. IsValueList p l new) (sym many ∙ sym b.0) is)
]

pub loop-location-preserved : goal.loop-location-preserved
loop-location-preserved c =
    let is : IsValueList c.args.program.now c.loop-location.location c.in_ok-values.values.items = record { ascending = c.in_ok-values.ensures.ascending; exact = c.in_ok-values.ensures.exact } in
    let own = subst (λ (x : List ℕ). IsValueList c.args.program.now c.loop-location.location x) (sym c.in_ok-of.ensures) is in
    record {
      many = ap length c.in_ok-push.ensures.items ∙ length_push c.loop-location.lists.items c.in_ok-of.field-0 ∙ ap (λ n. n + 1) c.loop-location.invariant.many;
      made = subst (λ ls. (k : ℕ) (values : List ℕ) → slice_get ls k ≡ Some values → IsValueList c.args.program.now k values) (sym c.in_ok-push.ensures.items)
          (made_more c.args.program.now c.loop-location.lists.items c.loop-location.location c.in_ok-of.field-0 c.loop-location.invariant.many c.loop-location.invariant.made own);
    }
