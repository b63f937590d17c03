use Rattle.std.proofs.Common.{◌≡◌, ◌∙◌, ◌+◌, ℕ, List, Some, Contains, slice_get, length, ap, sym, subst}
use Rattle.std.proofs.lemmas.List.{length_push}
use Rattle.candidate_executions.proofs.FromRuns.KnownValues.{known}
use Rattle.held_values.specs.HeldLists.{IsHeldList}
use Rattle.held_values.proofs.ListsHeld.{lists_more}
use Rattle.held_values.proofs.lists.held_values.Goals as goal

pub held_at-requires-clause-all : goal.held_at-requires-clause-all
held_at-requires-clause-all c = λ cell v held.
    subst (λ (values : List ℕ). Contains values v) (sym c.as_slice-in-loop-l.ensures.value) ((c.in_ok-values.ensures.exact v).1 (known c.args.program.now cell v held))

pub loop-l-preserved : goal.loop-l-preserved
loop-l-preserved c =
    let p = c.args.program.now in
    let own = subst (λ (values : List ℕ). IsHeldList p c.loop-l.l values) (sym c.in_ok-of.ensures) c.in_ok-held.ensures in
    record {
      many = ap length c.in_ok-push.ensures.items ∙ length_push c.loop-l.lists.items c.in_ok-of.field-0 ∙ ap (λ n. n + 1) c.loop-l.invariant.many;
      made = subst (λ ls. (k : ℕ) (values : List ℕ) → slice_get ls k ≡ Some values → IsHeldList p k values) (sym c.in_ok-push.ensures.items)
          (lists_more p c.loop-l.lists.items c.loop-l.l c.in_ok-of.field-0 c.loop-l.invariant.many c.loop-l.invariant.made own);
    }
