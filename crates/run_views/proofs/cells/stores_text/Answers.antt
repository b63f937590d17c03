use Rattle.std.proofs.Common.{◌∙◌, ◌++◌, ◌∷◌, [], ℕ, List, ap, append_assoc, sym}
use Rattle.std.specs.Global.{Vec}
use Rattle.tso_machine.specs.declared.label.Pending.{Pending}
use Rattle.run_views.specs.Tables.{pending_text}
use Rattle.run_views.proofs.Rows.{join_first, join_more}
use Rattle.run_views.proofs.cells.stores_text.Goals as goal
use Rattle.run_views.proofs.cells.stores_text.Goals.{then-index-gt0+in_ok-push, else-index-gt0}

pub loop-index-preserved : goal.loop-index-preserved
loop-index-preserved c =
    let text : Pending → List ℕ = pending_text c.args.names.now in
    elim c.if-index-gt0.branch [
      | then-index-gt0+in_ok-push w ↦
          let before = ap (λ (v : Vec ℕ). v.items) w.out-is ∙ w.in_ok-push.ensures.items ∙ ap (λ (bs : List ℕ). bs ++ 32 ∷ []) c.loop-index.invariant in
          rw before at c.in_ok-push_value.ensures
          ∙ append_assoc _ (32 ∷ []) _
          ∙ sym (join_more text c.args.stores.now c.loop-index.index _ c.loop-index-test.true w.if-index-gt0.true)
      | else-index-gt0 w ↦
          let before = ap (λ (v : Vec ℕ). v.items) w.out-is ∙ c.loop-index.invariant in
          rw before at c.in_ok-push_value.ensures
          ∙ sym (join_first text c.args.stores.now c.loop-index.index _ c.loop-index-test.true w.if-index-gt0.false)
    ]
