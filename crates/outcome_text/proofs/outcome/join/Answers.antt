use Rattle.outcome_text.proofs.Vocabulary.{ℕ, List, [], ◌++◌, ◌∷◌, take, get_or, sym, ap, ◌∙◌, append_assoc, join_with_byte, Vec, texts}
use Rattle.outcome_text.proofs.Joined.{join_more, join_first}
use Rattle.outcome_text.proofs.outcome.join.Goals as goal
use Rattle.outcome_text.proofs.outcome.join.Goals.{then-index-gt0+in_ok-push, else-index-gt0}

pub loop-index-preserved : goal.loop-index-preserved
loop-index-preserved c =
    let d = c.index-items-index.result in
    let item = c.as_slice.ensures.value ∙ ap (λ (v : Vec ℕ). v.items) c.index-items-index.is in
    let added = c.in_ok-extend_from_slice.ensures.items ∙ ap (λ (ws : List ℕ). c.if-index-gt0.text.items ++ ws) item in
    elim c.if-index-gt0.branch [
      | then-index-gt0+in_ok-push w ↦
          let before = ap (λ (v : Vec ℕ). v.items) w.text-is ∙ w.in_ok-push.ensures.items ∙ ap (λ (ws : List ℕ). ws ++ 32 ∷ []) c.loop-index.invariant in
          added
          ∙ ap (λ (ws : List ℕ). ws ++ (get_or c.args.items.now c.loop-index.index d).items) before
          ∙ append_assoc (join_with_byte 32 (texts (take c.loop-index.index c.args.items.now))) (32 ∷ []) _
          ∙ sym (join_more c.args.items.now c.loop-index.index d c.loop-index-test.true w.if-index-gt0.true)
      | else-index-gt0 w ↦
          let before = ap (λ (v : Vec ℕ). v.items) w.text-is ∙ c.loop-index.invariant in
          added
          ∙ ap (λ (ws : List ℕ). ws ++ (get_or c.args.items.now c.loop-index.index d).items) before
          ∙ sym (join_first c.args.items.now c.loop-index.index d c.loop-index-test.true w.if-index-gt0.false)
    ]
