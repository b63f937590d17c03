use Rattle.litmus_text.proofs.Vocabulary.{◌≡◌, ℕ, ◌+◌, List, [], ◌∷◌, ◌++◌, length, map, take, length-append, sym, ap, ◌∙◌, arith, text_of, gap, joined_by, label_pieces, label_names_at}
use Rattle.litmus_text.proofs.{LabelPlaces.label_here, LabelPlaces.label_elsewhere, TextsGrow.between_at, TextsGrow.label_more}
use Rattle.litmus_text.proofs.labels.push_own.Goals as goal
use Rattle.litmus_text.proofs.labels.push_own.Goals.{then-label-position+in_ok-push_gap+in_ok-extend_from_slice+in_ok-push, else-label-position}

pub loop-label-preserved : goal.loop-label-preserved
loop-label-preserved c =
    let labels = c.args.labels.now in
    let k = c.args.position in
    let i = c.loop-label.label-index in
    let l = c.label-item.result in
    let before : List (List ℕ) = label_names_at (take i labels) k in
    elim c.if-label-position.branch [
      | then-label-position+in_ok-push_gap+in_ok-extend_from_slice+in_ok-push w ↦
          let more : label_names_at (take (i + 1) labels) k ≡ before ++ l.name ∷ [] = label_here labels i k l c.loop-label-test.true c.label-item.is w.if-label-position.true in
          let long : length (label_names_at (take (i + 1) labels) k) ≡ length before + 1 = ap length more ∙ (let e : length (before ++ l.name ∷ []) ≡ length before + 1 = omega (arith, length-append before (l.name ∷ [])) in e) in (
            (λ j. (w.out-is j).items)
                ∙ w.in_ok-push.ensures.items
                ∙ ap (λ (bs : List ℕ). bs ++ 58 ∷ []) (w.in_ok-extend_from_slice.ensures.items
                ∙ ap (λ (bs : List ℕ). w.push_gap.new.out.items ++ bs) w.as_slice.ensures
                ∙ ap (λ (bs : List ℕ). bs ++ l.name) (w.in_ok-push_gap.ensures ∙ ap (λ (bs : List ℕ). bs ++ between_at gap c.loop-label.count) c.loop-label.invariant.0))
                ∙ label_more c.args.out.now.items before l.name c.loop-label.count c.loop-label.invariant.1
                ∙ ap (λ (ns : List (List ℕ)). c.args.out.now.items ++ text_of (joined_by gap (map label_pieces ns))) (sym more),
            omega (arith, w.count-is, long),
            omega (arith, w.count-is),
          )
      | else-label-position w ↦
          let same : label_names_at (take (i + 1) labels) k ≡ before = label_elsewhere labels i k l c.loop-label-test.true c.label-item.is w.if-label-position.false in (
            (λ j. (w.out-is j).items) ∙ c.loop-label.invariant.0 ∙ ap (λ (ns : List (List ℕ)). c.args.out.now.items ++ text_of (joined_by gap (map label_pieces ns))) (sym same),
            w.count-is ∙ c.loop-label.invariant.1 ∙ ap length (sym same),
            omega (arith, w.count-is),
          )
    ]
