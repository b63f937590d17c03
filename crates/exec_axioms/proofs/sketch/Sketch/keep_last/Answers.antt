use Rattle.exec_axioms.proofs.Vocabulary.{◌≡◌, ◌∙◌, ℕ, true, false, ◌++◌, ◌∷◌, [], None, Some, Contains, ap, sym, subst, IfSome, slice_index_or, slice_set, AreLastValues}
use Rattle.exec_axioms.proofs.LastValues.{values_same, values_more, values_differ}
use Rattle.exec_axioms.proofs.sketch.Sketch.keep_last.Goals as goal

pub returns-in-Some-clause-kept : goal.returns-in-Some-clause-kept
returns-in-Some-clause-kept c t es before =
    subst (AreLastValues c.args.self.now c.args.shown.now (Contains (es ++ c.args.event ∷ [])))
    (ap (λ (v : ℕ). slice_set c.args.values.now c.in-Some.location (Some v)) (sym c.value.ensures) ∙ sym c.keep.ensures.kept)
    (values_more c.args.self.now c.args.shown.now es c.args.event c.in-Some.location c.in-Some.value c.args.values.now c.in-Some.ensures.few c.in-Some.ensures.write.1
    (subst (λ (v : ℕ). IfSome (slice_index_or c.args.values.now c.in-Some.location None) (λ before. before ≡ v)) c.value.ensures (c.keep.ensures.same.0 t)) before)

pub returns-in-Some-clause-differ : goal.returns-in-Some-clause-differ
returns-in-Some-clause-differ c other es before =
    values_differ c.args.self.now c.args.shown.now es c.args.event c.in-Some.location c.in-Some.value c.args.values.now c.in-Some.ensures.write.0 c.in-Some.ensures.write.1
    (λ alike. other (c.keep.ensures.same.1 (subst (λ (v : ℕ). IfSome (slice_index_or c.args.values.now c.in-Some.location None) (λ before. before ≡ v)) (sym c.value.ensures) alike))) before

pub returns-in-None-clause-kept : goal.returns-in-None-clause-kept
returns-in-None-clause-kept c t es before = values_same c.args.self.now c.args.shown.now es c.args.event c.args.values.now c.in-None.ensures.write before

pub returns-then-not-writes-clause-kept : goal.returns-then-not-writes-clause-kept
returns-then-not-writes-clause-kept c t es before =
    values_same c.args.self.now c.args.shown.now es c.args.event c.args.values.now (λ l v h. c.requires.written (λ w. (let f : false ≡ true = sym c.if-not-writes.true ∙ w in cc)) l v h) before
