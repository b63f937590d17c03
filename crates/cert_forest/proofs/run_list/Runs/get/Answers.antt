use Rattle.cert_forest.proofs.FlatRunLaws.{as_many, begins_before, found_end, run_is}
use Rattle.cert_forest.proofs.Vocabulary.{◌≡◌, ◌∙◌, ◌≤◌, ◌∷◌, ℕ, List, length, sym, ap, subst, arith, Some, slice_get, get_or, Label, slice_range}
use Rattle.cert_forest.proofs.run_list.Runs.get.Goals as goal

pub part-requires-clause-ascend : goal.part-requires-clause-ascend
part-requires-clause-ascend c =
    let (some, is, found, within, others) = c.in-Some.ensures.lookup in
    let there = subst (λ (es : List ℕ). slice_get es c.args.number ≡ Some c.in-Some.end.now) c.deref.ensures.value (found_end c.deref.result.now c.args.number c.in-Some.end.now within.0 is) in
    let begins = subst (λ (es : List ℕ). c.start_of.result ≡ get_or (0 ∷ es) c.args.number c.start_of.result) c.deref-in-Some-2.ensures.value c.start_of.ensures in
    (begins_before c.self.inside.ends.items c.self.inside.labels.items c.args.number c.start_of.result c.in-Some.end.now c.self.invariant there begins).0

pub part-requires-clause-within : goal.part-requires-clause-within
part-requires-clause-within c =
    let (some, is, found, within, others) = c.in-Some.ensures.lookup in
    let there = subst (λ (es : List ℕ). slice_get es c.args.number ≡ Some c.in-Some.end.now) c.deref.ensures.value (found_end c.deref.result.now c.args.number c.in-Some.end.now within.0 is) in
    let begins = subst (λ (es : List ℕ). c.start_of.result ≡ get_or (0 ∷ es) c.args.number c.start_of.result) c.deref-in-Some-2.ensures.value c.start_of.ensures in
    subst (λ (ls : List Label). c.in-Some.end.now ≤ length ls) (sym c.deref-in-Some.ensures.value)
    (begins_before c.self.inside.ends.items c.self.inside.labels.items c.args.number c.start_of.result c.in-Some.end.now c.self.invariant there begins).1

pub returns-in-Some : goal.returns-in-Some
returns-in-Some c =
    let (some, is, found, within, others) = c.in-Some.ensures.lookup in
    let there = subst (λ (es : List ℕ). slice_get es c.args.number ≡ Some c.in-Some.end.now) c.deref.ensures.value (found_end c.deref.result.now c.args.number c.in-Some.end.now within.0 is) in
    let begins = subst (λ (es : List ℕ). c.start_of.result ≡ get_or (0 ∷ es) c.args.number c.start_of.result) c.deref-in-Some-2.ensures.value c.start_of.ensures in
    ap (λ (runs : List (List Label)). slice_get runs c.args.number) (sym c.self.view_is)
    ∙ run_is c.self.inside.ends.items c.self.inside.labels.items c.args.number c.start_of.result c.in-Some.end.now there begins
    ∙ ap (λ (ls : List Label). Some (slice_range ls c.start_of.result c.in-Some.end.now)) (sym c.deref-in-Some.ensures.value)
    ∙ ap (λ (ls : List Label). Some ls) (sym c.part.ensures)

pub returns-in-None : goal.returns-in-None
returns-in-None c =
    let (some, is, found, past, others) = c.in-None.ensures.lookup in
    let many : length c.args.self.now ≡ length c.self.inside.ends.items = ap length (sym c.self.view_is) ∙ as_many 0 c.self.inside.ends.items c.self.inside.labels.items in
    let e : length c.deref.result.now ≡ length c.self.inside.ends.items = ap length c.deref.ensures.value in
    omega (arith, past)
