use Rattle.cert_check.proofs.Vocabulary.{◌↔◌, ℕ, List, ◌∷◌, refl, ◌∙◌, subst, first_gap}
use Rattle.tree_laws.specs.GapTrees.{IsBoundBy}
use Rattle.cert_check.specs.Internal.Packed.{runs_of, IsBoundWith}
use Rattle.cert_check.proofs.gap.packed_runs.Goals as goal

pub loop-run-init : goal.loop-run-init
loop-run-init c = record {
  bound = c.requires.bound;
  some = c.requires.some;
  rest = refl;
  packed = λ p runs each.
      (let bounds = c.args.bounds.now in
      let numbers = runs_of (first_gap c.args.walk.now) in
      let start = c.of_region.ensures p bounds.costs.now bounds.answer runs (c.args.first ∷ numbers) in
      let one = c.in_ok-packing.ensures p runs numbers each in
      ((λ bound. one.0 (start.0 bound)), (λ bound. start.1 (one.1 bound))));
}

pub loop-run-preserved : goal.loop-run-preserved
loop-run-preserved c =
    let next = c.in-Some.ensures.next in
    record {
      bound = next.1;
      some = c.in-Some.ensures.some;
      rest = next.2 ∙ c.loop-run.invariant.rest;
      packed = λ p runs each.
          (let bounds = c.args.bounds.now in
          let region = c.args.region.now in
          let numbers = runs_of (first_gap c.args.walk.now) in
          let here = subst (λ (left : List ℕ). IsBoundBy p bounds.costs.now bounds.answer runs region (c.args.first ∷ numbers) ↔ IsBoundWith p bounds.costs.now bounds.answer runs region c.loop-run.packing left) next.0
          (c.loop-run.invariant.packed p runs each) in
          let one = c.in_ok-packing-2.ensures p runs (runs_of (first_gap c.next_run.new.walk)) each in
          ((λ bound. one.0 (here.0 bound)), (λ bound. here.1 (one.1 bound))));
    }
