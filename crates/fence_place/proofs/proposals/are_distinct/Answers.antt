use Rattle.fence_place.proofs.Vocabulary.{◌≡◌, false, true, ◌++◌, ◌∷◌, [], List, subst, sym, Label, AreDistinct}
use Rattle.fence_place.proofs.{Distinct.not_distinct, Distinct.one_more, Distinct.still_all}
use Rattle.fence_place.proofs.proposals.are_distinct.Goals as goal

pub returns-in-Some-position : goal.returns-in-Some-position
returns-in-Some-position c = (
  λ no. (let z : false ≡ true = no in cc),
  λ distinct. absurd (not_distinct c.loop-labels.seen c.next.new.self c.in-Some.labels.now c.loop-labels.labels-iterator c.args.runs.now c.loop-labels.invariant.all c.in-Some.ensures.steps
      c.in-Some-position.field-0 c.in-Some-position.ensures distinct),
)

pub loop-labels-preserved : goal.loop-labels-preserved
loop-labels-preserved c =
    let is = c.in_ok-push-in-None-position.ensures.ok in
    record {
      all = still_all c.loop-labels.seen c.next.new.self c.in-Some.labels.now c.loop-labels.labels-iterator c.args.runs.now c.loop-labels.invariant.all c.in-Some.ensures.steps c.push.new.self is;
      once = subst AreDistinct (sym is) (one_more c.loop-labels.seen c.next.new.self c.in-Some.labels.now c.loop-labels.invariant.once c.in-None-position.ensures);
    }
