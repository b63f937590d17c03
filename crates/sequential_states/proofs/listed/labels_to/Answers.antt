use Rattle.sequential_states.proofs.Vocabulary.{◌∙◌, ◌<◌, sym, subst, arith, LeadTo}
use Rattle.sequential_states.proofs.Arrivals.{lead_nowhere, lead_further, lead_from_start, before_it}
use Rattle.sequential_states.proofs.listed.labels_to.Goals as goal

pub loop-arrival-init : goal.loop-arrival-init
loop-arrival-init c = record { inside = c.requires.there; lead = rw c.new-labels.ensures.items (lead_nowhere c.args.listed.now c.args.place) }

pub loop-arrival-smaller : goal.loop-arrival-smaller
loop-arrival-smaller c =
    before_it c.args.listed.now c.args.place c.loop-arrival.at c.loop-arrival.labels.items c.arrival_at.result c.loop-arrival.invariant.inside c.arrival_at.ensures c.in-Some.arrival c.requires.back c.in-Some.is

pub loop-arrival-preserved : goal.loop-arrival-preserved
loop-arrival-preserved c = record {
  inside = (let less : c.in-Some.arrival.from < c.loop-arrival.at = before_it c.args.listed.now c.args.place c.loop-arrival.at c.loop-arrival.labels.items c.arrival_at.result c.loop-arrival.invariant.inside c.arrival_at.ensures c.in-Some.arrival c.requires.back c.in-Some.is in
      let inside = c.loop-arrival.invariant.inside in omega arith);
  lead = rw c.in_ok-push.ensures.items
      (lead_further c.args.listed.now c.args.place c.loop-arrival.at c.loop-arrival.labels.items c.arrival_at.result c.loop-arrival.invariant.inside c.arrival_at.ensures c.in-Some.arrival c.in-Some.is c.loop-arrival.invariant.lead);
}

pub returns : goal.returns
returns c = subst (LeadTo c.args.listed.now c.args.place) (sym (c.of.ensures ∙ c.reverse.ensures.items))
    (lead_from_start c.args.listed.now c.args.place c.loop-arrival.at c.loop-arrival.labels.items c.arrival_at.result c.loop-arrival.invariant.inside c.arrival_at.ensures c.in_default.is c.loop-arrival.invariant.lead)
