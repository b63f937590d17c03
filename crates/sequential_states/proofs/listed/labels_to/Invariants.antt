use Rattle.sequential_states.proofs.Vocabulary.{◌<◌, length}
use Rattle.sequential_states.proofs.Arrivals.{LeadOn}
use Rattle.sequential_states.proofs.listed.labels_to.Given as goal

-- the labels so far lead from the state at this place to the one that is asked for
abbrev pub invariant-loop-arrival : goal.invariant-loop-arrival
invariant-loop-arrival l = record {
  inside : l.at < length l.listed;
  lead : LeadOn l.listed l.place l.labels.items l.at;
}

abbrev pub decreases-loop-arrival : goal.decreases-loop-arrival
decreases-loop-arrival l = l.at
