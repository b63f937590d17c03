use Rattle.search_core.proofs.WorkLaws.{settling_lessens, taking_leaves, giving_back_leaves}
use Rattle.search_core.proofs.laws.settling_lessens_the_work.Goals as goal

pub returns : goal.returns
returns c = record { settled = settling_lessens; taken = taking_leaves; given_back = giving_back_leaves }
