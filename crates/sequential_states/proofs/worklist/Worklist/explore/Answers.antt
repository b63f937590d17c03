use Rattle.sequential_states.proofs.Vocabulary.{inl, inr}
use Rattle.std.specs.Prelude.{Result, Ok, Err, OnOk}
use Rattle.std.proofs.lemmas.Result.{on_ok_weaker}
use Rattle.sequential_states.proofs.Following.{get_on, read_at}
use Rattle.sequential_states.proofs.worklist.Worklist.explore.Goals as goal

-- what follows from two facts of a success
from_both : {A E : Type 0} (r : Result A E) (P Q R : Type 0) → OnOk r P → OnOk r Q → (P → Q → R) → OnOk r R
from_both (Ok x) P Q R p q f = f p q
from_both (Err e) P Q R p q f = tt

pub returns-in-Some-clause-explored : goal.returns-in-Some-clause-explored
returns-in-Some-clause-explored c =
    let there = read_at c.args.self.now c.self.inside.listed.items c.args.from c.index.result.now c.requires.there c.index.ensures c.self.view_is in
    from_both c.follow.result _ _ _ c.follow.ensures.longer c.follow.ensures.followed (λ longer followed. inr (
      c.in-Some.t,
      record {
        entry = c.index.result.now;
        there = get_on c.args.self.now c.follow.new.self c.args.from c.index.result.now longer there;
        local = c.in-Some.ensures;
        followed = followed;
      },
    ))

pub returns-in-None-clause-explored : goal.returns-in-None-clause-explored
returns-in-None-clause-explored c = on_ok_weaker c.follow_all.result (λ all. inl all) c.follow_all.ensures.followed
