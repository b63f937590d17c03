use Rattle.sequential_states.proofs.Vocabulary.{◌<◌, ap, length, arith, inl, inr, subst, sym, cases_eq, cases_lt, IsFollowed}
use Rattle.sequential_states.proofs.Following.{begins_itself, begins_on, longer_by, followed_longer, past_followed}
use Rattle.sequential_states.proofs.worklist.Worklist.follow_all.Goals as goal

pub loop-t-init : goal.loop-t-init
loop-t-init c = record {
  reached = c.requires.reached;
  longer = begins_itself c.args.self.now;
  followed = λ u h. absurd (omega arith);
}

pub follow-requires-clause-reached : goal.follow-requires-clause-reached
follow-requires-clause-reached c = c.loop-t.invariant.reached

pub follow-requires-clause-there : goal.follow-requires-clause-there
follow-requires-clause-there c = let longer = longer_by c.args.self.now c.loop-t.self c.loop-t.invariant.longer in let there = c.requires.there in omega arith

pub loop-t-preserved : goal.loop-t-preserved
loop-t-preserved c =
    let there : c.args.from < length c.loop-t.self = (let longer = longer_by c.args.self.now c.loop-t.self c.loop-t.invariant.longer in let at = c.requires.there in omega arith) in
    record {
      reached = c.in_ok-follow.ensures.reached;
      longer = begins_on c.args.self.now c.loop-t.self c.follow.new.self c.loop-t.invariant.longer c.in_ok-follow.ensures.longer;
      followed = λ u h. elim (cases_eq u c.loop-t.t) [
        | inl q ↦ subst (IsFollowed c.args.program.now c.follow.new.self c.args.from) (sym q) c.in_ok-follow.ensures.followed
        | inr n ↦ followed_longer c.args.program.now c.loop-t.self c.follow.new.self c.args.from u c.in_ok-follow.ensures.longer there (c.loop-t.invariant.followed u (omega arith))
      ];
    }

pub returns-clause-followed : goal.returns-clause-followed
returns-clause-followed c = λ t. elim (cases_lt t c.loop-t.t) [
  | inl h ↦ c.loop-t.invariant.followed t h
  | inr h ↦ past_followed c.args.program.now c.loop-t.self c.args.from t c.loop-t.invariant.reached (let count = ap length c.threads.ensures.value in omega arith)
]
