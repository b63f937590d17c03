use Rattle.sequential_states.proofs.Vocabulary.{◌<◌, arith, inl, inr, subst, sym, length, cases_eq, start, Listing, IsExplored}
use Rattle.sequential_states.proofs.Following.{explored_longer, listed_on}
use Rattle.sequential_states.proofs.states.SequentialStates.within.Goals as goal

pub loop-alloc-init : goal.loop-alloc-init
loop-alloc-init c = record {
  reached = c.in_ok-worklist.ensures.reached;
  first = c.in_ok-worklist.ensures.first;
  explored = λ place h. absurd (omega arith);
}

pub explore-requires-clause-reached : goal.explore-requires-clause-reached
explore-requires-clause-reached c = c.loop-alloc.invariant.reached

pub loop-alloc-preserved : goal.loop-alloc-preserved
loop-alloc-preserved c =
    let p : Listing = c.args.program.now in
    let inside : c.loop-alloc.explored < length c.loop-alloc.worklist = c.is_enough.ensures.more c.loop-alloc-test.true in
    record {
      reached = c.in_ok-explore.ensures.reached;
      first = listed_on c.loop-alloc.worklist c.explore.new.self (start p) c.in_ok-explore.ensures.longer c.loop-alloc.invariant.first;
      explored = λ place h. elim (cases_eq place c.loop-alloc.explored) [
        | inl q ↦ subst (IsExplored p c.explore.new.self) (sym q) c.in_ok-explore.ensures.explored
        | inr n ↦ explored_longer p c.loop-alloc.worklist c.explore.new.self place c.in_ok-explore.ensures.longer (omega arith) (c.loop-alloc.invariant.explored place (omega arith))
      ];
    }

pub invariant_of-result : goal.invariant_of-result
invariant_of-result c = rw (c.in_ok-copy.ensures, c.into_listed.ensures) (record {
  first = c.loop-alloc.invariant.first;
  reached = c.loop-alloc.invariant.reached;
  enough = elim (c.is_enough.ensures.enough c.loop-alloc-test.false) [
    | inl h ↦ inl (λ place q. c.loop-alloc.invariant.explored place (omega arith))
    | inr each ↦ inr each
  ];
})
