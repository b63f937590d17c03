use Rattle.known_edges.proofs.Vocabulary.{◌≡◌, ◌∙◌, ◌+◌, ap, length, sym, subst, arith, At, IsEarly, AreBeyond, IsGrown, grown_none, inl, length_push}
use Rattle.known_edges.proofs.{Accesses.grown_more, Accesses.early_none, Starts.beyond_more}
use Rattle.known_edges.proofs.numbered_traces.push_thread.Goals as goal

pub loop-i-init : goal.loop-i-init
loop-i-init c = record {
  grown = grown_none (IsEarly c.args.t 0) c.args.events.now.items (early_none c.args.t);
  beyond = λ d u i at. inl at;
  long = omega arith;
}

pub loop-i-preserved : goal.loop-i-preserved
loop-i-preserved c =
    let long = ap length c.in_ok-push.ensures.items ∙ length_push c.loop-i.events.items (At c.args.t c.loop-i.i) in
    let so_far = c.loop-i.invariant.long in
    record {
      grown = subst (IsGrown (IsEarly c.args.t (c.loop-i.i + 1)) c.args.events.now.items) (sym c.in_ok-push.ensures.items)
          (grown_more c.args.events.now.items c.loop-i.events.items c.args.t c.loop-i.i c.requires c.loop-i.invariant.grown);
      beyond = subst (AreBeyond c.args.events.now.items c.args.t) (sym c.in_ok-push.ensures.items)
          (beyond_more c.args.events.now.items c.loop-i.events.items c.args.t c.loop-i.i so_far c.loop-i.invariant.beyond);
      long = omega arith;
    }

pub returns-clause-exact : goal.returns-clause-exact
returns-clause-exact c =
    let same : c.loop-i.i ≡ c.args.accesses = omega arith in
    (subst (λ n. IsGrown (IsEarly c.args.t n) c.args.events.now.items c.loop-i.events.items) same c.loop-i.invariant.grown).exact

pub returns-clause-ordered : goal.returns-clause-ordered
returns-clause-ordered c = c.loop-i.invariant.grown.ordered
