use Rattle.cert_forest.proofs.Vocabulary.{◌-◌, [], arith, err_from_is_err_and, repeat_at, stops_for_memory, Fails, Split, gap_trees_of, spell_gap, PushesTree, PushesTrees, bound_at, gap_at}
use Rattle.cert_forest.proofs.PushedTrees.{one_pushed, split_pushed, if_ok, if_err}
use Rattle.cert_forest.proofs.TreeSteps.{gap_none, gap_no_letter, gap_no_split, gap_no_children, gap_split, bound_read, bound_stops, gap_other}
use Rattle.cert_forest.proofs.gap_tree.+gap.Goals as goal

pub gap-returns-then-depth-eq0-clause-stops : goal.gap-returns-then-depth-eq0-clause-stops
gap-returns-then-depth-eq0-clause-stops t c = gap_none c.args.rule c.args.depth c.args.bytes.now (omega arith)

pub gap-returns-in_err-letter-clause-stops : goal.gap-returns-in_err-letter-clause-stops
gap-returns-in_err-letter-clause-stops t c =
    let p = err_from_is_err_and c.from_residual.result c.from_residual.ensures.1 in
    rw (p.1, p.2) (gap_no_letter c.args.rule c.args.depth c.args.bytes.now (omega arith) c.in_err-letter.ensures)

pub gap-returns-in_err-run-clause-stops : goal.gap-returns-in_err-run-clause-stops
gap-returns-in_err-run-clause-stops t c =
    let p = err_from_is_err_and c.from_residual-in_err-run.result c.from_residual-in_err-run.ensures.1 in
    rw (p.1, p.2) (gap_no_split c.args.rule c.args.depth c.args.bytes.now c.in_ok-letter.letter c.in_ok-letter.rest.now (omega arith) c.in_ok-letter.ensures (omega arith) c.in_err-run.ensures)

pub gap-returns-in_ok-push-clause-pushes : goal.gap-returns-in_ok-push-clause-pushes
gap-returns-in_ok-push-clause-pushes t c =
    let depth = c.args.depth - 1 in
    let run = c.in_ok-run.run' in
    let count = c.in_ok-run.count in
    let more = c.in_ok-run.rest.now in
    let old = c.args.nodes.now.items in
    let mid = c.push.new.self.items in
    let new = c.gaps.new.nodes.items in
    if_ok c.gaps.result (λ rest. PushesTrees spell_gap mid new (repeat_at (gap_at c.args.rule depth) count [] more) rest.now) (λ rest. PushesTree spell_gap old new (gap_at c.args.rule c.args.depth c.args.bytes.now) rest.now)
    (λ rest p. record {
      tree = Split run (gap_trees_of p.trees);
      is_read = gap_split c.args.rule c.args.depth c.args.bytes.now c.in_ok-letter.letter c.in_ok-letter.rest.now run count more p.trees rest.now (omega arith) c.in_ok-letter.ensures (omega arith) c.in_ok-run.ensures p.is_read;
      pushed = split_pushed c.args.rule depth run count old mid new more rest.now c.in_ok-push.ensures.items p;
    }) c.gaps.ensures.pushes

pub gap-returns-in_ok-push-clause-stops : goal.gap-returns-in_ok-push-clause-stops
gap-returns-in_ok-push-clause-stops t c =
    let more = c.in_ok-run.rest.now in
    if_err c.gaps.result (λ stop. Fails stops_for_memory stop (repeat_at (gap_at c.args.rule (c.args.depth - 1)) c.in_ok-run.count [] more)) (λ stop. Fails stops_for_memory stop (gap_at c.args.rule c.args.depth c.args.bytes.now))
    (λ stop fails. gap_no_children c.args.rule c.args.depth c.args.bytes.now c.in_ok-letter.letter c.in_ok-letter.rest.now c.in_ok-run.run' c.in_ok-run.count more stop (omega arith) c.in_ok-letter.ensures (omega arith) c.in_ok-run.ensures fails) c.gaps.ensures.stops

pub gap-returns-then-letter-eq66-clause-pushes : goal.gap-returns-then-letter-eq66-clause-pushes
gap-returns-then-letter-eq66-clause-pushes t c =
    let after = c.in_ok-letter.rest.now in
    let old = c.args.nodes.now.items in
    let new = c.bound.new.nodes.items in
    if_ok c.bound.result (λ rest. PushesTree spell_gap old new (bound_at c.args.rule after) rest.now) (λ rest. PushesTree spell_gap old new (gap_at c.args.rule c.args.depth c.args.bytes.now) rest.now)
    (λ rest p. record {
      tree = p.tree;
      is_read = bound_read c.args.rule c.args.depth c.args.bytes.now c.in_ok-letter.letter after p.tree rest.now (omega arith) c.in_ok-letter.ensures (omega arith) p.is_read;
      pushed = p.pushed;
    }) c.bound.ensures.pushes

pub gap-returns-then-letter-eq66-clause-stops : goal.gap-returns-then-letter-eq66-clause-stops
gap-returns-then-letter-eq66-clause-stops t c =
    if_err c.bound.result (λ stop. Fails stops_for_memory stop (bound_at c.args.rule c.in_ok-letter.rest.now)) (λ stop. Fails stops_for_memory stop (gap_at c.args.rule c.args.depth c.args.bytes.now))
    (λ stop fails. bound_stops c.args.rule c.args.depth c.args.bytes.now c.in_ok-letter.letter c.in_ok-letter.rest.now stop (omega arith) c.in_ok-letter.ensures (omega arith) fails) c.bound.ensures.stops

pub gap-returns-else-letter-eq66-clause-stops : goal.gap-returns-else-letter-eq66-clause-stops
gap-returns-else-letter-eq66-clause-stops t c = gap_other c.args.rule c.args.depth c.args.bytes.now c.in_ok-letter.letter c.in_ok-letter.rest.now (omega arith) c.in_ok-letter.ensures (λ e. omega arith) (λ e. omega arith)

pub gaps-loop-preserved : goal.gaps-loop-preserved
gaps-loop-preserved t c =
    one_pushed spell_gap (gap_at c.args.rule c.args.depth) c.args.count c.args.bytes.now c.loop.counter c.args.nodes.now.items c.loop.nodes.items c.gap.new.nodes.items c.loop.rest.now c.in_ok-rest.rest.now c.loop-test.true c.loop.invariant c.in_ok-rest.ensures.pushes
