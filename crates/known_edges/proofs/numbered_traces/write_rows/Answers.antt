use Rattle.known_edges.proofs.Vocabulary.{◌<◌, ℕ, IfSome, get_or, sym, subst, Initial, IsWriteAt}
use Rattle.known_edges.proofs.{Masks.row_all, Written.write_located, Written.writes_more}
use Rattle.known_edges.proofs.numbered_traces.write_rows.Goals as goal

pub put_write-requires-clause-there : goal.put_write-requires-clause-there
put_write-requires-clause-there c = subst (λ (n : ℕ). IfSome c.location_written.result (λ l. l < n)) (sym c.loop-d-test.array_long)
    (write_located c.args.thread_traces.now (get_or c.args.events.now c.loop-d.d (Initial 0)) c.location_written.result c.requires.located (λ l. (c.location_written.ensures l).0))

pub loop-d-preserved : goal.loop-d-preserved
loop-d-preserved c = writes_more c.args.thread_traces.now c.args.events.now c.loop-d.d c.location_written.result c.loop-d.rows c.put_write.new.rows c.loop-d-test.true c.loop-d.invariant
    c.location_written.ensures c.put_write.ensures

pub returns : goal.returns
returns c = λ l. row_all c.args.events.now (IsWriteAt c.args.thread_traces.now l) c.loop-d.d _ c.loop-d-test.false (c.loop-d.invariant l)
