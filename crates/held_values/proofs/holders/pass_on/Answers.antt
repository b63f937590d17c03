use Rattle.std.proofs.Common.{[], length, ap, arith}
use Rattle.std.proofs.lemmas.List.{get_or_read}
use Rattle.held_values.proofs.{ThreadsRead.code_same, ThreadsRead.instr_is, ThreadsRead.located}
use Rattle.held_values.proofs.PassesMade.{passed_begin, passed_more, passed_end}
use Rattle.held_values.proofs.holders.pass_on.Goals as goal

pub loop-k-init : goal.loop-k-init
loop-k-init c = (c.in_ok-rows.ensures, passed_begin c.args.program.now c.args.value c.args.t c.args.from c.args.holders.now c.in_ok-rows.rows.items c.in_ok-rows.ensures)

pub index-requires : goal.index-requires
index-requires c =
    let many = ap length (code_same c.args.program.now c.args.t c.index-threads-t.result c.threads.result.now c.as_slice-code.result.now c.threads.ensures.value c.requires.there c.index-threads-t.is c.as_slice-code.ensures) in
    omega (arith, c.loop-k-test.true, c.loop-k.invariant.0.long, many)

pub put_stored-requires : goal.put_stored-requires
put_stored-requires c = record { located = located c.args.program.now c.args.t c.index-threads-t.result c.threads.result.now c.as_slice-code.result.now c.threads.ensures.value c.requires.there c.index-threads-t.is c.as_slice-code.ensures c.recall_facts.ensures.within c.loop-k.k _ c.loop-k-test.true }

pub loop-k-preserved : goal.loop-k-preserved
loop-k-preserved c =
    let many = ap length (code_same c.args.program.now c.args.t c.index-threads-t.result c.threads.result.now c.as_slice-code.result.now c.threads.ensures.value c.requires.there c.index-threads-t.is c.as_slice-code.ensures) in
    let at = instr_is c.args.program.now c.args.t c.index-threads-t.result c.threads.result.now c.as_slice-code.result.now c.threads.ensures.value c.requires.there c.index-threads-t.is c.as_slice-code.ensures c.loop-k.k _ c.loop-k-test.true in (
      c.loop-k.invariant.0,
      passed_more c.args.program.now c.args.value c.args.t c.args.from c.args.holders.now c.in_ok-rows.rows.items c.loop-k.invariant.0 c.loop-k.k _ c.index.result.now c.loop-k.holders c.put_stored.new.holders at
          (get_or_read c.in_ok-rows.rows.items _ _ (omega (arith, c.loop-k-test.true, c.loop-k.invariant.0.long, many)) c.index.ensures [])
          c.put_stored.ensures c.loop-k.invariant.1,
    )

pub returns : goal.returns
returns c =
    let many = ap length (code_same c.args.program.now c.args.t c.index-threads-t.result c.threads.result.now c.as_slice-code.result.now c.threads.ensures.value c.requires.there c.index-threads-t.is c.as_slice-code.ensures) in
    passed_end c.args.program.now c.args.value c.args.t c.args.from c.args.holders.now c.in_ok-rows.rows.items c.loop-k.invariant.0 c.loop-k.k c.loop-k.holders (omega (arith, c.loop-k-test.false, many)) c.loop-k.invariant.1
