use Rattle.std.proofs.Common.{ℕ, List, [], length, sym, ap, ◌∙◌, arith}
use Rattle.std.proofs.lemmas.List.{get_or_read}
use Rattle.held_values.specs.HeldRows.{first_row}
use Rattle.held_values.proofs.{ThreadsRead.code_same, ThreadsRead.registers_same, ThreadsRead.instr_is, ThreadsRead.located, ThreadsRead.led}
use Rattle.held_values.proofs.RowsHeld.{held_begin, held_more, held_end}
use Rattle.held_values.proofs.rows.held_rows.Goals as goal

pub loop-k-init : goal.loop-k-init
loop-k-init c =
    let p = c.args.program.now in
    let code = code_same p c.args.t c.index-threads-t.result c.threads.result.now c.as_slice-code.result.now c.threads.ensures.value c.requires.there c.index-threads-t.is c.as_slice-code.ensures in
    let registers = registers_same p c.args.t c.index-threads-t.result c.threads.result.now c.as_slice-code.result.now c.threads.ensures.value c.requires.there c.index-threads-t.is c.as_slice-code.ensures in
    let many = ap length code in
    held_begin p c.args.value c.args.t c.args.locations c.in_ok-rows.rows.items
    (omega (arith, c.in_ok-rows.ensures.long, many))
    (c.in_ok-rows.ensures.first ∙ (c.first_row-first.ensures.row ∙ ap (λ (rs : List ℕ). first_row rs c.args.value) (sym registers)))
    (λ n above below. c.in_ok-rows.ensures.others n above (omega (arith, below, many)))

pub row_after-after-requires : goal.row_after-after-requires
row_after-after-requires c = record {
  located = located c.args.program.now c.args.t c.index-threads-t.result c.threads.result.now c.as_slice-code.result.now c.threads.ensures.value c.requires.there c.index-threads-t.is c.as_slice-code.ensures
      c.recall_facts.ensures.within c.loop-k.k _ c.loop-k-test.true;
}

pub spread-requires-clause-target : goal.spread-requires-clause-target
spread-requires-clause-target c =
    led c.args.program.now c.args.t c.index-threads-t.result c.threads.result.now c.as_slice-code.result.now c.threads.ensures.value c.requires.there c.index-threads-t.is c.as_slice-code.ensures
    c.recall_facts.ensures.within c.loop-k.k _ c.loop-k-test.true (length c.loop-k.rows.items) c.loop-k.invariant.long

pub loop-k-preserved : goal.loop-k-preserved
loop-k-preserved c =
    let p = c.args.program.now in
    let code = code_same p c.args.t c.index-threads-t.result c.threads.result.now c.as_slice-code.result.now c.threads.ensures.value c.requires.there c.index-threads-t.is c.as_slice-code.ensures in
    let many = ap length code in
    let at = instr_is p c.args.t c.index-threads-t.result c.threads.result.now c.as_slice-code.result.now c.threads.ensures.value c.requires.there c.index-threads-t.is c.as_slice-code.ensures c.loop-k.k _ c.loop-k-test.true in
    held_more p c.args.value c.args.t c.args.locations c.recall_facts.ensures.within c.loop-k.k _ c.loop-k.rows.items c.spread.new.rows.items c.index.result.now c.row_after-after.result at
    (get_or_read c.loop-k.rows.items _ _ (omega (arith, c.loop-k-test.true, c.loop-k.invariant.long, many)) c.index.ensures [])
    c.row_after-after.ensures c.spread.ensures c.loop-k.invariant

pub returns : goal.returns
returns c =
    let p = c.args.program.now in
    let code = code_same p c.args.t c.index-threads-t.result c.threads.result.now c.as_slice-code.result.now c.threads.ensures.value c.requires.there c.index-threads-t.is c.as_slice-code.ensures in
    let registers = registers_same p c.args.t c.index-threads-t.result c.threads.result.now c.as_slice-code.result.now c.threads.ensures.value c.requires.there c.index-threads-t.is c.as_slice-code.ensures in
    let many = ap length code in
    held_end p c.args.value c.args.t c.args.locations c.recall_facts.ensures.within c.loop-k.k c.loop-k.rows.items (ap length registers ∙ c.first_row-first.ensures.six) (omega (arith, c.loop-k-test.false, many)) c.loop-k.invariant
