use Rattle.cost_text.proofs.Vocabulary.{◌<◌, [], length, map, sym, ◌∙◌, arith, length-map, get_or-map, err_from_is_err_and}
use Rattle.cost_text.proofs.TextLaws.{first_table, blank_more, entry_more, refused_there, is_table}
use Rattle.cost_text.proofs.reader.entries_of.Goals as goal
use Rattle.cost_text.proofs.reader.entries_of.Goals.{then-not-are_line_spaces+in_ok-entry+in_ok-push, else-not-are_line_spaces}

pub loop-index-init : goal.loop-index-init
loop-index-init c = rw c.new-entries.ensures.items (first_table c.args.program.now.threads c.recall_facts.ensures.within.few_gaps)

pub returns-in_err-entry-clause-refused : goal.returns-in_err-entry-clause-refused
returns-in_err-entry-clause-refused c =
    let p = err_from_is_err_and c.from_residual.result c.from_residual.ensures.1 in
    let below : c.loop-index.index < length c.args.lines.now = omega arith in
    let long : c.loop-index.index < length (map (λ line. line.now) c.args.lines.now) = omega (arith, length-map c.args.lines.now (λ line. line.now)) in
    rw (p.1, p.2) (refused_there c.args.program.now.threads (map (λ line. line.now) c.args.lines.now) c.loop-index.index _ c.loop-index.entries.items c.in_err-entry.field-0.0 long
    (sym (get_or-map (λ line. line.now) c.args.lines.now c.loop-index.index _ [] below)) c.loop-index.invariant
    (c.in_err-entry.ensures.refused c.loop-index.invariant.entries (rw c.as_slice.ensures.value (is_table c.args.program.now.threads _ c.loop-index.entries.items c.loop-index.invariant))))

pub loop-index-preserved : goal.loop-index-preserved
loop-index-preserved c =
    let below : c.loop-index.index < length c.args.lines.now = omega arith in
    let long : c.loop-index.index < length (map (λ line. line.now) c.args.lines.now) = omega (arith, length-map c.args.lines.now (λ line. line.now)) in
    elim c.if-not-are_line_spaces.branch [
      | then-not-are_line_spaces+in_ok-entry+in_ok-push w ↦
          rw (w.entries-is, w.in_ok-push.ensures.items) (entry_more c.args.program.now.threads (map (λ line. line.now) c.args.lines.now) c.loop-index.index _ c.loop-index.entries.items w.in_ok-entry.entry long
          (sym (get_or-map (λ line. line.now) c.args.lines.now c.loop-index.index _ [] below)) c.loop-index.invariant
          (w.in_ok-entry.ensures.entry c.loop-index.invariant.entries (rw w.as_slice.ensures.value (is_table c.args.program.now.threads _ c.loop-index.entries.items c.loop-index.invariant))))
      | else-not-are_line_spaces w ↦
          rw w.entries-is (blank_more c.args.program.now.threads (map (λ line. line.now) c.args.lines.now) c.loop-index.index _ c.loop-index.entries.items long
          (sym (get_or-map (λ line. line.now) c.args.lines.now c.loop-index.index _ [] below)) (sym c.are_line_spaces.ensures ∙ w.if-not-are_line_spaces.false) c.loop-index.invariant)
    ]
