use Rattle.litmus_reader.proofs.Vocabulary.{◌≡◌, List, [], ◌∷◌, ◌++◌, map, get_or, sym, ap, ◌∙◌, Vec, Instr, Cell, row_view, cell_view, byte_in, byte_at, instruction_in}
use Rattle.litmus_reader.proofs.Rows.{kept_more, kept_same}
use Rattle.litmus_reader.proofs.program.code_of.Goals as goal
use Rattle.litmus_reader.proofs.program.code_of.Goals.{in-Some+in_ok-push, in_default}

pub loop-row-preserved : goal.loop-row-preserved
loop-row-preserved c =
    let seen_in = instruction_in (byte_in c.args.names.now.locations) (byte_at c.args.targets.now) c.args.thread in
    let row = c.row-item.result in
    let seen : seen_in (row_view (get_or c.args.rows.now c.loop-row.row-index row)) ≡ seen_in (map cell_view c.as_slice.result.now) =
    ap (λ (r : Vec Cell). seen_in (row_view r)) (sym c.row-item.is)
    ∙ ap (λ (cells : List Cell). seen_in (map cell_view cells)) (sym c.as_slice.ensures.value) in
    elim c.match-instruction_in.branch [
      | in-Some+in_ok-push w ↦
          ap (λ (v : Vec Instr). v.items) w.instructions-is ∙ w.in_ok-push.ensures.items ∙ ap (λ (is : List Instr). is ++ w.in-Some.found ∷ []) c.loop-row.invariant
          ∙ sym (kept_more seen_in row_view c.args.rows.now c.loop-row.row-index row w.in-Some.found c.loop-row-test.true (seen ∙ sym w.in-Some.ensures))
      | in_default w ↦
          ap (λ (v : Vec Instr). v.items) w.instructions-is ∙ c.loop-row.invariant
          ∙ sym (kept_same seen_in row_view c.args.rows.now c.loop-row.row-index row c.loop-row-test.true (seen ∙ sym w.in_default.ensures))
    ]
