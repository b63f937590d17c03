use Rattle.cost_text.proofs.Vocabulary.{◌∙◌, ◌≤◌, ap, map, err_from_is_err_and, gap_count, MAX_GAPS, IsTableOfLines, lines_of}
use Rattle.cost_text.proofs.TextLaws.{refuted, costs_once, costs_found, names_of_table}
use Rattle.cost_text.proofs.reader.read_costs.Goals as goal

pub ties_in-requires : goal.ties_in-requires
ties_in-requires c =
    let lines = ap (map (λ line. line.now)) c.as_slice.ensures.value ∙ c.in_ok-lines.ensures in
    let few : gap_count c.args.program.now.threads ≤ MAX_GAPS = rw c.gaps.ensures.value at c.gaps.ensures.few in
    let table : IsTableOfLines c.args.program.now.threads (lines_of c.args.bytes.now) c.in_ok-entries.entries.items = rw lines at c.in_ok-entries.ensures.table in
    rw (c.as_slice-2.ensures.value, c.gaps.ensures.value) (names_of_table c.args.program.now.threads (lines_of c.args.bytes.now) c.in_ok-entries.entries.items few table)

pub returns-in_err-entries-clause-only : goal.returns-in_err-entries-clause-only
returns-in_err-entries-clause-only c costs is =
    let p = err_from_is_err_and c.from_residual-in_err-entries.result c.from_residual-in_err-entries.ensures.1 in
    let lines = ap (map (λ line. line.now)) c.as_slice.ensures.value ∙ c.in_ok-lines.ensures in
    rw (p.1, p.2) (refuted c.args.bytes.now c.args.program.now.threads costs c.in_err-entries.field-0.0 is (rw lines at c.in_err-entries.ensures.refused))

pub returns-in-Ok-clause-found : goal.returns-in-Ok-clause-found
returns-in-Ok-clause-found c =
    let lines = ap (map (λ line. line.now)) c.as_slice.ensures.value ∙ c.in_ok-lines.ensures in
    let few : gap_count c.args.program.now.threads ≤ MAX_GAPS = rw c.gaps.ensures.value at c.gaps.ensures.few in
    costs_found c.args.bytes.now c.args.program.now.threads c.in_ok-entries.entries.items (record { costs = c.in-Ok.costs; ties = c.in_ok-ties.ties }) few (rw lines at c.in_ok-entries.ensures.table)
    (c.in-Ok.ensures.value ∙ c.as_slice-4.ensures.value ∙ rw (c.as_slice-3.ensures.value, c.gaps-2.ensures.value) at c.in_ok-costs.ensures)
    (rw (c.as_slice-2.ensures.value, c.gaps.ensures.value) at c.in_ok-ties.ensures)

pub returns-in-Ok-clause-only : goal.returns-in-Ok-clause-only
returns-in-Ok-clause-only c costs is =
    let lines = ap (map (λ line. line.now)) c.as_slice.ensures.value ∙ c.in_ok-lines.ensures in
    let few : gap_count c.args.program.now.threads ≤ MAX_GAPS = rw c.gaps.ensures.value at c.gaps.ensures.few in
    costs_once c.args.bytes.now c.args.program.now.threads (record { costs = c.in-Ok.costs; ties = c.in_ok-ties.ties }) costs
    (costs_found c.args.bytes.now c.args.program.now.threads c.in_ok-entries.entries.items (record { costs = c.in-Ok.costs; ties = c.in_ok-ties.ties }) few (rw lines at c.in_ok-entries.ensures.table)
    (c.in-Ok.ensures.value ∙ c.as_slice-4.ensures.value ∙ rw (c.as_slice-3.ensures.value, c.gaps-2.ensures.value) at c.in_ok-costs.ensures)
    (rw (c.as_slice-2.ensures.value, c.gaps.ensures.value) at c.in_ok-ties.ensures)) is
