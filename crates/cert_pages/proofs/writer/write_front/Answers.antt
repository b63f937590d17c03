use Rattle.cert_pages.proofs.Vocabulary.{arc_value, ◌∷◌, [], map, draft_text, codes, decimal, numbers_of_set, line, head_lines, runs_lines}
use Rattle.cert_pages.proofs.Writing.{on_ok, front_written}
use Rattle.cert_pages.proofs.writer.write_front.Goals as goal

pub returns : goal.returns
returns c =
    on_ok c.write_runs.result (λ e.
    front_written (head_lines c.args.rule c.args.shown.now) (line (codes "set") (map decimal (numbers_of_set c.args.set))) (line (codes "cost") (decimal c.args.cost ∷ [])) (runs_lines (codes "seq") (arc_value c.args.seq_runs))
    (draft_text c.args.out.now) (draft_text c.write_head.new.out) (draft_text c.write_set.new.out) (draft_text c.write_runs.new.out)
    c.in_ok-write_head.ensures c.in_ok-write_set.ensures e) (rw c.deref.ensures at c.write_runs.ensures)
