use Rattle.cert_pages.proofs.Vocabulary.{arc_value, ◌≡◌, ◌++◌, ◌∷◌, [], map, subst, draft_text, codes, decimal, numbers_of_set, line, head_lines, cover_words, gap_words, runs_lines, Certificate, certificate_text}
use Rattle.cert_pages.proofs.Writing.{on_ok, all_written}
use Rattle.cert_pages.proofs.writer.write_alone.Goals as goal

pub returns : goal.returns
returns c =
    let it = c.certificate.inside in
    on_ok c.write_gap_line.result (λ e. subst (λ (certificate : Certificate). draft_text c.write_gap_line.new.out ≡ draft_text c.args.out.now ++ certificate_text certificate) c.certificate.view_is
    (all_written (head_lines it.rule it.shown) (line (codes "set") (map decimal (numbers_of_set it.set))) (line (codes "cost") (decimal it.cost ∷ [])) (runs_lines (codes "seq") (arc_value it.seq_runs)) (line (codes "tree") (cover_words it.seq_tree)) (runs_lines (codes "runs") it.runs) (line (codes "fenced") (cover_words it.fenced_tree)) (line (codes "gaps") (gap_words it.rule it.gap_tree))
    (draft_text c.args.out.now) (draft_text c.write_front.new.out) (draft_text c.write_cover_line.new.out) (draft_text c.write_runs.new.out) (draft_text c.write_cover_line-2.new.out) (draft_text c.write_gap_line.new.out)
    c.in_ok-write_front.ensures c.in_ok-write_cover_line.ensures c.in_ok-write_runs.ensures c.in_ok-write_cover_line-2.ensures e)) c.write_gap_line.ensures
