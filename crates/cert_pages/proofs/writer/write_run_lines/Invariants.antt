use Rattle.cert_pages.proofs.Vocabulary.{◌≡◌, ◌++◌, draft_text, texts_of, labels_line}
use Rattle.cert_pages.proofs.writer.write_run_lines.Given as goal

-- the text so far, and that of the runs to come
abbrev pub invariant-loop-run : goal.invariant-loop-run
invariant-loop-run l = draft_text l.out ++ texts_of labels_line l.run-iterator ≡ draft_text l.fn.out ++ texts_of labels_line l.runs
