use Rattle.tso_machine.proofs.Vocabulary.{◌≡◌, take, map, All, filter, spelling, IsLabel}
use Rattle.tso_machine.proofs.RunLabels.{word_of}
use Rattle.tso_machine.proofs.run_text.read_run.Given as goal

-- the labels so far are spelled as the words so far
abbrev pub invariant-loop-part : goal.invariant-loop-part
invariant-loop-part l = record {
  spelled : map spelling l.labels.items ≡ filter word_of (map (λ part. part.now) (take l.part-index l.part-items));
  labels : All IsLabel l.labels.items;
}
