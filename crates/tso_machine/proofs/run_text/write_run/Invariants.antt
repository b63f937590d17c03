use Rattle.tso_machine.proofs.Vocabulary.{◌≡◌, take, All, string_bytes, run_text, IsLabel}
use Rattle.tso_machine.proofs.run_text.write_run.Given as goal

-- the text so far is that of the labels so far
abbrev pub invariant-loop-i : goal.invariant-loop-i
invariant-loop-i l = record {
  text : string_bytes l.out ≡ run_text (take l.i l.labels);
  fits : All IsLabel (take l.i l.labels);
}
