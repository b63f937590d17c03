use Rattle.fencer.proofs.Vocabulary.{map, take, string_bytes}
use Rattle.fencer.specs.Surveys.{AreWritten, ReadsOfFiles}
use Rattle.fencer.proofs.surveys.print_blocks.Given as goal

-- the blocks of the files so far are written, which alone were read
abbrev pub invariant-loop-name : goal.invariant-loop-name
invariant-loop-name g l = record {
  told : AreWritten l.asked.options (g.S.FileStore.held l.files) (g.R.Read.remaining l.fn.input) (map string_bytes (take l.name-index l.asked.files.items)) (g.R.Read.remaining l.input) l.summary.status l.summary.rows.items (g.W.Write.contents l.fn.output) (g.W.Write.contents l.output);
  read : ReadsOfFiles (map string_bytes (take l.name-index l.asked.files.items)) (g.R.Read.remaining l.fn.input) (g.R.Read.remaining l.input);
}
