use Rattle.std.proofs.Common.{take}
use Rattle.std.specs.Io.KnownBytes.{Appends}
use Rattle.paged_text.specs.PageTexts.{text_of}
use Rattle.program_streams.proofs.streams.write_pages.Given as goal

-- the pages so far were written
abbrev pub invariant-loop-page : goal.invariant-loop-page
invariant-loop-page g l = Appends (g.W.Write.contents l.fn.output) (g.W.Write.contents l.output) (text_of (take l.page-index l.page-items))
