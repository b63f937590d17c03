use Rattle.std.proofs.Common.{◌≡◌, take}
use Rattle.paged_text.specs.PageTexts.{text_of}
use Rattle.paged_text.proofs.pages.Pages.joined.Given as goal

-- the pages so far
abbrev pub invariant-loop-page : goal.invariant-loop-page
invariant-loop-page l = l.text.items ≡ text_of (take l.page-index l.page-items)
