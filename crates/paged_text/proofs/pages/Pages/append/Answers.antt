use Rattle.std.proofs.Common.{◌++◌, ap, ◌∙◌}
use Rattle.paged_text.specs.PageTexts.{text_of}
use Rattle.paged_text.proofs.PageLaws.{text_of_both}
use Rattle.paged_text.proofs.pages.Pages.append.Goals as goal

pub returns : goal.returns
returns c =
    ap text_of c.in_ok-append.ensures.items ∙ text_of_both c.self.inside.pages.items c.other.inside.pages.items
    ∙ (λ i. c.self.view_is i ++ c.other.view_is i)
