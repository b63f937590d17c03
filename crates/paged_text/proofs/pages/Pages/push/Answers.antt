use Rattle.std.proofs.Common.{List, ℕ, ◌++◌, ap, ◌∙◌}
use Rattle.paged_text.specs.PageTexts.{text_of}
use Rattle.paged_text.proofs.PageLaws.{one_page_more}
use Rattle.paged_text.proofs.pages.Pages.push.Goals as goal

pub returns : goal.returns
returns c =
    ap text_of c.in_ok-push.ensures.items ∙ one_page_more c.self.inside.pages.items c.args.page ∙ ap (λ (w : List ℕ). w ++ c.args.page.items) c.self.view_is
