use Rattle.std.proofs.Common.{List, ℕ, ◌++◌, ap, ◌∙◌}
use Rattle.std.specs.Global.{Vec}
use Rattle.paged_text.proofs.PageLaws.{pages_to}
use Rattle.paged_text.proofs.pages.Pages.joined.Goals as goal

pub loop-page-preserved : goal.loop-page-preserved
loop-page-preserved c =
    pages_to c.as_slice-page-items.result.now c.loop-page.page-index _ c.loop-page-test.true c.loop-page.text.items c.extend_from_slice.new.self.items c.loop-page.invariant
    (c.in_ok-extend_from_slice.ensures.items ∙ ap (λ (w : List ℕ). c.loop-page.text.items ++ w) (c.deref.ensures.value ∙ ap (λ (page : Vec ℕ). page.items) c.page-item.is))
