use Rattle.std.proofs.Common.{List, ℕ, ◌++◌, take, refl, subst, ap, ◌∙◌}
use Rattle.std.specs.Global.{Vec}
use Rattle.std.specs.Io.KnownBytes.{Appends}
use Rattle.paged_text.specs.PageTexts.{text_of}
use Rattle.paged_text.proofs.PageLaws.{pages_to}
use Rattle.program_streams.proofs.StreamLaws.{writes_more}
use Rattle.program_streams.proofs.streams.write_pages.Goals as goal

pub loop-page-preserved : goal.loop-page-preserved
loop-page-preserved g c =
    let pages = c.as_slice-page-items.result.now in
    let before : List ℕ = text_of (take c.loop-page.page-index pages) in
    subst (λ (bytes : List ℕ). Appends (g.W.Write.contents c.args.output.now) (g.W.Write.contents c.write_all.new.self) bytes)
    (pages_to pages c.loop-page.page-index _ c.loop-page-test.true before (before ++ c.deref.result.now) refl
    (ap (λ (bytes : List ℕ). before ++ bytes) (c.deref.ensures.value ∙ ap (λ (page : Vec ℕ). page.items) c.page-item.is)))
    (writes_more _ _ _ before c.deref.result.now c.loop-page.invariant c.in-Ok.ensures.bytes)
