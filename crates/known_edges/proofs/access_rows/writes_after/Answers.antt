use Rattle.known_edges.proofs.Vocabulary.{ap, refl, sym, ◌∙◌, Some}
use Rattle.known_edges.proofs.access_rows.writes_after.Goals as goal

pub returns-in-Access-clause-after : goal.returns-in-Access-clause-after
returns-in-Access-clause-after c t i is d = (
  λ h.
      let (k, here, r) = c.row_at.ensures.from d h in
      let (x, at, same) = (c.requires.number k).0 here in
      (k, at ∙ ap Some same, r),
  λ (k, at, r).
      let (j, here, all) = c.row_at.ensures.whole k ((c.requires.number k).1 (c.args.event, at, refl)) in
      let (x, at_j, same) = (c.requires.number j).0 here in
      all d (c.requires.alike k j d (at ∙ sym (at_j ∙ ap Some same)) r),
)
