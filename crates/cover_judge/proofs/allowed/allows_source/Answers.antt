use Rattle.cover_judge.proofs.Vocabulary.{◌↔◌, sym, subst, mode_in, AllowsSource, Rule}
use Rattle.std.specs.Prelude.{IsTrue}
use Rattle.cover_judge.proofs.allowed.allows_source.Goals as goal

pub returns-in-Early : goal.returns-in-Early
returns-in-Early c =
    let s = c.args.sketch.now in
    subst (λ (rule : Rule). IsTrue c.is_settled.result ↔ AllowsSource rule s.program (mode_in s) s.chosen c.args.read) (sym c.in-Early.is) c.is_settled.ensures
