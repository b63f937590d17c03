use Rattle.cover_search.proofs.Vocabulary.{refl, subst, arith, MatchOption, asked, mode_in, Known, MustEndAsNumber, IsEndNotListed}
use Rattle.cover_search.proofs.Neat.{neat_known}
use Rattle.cover_search.proofs.leaf.leaf.Goals as goal

pub returns-in-Some : goal.returns-in-Some
returns-in-Some c =
    let s = c.args.sketch.now in
    let shown = c.args.shown.now in
    let outs = c.args.outcomes.now in
    let n = c.in-Some.number in
    let must = subst (λ found. MatchOption found (IsEndNotListed s shown outs) (MustEndAsNumber (asked s.program shown) (mode_in s) outs s.chosen)) c.in-Some.is c.in_ok-number.ensures in
    record {
      tree = Known n;
      is = record { valid = must; neat = neat_known n (omega arith); leaf = refl };
      pushed = c.in_ok-push_known.ensures;
    }
