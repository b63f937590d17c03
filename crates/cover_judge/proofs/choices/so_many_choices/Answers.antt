use Rattle.cover_judge.proofs.Vocabulary.{◌≡◌, MatchOption, List, length, ap, subst, arith, length-map, mode_in, Choice, AreChoicesOfBy, choices_in, HasNotSoMany, sketch_with, one_list_of_choices_by}
use Rattle.cover_judge.proofs.ChoicesJudged.{here}
use Rattle.cover_judge.proofs.choices.so_many_choices.Goals as goal

pub returns-then-len-count-clause-wrong : goal.returns-then-len-count-clause-wrong
returns-then-len-count-clause-wrong c =
    let s = c.args.sketch.now in
    let own = choices_in c.in-Some.choices in
    let are : AreChoicesOfBy c.args.rule s c.args.next own = subst (λ found. MatchOption found ((cs : List Choice) → AreChoicesOfBy c.args.rule s c.args.next cs → ⊥) (λ cs. AreChoicesOfBy c.args.rule s c.args.next (choices_in cs))) c.in-Some.is c.in_ok-choices.ensures in
    here (HasNotSoMany c.args.rule s.program (mode_in s) s.chosen c.args.next c.args.count) c.at_root-then-len-count.result c.at_root-then-len-count.ensures
    (λ (cs, also, many).
    let one : length cs ≡ length own = ap length (one_list_of_choices_by c.args.rule s.program (mode_in s) s.chosen c.args.next cs own also are) in
    let same = length-map cs (sketch_with s.chosen) in
    let found = c.len.ensures in
    omega (arith, c.if-len-count.true))
