use Rattle.litmus_reader.proofs.Vocabulary.{◌≡◌, [], List, take, fold, ap, ◌∙◌, arith, common_steps, CodeLabel, label_in, with_label}
use Rattle.litmus_reader.proofs.Targets.{finds_all}
use Rattle.litmus_reader.proofs.jumps.Targets.new.Goals as goal

pub returns : goal.returns
returns c name =
    let all : take c.loop-label.label-index c.args.labels.now ≡ c.args.labels.now = grind (arith, common_steps) in
    ap (λ (ls : List CodeLabel). label_in ls name) (c.loop-label.invariant ∙ ap (λ (ls : List CodeLabel). fold with_label [] ls) all) ∙ finds_all c.args.labels.now name
