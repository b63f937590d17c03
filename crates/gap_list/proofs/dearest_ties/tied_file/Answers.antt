use Rattle.gap_list.proofs.Vocabulary.{◌∙◌, ℕ, ap}
use Rattle.gap_list.specs.TiedFiles.{at_dearest}
use Rattle.gap_list.proofs.Dearest.{dearest_each, is_tied_file}
use Rattle.gap_list.proofs.dearest_ties.tied_file.Goals as goal

pub cost_file-requires : goal.cost_file-requires
cost_file-requires c =
    let ties = c.in_ok-ties.field-0.ties in
    dearest_each _ c.args.costs.now ties c.in_ok-tied.tied c.in_ok-tied.ensures ∙ c.gaps.ensures.value

pub returns : goal.returns
returns c =
    let p = c.args.program.now in
    let ties = c.in_ok-ties.field-0.ties in
    is_tied_file c.cost_file.result p c.args.costs.now ties c.in_ok-tied.tied (c.in_ok-tied.ensures ∙ ap (λ (n : ℕ). at_dearest n c.args.costs.now ties) c.gaps.ensures.value) c.cost_file.ensures.text c.cost_file.ensures.read
