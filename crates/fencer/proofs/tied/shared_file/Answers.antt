use Rattle.fencer.proofs.Vocabulary.{ℕ, List, IfOk, subst}
use Rattle.gap_list.specs.TiedFiles.{IsTiedFile}
use Rattle.fencer.proofs.tied.shared_file.Goals as goal

pub returns : goal.returns
returns c =
    subst (λ (costs : List ℕ). IfOk c.tied_file.result (λ file. IsTiedFile c.args.program.now costs file.items)) c.in-Ok.ensures.given.0 c.tied_file.ensures
