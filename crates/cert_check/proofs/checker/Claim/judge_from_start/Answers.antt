use Rattle.cert_check.proofs.Vocabulary.{[], subst, OnOk, IfErr, asked, asked_with, empty_sketch, IsValidCoverBy, FirstWrongCover, IfWrong, on_ok, if_err, if_wrong}
use Rattle.tso_machine.specs.Modes.{machine_of_mode}
use Rattle.cover_judge.specs.ProgramSketches.{ProgramSketch, mode_in}
use Rattle.tree_laws.proofs.TiesApart.{ties_change_no_cover}
use Rattle.cert_check.proofs.TiesApart.{same_wrong}
use Rattle.cert_check.proofs.checker.Claim.judge_from_start.Goals as goal

pub returns-clause-valid : goal.returns-clause-valid
returns-clause-valid c =
    let p = c.args.self.now.program.now in
    let shown = c.args.self.now.shown.now in
    let ties = c.args.self.now.costs.now.ties in
    let rule = c.certificate.inside.rule in
    let mode = machine_of_mode p c.args.mode in
    let outs = c.args.outcomes.now in
    let tree = c.args.tree.now in
    rw (← c.certificate.view_is)
    (on_ok c.judge_cover.result (IsValidCoverBy rule (asked p shown) mode outs tree (empty_sketch p)) (IsValidCoverBy rule (asked_with ties p shown) mode outs tree (empty_sketch p))
    (ties_change_no_cover rule p shown [] ties mode outs tree (empty_sketch p))
    (subst (λ (s : ProgramSketch). OnOk c.judge_cover.result (IsValidCoverBy rule (asked s.program shown) (mode_in s) outs tree s.chosen)) c.in_ok-sketch.ensures c.judge_cover.ensures.valid))

pub returns-clause-wrong : goal.returns-clause-wrong
returns-clause-wrong c =
    let p = c.args.self.now.program.now in
    let shown = c.args.self.now.shown.now in
    let ties = c.args.self.now.costs.now.ties in
    let rule = c.certificate.inside.rule in
    let mode = machine_of_mode p c.args.mode in
    let outs = c.args.outcomes.now in
    let tree = c.args.tree.now in
    rw (← c.certificate.view_is)
    (if_err c.judge_cover.result (IfWrong (FirstWrongCover rule (asked p shown) mode outs tree (empty_sketch p))) (IfWrong (FirstWrongCover rule (asked_with ties p shown) mode outs tree (empty_sketch p)))
    (λ fault. if_wrong (FirstWrongCover rule (asked p shown) mode outs tree (empty_sketch p)) (FirstWrongCover rule (asked_with ties p shown) mode outs tree (empty_sketch p)) fault (same_wrong rule p shown [] ties mode outs tree (empty_sketch p)))
    (subst (λ (s : ProgramSketch). IfErr c.judge_cover.result (IfWrong (FirstWrongCover rule (asked s.program shown) (mode_in s) outs tree s.chosen))) c.in_ok-sketch.ensures c.judge_cover.ensures.wrong))
