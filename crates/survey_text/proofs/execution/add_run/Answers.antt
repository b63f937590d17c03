use Rattle.survey_text.proofs.Vocabulary.{◌∙◌, ap, sym, Visit}
use Rattle.survey_text.proofs.Executed.{adds_nothing, adds_run, none_to_show, shown_already}
use Rattle.survey_text.proofs.execution.add_run.Goals as goal

pub returns-in_default : goal.returns-in_default
returns-in_default c =
    let runs = c.args.runs.now.items in
    adds_nothing c.args.program.now c.args.visits.now c.args.at runs (none_to_show runs c.args.visits.now c.args.at c.index-visits-at.result c.index-visits-at.is c.in_default.is)

pub returns-then-is_shown : goal.returns-then-is_shown
returns-then-is_shown c =
    let runs = c.args.runs.now.items in
    let shown = sym (rw c.as_slice.ensures.value at c.is_shown.ensures) ∙ c.if-is_shown.true in
    adds_nothing c.args.program.now c.args.visits.now c.args.at runs (shown_already runs c.args.visits.now c.args.at c.index-visits-at.result c.index-visits-at.is shown)

pub returns : goal.returns
returns c =
    let found = c.index-visits-at.result in
    adds_run c.args.program.now c.args.visits.now c.args.at found c.requires.there c.in-Some.labels (ap (λ (visit : Visit). visit.run) (sym c.index-visits-at.is) ∙ c.in-Some.is)
    (c.requires.answers c.args.at found c.requires.there) c.args.runs.now.items c.push.new.self.items c.in_ok-executed_run.field-0 c.in_ok-executed_run.ensures c.in_ok-push.ensures.items
