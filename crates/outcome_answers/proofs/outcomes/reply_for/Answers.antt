use Rattle.outcome_answers.proofs.Vocabulary.{subst, ListsOutcomes, ListsRuns}
use Rattle.tso_program.specs.Shown.{asked}
use Rattle.tso_machine.specs.Machine.{Machine}
use Rattle.outcome_answers.proofs.outcomes.reply_for.Goals as goal

pub returns-in-Err-clause-refused : goal.returns-in-Err-clause-refused
returns-in-Err-clause-refused g c bytes spelled = (c.args.litmus.now, spelled, rw c.as_slice-places.ensures.value at c.in-Err.ensures.none)

pub returns-in-Ok-list_text-clause-list : goal.returns-in-Ok-list_text-clause-list
returns-in-Ok-list_text-clause-list g c bytes spelled =
    let query = c.args.asked.now in
    let litmus = c.args.litmus.now in
    let p = litmus.program in
    let outcomes = c.in_ok-list.list.outcomes.items in
    let runs = c.in_ok-list.list.runs in
    let shown = c.listed_shown-shown.result in
    let list = subst (λ (machine : Machine). ListsOutcomes (asked p shown) machine outcomes) (c.new.ensures p) c.in_ok-list.ensures.list in
    let left = subst (λ (machine : Machine). ListsRuns query.runs (asked p shown) machine runs outcomes) (c.new.ensures p) c.in_ok-list.ensures.runs in
    record {
      litmus = litmus;
      spelled = spelled;
      fences = c.in-Ok.fences;
      fenced = rw c.as_slice-places.ensures.value at c.in-Ok.ensures.gaps;
      outcomes = outcomes;
      listed = rw c.listed_shown-shown.ensures at list;
      runs = runs;
      left = rw c.listed_shown-shown.ensures at left;
      printed = rw c.listed_shown-shown.ensures at c.in-Ok-list_text.ensures;
      ends = rw c.deref.ensures.value at c.list_status-status.ensures;
    }
