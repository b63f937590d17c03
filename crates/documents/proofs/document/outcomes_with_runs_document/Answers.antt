use Rattle.std.specs.Prelude.{List, ℕ, [], ◌∷◌, ◌++◌, codes}
use Rattle.json_text.specs.Texts.{member}
use Rattle.documents.specs.Documents.{outcomes_members}
use Rattle.json_values.specs.Labels.{runs_array}
use Rattle.documents.proofs.Told.{added}
use Rattle.documents.proofs.document.outcomes_with_runs_document.Goals as goal

pub returns : goal.returns
returns c =
    let object = c.in_ok-object.ensures in
    let members : List (List ℕ) = outcomes_members c.args.source.now.litmus.now c.args.shown.now c.args.machine c.args.outcomes.now ++ member (codes "runs") (runs_array c.args.runs.now) ∷ [] in
    rw c.is_true_of-holds.ensures at (c.in_ok-add_saying.ensures (codes "outcomes") members
    (record {
      first = object.first;
      heading = object.heading;
      printed = added object.first _ _ _ _ object.printed (rw c.in_ok-runs.ensures at c.in_ok-add.ensures.text);
    }))
