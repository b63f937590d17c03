use Rattle.documents.proofs.Vocabulary.{ℕ, List, [], ◌∷◌, ◌++◌, codes, member}
use Rattle.documents.specs.Witnesses.{run_or_null, sought_members}
use Rattle.documents.proofs.Told.{added}
use Rattle.documents.proofs.witness.witness_document.Goals as goal

pub returns : goal.returns
returns c =
    let litmus = c.args.source.now.litmus.now in
    let sought = c.args.sought in
    let first : List (List ℕ) = c.in_ok-object.object in
    let run : List ℕ = member (codes "run") (run_or_null c.args.run) in
    let members : List (List ℕ) = sought_members litmus.program sought in
    let with_run = added first members run _ _ c.in_ok-add_sought.ensures (rw c.in_ok-run.ensures at c.in_ok-add.ensures.text) in (
      c.in_ok-says.says,
      rw c.verb_of_witness-verb.ensures at c.in_ok-says.ensures,
      record {
        first = first;
        heading = c.in_ok-object.ensures;
        printed = added first (members ++ run ∷ []) _ _ _ with_run c.in_ok-add-2.ensures.text;
      },
    )
