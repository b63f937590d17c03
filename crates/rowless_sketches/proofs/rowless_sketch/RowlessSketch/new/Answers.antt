use Rattle.rowless_sketches.proofs.Vocabulary.{◌∙◌, [], List, ap, ThreadTrace, view_of}
use Rattle.std.proofs.lemmas.Result.{IfOk-weaker}
use Rattle.rowless_sketches.proofs.rowless_sketch.RowlessSketch.new.Goals as goal

pub returns : goal.returns
returns c =
    IfOk-weaker c.of_parts.result _ _
    (λ sketch is. is ∙ ap (λ (traces : List ThreadTrace). view_of c.args.program.now c.args.mode traces [] []) c.as_slice.ensures.value ∙ c.in_ok-thread_traces.ensures.empty) c.of_parts.ensures
