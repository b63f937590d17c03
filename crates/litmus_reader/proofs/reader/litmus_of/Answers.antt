use Rattle.litmus_reader.proofs.Vocabulary.{map, refl, ap, ◌∙◌, List, Place, place_view, body_view, ending_view, observed_of, byte_in, handed_on}
use Rattle.litmus_reader.proofs.Parts.{refused_formula, refused_jump, parts_read}
use Rattle.litmus_reader.proofs.reader.litmus_of.Goals as goal

pub returns-in_err-formula : goal.returns-in_err-formula
returns-in_err-formula c tokens found =
    let body = body_view c.args.body.now in
    let ending = c.args.ending.now in
    rw (handed_on c.from_residual-in_err-formula.result c.from_residual-in_err-formula.ensures.1)
    (refused_formula tokens body ending.signs.refusal (ending_view ending) (byte_in c.in_ok-names.names.locations) c.in_err-formula.field-0.0 found c.in_err-formula.ensures)

pub returns-in_err-program : goal.returns-in_err-program
returns-in_err-program c tokens found =
    let body = body_view c.args.body.now in
    let ending = c.args.ending.now in
    rw (handed_on c.from_residual-in_err-program.result c.from_residual-in_err-program.ensures.1)
    (refused_jump tokens body ending.signs.refusal (ending_view ending) c.in_err-program.field-0.0 found c.in_err-program.ensures.lost)

pub returns : goal.returns
returns c tokens found =
    let body = body_view c.args.body.now in
    let ending = c.args.ending.now in
    let observed = c.of.ensures ∙ c.in_ok-observed.ensures ∙ ap (λ (places : List Place). map (observed_of (byte_in c.in_ok-names.names.locations)) (map place_view places)) c.as_slice-2.ensures.value in (
      refl,
      parts_read tokens body ending.signs.refusal (ending_view ending) _ found c.in_ok-program.ensures.found c.in_ok-names.ensures refl c.in_ok-formula.ensures c.in_ok-program.ensures.made observed
          (c.of-2.ensures ∙ c.in_ok-labels.ensures),
    )
