use Rattle.litmus_reader.proofs.Vocabulary.{toks, body_view, handed_on}
use Rattle.litmus_reader.proofs.Parts.{refused_body, refused_ending}
use Rattle.litmus_reader.proofs.reader.read_parts.Goals as goal

pub returns-in_err-body : goal.returns-in_err-body
returns-in_err-body c =
    rw (handed_on c.from_residual.result c.from_residual.ensures.1)
    (refused_body (toks c.args.tokens.now) c.in_err-body.field-0.0 c.in_err-body.ensures)

pub returns-in_err-ending : goal.returns-in_err-ending
returns-in_err-ending c =
    rw (handed_on c.from_residual-in_err-ending.result c.from_residual-in_err-ending.ensures.1)
    (refused_ending (toks c.args.tokens.now) (toks c.in_ok-body.rest.now) (body_view c.in_ok-body.body) c.in_err-ending.field-0.0 c.in_ok-body.ensures c.in_err-ending.ensures)

pub returns : goal.returns
returns c =
    c.litmus_of.ensures (toks c.args.tokens.now)
    (record { others = toks c.in_ok-body.rest.now; begins = c.in_ok-body.ensures.0; begins_only = c.in_ok-body.ensures.1; ends = c.in_ok-ending.ensures })
