use Rattle.litmus_syntax.proofs.Vocabulary.{◌∙◌, sym, arith, toks}
use Rattle.text_tokens.specs.declared.token.Mark.TheVariants as the
use Rattle.litmus_syntax.proofs.Options.{handed_on, mark_is_there}
use Rattle.litmus_syntax.proofs.HeaderLaws.{first_column, first_stops, next_column, next_stops, header_stops, header_ends}
use Rattle.litmus_syntax.proofs.header.read_header.Goals as goal

pub returns-in_err-rest : goal.returns-in_err-rest
returns-in_err-rest c = rw (handed_on c.from_residual.result c.from_residual.ensures.1) (first_stops (toks c.args.tokens.now) c.in_err-rest.field-0.0 c.in_err-rest.ensures.gives)

pub loop-alloc-init : goal.loop-alloc-init
loop-alloc-init c = record { columns = first_column (toks c.args.tokens.now) (toks c.in_ok-rest.rest.now) c.in_ok-rest.ensures.gives; within = omega (arith, c.in_ok-rest.ensures.shorter) }

pub returns-in_err-after : goal.returns-in_err-after
returns-in_err-after c = absurd (mark_is_there the.Bar (toks c.loop-alloc.rest.now) (sym c.begins.ensures ∙ c.loop-alloc-test.true) c.in_err-after.ensures.gives)

pub returns-in_err-rest-2 : goal.returns-in_err-rest-2
returns-in_err-rest-2 c =
    rw (handed_on c.from_residual-in_err-rest-2.result c.from_residual-in_err-rest-2.ensures.1)
    (next_stops (toks c.args.tokens.now) c.loop-alloc.threads (toks c.loop-alloc.rest.now) (toks c.in_ok-after.after.now) c.in_err-rest-2.field-0.0 c.loop-alloc.invariant.columns c.in_ok-after.ensures.gives c.in_err-rest-2.ensures.gives)

pub loop-alloc-preserved : goal.loop-alloc-preserved
loop-alloc-preserved c = record {
  columns = next_column (toks c.args.tokens.now) c.loop-alloc.threads (toks c.loop-alloc.rest.now) (toks c.in_ok-after.after.now) (toks c.in_ok-rest-2.rest.now) c.loop-alloc.invariant.columns c.in_ok-after.ensures.gives c.in_ok-rest-2.ensures.gives;
  within = omega (arith, c.in_ok-after.ensures.shorter, c.in_ok-rest-2.ensures.shorter);
}

pub returns-in_err-end : goal.returns-in_err-end
returns-in_err-end c =
    rw (handed_on c.from_residual-in_err-end.result c.from_residual-in_err-end.ensures.1)
    (header_stops (toks c.args.tokens.now) c.loop-alloc.threads (toks c.loop-alloc.rest.now) c.loop-alloc.invariant.columns (sym c.begins.ensures ∙ c.loop-alloc-test.false) c.in_err-end.ensures.gives)

pub returns : goal.returns
returns c = header_ends (toks c.args.tokens.now) c.loop-alloc.threads (toks c.loop-alloc.rest.now) (toks c.in_ok-end.end.now) c.loop-alloc.invariant.columns c.in_ok-end.ensures.gives
