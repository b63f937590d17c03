use Rattle.litmus_syntax.proofs.Vocabulary.{toks, cell_view}
use Rattle.text_tokens.specs.declared.token.Mark.TheVariants as the
use Rattle.litmus_syntax.proofs.{Options.handed_on, Options.not_taken, RowLaws.cell_behind}
use Rattle.litmus_syntax.proofs.cell.read_next_cell.Goals as goal

pub returns-in_err-rest-clause-reads : goal.returns-in_err-rest-clause-reads
returns-in_err-rest-clause-reads c = rw (handed_on c.from_residual.result c.from_residual.ensures.1) (λ d rest h. not_taken the.Bar (toks c.args.tokens.now) c.in_err-rest.ensures.gives h.0 h.1)

pub returns-clause-reads : goal.returns-clause-reads
returns-clause-reads c = cell_behind (λ x. cell_view x.0) (λ x. toks x.1.now) c.read_cell.result (toks c.args.tokens.now) (toks c.in_ok-rest.rest.now) c.in_ok-rest.ensures.gives c.read_cell.ensures.reads
