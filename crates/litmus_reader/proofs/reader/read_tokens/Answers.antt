use Rattle.litmus_reader.proofs.Vocabulary.{List, Tok, subst, toks, AreReadTokens}
use Rattle.litmus_reader.proofs.Parts.{refused_tokens}
use Rattle.litmus_reader.proofs.reader.read_tokens.Goals as goal

pub returns-in-Ok : goal.returns-in-Ok
returns-in-Ok c = (c.in-Ok.ensures.0, subst (λ (ts : List Tok). AreReadTokens ts c.in-Ok.litmus) c.as_slice.ensures c.in-Ok.ensures.1)

pub returns-in-Err : goal.returns-in-Err
returns-in-Err c = refused_tokens c.args.tokens.now (toks c.as_slice.result.now) c.in-Err.fault c.syntax_fault.result c.as_slice.ensures c.in-Err.ensures c.syntax_fault.ensures
