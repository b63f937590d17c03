use Rattle.litmus_reader.proofs.Vocabulary.{subst, toks, HasNoParts, IfRefused}
use Rattle.litmus_syntax.specs.declared.fault.SyntaxFault.{SyntaxFault}
use Rattle.litmus_reader.proofs.reader.refusal_of.Goals as goal
use Rattle.litmus_reader.proofs.reader.refusal_of.Goals.{in-Ok, in-Err-Refused, in-Err-OutOfMemory}

pub returns-clause-none : goal.returns-clause-none
returns-clause-none c =
    elim c.match-read_parts.branch [
      | in-Ok w ↦ let read = w.in-Ok.ensures.1 in rw w.result-is (read.body, read.ending, read.formula, read.parts)
      | in-Err-Refused w ↦ rw w.result-is tt
      | in-Err-OutOfMemory w ↦ rw w.result-is tt
    ]

pub returns-clause-some : goal.returns-clause-some
returns-clause-some c =
    elim c.match-read_parts.branch [
      | in-Ok w ↦ rw w.result-is tt
      | in-Err-Refused w ↦
          let none : HasNoParts (toks c.args.tokens.now) = subst (λ (x : SyntaxFault). IfRefused x (HasNoParts (toks c.args.tokens.now))) w.in-Err-Refused.field-0-is w.in-Err-Refused.ensures in
          rw w.result-is (λ parts. none parts.0 parts.1 parts.2 parts.3)
      | in-Err-OutOfMemory w ↦ rw w.result-is tt
    ]
