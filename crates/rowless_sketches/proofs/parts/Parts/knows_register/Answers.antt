use Rattle.rowless_sketches.proofs.Vocabulary.{◌≡◌, ◌∙◌, sym, subst, true, false, Knowledge, Knows}
use Rattle.tso_program.specs.declared.atom.Atom.TheVariants as atom
use Rattle.tso_program.specs.Tree as tree
use Rattle.rowless_sketches.proofs.Known.{knows_reading, knows_stopped}
use Rattle.rowless_sketches.proofs.parts.Parts.knows_register.Goals as goal

pub returns-then-is_reading : goal.returns-then-is_reading
returns-then-is_reading c =
    subst (λ (k : Knowledge). Knows c.args.self.now (tree.Atom (atom.Register c.args.thread c.args.register c.args.value)) k) (sym c.unsettled.ensures)
    (knows_reading c.args.self.now c.args.thread c.args.register c.args.value (c.is_reading.ensures.0 c.if-is_reading.true))

pub returns-else-is_reading : goal.returns-else-is_reading
returns-else-is_reading c =
    subst (λ (k : Knowledge). Knows c.args.self.now (tree.Atom (atom.Register c.args.thread c.args.register c.args.value)) k) (sym c.settled.ensures)
    (knows_stopped c.args.self.now c.args.thread c.args.register c.args.value c.stops_with.result
    (λ some. let yes = c.is_reading.ensures.1 some in let no : true ≡ false = sym yes ∙ c.if-is_reading.false in cc) c.stops_with.ensures)
