use Rattle.litmus_syntax.proofs.Vocabulary.{refl}
use Rattle.litmus_syntax.proofs.SeenLaws.{name_added}
use Rattle.litmus_syntax.proofs.seen.Seen.add.Goals as goal

pub returns-in_ok-insert-in-Location-clause-added : goal.returns-in_ok-insert-in-Location-clause-added
returns-in_ok-insert-in-Location-clause-added c =
    rw c.in-Location.is (name_added c.args.self.now (record { names = c.insert.new.self; registers = c.args.self.now.registers }) c.in_ok-own-in-Location.own c.in-Location.name.now c.in_ok-own-in-Location.ensures.items refl c.in_ok-insert-in-Location.ensures.keys)
