use Rattle.std.proofs.lemmas.Result.{on_ok_weaker}
use Rattle.sequential_states.proofs.Steps.{made_step}
use Rattle.sequential_states.proofs.Following.{after_noting, read_at}
use Rattle.sequential_states.proofs.worklist.Worklist.follow.Goals as goal

pub after-requires : goal.after-requires
after-requires c = (c.requires.reached c.args.from c.index.result.now (read_at c.args.self.now c.self.inside.listed.items c.args.from c.index.result.now c.requires.there c.index.ensures c.self.view_is)).fits

pub returns-in-Some-clause-reached : goal.returns-in-Some-clause-reached
returns-in-Some-clause-reached c =
    let there = read_at c.args.self.now c.self.inside.listed.items c.args.from c.index.result.now c.requires.there c.index.ensures c.self.view_is in
    on_ok_weaker c.note.result (λ noted. (after_noting c.args.program.now c.args.self.now c.args.from c.args.t c.index.result.now there c.requires.reached c.note.new.self c.in-Some.next (made_step c.args.program.now c.index.result.now.state c.args.t c.in_ok-next.field-0 c.in-Some.next c.in_ok-next.ensures c.in-Some.is) noted).0) c.note.ensures

pub returns-in-Some-clause-longer : goal.returns-in-Some-clause-longer
returns-in-Some-clause-longer c =
    let there = read_at c.args.self.now c.self.inside.listed.items c.args.from c.index.result.now c.requires.there c.index.ensures c.self.view_is in
    on_ok_weaker c.note.result (λ noted. (after_noting c.args.program.now c.args.self.now c.args.from c.args.t c.index.result.now there c.requires.reached c.note.new.self c.in-Some.next (made_step c.args.program.now c.index.result.now.state c.args.t c.in_ok-next.field-0 c.in-Some.next c.in_ok-next.ensures c.in-Some.is) noted).1) c.note.ensures

pub returns-in-Some-clause-followed : goal.returns-in-Some-clause-followed
returns-in-Some-clause-followed c =
    let there = read_at c.args.self.now c.self.inside.listed.items c.args.from c.index.result.now c.requires.there c.index.ensures c.self.view_is in
    on_ok_weaker c.note.result (λ noted. (after_noting c.args.program.now c.args.self.now c.args.from c.args.t c.index.result.now there c.requires.reached c.note.new.self c.in-Some.next (made_step c.args.program.now c.index.result.now.state c.args.t c.in_ok-next.field-0 c.in-Some.next c.in_ok-next.ensures c.in-Some.is) noted).2) c.note.ensures
