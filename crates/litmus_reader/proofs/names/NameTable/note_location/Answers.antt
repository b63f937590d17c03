use Rattle.litmus_reader.proofs.Vocabulary.{◌≡◌, refl, sym, ◌∙◌, with_name, texts}
use Rattle.litmus_reader.proofs.NameLaws.{texts_insert, with_known}
use Rattle.litmus_reader.proofs.names.NameTable.note_location.Goals as goal

pub returns-in_ok-insert : goal.returns-in_ok-insert
returns-in_ok-insert c =
    let e : texts c.insert.new.self.keys ≡ with_name (texts c.self.inside.locations.keys) c.args.name.now =
    rw c.in_ok-insert.ensures.keys (texts_insert c.self.inside.locations.keys c.in_ok-own.own c.args.name.now c.in_ok-own.ensures.items) in
    rw (e, ← c.self.view_is) refl

pub returns-else-not-contains : goal.returns-else-not-contains
returns-else-not-contains c =
    let e : with_name (texts c.self.inside.locations.keys) c.args.name.now ≡ texts c.self.inside.locations.keys =
    with_known c.self.inside.locations.keys c.args.name.now (sym c.contains.ensures ∙ c.if-not-contains.false) in
    rw (← c.self.view_is, e) refl
