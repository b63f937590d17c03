use Rattle.documents.proofs.document.begun.Goals as goal

pub returns : goal.returns
returns c =
    let program = c.in_ok-add_program.ensures in
    record { part = program.part; is = program.is; printed = rw (c.in_ok-add.ensures.text, c.in_ok-name.ensures, c.in_ok-add_format.ensures, c.new-object.ensures) at program.added }
