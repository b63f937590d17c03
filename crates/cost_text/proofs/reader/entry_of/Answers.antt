use Rattle.cost_text.proofs.Vocabulary.{refl, ◌∷◌}
use Rattle.cost_text.proofs.{LineLaws.unread, Judged.places_read, Judged.of_no_gap, Judged.repeated, Judged.new_entry, Judged.of_no_cost}
use Rattle.cost_text.proofs.reader.entry_of.Goals as goal

pub returns-in_default-clause-refused : goal.returns-in_default-clause-refused
returns-in_default-clause-refused c said t = (refl, record { no_blank = c.requires.some; nothing = unread c.args.line.now c.in_default.ensures.none })

pub returns-in_default-gaps_at-clause-refused : goal.returns-in_default-gaps_at-clause-refused
returns-in_default-gaps_at-clause-refused c said t =
    let s = c.in-Some.ensures.read in
    (refl, of_no_gap c.args.program.now.threads c.args.line.now c.in-Some.said s (c.in_default-gaps_at.ensures (s.digits.first ∷ s.digits.others) s.reads.rest (places_read c.args.line.now c.in-Some.said s)))

pub returns-then-placed-clause-refused : goal.returns-then-placed-clause-refused
returns-then-placed-clause-refused c said t =
    let s = c.in-Some.ensures.read in
    let g = c.in-Some-gaps_at.ensures (s.digits.first ∷ s.digits.others) s.reads.rest (places_read c.args.line.now c.in-Some.said s) in
    (refl, repeated c.args.program.now.threads c.args.entries.now said c.args.line.now c.in-Some.said s c.in-Some-gaps_at.placed g t c.if-placed.true)

pub returns-in-Ok-clause-entry : goal.returns-in-Ok-clause-entry
returns-in-Ok-clause-entry c said t =
    let s = c.in-Some.ensures.read in
    let g = c.in-Some-gaps_at.ensures (s.digits.first ∷ s.digits.others) s.reads.rest (places_read c.args.line.now c.in-Some.said s) in
    new_entry c.args.program.now.threads c.args.entries.now said c.args.line.now c.in-Some.said s c.in-Some-gaps_at.placed g t c.in-Ok.cost c.if-placed.false c.in-Ok.ensures

pub returns-in-Err-clause-refused : goal.returns-in-Err-clause-refused
returns-in-Err-clause-refused c said t =
    let s = c.in-Some.ensures.read in
    let g = c.in-Some-gaps_at.ensures (s.digits.first ∷ s.digits.others) s.reads.rest (places_read c.args.line.now c.in-Some.said s) in
    (refl, of_no_cost c.args.program.now.threads c.args.entries.now said c.args.line.now c.in-Some.said s c.in-Some-gaps_at.placed g t c.in-Err.fault c.if-placed.false c.in-Err.ensures)
