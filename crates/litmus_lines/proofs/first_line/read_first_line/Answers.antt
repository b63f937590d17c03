use Rattle.litmus_lines.proofs.Vocabulary.{refl, sym, ap, ◌∙◌, heading_name, line_at}
use Rattle.litmus_lines.proofs.FirstLineLaws.{first_takes, first_again, none_or, same_parts, same_line, no_end, has_end}
use Rattle.litmus_lines.proofs.first_line.read_first_line.Goals as goal

pub returns-in_default-clause-only : goal.returns-in_default-clause-only
returns-in_default-clause-only c name rest h =
    let a = first_again c.args.bytes.now name rest h in none_or (line_at c.args.bytes.now) (a.0, rest) c.in_default.ensures a.1

pub returns-in-Some-heading_name-clause-found : goal.returns-in-Some-heading_name-clause-found
returns-in-Some-heading_name-clause-found c =
    first_takes c.args.bytes.now c.in-Some.line.now c.in-Some.rest.now c.in-Some-heading_name.name.now (sym c.in-Some.ensures) (sym c.in-Some-heading_name.ensures)

pub returns-in-Some-heading_name-clause-only : goal.returns-in-Some-heading_name-clause-only
returns-in-Some-heading_name-clause-only c name rest h =
    let a = first_again c.args.bytes.now name rest h in
    let p = same_line (line_at c.args.bytes.now) c.in-Some.line.now a.0 c.in-Some.rest.now rest (sym c.in-Some.ensures) a.1 in
    (same_parts c.in-Some.line.now a.0 c.in-Some-heading_name.name.now name p.0 (sym c.in-Some-heading_name.ensures) a.2, p.1)

pub returns-in-None-clause-only : goal.returns-in-None-clause-only
returns-in-None-clause-only c name rest h =
    let a = first_again c.args.bytes.now name rest h in
    let p = same_line (line_at c.args.bytes.now) c.in-Some.line.now a.0 c.in-Some.rest.now rest (sym c.in-Some.ensures) a.1 in
    none_or (heading_name c.in-Some.line.now) name c.in-None.ensures (ap heading_name p.0 ∙ a.2)

pub returns-in_default-clause-refused : goal.returns-in_default-clause-refused
returns-in_default-clause-refused c = (refl, no_end c.args.bytes.now c.in_default.ensures)

pub returns-in-None-clause-refused : goal.returns-in-None-clause-refused
returns-in-None-clause-refused c = (refl, has_end c.args.bytes.now c.in-Some.line.now c.in-Some.rest.now (sym c.in-Some.ensures))
