use Rattle.cost_text.proofs.Vocabulary.{◌∙◌, Option, Some, None, refl, sym, ap, place_at, digits_of}
use Rattle.std.proofs.Common.{IfNone}
use Rattle.cost_text.proofs.LineLaws.{digits_read, unread_cost, unread_end}
use Rattle.cost_text.proofs.line.cost_line.Goals as goal

if_none : {A : Type 0} {P : Type 0} (r : Option A) → P → IfNone r P
if_none None p = p
if_none (Some x) p = tt

pub returns-in_err-cost-clause-none : goal.returns-in_err-cost-clause-none
returns-in_err-cost-clause-none c =
    if_none c.from_residual-in_err-cost.result
    (unread_cost c.args.line.now c.in_ok-others.others.now c.after_places.result.now (digits_of c.in_ok-others.field-0-0) c.after_places.ensures.0
    (ap place_at (sym c.after_line_spaces-places.ensures) ∙ sym c.in_ok-others.ensures.value) c.after_places.ensures.1 (sym c.in_err-cost.ensures.value))

pub returns-then-are_line_spaces-clause-read : goal.returns-then-are_line_spaces-clause-read
returns-then-are_line_spaces-clause-read c = record {
  digits = record { first = digits_of c.in_ok-others.field-0-0; others = c.after_places.ensures.0; cost = c.in_ok-cost.cost.now };
  reads = digits_read c.args.line.now c.in_ok-others.others.now c.after_places.result.now (digits_of c.in_ok-others.field-0-0) c.after_places.ensures.0
      (ap place_at (sym c.after_line_spaces-places.ensures) ∙ sym c.in_ok-others.ensures.value) c.after_places.ensures.1
      c.in_ok-cost.cost.now c.in_ok-cost.rest.now (sym c.in_ok-cost.ensures.value) (sym c.are_line_spaces.ensures ∙ c.if-are_line_spaces.true);
  places = c.after_line_spaces-places.ensures;
  cost = refl;
}

pub returns-else-are_line_spaces-clause-none : goal.returns-else-are_line_spaces-clause-none
returns-else-are_line_spaces-clause-none c =
    unread_end c.args.line.now c.in_ok-others.others.now c.after_places.result.now (digits_of c.in_ok-others.field-0-0) c.after_places.ensures.0
    (ap place_at (sym c.after_line_spaces-places.ensures) ∙ sym c.in_ok-others.ensures.value) c.after_places.ensures.1
    c.in_ok-cost.cost.now c.in_ok-cost.rest.now (sym c.in_ok-cost.ensures.value) (sym c.are_line_spaces.ensures ∙ c.if-are_line_spaces.false)
