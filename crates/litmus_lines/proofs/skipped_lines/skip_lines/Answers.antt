use Rattle.litmus_lines.proofs.Vocabulary.{ℕ, List, [], ◌≡◌, ◌∙◌, sym, subst, inl, inr, arith, nil_from_length, IsAfterSpace, AreSkipped, line, empty_is}
use Rattle.litmus_lines.specs.Faults.{nothing, line as begins}
use Rattle.litmus_lines.proofs.SkippedLaws.{shorter, line_back, brace_back, brace_is, no_space_back, no_line_back, no_line_in_nothing, nothing_back}
use Rattle.litmus_lines.proofs.skipped_lines.skip_lines.Goals as goal

pub returns-then-begins_brace-clause-found : goal.returns-then-begins_brace-clause-found
returns-then-begins_brace-clause-found c =
    c.loop-rest.invariant.forth c.in-Some.text.now (brace_is c.loop-rest.rest.now c.in-Some.text.now c.in-Some.ensures.some (sym c.begins_brace.ensures ∙ c.if-begins_brace.true))

pub returns-then-begins_brace-clause-only : goal.returns-then-begins_brace-clause-only
returns-then-begins_brace-clause-only c end h =
    brace_back c.loop-rest.rest.now c.in-Some.text.now end c.in-Some.ensures.only (sym c.begins_brace.ensures ∙ c.if-begins_brace.true) (c.loop-rest.invariant.back end h)

pub returns-in_default-after_skipped-clause-only : goal.returns-in_default-after_skipped-clause-only
returns-in_default-after_skipped-clause-only c end h =
    no_line_back c.loop-rest.rest.now c.in-Some.text.now end c.in-Some.ensures.only (sym c.begins_brace.ensures ∙ c.if-begins_brace.false) c.in_default-after_skipped.ensures.none (c.loop-rest.invariant.back end h)

pub returns-in_default-clause-refused : goal.returns-in_default-clause-refused
returns-in_default-clause-refused c = (c.loop-rest.rest.now, c.loop-rest.invariant.begun, inl (c.in_default.ensures.none, c.ended.ensures))

pub returns-in_default-clause-only : goal.returns-in_default-clause-only
returns-in_default-clause-only c end h = no_space_back c.loop-rest.rest.now end c.in_default.ensures.none (c.loop-rest.invariant.back end h)

pub returns-in_default-after_skipped-clause-refused : goal.returns-in_default-after_skipped-clause-refused
returns-in_default-after_skipped-clause-refused c =
    (c.loop-rest.rest.now, c.loop-rest.invariant.begun, inr (c.in-Some.text.now, c.in-Some.ensures.some, c.in_default-after_skipped.ensures.none, c.no_skipped_line.ensures))

pub loop-rest-init : goal.loop-rest-init
loop-rest-init c = record { forth = λ end h. h; begun = nothing; back = λ end h. h }

pub loop-rest-smaller : goal.loop-rest-smaller
loop-rest-smaller c = shorter c.loop-rest.rest.now c.in-Some.text.now c.in-Some-after_skipped.others.now c.in-Some.ensures.some c.in-Some-after_skipped.ensures.some

pub loop-rest-preserved : goal.loop-rest-preserved
loop-rest-preserved c = record {
  forth = λ end h. c.loop-rest.invariant.forth end (line c.in-Some.ensures.some c.in-Some-after_skipped.ensures.some h);
  begun = begins c.loop-rest.invariant.begun c.in-Some.ensures.some c.in-Some-after_skipped.ensures.some;
  back = λ end h. line_back c.loop-rest.rest.now c.in-Some.text.now c.in-Some-after_skipped.others.now end c.in-Some.ensures.only (sym c.begins_brace.ensures ∙ c.if-begins_brace.false) c.in-Some-after_skipped.ensures.only (c.loop-rest.invariant.back end h);
}

pub returns-clause-refused : goal.returns-clause-refused
returns-clause-refused c =
    let none : c.loop-rest.rest.now ≡ [] = nil_from_length _ (grind arith) in (
      c.loop-rest.rest.now,
      c.loop-rest.invariant.begun,
      inr ([], subst (IsAfterSpace c.loop-rest.rest.now) none (empty_is c.loop-rest.rest.now none), no_line_in_nothing, c.ended-2.ensures),
    )

pub returns-clause-only : goal.returns-clause-only
returns-clause-only c end h =
    let none : c.loop-rest.rest.now ≡ [] = nil_from_length _ (grind arith) in
    nothing_back end (subst (λ (t : List ℕ). AreSkipped t end) none (c.loop-rest.invariant.back end h))
