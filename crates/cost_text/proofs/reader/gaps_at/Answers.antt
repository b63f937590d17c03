use Rattle.cost_text.proofs.Vocabulary.{◌≡◌, Option, None, map, sym, subst, place_of, digits_of, AreGathered}
use Rattle.std.proofs.Common.{MatchOption}
use Rattle.cost_text.proofs.Gathered.{lacking, one_on}
use Rattle.cost_text.proofs.reader.gaps_at.Goals as goal

at_none : {A : Type 0} {P : Type 0} (Q : A → Type 0) (r : Option A) → r ≡ None → P → MatchOption r P Q
at_none {A} {P} Q r is p = subst (λ (o : Option A). MatchOption o P Q) (sym is) p

pub returns-in_err-gap : goal.returns-in_err-gap
returns-in_err-gap c places end reads =
    at_none (AreGathered c.args.program.now.threads c.args.entries.now (map place_of places)) c.from_residual.result c.from_residual.ensures
    (lacking c.args.program.now.threads c.args.entries.now c.args.text.now c.loop-place.rest.now c.loop-place.placed c.loop-place.invariant (digits_of c.in-Some.place) c.in-Some.after.now places end reads
    (sym c.in-Some.ensures.value) (sym c.in_err-gap.ensures.value))

pub loop-place-preserved : goal.loop-place-preserved
loop-place-preserved c =
    rw c.with-placed.ensures (one_on c.args.program.now.threads c.args.entries.now c.args.text.now c.loop-place.rest.now c.loop-place.placed c.loop-place.invariant (digits_of c.in-Some.place) c.in-Some.after.now c.in_ok-gap.gap
    (sym c.in-Some.ensures.value) (sym c.in_ok-gap.ensures.value))
