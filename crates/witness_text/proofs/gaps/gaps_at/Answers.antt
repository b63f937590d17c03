use Rattle.witness_text.proofs.Vocabulary.{take, drop, suc, sym}
use Rattle.std.proofs.Math.Seq.{split_at}
use Rattle.std.proofs.lemmas.List.{take_more}
use Rattle.witness_text.proofs.PlacesFenced.{no_place, one_more}
use Rattle.witness_text.proofs.gaps.gaps_at.Goals as goal

pub loop-place-init : goal.loop-place-init
loop-place-init c = rw c.empty-gaps.ensures (no_place c.args.program.now.threads)

pub returns-in-None-clause-none : goal.returns-in-None-clause-none
returns-in-None-clause-none c =
    let places = c.args.places.now in
    let i = c.loop-place.place-index in
    record {
      before = take i places;
      after = drop (suc i) places;
      there = split_at places i (0, 0) c.loop-place-test.true;
      each = c.loop-place.invariant.each;
      none = sym c.in-None.ensures.value;
    }

pub loop-place-preserved : goal.loop-place-preserved
loop-place-preserved c =
    let places = c.args.places.now in
    let i = c.loop-place.place-index in
    rw (take_more places i (0, 0) c.loop-place-test.true, c.with-gaps.ensures)
    (one_more c.args.program.now.threads (take i places) c.loop-place.gaps _ c.in-Some.gap c.loop-place.invariant (sym c.in-Some.ensures.value))
