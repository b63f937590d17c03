use Rattle.litmus_text.proofs.Vocabulary.{◌≡◌, ◌<◌, ℕ, List, ◌++◌, length, map, take, get_or, codes, sym, ap, ◌∙◌, arith, length-map, text_of, Observed, gap, joined_by, observed_place_pieces, place_named, ◌==◌, false, nat_tests}
use Rattle.std.proofs.Math.Seq.{take-length}
use Rattle.litmus_reader.specs.declared.observed.Observed.TheVariants as observed
use Rattle.litmus_text.proofs.TextsGrow.{between_at, element_column_more, brackets}
use Rattle.litmus_text.proofs.observed.push_observed.Goals as goal

pub loop-i-preserved : goal.loop-i-preserved
loop-i-preserved c =
    let named = place_named c.args.names.now.locations in
    let first : Observed = observed.Location 0 in
    let i = c.loop-i.i in
    c.in_ok-push_place.ensures
    ∙ ap (λ (bs : List ℕ). bs ++ text_of (observed_place_pieces (named (get_or c.args.observed.now i first)))) (c.in_ok-push_gap.ensures ∙ ap (λ (bs : List ℕ). bs ++ between_at gap i) c.loop-i.invariant)
    ∙ element_column_more gap observed_place_pieces named c.extend_from_slice.new.self.items c.args.observed.now i first c.loop-i-test.true

pub returns : goal.returns
returns c =
    let shown = c.args.observed.now in
    let named = place_named c.args.names.now.locations in
    let all : c.loop-i.i ≡ length shown = omega arith in
    let present : (length shown == 0) ≡ false = sym c.is_empty.ensures ∙ c.if-is_empty.false in
    let some : 0 < length (map named shown) = rw (length-map shown named) (grind (arith, nat_tests, present)) in
    c.in_ok-extend_from_slice-2.ensures.items
    ∙ ap (λ (bs : List ℕ). bs ++ codes "]\n") (c.loop-i.invariant
    ∙ ap (λ (bs : List ℕ). bs ++ text_of (joined_by gap (map observed_place_pieces (map named (take c.loop-i.i shown))))) c.in_ok-extend_from_slice.ensures.items
    ∙ ap (λ (ps : List Observed). (c.args.out.now.items ++ codes "locations [") ++ text_of (joined_by gap (map observed_place_pieces (map named ps)))) (ap (λ (n : ℕ). take n shown) all ∙ take-length shown))
    ∙ brackets c.args.out.now.items (map named shown) some
