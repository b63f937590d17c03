use Rattle.gap_sets.proofs.Vocabulary.{◌≡◌, ℕ, ◌||◌, ◌∙◌, sym, ap, nat_cmp, numbers_of_set}
use Rattle.std.proofs.Common.{map}
use Rattle.std.specs.FinSet as set
use Rattle.gap_sets.specs.Ties.{name_of}
use Rattle.gap_sets.proofs.Naming.{has, are_names, one_more, nothing_more}
use Rattle.gap_sets.proofs.ties.Ties.names_in.Goals as goal

pub loop-gap-init : goal.loop-gap-init
loop-gap-init c n =
    (λ i. (ap (λ s. set.contains s n) c.empty-names.ensures ∙ set.contains-empty nat_cmp n) i
    || has (map (name_of c.args.self.now) ((c.into_iter-gap-iterator.ensures.into_iter_gives ∙ c.iter-gap-items.ensures.value) i)) n)

pub loop-gap-preserved : goal.loop-gap-preserved
loop-gap-preserved c n =
    ap (λ s. set.contains s n || has (map (name_of c.args.self.now) c.next.new.self) n) (c.with-names.ensures ∙ ap (set.insert c.loop-gap.names) c.name_of.ensures.value)
    ∙ one_more c.loop-gap.names (name_of c.args.self.now c.in-Some.gap) (map (name_of c.args.self.now) c.next.new.self) n
    ∙ ap (λ xs. set.contains c.loop-gap.names n || has (map (name_of c.args.self.now) xs) n) (sym c.in-Some.ensures.steps)
    ∙ c.loop-gap.invariant n

pub returns : goal.returns
returns c =
    are_names c.args.self.now (numbers_of_set c.args.gaps.now) c.args.gaps.now c.loop-gap.names
    (λ x.
    sym (set.contains-from_list_nat (numbers_of_set c.args.gaps.now) x)
    ∙ ap (λ s. set.contains s x) (ap (set.from_list {R = nat_cmp}) (sym c.iter-gap-items.ensures.value) ∙ c.iter-gap-items.ensures.members))
    (λ n.
    nothing_more (set.contains c.loop-gap.names n)
    ∙ ap (λ xs. set.contains c.loop-gap.names n || has (map (name_of c.args.self.now) xs) n) (sym c.in-None.ensures.steps.0)
    ∙ c.loop-gap.invariant n)
