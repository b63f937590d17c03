use Rattle.search_core.proofs.Vocabulary.{slice_get_read, ◌≡◌, ℕ, ◌+◌, ◌<◌, ◌≤◌, Bool, true, false, true≢false, List, Option, Some, None, length, get_or, IsTrue, refl, sym, ◌∙◌, subst, MatchOption, ◌↔◌, slice_get, Better, Region, Entry, is_open, IsOpenAt}
use Rattle.search_core.proofs.Steps.{none_so_far, none_at_all}
use Rattle.search_core.proofs.entries.best_open.Goals as goal
use Rattle.search_core.proofs.entries.best_open.Goals.{then-is_open+then-is_first_or_better, else-is_open, else-is_open-via-then-is_open+else-is_first_or_better, else-is_open-via-else-is_open}

-- none is open before the place, or an open one is found
abbrev IsFound : List Entry → ℕ → Option (ℕ × Region) → Type 0
IsFound es k best = MatchOption best ((j : ℕ) (e : Entry) → j < k → slice_get es j ≡ Some e → is_open e ≡ true → ⊥) (λ found. IsOpenAt es found.0 found.1)

-- one more that is not open
not_open : (es : List Entry) (k : ℕ) (a : Entry) (best : Option (ℕ × Region)) → k < length es → a ≡ get_or es k a → is_open a ≡ false → IsFound es k best → IsFound es (k + 1) best
not_open es k a None h is fails none = none_so_far is_open es k a h is fails none
not_open es k a (Some found) h is fails here = here

-- one more that is not better: one was found
not_better : (es : List Entry) (k : ℕ) (best : Option (ℕ × Region)) (r : Bool) (costs : List ℕ) (n : Region) →
    MatchOption best (IsTrue r) (λ found. IsTrue r ↔ Better costs n.must found.1.must) → r ≡ false → IsFound es k best → IsFound es (k + 1) best
not_better es k None r costs n first fails here = absurd (true≢false (sym first ∙ fails))
not_better es k (Some found) r costs n first fails here = here

all_seen : (es : List Entry) (k : ℕ) (best : Option (ℕ × Region)) → length es ≤ k → IsFound es k best → MatchOption best ((place : ℕ) (n : Region) → ¬ IsOpenAt es place n) (λ found. IsOpenAt es found.0 found.1)
all_seen es k None all none = λ place n h. none_at_all is_open es k all none place h.before h.there h.open_there
all_seen es k (Some found) all here = here

pub loop-place-preserved : goal.loop-place-preserved
loop-place-preserved c =
    let es = c.args.entries.now in
    let k = c.loop-place.place in
    let e = c.index-entries-place.result in
    elim c.if-is_open.branch [
      | then-is_open+then-is_first_or_better w ↦ subst (IsFound es (k + 1)) (sym w.best-is) (record {
        before = e;
        there = slice_get_read es _ k e refl c.loop-place-test.true c.index-entries-place.is;
        open_there = sym c.is_open.ensures ∙ w.if-is_open.true;
        is_node = refl;
      })
      | else-is_open w ↦ subst (IsFound es (k + 1)) (sym w.best-is) (elim w.else-is_open.branch [
        | else-is_open-via-then-is_open+else-is_first_or_better v ↦
            not_better es k c.loop-place.best v.is_first_or_better.result c.args.costs.now e.node v.is_first_or_better.ensures v.if-is_first_or_better.false c.loop-place.invariant
        | else-is_open-via-else-is_open v ↦
            not_open es k e c.loop-place.best c.loop-place-test.true c.index-entries-place.is (sym c.is_open.ensures ∙ v.if-is_open.false) c.loop-place.invariant
      ])
    ]

pub returns : goal.returns
returns c = all_seen c.args.entries.now c.loop-place.place c.loop-place.best c.loop-place-test.false c.loop-place.invariant
