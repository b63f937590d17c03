-- Each step keeps the rule of the word.
use Rattle.hunt_board.proofs.Vocabulary.{◌≡◌, ◌≢◌, ℕ, ◌<◌, ◌≤◌, List, [], ◌∷◌, length, set, true, false, true≢false, min, refl, sym, ◌∙◌, subst, ⊎_elim, inl, inr, arith, le_refl, le_trans, length-set, slice_index, slice_set, knows, spent, both, IsAbove, Fits}
use Rattle.hunt_board.proofs.Vocabulary.{Ruled, Loaded, Lowered}
use mathlib.Core.Option.{some}
use lib.ListN.{get_elem?}
use Rattle.atomic_table.specs.Table.{State, Me, step, keeps, Allows, Splits, Joins}
use Rattle.atomic_table.proofs.Lists.{at_set, at_snoc, set_again}
use Rattle.hunt_board.specs.declared.rule.View.{View}

word_set : (ws : List ℕ) (n : ℕ) → length ws ≡ 1 → slice_index (slice_set ws 0 n) 0 ≡ n
word_set [] n one = absurd (omega arith)
word_set (x ∷ xs) n one = refl

-- the views after one of them is another, where the word is no higher
fits_set : (goal was now : ℕ) (views : List View) (id : ℕ) (w : View) → now ≤ was → ((i : ℕ) (v : View) → get_elem? views i ≡ some v → Fits goal was v) → Fits goal now w
    → (i : ℕ) (v : View) → get_elem? (set views id w) i ≡ some v → Fits goal now v
fits_set goal was now views id w low all mine i v at =
    ⊎_elim
    (λ (t : (i ≡ id) × (w ≡ v)). subst (Fits goal now) t.1 mine)
    (λ (t : (i ≢ id) × (get_elem? views i ≡ some v)) (live : v.live ≡ true). let old = all i v t.1 live in (old.0, le_trans low old.1))
    (at_set views id i w v at)

moves : (goal : ℕ) (s : State ℕ View) (id : ℕ) (w : View) (to : ℕ) → Ruled goal s → to ≤ slice_index s.words 0 → IsAbove goal to → Fits goal to w
    → Ruled goal record { words = slice_set s.words 0 to; homes = s.homes; views = slice_set s.views id w }
moves goal s id w to kept low above mine =
    let e = word_set s.words to kept.one in record {
      one = length-set s.words 0 to ∙ kept.one;
      above = subst (IsAbove goal) (sym e) above;
      views = subst (λ n. (i : ℕ) (v : View) → get_elem? (slice_set s.views id w) i ≡ some v → Fits goal n v) (sym e) (fits_set goal (slice_index s.words 0) to s.views id w low kept.views mine);
    }

pub loads : (goal slots id : ℕ) (me : Me ℕ View) → me.0.live ≡ true → Allows (Ruled goal) slots id me 0 (λ n. n) (Loaded (step slots 0 0 0 mathlib.Core.Option.none) me)
loads goal slots id me live s kept homes at fits =
    let n = slice_index s.words 0 in
    let mine = kept.views id me.0 at live in
    let same : IsAbove me.0.goal n = subst (λ g. IsAbove g n) (sym mine.0) kept.above in (
      knows me.0.goal n,
      keeps,
      tt,
      moves goal s id (knows me.0.goal n) n kept (le_refl n) kept.above (λ _. (mine.0, le_refl n)),
      record { found = mine.1; above = same; view = refl },
    )

above_min : (goal n k : ℕ) → IsAbove goal n → goal ≤ k → k < 18446744073709551616 → IsAbove goal (min n k)
above_min goal n k (inl e) le fits = inr (omega arith)
above_min goal n k (inr h) le fits = inr (omega arith)

pub lowers : (goal slots id : ℕ) (me : Me ℕ View) (k : ℕ) → me.0.live ≡ true → goal ≤ k → k < 18446744073709551616
    → Allows (Ruled goal) slots id me 0 (λ n. min n k) (Lowered (step slots 0 k 0 mathlib.Core.Option.none) me)
lowers goal slots id me k live le fits s kept homes at _ =
    let n = slice_index s.words 0 in
    let mine = kept.views id me.0 at live in
    let low : min n k ≤ n = omega arith in (
      knows me.0.goal (min n k),
      keeps,
      tt,
      moves goal s id (knows me.0.goal (min n k)) (min n k) kept low (above_min goal n k kept.above le fits) (λ _. (mine.0, le_refl (min n k))),
      record { found = mine.1; view = refl },
    )

pub splits : (goal id : ℕ) (v : View) → Splits (Ruled goal) id v v v
splits goal id v s kept at =
    record {
      one = kept.one;
      above = kept.above;
      views = λ i u e. ⊎_elim
          (λ was. kept.views i u (subst (λ l. get_elem? l i ≡ some u) (set_again s.views id v at) was))
          (λ (same : v ≡ u). subst (Fits goal (slice_index s.words 0)) same (kept.views id v at))
          (at_snoc (set s.views id v) v u i e);
    }

pub joins : (goal id : ℕ) (v : View) (other : ℕ) (u : View) → v.live ≡ true → u.live ≡ true → Joins (Ruled goal) id v other u (both v u) spent
joins goal id v other u live live' s kept at apart there =
    let n = slice_index s.words 0 in
    let mine = kept.views id v at live in
    let theirs = ⊎_elim
    (λ (t : (other ≡ id) × (both v u ≡ u)). absurd (apart t.0))
    (λ (t : (other ≢ id) × (get_elem? s.views other ≡ some u)). kept.views other u t.1 live')
    (at_set s.views id other (both v u) u there) in
    let low : n ≤ min v.least u.least = omega arith in
    record {
      one = kept.one;
      above = kept.above;
      views = fits_set goal n n (set s.views id (both v u)) other spent (le_refl n)
          (fits_set goal n n s.views id (both v u) (le_refl n) kept.views (λ _. (mine.0, low)))
          (λ (e : false ≡ true). absurd (true≢false (sym e)));
    }
