-- Lists of runs that lie flat.
use Rattle.cert_forest.proofs.Vocabulary.{◌≡◌, ◌≤◌, ◌<◌, ◌+◌, ◌-◌, ℕ, zero, suc, List, [], ◌∷◌, ◌++◌, Some, length, get_or, take, drop, refl, sym, ap, ◌∙◌, subst, arith, slice_get, slice_get-get_or, length-append, length-drop, same_Some}
use Rattle.cert_forest.proofs.Vocabulary.{Label, AreEnds, runs_from, slice_range, drop-append-le, take-append-le, take_all, none-some, drop-append_seam}

-- as many runs as ends
pub as_many : (start : ℕ) (ends : List ℕ) (labels : List Label) → length (runs_from start ends labels) ≡ length ends
as_many start [] labels = refl
as_many start (end ∷ ends) labels = ap suc (as_many end ends labels)

-- none begins past the last label
pub ends_ascend : (start : ℕ) (ends : List ℕ) (last : ℕ) → AreEnds start ends last → start ≤ last
ends_ascend start [] last same = omega arith
ends_ascend start (end ∷ ends) last (before, later) = let rest = ends_ascend end ends last later in omega arith

-- each begins at the end of the one before, which is not past its own
pub ends_within : (start : ℕ) (ends : List ℕ) (last n end d : ℕ) → AreEnds start ends last → slice_get ends n ≡ Some end → (get_or (start ∷ ends) n d ≤ end) × (end ≤ last)
ends_within start [] last n end d are there = absurd (none-some end there)
ends_within start (first ∷ ends) last zero end d (before, later) there =
    let same : first ≡ end = same_Some first end there in
    let within = ends_ascend first ends last later in
    (omega arith, omega arith)
ends_within start (first ∷ ends) last (suc n) end d (before, later) there = ends_within first ends last n end d later there

-- its labels stand between the two
pub run_there : (start : ℕ) (ends : List ℕ) (labels : List Label) (n end d : ℕ) → slice_get ends n ≡ Some end →
    slice_get (runs_from start ends labels) n ≡ Some (slice_range labels (get_or (start ∷ ends) n d) end)
run_there start [] labels n end d there = absurd (none-some end there)
run_there start (first ∷ ends) labels zero end d there = ap (λ e. Some (slice_range labels start e)) (same_Some first end there)
run_there start (first ∷ ends) labels (suc n) end d there = run_there first ends labels n end d there

-- labels put after the others change no run
range_kept : (xs ys : List Label) (start end : ℕ) → start ≤ end → end ≤ length xs → slice_range (xs ++ ys) start end ≡ slice_range xs start end
range_kept xs ys start end before within =
    let fits : end - start ≤ length (drop start xs) = let e = length-drop start xs in omega arith in
    ap (take (end - start)) (drop-append-le start xs ys (omega arith)) ∙ take-append-le (end - start) (drop start xs) ys fits

range_put : (xs ys : List Label) → slice_range (xs ++ ys) (length xs) (length (xs ++ ys)) ≡ ys
range_put xs ys = ap (take (length (xs ++ ys) - length xs)) (drop-append_seam xs ys) ∙ take_all (length (xs ++ ys) - length xs) ys (let e = length-append xs ys in omega arith)

-- a run is put after the others
pub run_put : (start : ℕ) (ends : List ℕ) (labels run : List Label) → AreEnds start ends (length labels) →
    runs_from start (ends ++ length (labels ++ run) ∷ []) (labels ++ run) ≡ runs_from start ends labels ++ run ∷ []
run_put start [] labels run same = ap (λ r. r ∷ []) (ap (λ s. slice_range (labels ++ run) s (length (labels ++ run))) same ∙ range_put labels run)
run_put start (end ∷ ends) labels run (before, later) =
    let within = ends_ascend end ends (length labels) later in
    let kept = range_kept labels run start end before within in
    let rest = run_put end ends labels run later in
    cc

pub end_put : (start : ℕ) (ends : List ℕ) (last new : ℕ) → AreEnds start ends last → last ≤ new → AreEnds start (ends ++ new ∷ []) new
end_put start [] last new same within = (omega arith, refl)
end_put start (end ∷ ends) last new (before, later) within = (before, end_put end ends last new later within)

-- after a run is put there, it is the last one that the two lists in memory hold
pub runs_after : (ends after : List ℕ) (labels longer run : List Label) (len : ℕ) → AreEnds 0 ends (length labels) → longer ≡ labels ++ run → len ≡ length longer → after ≡ ends ++ len ∷ [] →
    runs_from 0 after longer ≡ runs_from 0 ends labels ++ run ∷ []
runs_after ends after labels longer run len are longer_is len_is after_is =
    let after_is' : after ≡ ends ++ length (labels ++ run) ∷ [] = after_is ∙ ap (λ n. ends ++ n ∷ []) (len_is ∙ ap length longer_is) in
    ap (λ es. runs_from 0 es longer) after_is' ∙ ap (runs_from 0 (ends ++ length (labels ++ run) ∷ [])) longer_is ∙ run_put 0 ends labels run are

pub ends_after : (ends after : List ℕ) (labels longer run : List Label) (len : ℕ) → AreEnds 0 ends (length labels) → longer ≡ labels ++ run → len ≡ length longer → after ≡ ends ++ len ∷ [] →
    AreEnds 0 after (length longer)
ends_after ends after labels longer run len are longer_is len_is after_is =
    let more : length labels ≤ length longer = (let e = ap length longer_is ∙ length-append labels run in omega arith) in
    subst (λ es. AreEnds 0 es (length longer)) (sym (after_is ∙ ap (λ n. ends ++ n ∷ []) len_is)) (end_put 0 ends (length labels) (length longer) are more)

-- no run is left where no end is
pub none_left : (start : ℕ) (ends : List ℕ) (labels : List Label) → length ends ≡ 0 → runs_from start ends labels ≡ []
none_left start [] labels none = refl
none_left start (end ∷ ends) labels none = absurd (omega (arith, none))

pub none_begun : (ends : List ℕ) (labels : List Label) → ends ≡ [] → labels ≡ [] → AreEnds 0 ends (length labels)
none_begun ends labels no_end no_label = subst (λ es. AreEnds 0 es (length labels)) (sym no_end) (sym (ap length no_label))

-- ---- a run by its number

-- the end that a look-up found
pub found_end : (ends : List ℕ) (n end : ℕ) → n < length ends → end ≡ get_or ends n end → slice_get ends n ≡ Some end
found_end ends n end within is = slice_get-get_or ends n end within ∙ ap Some (sym is)

pub begins_before : (ends : List ℕ) (labels : List Label) (n start end : ℕ) → AreEnds 0 ends (length labels) → slice_get ends n ≡ Some end → start ≡ get_or (0 ∷ ends) n start → (start ≤ end) × (end ≤ length labels)
begins_before ends labels n start end are there begins =
    let within = ends_within 0 ends (length labels) n end start are there in
    (subst (λ s. s ≤ end) (sym begins) within.0, within.1)

pub run_is : (ends : List ℕ) (labels : List Label) (n start end : ℕ) → slice_get ends n ≡ Some end → start ≡ get_or (0 ∷ ends) n start →
    slice_get (runs_from 0 ends labels) n ≡ Some (slice_range labels start end)
run_is ends labels n start end there begins = run_there 0 ends labels n end start there ∙ ap (λ s. Some (slice_range labels s end)) (sym begins)
