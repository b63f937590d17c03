use Rattle.fence_place.proofs.Vocabulary.{◌≡◌, ◌∙◌, ◌<◌, ◌≤◌, ℕ, List, [], ◌∷◌, ◌++◌, Some, None, inl, inr, length, length-append, sym, ap, subst, arith, none-some, slice_get, slice_get_within, AreNumbersOf, slice_get_cases}
use Rattle.fence_place.proofs.Recording.{numbered_more, of_nodes_more, still_distinct}
use Rattle.fence_place.proofs.certificates.listed_runs.Goals as goal

none_past : {A : Type 0} (l : List A) (k : ℕ) → slice_get l k ≡ None → length l ≤ k
none_past l k e = elim (slice_get_cases l k).1 [ inl h ↦ absurd (none-some h.0 (sym e ∙ h.2)) | inr past ↦ past.0 ]

longer : (l : List ℕ) (x : ℕ) (n : ℕ) → length l < n → length (l ++ x ∷ []) ≤ n
longer l x n h = omega (arith, length-append l (x ∷ []))

pub loop-settled-preserved : goal.loop-settled-preserved
loop-settled-preserved c =
    let entries = c.args.finished.now.entries in
    let numbers = c.loop-settled.numbers.items in
    let runs = c.loop-settled.runs in
    let after = c.run_number.new.runs in
    let many : c.len.result ≡ length numbers = let a = c.loop-settled.numbers.ok.0 in let b = c.len.ensures in omega arith in
    let (e, found, is) = c.in-Some.ensures in
    let there : slice_get entries (length numbers) ≡ Some e = ap (slice_get entries) (sym many) ∙ found in
    let number = c.in_ok-number.number in
    let listed = c.in_ok-number.ensures in
    record {
      within = subst (λ l. length l ≤ length entries) (sym c.in_ok-push.ensures.items) (longer numbers number (length entries) (slice_get_within entries (length numbers) e there));
      numbered = subst (AreNumbersOf entries after) (sym c.in_ok-push.ensures.items) (numbered_more entries runs after numbers number e c.in-Some.settled there is listed c.loop-settled.invariant.numbered);
      of_nodes = of_nodes_more entries runs after numbers number e c.in-Some.settled there is listed c.loop-settled.invariant.of_nodes;
      once = still_distinct c.in-Some.settled.event number runs after listed c.loop-settled.invariant.once;
    }

pub returns-clause-as_many : goal.returns-clause-as_many
returns-clause-as_many c =
    let past : length c.args.finished.now.entries ≤ c.len.result = none_past c.args.finished.now.entries c.len.result c.in_default.ensures in
    let within : length c.loop-settled.numbers.items ≤ length c.args.finished.now.entries = c.loop-settled.invariant.within in
    let a = c.loop-settled.numbers.ok.0 in
    let b = c.len.ensures in
    omega arith
