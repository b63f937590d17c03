-- One of the steps of a run that passes a gap passes it.
use Rattle.placed_text.proofs.Vocabulary.{◌≡◌, ◌∙◌, ◌==◌, ◌&&◌, ℕ, suc, Bool, true, false, List, [], ◌∷◌, Option, Some, None, arith, nat_tests, ap, refl, sym, subst, eq-eqb, length, Listing, Label, Litmus}
use Rattle.std.specs.List.{list_any}
use Rattle.std.specs.Prelude.{◌||◌, not, option_and_then}
use Rattle.std.specs.Option.{option_map_or}
use Rattle.std.proofs.Common.{◌⊎◌, inl, inr}
use Rattle.std.proofs.lemmas.Bool.{or_cases}
use Rattle.tso_program.specs.{Fences.Gaps, Listings.gap_number}
use Rattle.tso_machine.specs.declared.label.Label.{TheVariants.Exec, TheVariants.Flush}
use Rattle.tso_machine.specs.{declared.label.Pending.Pending, declared.stepping.Step.Step, Faults.thread_of}
use Rattle.tso_machine.specs.Machine.{Machine, StoreBufferMachine, State, no_gaps, start, is_empty, step, passes, passes_at}
use Rattle.tso_machine.specs.Steps.{AreSteps, thread_at}
use Rattle.tso_machine.proofs.UnfencedRuns.{unfenced}
use Rattle.placed_text.specs.MarkedTables.{IsMarkedTableOf, marked_table, passes_from, passes_gap}
use Rattle.run_views.specs.Tables.{table_text}

some_of : (o : Option State) (z : State) → option_and_then (λ (s : State). Some s) o ≡ Some z → o ≡ Some z
some_of None z e = absurd cc
some_of (Some s) z e = e

-- what one step passes
parts : (u t place k : ℕ) (empty : Bool) → ((u == t) && ((place == k) && not empty)) ≡ true → (u ≡ t) × (place ≡ k) × (empty ≡ false)
parts u t place k true e = absurd (grind (arith, nat_tests))
parts u t place k false e = (grind (arith, nat_tests), grind (arith, nat_tests), refl)

has_some : (n : ℕ) → not (suc n == 0) ≡ true
has_some n = grind (arith, nat_tests)

waits : (ws : List Pending) → is_empty ws ≡ false → not (length ws == 0) ≡ true
waits [] e = absurd cc
waits (w ∷ ws) e = has_some (length ws)

here_or_later : (a b : Bool) → (a ≡ true) ⊎ (b ≡ true) → (a || b) ≡ true
here_or_later true b e = refl
here_or_later false true e = refl
here_or_later false false (inl e) = e
here_or_later false false (inr e) = e

module _ (p : Listing) (gaps : Gaps) (gap : ℕ) where
  unfenced_step : (s z : State) (l : Label) → step p (StoreBufferMachine gaps) s l ≡ Some z → step p (StoreBufferMachine no_gaps) s l ≡ Some z
  unfenced_step s z l e = some_of _ z (unfenced p gaps (l ∷ []) s z (ap (option_and_then (λ (s : State). Some s)) e))

  is_passed : (o : Option ℕ) (b : Bool) → o ≡ Some gap → b ≡ true → (option_map_or (λ number. number == gap) o false && b) ≡ true
  is_passed o b number waiting = rw (number, waiting, eq-eqb gap gap refl) refl

  passed_now : (s : State) (l : Label) (t k : ℕ) → gap_number p.threads t k ≡ Some gap → passes_at s l t k ≡ true → passes_from p.threads gap l (thread_at s (thread_of l)) ≡ true
  passed_now s (Flush u) t k number h = absurd cc
  passed_now s (Exec u) t k number h =
      let (same, here, waiting) = parts u t (s.locals t).place k (is_empty (s.buffers t)) h in
      subst (λ (v : ℕ). passes_from p.threads gap (Exec v) (thread_at s v) ≡ true) (sym same)
      (is_passed _ _ (ap (gap_number p.threads t) here ∙ number) (waits (s.buffers t) waiting))

  -- one of the steps of a run that passes the gap where none is fenced
  pub one_passes : (s : State) (labels : List Label) (steps : List Step) (t k : ℕ) → gap_number p.threads t k ≡ Some gap → AreSteps p (StoreBufferMachine gaps) s labels steps
      → passes p (StoreBufferMachine no_gaps) s labels t k ≡ true → list_any (passes_gap p.threads gap) steps ≡ true
  one_passes s [] steps t k number are h = absurd cc
  one_passes s (l ∷ ls) [] t k number are h = absurd are
  one_passes s (l ∷ ls) (made ∷ more) t k number (next, stepped, between, rest) h =
      here_or_later (passes_gap p.threads gap made) (list_any (passes_gap p.threads gap) more) (elim (or_cases (passes_at s l t k) (passes p (StoreBufferMachine no_gaps) next ls t k) (rw (unfenced_step s next l stepped) at h)) [
        | inl now ↦ inl (rw (between.labelled, between.from) (passed_now s l t k number now))
        | inr later ↦ inr (one_passes next ls more t k number rest later)
      ])

-- the table of steps, one of which passes the gap
module _ (source : Litmus Listing) (machine : Machine) (labels : List Label) (gap : ℕ) where
  pub marked_of : (steps drawn tested : List Step) (table marked text : List ℕ) → AreSteps source.program machine (start source.program) labels steps
      → list_any (passes_gap source.program.threads gap) steps ≡ true → drawn ≡ steps → tested ≡ steps → table ≡ table_text source drawn
      → marked ≡ marked_table source.program.threads gap tested table → text ≡ marked → IsMarkedTableOf source machine labels gap text
  marked_of steps drawn tested table marked text made passing same also is_table is_marked is = record {
    steps = steps;
    made = made;
    passing = passing;
    marked = is ∙ is_marked ∙ ap (λ (ss : List Step). marked_table source.program.threads gap ss table) also
        ∙ ap (λ (bs : List ℕ). marked_table source.program.threads gap steps bs) (is_table ∙ ap (λ (ss : List Step). table_text source ss) same);
  }
