-- The answer computes, where sets of gaps and of names are lists.
use Rattle.the_answer.proofs.Vocabulary.{◌≡◌, ℕ, zero, suc, ◌+◌, ◌&&◌, Bool, true, false, List, [], ◌∷◌, Option, Some, None, cond, sum_by, nat_eq, map, length, refl, ap, ◌∙◌, fun_ext, nat_lt, unwrap_or, slice_index, slice_index_or, if◌then◌else◌, list_any}
use Rattle.the_answer.proofs.Vocabulary.{filter, range_with_len, option_map, option_map_or, SetOfGaps, these, total-these, Listing, Outcome, Machine, SequentialMachine, StoreBufferMachine, start, outcomes_within, most_labels, outcomes_of, cost_of, Question}
use Rattle.the_answer.proofs.Vocabulary.{show, value_if, gap_count, gap_number, are_among, does_serve, cheaper, best_of, the_answer}
use Rattle.std.specs.FinSet as set
use Rattle.tso_program.specs.{Names.register_place, Names.location_place, declared.limits.TheConstants.MAX_THREADS}
use Rattle.gap_sets.specs.declared.gap_set.TheConstants.{MAX_GAPS}
use Rattle.tso_machine.specs.TieLaws.{untied}

-- the set of a list has these numbers
abbrev pub is_listed : List ℕ → ℕ → Bool
is_listed xs k = list_any (λ y. nat_eq y k) xs

-- what is shown of an outcome, by a test of places
abbrev pub show_by : (ℕ → Bool) → Outcome → Outcome
show_by has o = record {
  registers = map (λ t. map (λ r. value_if (nat_lt t MAX_THREADS && has (register_place t r)) (slice_index (slice_index_or o.registers t []) r)) (range_with_len 0 (length (slice_index_or o.registers t []))))
      (range_with_len 0 (length o.registers));
  memory = map (λ l. value_if (has (location_place l)) (slice_index o.memory l)) (range_with_len 0 (length o.memory));
}

-- what is shown, by the list of the names
abbrev pub show_listed : List ℕ → Outcome → Outcome
show_listed names = show_by (is_listed names)

module _ (seen : Outcome → Outcome) (p : Listing) where
  -- the outcomes, seen so
  abbrev outcomes_by : Machine → List Outcome
  outcomes_by mode = map seen (outcomes_within p mode (most_labels p) (start p))

  -- the test of a set by its gaps
  unfoldable pub serve_by : (ℕ → Bool) → Bool
  serve_by has = are_among (outcomes_by (StoreBufferMachine (λ t k. option_map_or has (gap_number p.threads t k) false))) (outcomes_by SequentialMachine)

-- what a list of gaps costs
abbrev pub total_by : List ℕ → List ℕ → ℕ
total_by costs gaps = sum_by (cost_of costs) (filter (is_listed gaps) (range_with_len 0 MAX_GAPS))

abbrev pub cheaper_by : List ℕ → Option (List ℕ) → Option (List ℕ) → Option (List ℕ)
cheaper_by costs None other = other
cheaper_by costs (Some gaps) None = Some gaps
cheaper_by costs (Some gaps) (Some other) = Some (if nat_lt (total_by costs other) (total_by costs gaps) then other else gaps)

-- the best list
abbrev pub best_by : (List ℕ → Bool) → List ℕ → ℕ → ℕ → List ℕ → Option (List ℕ)
best_by test costs zero gap chosen = if test chosen then Some chosen else None
best_by test costs (suc n) gap chosen = cheaper_by costs (best_by test costs n (gap + 1) (gap ∷ chosen)) (best_by test costs n (gap + 1) chosen)

served : (q : Question) (seen : Outcome → Outcome) → show q.shown ≡ seen → (gaps : List ℕ) → does_serve (untied q) (these gaps) ≡ serve_by seen q.program (is_listed gaps)
unfolding does_serve outcomes_of serve_by
served q seen same gaps =
    ap (λ (view : Outcome → Outcome). serve_by view q.program (set.contains (these gaps))) same
    ∙ ap (serve_by seen q.program) (fun_ext (λ k. set.contains-from_list_nat gaps k))

-- a choice among lists is that among their sets
chosen_set : (b : Bool) (gaps other : List ℕ) → ◌≡◌ {A = Option SetOfGaps} (Some (cond b (these other) (these gaps))) (Some (these (cond b other gaps)))
chosen_set true gaps other = refl
chosen_set false gaps other = refl

alone_set : (b : Bool) (gaps : List ℕ) → ◌≡◌ {A = Option SetOfGaps} (cond b (Some (these gaps)) None) (option_map these (cond b (Some gaps) None))
alone_set true gaps = refl
alone_set false gaps = refl

cheaper_set : (costs : List ℕ) (first second : Option (List ℕ)) → cheaper costs (option_map these first) (option_map these second) ≡ option_map these (cheaper_by costs first second)
cheaper_set costs (Some gaps) (Some other) =
    (λ i. Some (cond (nat_lt (total-these costs other i) (total-these costs gaps i)) (these other) (these gaps)))
    ∙ chosen_set (nat_lt (total_by costs other) (total_by costs gaps)) gaps other
cheaper_set costs first second = refl

best_set : (test : SetOfGaps → Bool) (by : List ℕ → Bool) (costs : List ℕ) (n gap : ℕ) (chosen : List ℕ) → ((gaps : List ℕ) → test (these gaps) ≡ by gaps) →
    best_of test costs n gap (these chosen) ≡ option_map these (best_by by costs n gap chosen)
best_set test by costs zero gap chosen same = (λ i. cond (same chosen i) (Some (these chosen)) None) ∙ alone_set (by chosen) chosen
best_set test by costs (suc n) gap chosen same =
    (λ i. cheaper costs (best_set test by costs n (gap + 1) (gap ∷ chosen) same i) (best_set test by costs n (gap + 1) chosen same i))
    ∙ cheaper_set costs (best_by by costs n (gap + 1) (gap ∷ chosen)) (best_by by costs n (gap + 1) chosen)

-- the answer without ties, where the best list is known
pub answer_is_list : (q : Question) (seen : Outcome → Outcome) (costs gaps : List ℕ) → show q.shown ≡ seen →
    best_by (λ l. serve_by seen q.program (is_listed l)) costs (gap_count q.program.threads) 0 [] ≡ Some gaps → the_answer (untied q) costs ≡ these gaps
unfolding the_answer
answer_is_list q seen costs gaps same e =
    ap (λ (o : Option SetOfGaps). unwrap_or o set.empty)
    (best_set (does_serve (untied q)) (λ l. serve_by seen q.program (is_listed l)) costs (gap_count q.program.threads) 0 [] (served q seen same) ∙ ap (option_map these) e)
