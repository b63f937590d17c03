-- The reads of a consistent candidate take values that their locations may hold.
use Rattle.candidate_executions.proofs.Vocabulary.{◌≡◌, ℕ, List, Some, None, slice_get, length, map, range_with_len, refl, sym, ap, ◌∙◌, subst, arith, same_Some, length-map-range_with_len, get_or-map-range_with_len, Listing, Outcome}
use Rattle.candidate_executions.proofs.Vocabulary.{Machine, Access, Initial, At, Candidate, trace_of, EndsWith, HasOutcome, IsHeldValue, ReadsHeldValues}
use Rattle.candidate_executions.proofs.Vocabulary.{ConsistentCandidatesReadHeldValues, EachConsistentCompletionHasAHeldValue}
use Rattle.candidate_executions.proofs.{Candidates.LastWrites.ends_with, FromRuns.RunsAreCandidates.every_held_run, FromRuns.SameAccesses.same_accesses, Sketches.Choices.value, ToRuns.CandidatesAreRuns.every_candidate}

module _ (p : Listing) (mode : Machine) (c : Candidate) where
  abbrev last_value : ℕ → ℕ
  last_value l = (ends_with p mode c l).0

  -- what the candidate leaves
  abbrev left : Outcome
  left = record {
    registers = map (λ t. (trace_of p mode c t).last.registers) (range_with_len 0 (length p.threads));
    memory = map last_value (range_with_len 0 (length p.memory));
  }

  is_left : HasOutcome p mode c left
  is_left = record {
    registers = refl;
    long = length-map-range_with_len last_value 0 (length p.memory);
    memory = λ l b. subst (λ v. EndsWith p mode c l v) (sym (get_or-map-range_with_len last_value 0 (length p.memory) l l 0 b (omega arith))) ((ends_with p mode c l).1);
  }

pub held_reads : ConsistentCandidatesReadHeldValues
held_reads p mode c forward is ok =
    let (labels, runs, of) = every_candidate p mode c (left p mode c) is ok (is_left p mode c) in
    let (d, too, consistent, out, also_of, held) = every_held_run p mode labels (left p mode c) forward runs in
    of_run d held (same_accesses p mode labels c d is too of also_of)
  where
    of_run : (d : Candidate) → ReadsHeldValues p mode d → ((t : ℕ) → (trace_of p mode c t).accesses ≡ (trace_of p mode d t).accesses) → ReadsHeldValues p mode c
    of_run d held same (Initial l) x v a r = absurd (let z : None ≡ x.read = ap (λ (z : Access). z.read) (same_Some _ x a) in let y : None ≡ Some v = z ∙ r in cc)
    of_run d held same (At t i) x v a r = held (At t i) x v (ap (λ (xs : List Access). slice_get xs i) (sym (same t)) ∙ a) r

pub each_has_a_held_value : EachConsistentCompletionHasAHeldValue
each_has_a_held_value p mode k c t l forward fits is next =
    value p mode k c fits is.is_candidate is.completes forward (IsHeldValue p) (held_reads p mode c forward is.is_candidate is.consistent) t l next
