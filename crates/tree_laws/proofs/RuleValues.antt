-- The values that a rule takes are values of the location, and each consistent completion takes one of them.
use Rattle.tree_laws.proofs.Vocabulary.{◌≡◌, ℕ, Some, Listing, JumpForward, Machine, Candidate, Sketch, Completes, IsConsistentCompletion, IsSketch, IsValueOf, next_read, with_value, Rule, Whole, Early, IsValueBy, each_has_a_value}
use Rattle.candidate_executions.proofs.{FromRuns.KnownValues.held_is_value, HeldReads.each_has_a_held_value}

pub is_value : (rule : Rule) (p : Listing) (l v : ℕ) → IsValueBy rule p l v → IsValueOf p l v
is_value Whole p l v is = is
is_value Early p l v held = held_is_value p l v held

pub each_has_a_value_by : (rule : Rule) (p : Listing) (mode : Machine) (k : Sketch) (c : Candidate) (t l : ℕ) → JumpForward p.threads → IsSketch p mode k →
    IsConsistentCompletion p mode k c → next_read p mode k t ≡ Some l → (v : ℕ) × IsValueBy rule p l v × Completes (with_value k t v) c
each_has_a_value_by Whole p mode k c t l forward fits is next = each_has_a_value p mode k c t l forward fits is.is_candidate is.completes next
each_has_a_value_by Early p mode k c t l forward fits is next = each_has_a_held_value p mode k c t l forward fits is next
