-- The answers of the examples, computed.
use Rattle.the_answer.proofs.Vocabulary.{◌≡◌, ℕ, List, [], ◌∷◌, ◌||◌, Bool, true, false, nat_eq, refl, sym, ap, ◌∙◌, nat_cmp_total, these, the_answer, fun_ext}
use Rattle.std.specs.FinSet as set
use Rattle.tso_machine.specs.Examples.{store_buffering, r, n6, locked_exchange}
use Rattle.the_answer.specs.Examples.{asked_whole, observed_n6, RIsAnswered, N6IsAnswered, ObservedN6IsAnswered, LockedExchangeIsAnswered}
use Rattle.the_answer.proofs.Computed.{show_listed, serve_by, answer_is_list, show_by}

-- a set of two gaps, in either order
or_swap : (a b : Bool) → (a || (b || false)) ≡ (b || (a || false))
or_swap true true = refl
or_swap a b = refl

either_order : (a b : ℕ) → these (a ∷ b ∷ []) ≡ these (b ∷ a ∷ [])
either_order a b =
    set.same_set nat_cmp_total set.nat_cmp-IsAntisymmetric _ _
    (λ k. set.contains-from_list_nat (a ∷ b ∷ []) k ∙ or_swap (nat_eq a k) (nat_eq b k) ∙ sym (set.contains-from_list_nat (b ∷ a ∷ []) k))

pub both_gaps : (costs : List ℕ) → the_answer (asked_whole store_buffering) costs ≡ these (0 ∷ 1 ∷ [])
unfolding serve_by
both_gaps costs = answer_is_list (asked_whole store_buffering) (λ o. o) costs (1 ∷ 0 ∷ []) refl refl ∙ either_order 1 0

pub r_is_answered : RIsAnswered
unfolding serve_by
r_is_answered = answer_is_list (asked_whole r) (λ o. o) (1 ∷ 1 ∷ []) (1 ∷ []) refl refl

pub n6_is_answered : N6IsAnswered
unfolding serve_by
n6_is_answered = (answer_is_list (asked_whole n6) (λ o. o) (1 ∷ 1 ∷ 1 ∷ []) (0 ∷ []) refl refl, answer_is_list (asked_whole n6) (λ o. o) (5 ∷ 1 ∷ 1 ∷ []) (1 ∷ []) refl refl)

-- each set serves where that register alone is shown, and the empty one costs nothing
pub observed_n6_is_answered : ObservedN6IsAnswered
unfolding serve_by
observed_n6_is_answered = answer_is_list observed_n6 (show_listed (1 ∷ [])) (1 ∷ 1 ∷ 1 ∷ []) [] (ap show_by (fun_ext (λ k. set.contains-from_list_nat (1 ∷ []) k))) refl

pub locked_exchange_is_answered : LockedExchangeIsAnswered
unfolding serve_by
locked_exchange_is_answered = answer_is_list (asked_whole locked_exchange) (λ o. o) (1 ∷ 1 ∷ 1 ∷ []) (2 ∷ []) refl refl
