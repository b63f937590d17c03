-- Leaves within the limits of a certificate.
use Rattle.cover_search.proofs.Vocabulary.{◌≡◌, ◌≢◌, ℕ, suc, ◌<◌, List, [], ◌∷◌, Contains, get_or, length, map, refl, sym, ap, ◌∙◌, subst, arith, AllPairs, AllByRecursion, ◌^◌, length-map, Event, Kind, ProgramSketch, IsSimpleCycle, AccessId, Cycle, Known}
use Rattle.cover_search.proofs.Vocabulary.{event_of, IsNeat, HasSmallNumbers, AreFewAccesses, first_is_here, later_is_here}
use Rattle.cert_forest.specs.Limits as limits

small_one : (a : AccessId) → HasSmallNumbers (event_of a) → limits.IsAccessId a
small_one a small = ((let h = small.0 in omega arith), (let h = small.1 in omega arith))

all_small : (accesses : List AccessId) → ((e : Event) → Contains (map event_of accesses) e → HasSmallNumbers e) → AllByRecursion limits.IsAccessId accesses
all_small [] small = tt
all_small (a ∷ rest) small = (
  small_one a (small (event_of a) (first_is_here (event_of a) (map event_of rest))),
  all_small rest (λ e here. small e (later_is_here (event_of a) (map event_of rest) e here)),
)

mapped_at : (accesses : List AccessId) (i : ℕ) (d : AccessId) → get_or (map event_of accesses) i (event_of d) ≡ event_of (get_or accesses i d)
mapped_at (a ∷ rest) (suc i) d = mapped_at rest i d
mapped_at accesses i d = refl

-- the accesses of distinct events are distinct
all_other : (accesses : List AccessId) → AllPairs (λ d e. d ≢ e) (map event_of accesses) → AllPairs (λ a b. a ≢ b) accesses
all_other accesses pairs i j d h l same =
    pairs i j (event_of d) h (subst (λ n. j < n) (sym (length-map accesses event_of)) l) (mapped_at accesses i d ∙ ap event_of same ∙ sym (mapped_at accesses j d))

-- a cycle with no event twice
pub neat_cycle : (s : ProgramSketch) (kind : Kind) (accesses : List AccessId) (es : List Event) → map event_of accesses ≡ es → IsSimpleCycle s kind es → AreFewAccesses s es → IsNeat (Cycle kind accesses)
neat_cycle s kind accesses es same simple few = record {
  numbers = (
    (let long = sym (length-map accesses event_of) ∙ ap length same in let h = few.few in omega arith),
    all_small accesses (λ e here. few.small e (subst (λ (xs : List Event). Contains xs e) same here)),
  );
  simple = all_other accesses (subst (AllPairs (λ d e. d ≢ e)) (sym same) simple.distinct);
}

-- an outcome's number
pub neat_known : (number : ℕ) → number < 2 ^ 64 → IsNeat (Known number)
neat_known number h = record { numbers = h; simple = tt }
