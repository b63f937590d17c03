-- The gaps of a program, listed in the order of their numbers.
use Rattle.tso_program.proofs.Vocabulary.{◌≡◌, ℕ, zero, suc, ◌+◌, ◌-◌, ◌<◌, ◌≤◌, Bool, true, false, ◌&&◌, List, [], ◌∷◌, ◌++◌, length, take, Option, Some, None, refl, sym, ap, subst, ◌∙◌, arith, inl, inr, ◌↔◌, map, slice_get, nat_lt, nat_le, IfSome}
use Rattle.tso_program.proofs.Vocabulary.{if◌then◌else◌, range_with_len, cases_lt, slice_get-get_or, length-map-range_with_len, get_or-map-range_with_len, Thread, code_of, gap_count, gap_number, gap_place, gaps_of_thread, places_from}
use Rattle.tso_program.proofs.Gaps.{count_first, gap_facts, gap_is}

in_front : {X : Type 0} (xs ys : List X) (i : ℕ) → i < length xs → slice_get (xs ++ ys) i ≡ slice_get xs i
in_front [] ys i h = absurd (omega arith)
in_front (x ∷ xs) ys zero h = refl
in_front (x ∷ xs) ys (suc i) h = in_front xs ys i (omega arith)

pub behind : {X : Type 0} (xs ys : List X) (i : ℕ) → slice_get (xs ++ ys) (length xs + i) ≡ slice_get ys i
behind [] ys i = ap (slice_get ys) (let e : 0 + i ≡ i = omega arith in e)
behind (x ∷ xs) ys i = ap (slice_get (x ∷ (xs ++ ys))) (let e : suc (length xs) + i ≡ suc (length xs + i) = omega arith in e) ∙ behind xs ys i

-- a number is that of a gap, which is listed there, or it is past all gaps
data IsListed (t : ℕ) (threads : List Thread) (gap : ℕ) : Type 0 where
  there : (u k : ℕ) → slice_get (places_from t threads) gap ≡ Some (t + u, k) → gap_number threads u k ≡ Some gap → IsListed t threads gap
  past : slice_get (places_from t threads) gap ≡ None → ((u k : ℕ) → gap_number threads u k ≡ Some gap → ⊥) → IsListed t threads gap

shifted : (b : Bool) (m n gap : ℕ) → (if b then Some n else None) ≡ Some gap → (if b then Some (m + n) else None) ≡ Some (m + gap)
shifted true m n gap e = ap (λ k. Some (m + k)) (let q : n ≡ gap = cc in q)
shifted false m n gap e = absurd cc

-- a gap's number with one more thread before it
later : (x : Thread) (xs : List Thread) (u k gap : ℕ) → gap_number xs u k ≡ Some gap → gap_number (x ∷ xs) (suc u) k ≡ Some (gaps_of_thread x + gap)
later x xs u k gap e =
    let there : Bool = nat_le 1 k && nat_lt k (length (code_of xs u)) in
    let sum : gap_count (x ∷ take u xs) + (k - 1) ≡ gaps_of_thread x + (gap_count (take u xs) + (k - 1)) = omega (arith, count_first x (take u xs)) in
    ap (λ n. if there then Some n else None) sum ∙ shifted there (gaps_of_thread x) (gap_count (take u xs) + (k - 1)) gap e

earlier : (b : Bool) (m n gap : ℕ) → m ≤ gap → (if b then Some (m + n) else None) ≡ Some gap → (if b then Some n else None) ≡ Some (gap - m)
earlier true m n gap h e = let q : m + n ≡ gap = cc in ap Some (let k : n ≡ gap - m = omega arith in k)
earlier false m n gap h e = absurd cc

-- a number past the gaps of the first thread and of no gap of the others is of no gap
not_here : (x : Thread) (xs : List Thread) (gap : ℕ) → gaps_of_thread x ≤ gap → ((u k : ℕ) → gap_number xs u k ≡ Some (gap - gaps_of_thread x) → ⊥)
    → (u k : ℕ) → gap_number (x ∷ xs) u k ≡ Some gap → ⊥
not_here x xs gap h none zero k e =
    let p = gap_facts (x ∷ xs) 0 k gap e in
    omega arith
not_here x xs gap h none (suc u) k e =
    let there : Bool = nat_le 1 k && nat_lt k (length (code_of xs u)) in
    let sum : gaps_of_thread x + (gap_count (take u xs) + (k - 1)) ≡ gap_count (x ∷ take u xs) + (k - 1) = omega (arith, count_first x (take u xs)) in
    none u k (earlier there (gaps_of_thread x) (gap_count (take u xs) + (k - 1)) gap h (ap (λ n. if there then Some n else None) sum ∙ e))

-- the gaps of thread t, which come first
abbrev front : ℕ → Thread → List (ℕ × ℕ)
front t x = map (λ k. (t, k)) (range_with_len 1 (gaps_of_thread x))

front_long : (t : ℕ) (x : Thread) → length (front t x) ≡ gaps_of_thread x
front_long t x = length-map-range_with_len (λ k. (t, k)) 1 (gaps_of_thread x)

here : (t : ℕ) (x : Thread) (rest : List (ℕ × ℕ)) (gap : ℕ) → gap < gaps_of_thread x → slice_get (front t x ++ rest) gap ≡ Some (t + 0, gap + 1)
here t x rest gap h =
    let long = front_long t x in
    let e : t ≡ t + 0 = omega arith in
    in_front (front t x) rest gap (omega arith) ∙ slice_get-get_or (front t x) gap (t, gap + 1) (omega arith)
    ∙ ap (λ p. Some p) (get_or-map-range_with_len (λ k. (t, k)) 1 (gaps_of_thread x) gap (gap + 1) (t, gap + 1) h (omega arith)) ∙ ap (λ u. Some (u, gap + 1)) e

skipped : (t : ℕ) (x : Thread) (rest : List (ℕ × ℕ)) (gap : ℕ) → gaps_of_thread x ≤ gap → slice_get (front t x ++ rest) gap ≡ slice_get rest (gap - gaps_of_thread x)
skipped t x rest gap h =
    let long = front_long t x in
    let e : gap ≡ length (front t x) + (gap - gaps_of_thread x) = omega arith in
    ap (slice_get (front t x ++ rest)) e ∙ behind (front t x) rest (gap - gaps_of_thread x)

onward : (t : ℕ) (x : Thread) (xs : List Thread) (gap : ℕ) → gaps_of_thread x ≤ gap → IsListed (t + 1) xs (gap - gaps_of_thread x) → IsListed t (x ∷ xs) gap
onward t x xs gap h (there u k place number) =
    let e : t + 1 + u ≡ t + suc u = omega arith in
    let n : gaps_of_thread x + (gap - gaps_of_thread x) ≡ gap = omega arith in
    there (suc u) k
    (skipped t x (places_from (t + 1) xs) gap h ∙ place ∙ ap (λ v. Some (v, k)) e)
    (later x xs u k (gap - gaps_of_thread x) number ∙ ap (λ m. Some m) n)
onward t x xs gap h (past place none) = past (skipped t x (places_from (t + 1) xs) gap h ∙ place) (not_here x xs gap h none)

none_of_none : (gap : ℕ) → (u k : ℕ) → gap_number [] u k ≡ Some gap → ⊥
none_of_none gap u k e = omega (arith, (gap_facts [] u k gap e).high)

-- each number is listed, or past all gaps
listed : (t : ℕ) (threads : List Thread) (gap : ℕ) → IsListed t threads gap
listed t [] gap = past refl (none_of_none gap)
listed t (x ∷ xs) gap =
    elim (cases_lt gap (gaps_of_thread x)) [
      | inl h ↦ there 0 (gap + 1) (here t x (places_from (t + 1) xs) gap h) (gap_is (x ∷ xs) 0 (gap + 1) gap (omega arith) (omega arith) (omega arith))
      | inr h ↦ onward t x xs gap h (listed (t + 1) xs (gap - gaps_of_thread x))
    ]

-- the gap of a number is listed there
found_place : (s : ℕ) (threads : List Thread) (t k gap : ℕ) → gap_number threads t k ≡ Some gap → slice_get (places_from s threads) gap ≡ Some (s + t, k)
found_place s [] t k gap e = absurd (none_of_none gap t k e)
found_place s (x ∷ xs) zero k gap e =
    let p = gap_facts (x ∷ xs) 0 k gap e in
    let within : gap < gaps_of_thread x = omega arith in
    let next : gap + 1 ≡ k = omega arith in
    here s x (places_from (s + 1) xs) gap within ∙ ap (λ k. Some (s + 0, k)) next
found_place s (x ∷ xs) (suc t) k gap e =
    let number = (gap_facts (x ∷ xs) (suc t) k gap e).number in
    let past_first : gaps_of_thread x ≤ gap = omega (arith, count_first x (take t xs)) in
    let there : Bool = nat_le 1 k && nat_lt k (length (code_of xs t)) in
    let sum : gaps_of_thread x + (gap_count (take t xs) + (k - 1)) ≡ gap_count (x ∷ take t xs) + (k - 1) = omega (arith, count_first x (take t xs)) in
    let rest : gap_number xs t k ≡ Some (gap - gaps_of_thread x) = earlier there (gaps_of_thread x) (gap_count (take t xs) + (k - 1)) gap past_first (ap (λ n. if there then Some n else None) sum ∙ e) in
    skipped s x (places_from (s + 1) xs) gap past_first
    ∙ found_place (s + 1) xs t k (gap - gaps_of_thread x) rest
    ∙ ap (λ u. Some (u, k)) (let q : s + 1 + t ≡ s + suc t = omega arith in q)

abbrev HasNumber : List Thread → ℕ → Option (ℕ × ℕ) → Type 0
HasNumber threads gap found = IfSome found (λ place. gap_number threads place.0 place.1 ≡ Some gap)

-- a gap that is listed there is the one of that number
place_number : (threads : List Thread) (gap t k : ℕ) → slice_get (places_from 0 threads) gap ≡ Some (t, k) → gap_number threads t k ≡ Some gap
place_number threads gap t k e = subst (HasNumber threads gap) e (go (listed 0 threads gap))
  where
    go : IsListed 0 threads gap → HasNumber threads gap (slice_get (places_from 0 threads) gap)
    go (there u k place is) = subst (HasNumber threads gap) (sym place) (subst (λ v. gap_number threads v k ≡ Some gap) (let q : u ≡ 0 + u = omega arith in q) is)
    go (past place none) = subst (HasNumber threads gap) (sym place) tt

-- a gap lies where its number is that of the place
pub places_are_numbered : (threads : List Thread) (gap t k : ℕ) → (gap_place threads gap ≡ Some (t, k)) ↔ (gap_number threads t k ≡ Some gap)
places_are_numbered threads gap t k = (
  place_number threads gap t k,
  λ e. found_place 0 threads t k gap e ∙ ap (λ u. Some (u, k)) (let q : 0 + t ≡ t = omega arith in q),
)

-- a number of no gap has no place
pub no_place : (threads : List Thread) (gap : ℕ) → ((t k : ℕ) → gap_number threads t k ≡ Some gap → ⊥) → gap_place threads gap ≡ None
no_place threads gap none = go (gap_place threads gap) refl
  where
    go : (found : Option (ℕ × ℕ)) → gap_place threads gap ≡ found → gap_place threads gap ≡ None
    go None e = e
    go (Some (t, k)) e = absurd (none t k (place_number threads gap t k e))
