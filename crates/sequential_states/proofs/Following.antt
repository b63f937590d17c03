-- Lists that grow keep what holds of their places, and one more state that a step leads to.
use Rattle.sequential_states.proofs.Vocabulary.{◌≡◌, ℕ, suc, zero, ◌<◌, ◌≤◌, List, [], ◌∷◌, ◌++◌, Option, Some, None, length, refl, sym, ap, ◌∙◌, subst, arith, inl, inr, cases_lt, slice_get, slice_get_read, slice_get_within, slice_index_or, append_assoc, append-nil, length-append}
use Rattle.sequential_states.proofs.Vocabulary.{Listing, Exec, SequentialMachine, State, step, start, Shot, state_of, first_shot, IsStep, Arrival, Listed, IsListed, IsArrival, IsEntry, AreReached, IsFollowed, IsExplored, IsBeginning, IsNoted}
use Rattle.sequential_states.proofs.Steps.{state_of_first, is_there}

-- what is at a place of the beginning is at that place of the list
pub get_longer : {A : Type 0} (xs ys : List A) (k : ℕ) (x : A) → slice_get xs k ≡ Some x → slice_get (xs ++ ys) k ≡ Some x
get_longer [] ys k x e = absurd cc
get_longer (z ∷ xs) ys zero x e = e
get_longer (z ∷ xs) ys (suc k) x e = get_longer xs ys k x e

pub get_beginning : {A : Type 0} (xs ys : List A) (k : ℕ) (x : A) → k < length xs → slice_get (xs ++ ys) k ≡ Some x → slice_get xs k ≡ Some x
get_beginning [] ys k x h e = absurd (omega arith)
get_beginning (z ∷ xs) ys zero x h e = e
get_beginning (z ∷ xs) ys (suc k) x h e = get_beginning xs ys k x (omega arith) e

-- the element at the end, and its place
pub get_end : {A : Type 0} (xs : List A) (x : A) → slice_get (xs ++ x ∷ []) (length xs) ≡ Some x
get_end [] x = refl
get_end (z ∷ xs) x = get_end xs x

pub end_is : {A : Type 0} (xs : List A) (x y : A) (k : ℕ) → length xs ≤ k → slice_get (xs ++ x ∷ []) k ≡ Some y → (k ≡ length xs) × (x ≡ y)
end_is [] x y zero h e = (refl, cc)
end_is [] x y (suc k) h e = absurd cc
end_is (z ∷ xs) x y zero h e = absurd (omega arith)
end_is (z ∷ xs) x y (suc k) h e = let (a, b) = end_is xs x y k (omega arith) e in (ap suc a, b)

pub listed_longer : (xs ys : List Listed) (s : State) → IsListed xs s → IsListed (xs ++ ys) s
listed_longer xs ys s is = record { place = is.place; found = is.found; there = get_longer xs ys is.place is.found is.there; same = is.same }

pub begins_itself : (xs : List Listed) → IsBeginning xs xs
begins_itself xs = ([], sym (append-nil xs))

pub begins_on : (xs ys zs : List Listed) → IsBeginning xs ys → IsBeginning ys zs → IsBeginning xs zs
begins_on xs ys zs (a, e) (b, f) = (a ++ b, f ∙ ap (λ w. w ++ b) e ∙ append_assoc xs a b)

pub get_on : (xs ys : List Listed) (k : ℕ) (x : Listed) → IsBeginning xs ys → slice_get xs k ≡ Some x → slice_get ys k ≡ Some x
get_on xs ys k x (more, is) e = subst (λ (zs : List Listed). slice_get zs k ≡ Some x) (sym is) (get_longer xs more k x e)

-- what the index reads is at the place
pub read_at : (xs inside : List Listed) (k : ℕ) (x : Listed) → k < length xs → x ≡ slice_index_or inside k x → inside ≡ xs → slice_get xs k ≡ Some x
read_at xs inside k x h e is = slice_get_read xs (length xs) k x refl h (e ∙ ap (λ z. slice_index_or z k x) is)

pub longer_by : (xs ys : List Listed) → IsBeginning xs ys → length xs ≤ length ys
longer_by xs ys (a, e) = let z = ap length e in let l = length-append xs a in omega arith

pub followed_longer : (p : Listing) (xs ys : List Listed) (k t : ℕ) → IsBeginning xs ys → k < length xs → IsFollowed p xs k t → IsFollowed p ys k t
followed_longer p xs ys k t (more, is) h followed entry next e made =
    subst (λ (zs : List Listed). IsListed zs next) (sym is)
    (listed_longer xs more next (followed entry next (get_beginning xs more k entry h (subst (λ (zs : List Listed). slice_get zs k ≡ Some entry) is e)) made))

-- what is explored stays so
pub explored_longer : (p : Listing) (xs ys : List Listed) (k : ℕ) → IsBeginning xs ys → k < length xs → IsExplored p xs k → IsExplored p ys k
explored_longer p xs ys k begins h (inl all) = inl (λ t. followed_longer p xs ys k t begins h (all t))
explored_longer p xs ys k begins h (inr (u, by)) = inr (
  u,
  record {
    entry = by.entry;
    there = get_on xs ys k by.entry begins by.there;
    local = by.local;
    followed = followed_longer p xs ys k u begins h by.followed;
  },
)

arrival_longer : (p : Listing) (xs ys : List Listed) (k : ℕ) (s : Shot) (o : Option Arrival) → IsArrival p xs k s o → IsArrival p (xs ++ ys) k s o
arrival_longer p xs ys k s None a = a
arrival_longer p xs ys k s (Some arrival) (from, there, before, made) = (from, get_longer xs ys arrival.from from there, before, made)

entry_longer : (p : Listing) (xs ys : List Listed) (k : ℕ) (x : Listed) → IsEntry p xs k x → IsEntry p (xs ++ ys) k x
entry_longer p xs ys k x is = record { fits = is.fits; arrival = arrival_longer p xs ys k x.state x.arrival is.arrival }

-- one more state, to which a step leads
reached_more : (p : Listing) (xs : List Listed) (x : Listed) → AreReached p xs → IsEntry p xs (length xs) x → AreReached p (xs ++ x ∷ [])
reached_more p xs x reached is k y e = elim (cases_lt k (length xs)) [
  | inl h ↦ entry_longer p xs (x ∷ []) k y (reached k y (get_beginning xs (x ∷ []) k y h e))
  | inr h ↦ (let (at, same) = end_is xs x y k h e in
      entry_longer p xs (x ∷ []) k y (subst (λ (z : Listed). IsEntry p xs k z) same (subst (λ n. IsEntry p xs n x) (sym at) is)))
]

pub first_listed : (p : Listing) (s : Shot) → s ≡ first_shot p → IsListed (record { state = s; arrival = None } ∷ []) (start p)
first_listed p s e = record { place = 0; found = record { state = s; arrival = None }; there = refl; same = ap state_of e ∙ state_of_first p }

-- what noting a state gives, where a step from a listed one leads to it
module _ (p : Listing) (xs : List Listed) (from : ℕ) (t : ℕ) (entry : Listed) (there : slice_get xs from ≡ Some entry) (reached : AreReached p xs) where
  entry_is : (x : Listed) → slice_get xs from ≡ Some x → entry ≡ x
  entry_is x e = let z : Some entry ≡ Some x = sym there ∙ e in cc

  -- thread t's step from the entry leads to a state that is listed
  follows : (ys : List Listed) (made : Shot) → IsBeginning xs ys → IsStep p entry.state t made → IsListed ys (state_of made) → IsFollowed p ys from t
  follows ys made (more, is) step_is listed x next e goes =
      let same : entry ≡ x = entry_is x (get_beginning xs more from x (slice_get_within xs from entry there) (subst (λ (zs : List Listed). slice_get zs from ≡ Some x) is e)) in
      let one : Some (state_of made) ≡ Some next = sym step_is.leads ∙ ap (λ (z : Listed). step p SequentialMachine (state_of z.state) (Exec t)) same ∙ goes in
      let reaches : state_of made ≡ next = cc in
      subst (IsListed ys) reaches listed

  pub after_noting : (ys : List Listed) (made : Shot) → IsStep p entry.state t made → IsNoted xs made (record { from = from; thread = t }) ys → AreReached p ys × IsBeginning xs ys × IsFollowed p ys from t
  after_noting ys made step_is (inl (same, listed)) =
      let begins : IsBeginning xs ys = subst (IsBeginning xs) (sym same) (begins_itself xs) in
      (subst (AreReached p) (sym same) reached, begins, follows ys made begins step_is (subst (λ (zs : List Listed). IsListed zs (state_of made)) (sym same) listed))
  after_noting ys made step_is (inr is) =
      let new : Listed = record { state = made; arrival = Some (record { from = from; thread = t }) } in
      let begins : IsBeginning xs ys = (new ∷ [], is) in
      let added : IsEntry p xs (length xs) new = record { fits = step_is.fits; arrival = (entry, there, slice_get_within xs from entry there, step_is.leads) } in
      let listed : IsListed (xs ++ new ∷ []) (state_of made) = record { place = length xs; found = new; there = get_end xs new; same = refl } in
      (subst (AreReached p) (sym is) (reached_more p xs new reached added), begins, follows ys made begins step_is (subst (λ (zs : List Listed). IsListed zs (state_of made)) (sym is) listed))

-- a thread that is not there has nothing to follow
pub past_followed : (p : Listing) (xs : List Listed) (from t : ℕ) → AreReached p xs → length p.threads ≤ t → IsFollowed p xs from t
past_followed p xs from t reached h entry next e goes =
    let fits = (reached from entry e).fits in
    let inside = is_there p entry.state t next fits goes in
    let threads = fits.threads in
    absurd (omega arith)

pub listed_on : (xs ys : List Listed) (s : State) → IsBeginning xs ys → IsListed xs s → IsListed ys s
listed_on xs ys s (more, e) is = subst (λ (zs : List Listed). IsListed zs s) (sym e) (listed_longer xs more s is)
