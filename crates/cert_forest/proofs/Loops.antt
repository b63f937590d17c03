-- Lists, read by a loop.
use Rattle.cert_forest.proofs.Vocabulary.{◌≡◌, ℕ, zero, suc, ◌+◌, ◌-◌, ◌<◌, ◌≤◌, true, false, List, [], ◌∷◌, ◌++◌, Option, Some, None, refl, sym, ap, ◌∙◌, arith, nat_lt, lt-ltb, le-ltb, SetOfGaps, Label, Stop, Refused, OutOfMemory, Fails, begins_word}
use Rattle.cert_forest.proofs.Vocabulary.{repeat_at, stops_for_memory, label_word_at, run_labels_at, ascending_at}
use Rattle.tso_program.proofs.Remainders.{one_less}
use Rattle.std.specs.FinSet as set

-- ---- so many values

pub repeat_more : {A : Type 0} (r : List ℕ → Option (A × List ℕ)) (n k : ℕ) (found : List A) (bytes : List ℕ) (x : A) (rest : List ℕ) (all : Option (List A × List ℕ)) → k < n → r bytes ≡ Some (x, rest)
    → repeat_at r (n - k) found bytes ≡ all → repeat_at r (n - (k + 1)) (found ++ x ∷ []) rest ≡ all
repeat_more r n k found bytes x rest all lt e so =
    let step : repeat_at r (suc (n - (k + 1))) found bytes ≡ repeat_at r (n - (k + 1)) (found ++ x ∷ []) rest = rw e refl in
    sym step ∙ ap (λ (m : ℕ). repeat_at r m found bytes) (sym (one_less n k lt)) ∙ so

pub repeat_stops : {A : Type 0} (r : List ℕ → Option (A × List ℕ)) (n k : ℕ) (found : List A) (bytes : List ℕ) (stop : Stop) (all : Option (List A × List ℕ)) → k < n → Fails stops_for_memory stop (r bytes)
    → repeat_at r (n - k) found bytes ≡ all → Fails stops_for_memory stop all
repeat_stops r n k found bytes OutOfMemory all lt e so = tt
repeat_stops r n k found bytes (Refused refusal) all lt e so =
    let step : repeat_at r (suc (n - (k + 1))) found bytes ≡ None = rw e refl in
    sym so ∙ ap (λ (m : ℕ). repeat_at r m found bytes) (one_less n k lt) ∙ step

-- ---- labels

pub labels_more : (n k : ℕ) (found : List Label) (bytes : List ℕ) (x : Label) (rest : List ℕ) (all : Option (List Label × List ℕ)) → k < n → begins_word bytes ≡ true → label_word_at bytes ≡ Some (x, rest)
    → run_labels_at (n - k) found bytes ≡ all → run_labels_at (n - (k + 1)) (found ++ x ∷ []) rest ≡ all
unfolding run_labels_at
labels_more n k found bytes x rest all lt word e so =
    let step : run_labels_at (suc (n - (k + 1))) found bytes ≡ run_labels_at (n - (k + 1)) (found ++ x ∷ []) rest = rw (word, e) refl in
    sym step ∙ ap (λ (m : ℕ). run_labels_at m found bytes) (sym (one_less n k lt)) ∙ so

pub labels_stop : (n k : ℕ) (found : List Label) (bytes : List ℕ) (stop : Stop) (all : Option (List Label × List ℕ)) → k < n → begins_word bytes ≡ true → Fails stops_for_memory stop (label_word_at bytes)
    → run_labels_at (n - k) found bytes ≡ all → Fails stops_for_memory stop all
unfolding run_labels_at
labels_stop n k found bytes OutOfMemory all lt word e so = tt
labels_stop n k found bytes (Refused refusal) all lt word e so =
    let step : run_labels_at (suc (n - (k + 1))) found bytes ≡ None = rw (word, e) refl in
    sym so ∙ ap (λ (m : ℕ). run_labels_at m found bytes) (one_less n k lt) ∙ step

labels_here : (m : ℕ) (found : List Label) (bytes : List ℕ) → begins_word bytes ≡ false → run_labels_at m found bytes ≡ Some (found, bytes)
unfolding run_labels_at
labels_here zero found bytes away = rw away refl
labels_here (suc m) found bytes away = rw away refl

pub labels_end : (m : ℕ) (found : List Label) (bytes : List ℕ) (all : Option (List Label × List ℕ)) → begins_word bytes ≡ false → run_labels_at m found bytes ≡ all → all ≡ Some (found, bytes)
labels_end m found bytes all away so = sym so ∙ labels_here m found bytes away

pub labels_past : (n k : ℕ) (found : List Label) (bytes : List ℕ) (all : Option (List Label × List ℕ)) → n ≤ k → begins_word bytes ≡ true → run_labels_at (n - k) found bytes ≡ all → all ≡ None
unfolding run_labels_at
labels_past n k found bytes all le word so =
    let none : n - k ≡ 0 = omega arith in
    let step : run_labels_at 0 found bytes ≡ None = rw word refl in
    sym so ∙ ap (λ (m : ℕ). run_labels_at m found bytes) none ∙ step

-- ---- ascending numbers

module _ (read : List ℕ → Option (ℕ × List ℕ)) where
  pub ascending_more : (n k least : ℕ) (found : SetOfGaps) (bytes : List ℕ) (x : ℕ) (rest : List ℕ) (all : Option (SetOfGaps × List ℕ)) → k < n → begins_word bytes ≡ true → read bytes ≡ Some (x, rest) → least ≤ x
      → ascending_at read (n - k) least found bytes ≡ all → ascending_at read (n - (k + 1)) (x + 1) (set.insert found x) rest ≡ all
  unfolding ascending_at
  ascending_more n k least found bytes x rest all lt word e le so =
      let above : nat_lt x least ≡ false = le-ltb _ _ le in
      let step : ascending_at read (suc (n - (k + 1))) least found bytes ≡ ascending_at read (n - (k + 1)) (x + 1) (set.insert found x) rest = rw (word, e, above) refl in
      sym step ∙ ap (λ (m : ℕ). ascending_at read m least found bytes) (sym (one_less n k lt)) ∙ so

  pub ascending_low : (n k least : ℕ) (found : SetOfGaps) (bytes : List ℕ) (x : ℕ) (rest : List ℕ) (all : Option (SetOfGaps × List ℕ)) → k < n → begins_word bytes ≡ true → read bytes ≡ Some (x, rest) → x < least
      → ascending_at read (n - k) least found bytes ≡ all → all ≡ None
  unfolding ascending_at
  ascending_low n k least found bytes x rest all lt word e below so =
      let under : nat_lt x least ≡ true = lt-ltb _ _ below in
      let step : ascending_at read (suc (n - (k + 1))) least found bytes ≡ None = rw (word, e, under) refl in
      sym so ∙ ap (λ (m : ℕ). ascending_at read m least found bytes) (one_less n k lt) ∙ step

  pub ascending_stop : (n k least : ℕ) (found : SetOfGaps) (bytes : List ℕ) (all : Option (SetOfGaps × List ℕ)) → k < n → begins_word bytes ≡ true → read bytes ≡ None
      → ascending_at read (n - k) least found bytes ≡ all → all ≡ None
  unfolding ascending_at
  ascending_stop n k least found bytes all lt word e so =
      let step : ascending_at read (suc (n - (k + 1))) least found bytes ≡ None = rw (word, e) refl in
      sym so ∙ ap (λ (m : ℕ). ascending_at read m least found bytes) (one_less n k lt) ∙ step

  ascending_here : (m least : ℕ) (found : SetOfGaps) (bytes : List ℕ) → begins_word bytes ≡ false → ascending_at read m least found bytes ≡ Some (found, bytes)
  unfolding ascending_at
  ascending_here zero least found bytes away = rw away refl
  ascending_here (suc m) least found bytes away = rw away refl

  pub ascending_end : (m least : ℕ) (found : SetOfGaps) (bytes : List ℕ) (all : Option (SetOfGaps × List ℕ)) → begins_word bytes ≡ false → ascending_at read m least found bytes ≡ all → all ≡ Some (found, bytes)
  ascending_end m least found bytes all away so = sym so ∙ ascending_here m least found bytes away

  pub ascending_past : (n k least : ℕ) (found : SetOfGaps) (bytes : List ℕ) (all : Option (SetOfGaps × List ℕ)) → n ≤ k → begins_word bytes ≡ true → ascending_at read (n - k) least found bytes ≡ all → all ≡ None
  unfolding ascending_at
  ascending_past n k least found bytes all le word so =
      let none : n - k ≡ 0 = omega arith in
      let step : ascending_at read 0 least found bytes ≡ None = rw word refl in
      sym so ∙ ap (λ (m : ℕ). ascending_at read m least found bytes) none ∙ step
