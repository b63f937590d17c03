-- The locations that may hold a value: sound at each pass, and all of them once a pass adds none.
use Rattle.std.proofs.Common.{◌≡◌, ◌⊎◌, ◌==◌, ◌||◌, ◌&&◌, ℕ, ◌+◌, ◌<◌, ◌≤◌, Bool, true, false, List, length, Some, refl, sym, ap, ◌∙◌, subst, inl, inr, arith, eqb-true, eq-eqb, slice_index, get_or-set_same, get_or-set_other, length-set}
use Rattle.std.proofs.lemmas.Bool.{and_from, and_parts, cases_eq, cases_lt}
use Rattle.std.proofs.lemmas.Option.{same_Some, slice_get_within}
use Rattle.std.specs.Prelude.{slice_set}
use Rattle.tso_program.specs.declared.instruction.TheConstants.{REGISTERS}
use Rattle.tso_program.specs.declared.limits.TheConstants.{MAX_LOCATIONS}
use Rattle.tso_program.specs.declared.instruction.Reg.{Reg}
use Rattle.tso_program.specs.declared.instruction.Instr.{Instr}
use Rattle.tso_program.specs.declared.instruction.Instr.TheVariants.{LoadImm, Copy, Load, StoreImm, Store, Xchg}
use Rattle.tso_program.specs.declared.listing.Listing.{Listing}
use Rattle.tso_program.specs.Instructions.{number, location_of}
use Rattle.tso_program.specs.Limits.{IsWithinLimits}
use Rattle.tso_program.specs.Listings.{code_of, instr_at}
use Rattle.tso_program.proofs.{Found.thread_there, Registers.small_number}
use Rattle.tso_machine.specs.Effects.{Sets, LeadsTo}
use Rattle.tso_machine.specs.HeldValues.{Cell, Location, Register, Begins, Memory, First, Loaded, Stored, Absent, Flows, Keeps, Copies, Loads, Stores, Gives, Takes, MayHold, Here, From}
use Rattle.held_values.specs.HeldRows.{has, row_after, gives, with_bit, with_stored, AreSound, AreHeldRows, AreHolders, AreInitial, HaveGiven, IsPassed, IsPassedOn}
use Rattle.held_values.proofs.Bits.{with_bit_is, with_bit_keeps, with_bit_has}
use Rattle.held_values.proofs.RowsSpread.{row_of}

-- ---- what one instruction gives

with_stored_is : (v : ℕ) (x : Instr) (row m : List Bool) (l : ℕ) → has (with_stored v x row m) l ≡ true → (has m l ≡ true) ⊎ (gives v x row l ≡ true)
with_stored_is v (StoreImm a n) row m l h = elim (with_bit_is m a (n == v) l h) [ inl o ↦ inl o | inr q ↦ inr (and_from (a == l) (n == v) (eq-eqb a l q.0) q.1) ]
with_stored_is v (Store a r) row m l h = elim (with_bit_is m a (has row (number r)) l h) [ inl o ↦ inl o | inr q ↦ inr (and_from (a == l) (has row (number r)) (eq-eqb a l q.0) q.1) ]
with_stored_is v (Xchg a r) row m l h = elim (with_bit_is m a (has row (number r)) l h) [ inl o ↦ inl o | inr q ↦ inr (and_from (a == l) (has row (number r)) (eq-eqb a l q.0) q.1) ]
with_stored_is v x row m l h = inl h

with_stored_keeps : (v : ℕ) (x : Instr) (row m : List Bool) (l : ℕ) → has m l ≡ true → has (with_stored v x row m) l ≡ true
with_stored_keeps v (StoreImm a n) row m l h = with_bit_keeps m a (n == v) l h
with_stored_keeps v (Store a r) row m l h = with_bit_keeps m a (has row (number r)) l h
with_stored_keeps v (Xchg a r) row m l h = with_bit_keeps m a (has row (number r)) l h
with_stored_keeps v x row m l h = h

with_stored_long : (v : ℕ) (x : Instr) (row m : List Bool) → length (with_stored v x row m) ≡ length m
with_stored_long v (StoreImm a n) row m = length-set m a (has m a || (n == v))
with_stored_long v (Store a r) row m = length-set m a (has m a || has row (number r))
with_stored_long v (Xchg a r) row m = length-set m a (has m a || has row (number r))
with_stored_long v x row m = refl

has_there : (m : List Bool) (a l : ℕ) (b : Bool) → l < length m → ((a == l) && b) ≡ true → has (with_bit m a b) l ≡ true
has_there m a l b there h =
    let q = and_parts (a == l) b h in
    let e : a ≡ l = eqb-true a l q.0 in
    subst (λ j. has (with_bit m a b) j ≡ true) e (with_bit_has m a b (omega (arith, e, there)) q.1)

with_stored_has : (v : ℕ) (x : Instr) (row m : List Bool) (l : ℕ) → l < length m → gives v x row l ≡ true → has (with_stored v x row m) l ≡ true
with_stored_has v (StoreImm a n) row m l there h = has_there m a l (n == v) there h
with_stored_has v (Store a r) row m l there h = has_there m a l (has row (number r)) there h
with_stored_has v (Xchg a r) row m l there h = has_there m a l (has row (number r)) there h
with_stored_has v x row m l there h = absurd cc

module _ (p : Listing) (v t k : ℕ) (row : List Bool) (held : (i : ℕ) → has row i ≡ true → MayHold p (Register t k i) v) where
  gives_sound : (x : Instr) → instr_at p.threads t k ≡ Some x → (l : ℕ) → gives v x row l ≡ true → MayHold p (Location l) v
  gives_sound (StoreImm a n) at l h = let q = and_parts (a == l) (n == v) h in
      subst (λ m. MayHold p (Location m) v) (eqb-true a l q.0) (subst (λ w. MayHold p (Location a) w) (eqb-true n v q.1) (Here (Location a) n (Stored t k a n at)))
  gives_sound (Store a r) at l h = let q = and_parts (a == l) (has row (number r)) h in
      subst (λ m. MayHold p (Location m) v) (eqb-true a l q.0) (From (Register t k (number r)) (Location a) v (Stores t k a r at) (held (number r) q.1))
  gives_sound (Xchg a r) at l h = let q = and_parts (a == l) (has row (number r)) h in
      subst (λ m. MayHold p (Location m) v) (eqb-true a l q.0) (From (Register t k (number r)) (Location a) v (Gives t k a r at) (held (number r) q.1))
  gives_sound x at l h = absurd cc

-- ---- what one thread gives

module _ (p : Listing) (v t : ℕ) (from holders : List Bool) (rows : List (List Bool)) (are : AreHeldRows p v t from rows) where
  pub record IsPassedUpTo (k : ℕ) (more : List Bool) : Type 0 where
    pub long : length more ≡ length holders
    pub sound : AreSound p v from → AreSound p v holders → AreSound p v more
    pub kept : (l : ℕ) → has holders l ≡ true → has more l ≡ true
    pub given : (n l : ℕ) (x : Instr) → n < k → instr_at p.threads t n ≡ Some x → l < length more → gives v x (row_of rows n) l ≡ true → has more l ≡ true

  pub passed_begin : IsPassedUpTo 0 holders
  passed_begin = record { long = refl; sound = λ a b. b; kept = λ l h. h; given = λ n l x low. absurd (omega (arith, low)) }

  pub passed_step : (k : ℕ) (x : Instr) (more next : List Bool) → instr_at p.threads t k ≡ Some x → length next ≡ length more → next ≡ with_stored v x (row_of rows k) more → IsPassedUpTo k more → IsPassedUpTo (k + 1) next
  passed_step k x more next at same_long is h = record {
    long = same_long ∙ h.long;
    sound = λ a b l bit. elim (with_stored_is v x (row_of rows k) more l (sym (ap (λ m. has m l) is) ∙ bit)) [
      | inl o ↦ h.sound a b l o
      | inr g ↦ gives_sound p v t k (row_of rows k) (are.sound a k) x at l g
    ];
    kept = λ l bit. ap (λ m. has m l) is ∙ with_stored_keeps v x (row_of rows k) more l (h.kept l bit);
    given = λ n l y low there within g. elim (cases_eq n k) [
      | inl e ↦
          let same : y ≡ x = same_Some y x (sym there ∙ (ap (instr_at p.threads t) e ∙ at)) in
          let now : gives v x (row_of rows k) l ≡ true = sym (ap (λ z. gives v z (row_of rows k) l) same) ∙ (sym (ap (λ m. gives v y (row_of rows m) l) e) ∙ g) in
          ap (λ m. has m l) is ∙ with_stored_has v x (row_of rows k) more l (omega (arith, within, same_long)) now
      | inr ne ↦ ap (λ m. has m l) is ∙ with_stored_keeps v x (row_of rows k) more l (h.given n l y (omega (arith, low, ne)) there (omega (arith, within, same_long)) g)
    ];
  }

  -- as the holders are written
  pub passed_more : (k : ℕ) (x : Instr) (row more next : List Bool) → instr_at p.threads t k ≡ Some x → row ≡ row_of rows k → next ≡ with_stored v x row more → IsPassedUpTo k more → IsPassedUpTo (k + 1) next
  passed_more k x row more next at read is h =
      passed_step k x more next at (ap length is ∙ with_stored_long v x row more) (is ∙ ap (λ (r : List Bool). with_stored v x r more) read) h

  pub passed_end : (k : ℕ) (more : List Bool) → length (code_of p.threads t) ≤ k → IsPassedUpTo k more → IsPassedOn p v t from holders more
  passed_end k more past h = record {
    long = h.long;
    sound = h.sound;
    kept = h.kept;
    rows = rows;
    are_rows = are;
    given = λ n l x at within g. h.given n l x (let low = slice_get_within (code_of p.threads t) n x at in omega (arith, low, past)) at within g;
  }

-- ---- what all threads give

pub all_step : (p : Listing) (v n : ℕ) (holders more next : List Bool) → IsPassed p v n holders more → IsPassedOn p v n holders more next → IsPassed p v (n + 1) holders next
all_step p v n holders more next h one = record {
  long = one.long ∙ h.long;
  sound = λ a. one.sound a (h.sound a);
  kept = λ l bit. one.kept l (h.kept l bit);
  each = λ t low. elim (cases_eq t n) [
    | inl e ↦ subst (λ u. (rows : List (List Bool)) × AreHeldRows p v u holders rows × HaveGiven p v u rows next) (sym e) (one.rows, one.are_rows, one.given)
    | inr ne ↦ (let (rows, are, given) = h.each t (omega (arith, low, ne)) in
        (rows, are, λ k l x at within g. one.kept l (given k l x at (let long = one.long in omega (arith, within, long)) g)))
  ];
}

-- ---- once nothing is added

set_bit : (row : List Bool) (n : ℕ) (b : Bool) → n < length row → b ≡ true → has (slice_set row n b) n ≡ true
set_bit row n b there e = get_or-set_same row n b false there ∙ e

keep_bit : (v : ℕ) (x : Instr) (row locations : List Bool) (i : ℕ) → (Sets x i → ⊥) → has row i ≡ true → has (row_after v x row locations) i ≡ true
keep_bit v (LoadImm r n) row locations i none h = get_or-set_other row (number r) i (n == v) false (λ e. none (sym e)) ∙ h
keep_bit v (Copy r from) row locations i none h = get_or-set_other row (number r) i (has row (number from)) false (λ e. none (sym e)) ∙ h
keep_bit v (Load r l) row locations i none h = get_or-set_other row (number r) i (has locations l) false (λ e. none (sym e)) ∙ h
keep_bit v (Xchg l r) row locations i none h = get_or-set_other row (number r) i (has locations l) false (λ e. none (sym e)) ∙ h
keep_bit v x row locations i none h = h

module _ (p : Listing) (v : ℕ) (holders : List Bool) (within : IsWithinLimits p.threads p.memory) (all : IsPassed p v (length p.threads) holders holders) (initial : AreInitial p v holders) where
  abbrev rows : (t : ℕ) → t < length p.threads → List (List Bool)
  rows t low = (all.each t low).0

  are : (t : ℕ) (low : t < length p.threads) → AreHeldRows p v t holders (rows t low)
  are t low = (all.each t low).1

  -- a cell that may hold the value has its bit
  abbrev Claim : Cell → ℕ → Type 0
  Claim (Location l) w = w ≡ v → l < length p.memory → has holders l ≡ true
  Claim (Register t k i) w = w ≡ v → (low : t < length p.threads) → i < REGISTERS → has (row_of (rows t low) k) i ≡ true

  abbrev there : (t k : ℕ) (x : Instr) → instr_at p.threads t k ≡ Some x → t < length p.threads
  there = thread_there p.threads

  wide : (t k : ℕ) (x : Instr) (low : t < length p.threads) → instr_at p.threads t k ≡ Some x → length (row_of (rows t low) k) ≡ REGISTERS
  wide t k x low at = (are t low).wide k (let less = slice_get_within (code_of p.threads t) k x at in let long = (are t low).long in omega (arith, less, long))

  located : (t k l : ℕ) (x : Instr) → instr_at p.threads t k ≡ Some x → location_of x ≡ Some l → (l < length p.memory) × (l < length holders)
  located t k l x at is =
      let low = within.shared.located t k l x at is in
      let few = within.shared.few_locations in
      let long = initial.long in
      (low, omega (arith, low, few, long))

  given : (t k l : ℕ) (x : Instr) (low : t < length p.threads) → instr_at p.threads t k ≡ Some x → l < length holders → gives v x (row_of (rows t low) k) l ≡ true → has holders l ≡ true
  given t k l x low at inside g = (all.each t low).2 k l x at inside g

  after : (t k j i : ℕ) (x : Instr) (low : t < length p.threads) → instr_at p.threads t k ≡ Some x → LeadsTo x k j → i < REGISTERS → has (row_after v x (row_of (rows t low) k) holders) i ≡ true → has (row_of (rows t low) j) i ≡ true
  after t k j i x low at leads few b = (are t low).closed k j i x at leads few b

  sets : (t k : ℕ) (x : Instr) (r : Reg) (b : Bool) (low : t < length p.threads) → instr_at p.threads t k ≡ Some x → b ≡ true → has (slice_set (row_of (rows t low) k) (number r) b) (number r) ≡ true
  sets t k x r b low at e = set_bit (row_of (rows t low) k) (number r) b (let six = wide t k x low at in let small = small_number r in omega (arith, six, small)) e

  begins : (c : Cell) (w : ℕ) → Begins p c w → Claim c w
  begins c w (Memory l) = λ e low. initial.first l low e
  begins c w (First t i) = λ e low few. (are t low).first i few e
  begins c w (Loaded t k r n at) = λ e low few. after t k (k + 1) (number r) (LoadImm r n) low at refl few (sets t k (LoadImm r n) r (n == v) low at (eq-eqb n v e))
  begins c w (Stored t k l n at) = λ e low. given t k l (StoreImm l n) (there t k (StoreImm l n) at) at (located t k l (StoreImm l n) at refl).1 (and_from (l == l) (n == v) (eq-eqb l l refl) (eq-eqb n v e))
  begins c w (Absent t k i past) = λ e low few. absurd (let six = (are t low).six in omega (arith, six, past, few))

  flows : (d c : Cell) (w : ℕ) → Flows p d c → Claim d w → Claim c w
  flows d c w (Keeps t k j i x at none leads) h = λ e low few. after t k j i x low at leads few (keep_bit v x (row_of (rows t low) k) holders i none (h e low few))
  flows d c w (Copies t k r from at) h = λ e low few. after t k (k + 1) (number r) (Copy r from) low at refl few (sets t k (Copy r from) r (has (row_of (rows t low) k) (number from)) low at (h e low (small_number from)))
  flows d c w (Loads t k r l at) h = λ e low few. after t k (k + 1) (number r) (Load r l) low at refl few (sets t k (Load r l) r (has holders l) low at (h e (located t k l (Load r l) at refl).0))
  flows d c w (Takes t k l r at) h = λ e low few. after t k (k + 1) (number r) (Xchg l r) low at refl few (sets t k (Xchg l r) r (has holders l) low at (h e (located t k l (Xchg l r) at refl).0))
  flows d c w (Stores t k l r at) h = λ e low.
      let of = there t k (Store l r) at in
      given t k l (Store l r) of at (located t k l (Store l r) at refl).1 (and_from (l == l) (has (row_of (rows t of) k) (number r)) (eq-eqb l l refl) (h e of (small_number r)))
  flows d c w (Gives t k l r at) h = λ e low.
      let of = there t k (Xchg l r) at in
      given t k l (Xchg l r) of at (located t k l (Xchg l r) at refl).1 (and_from (l == l) (has (row_of (rows t of) k) (number r)) (eq-eqb l l refl) (h e of (small_number r)))

  holds : (c : Cell) (w : ℕ) → MayHold p c w → Claim c w
  holds c w (Here d u b) = begins d u b
  holds c w (From d e u f h) = flows d e u f (holds d u h)

  pub exact : AreHolders p v holders
  exact l low = (initial.sound l, λ h. holds (Location l) v h refl low)

-- a pass keeps what holds at first
pub still_initial : (p : Listing) (v n : ℕ) (holders more : List Bool) → IsPassed p v n holders more → AreInitial p v holders → AreInitial p v more
still_initial p v n holders more h initial = record {
  long = h.long ∙ initial.long;
  sound = h.sound initial.sound;
  first = λ l low e. h.kept l (initial.first l low e);
}

-- the locations that hold the value at first, once all have been gone through
pub initial_all : (p : Listing) (v : ℕ) (holders : List Bool) (memory : List ℕ) (n : ℕ) → memory ≡ p.memory → length memory ≤ n → length holders ≡ MAX_LOCATIONS →
    ((k : ℕ) → k < n → has holders k ≡ (slice_index memory k == v)) → ((k : ℕ) → n ≤ k → has holders k ≡ false) → AreInitial p v holders
initial_all p v holders memory n same past long so_far others = record {
  long = long;
  sound = λ l h. elim (cases_lt l n) [
    | inl low ↦ (let e : slice_index p.memory l ≡ v = ap (λ (m : List ℕ). slice_index m l) (sym same) ∙ eqb-true (slice_index memory l) v (sym (so_far l low) ∙ h) in
        subst (λ (w : ℕ). MayHold p (Location l) w) e (Here (Location l) (slice_index p.memory l) (Memory l)))
    | inr high ↦ absurd (let no : false ≡ true = sym (others l (omega (arith, high))) ∙ h in cc)
  ];
  first = λ l low e. (let many = ap length same in
      so_far l (omega (arith, low, many, past)) ∙ eq-eqb (slice_index memory l) v (ap (λ (m : List ℕ). slice_index m l) same ∙ e));
}
