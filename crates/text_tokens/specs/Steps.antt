-- Steps of reading: each gives a value or nothing.
use Rattle.std.specs.Prelude.{◌≡◌, Bool, true, false, Option, Some, None, Result, Ok, Err, option_and_then}

infixl 10 ◌>>=◌
abbrev pub ◌>>=◌ : {A B : Type 0} → Option A → (A → Option B) → Option B
o >>= f = option_and_then f o

-- what was returned, seen by view, is what reading gives
abbrev pub Gives : {X Y E : Type 0} → (X → Y) → Result X E → Option Y → Type 0
Gives view (Ok x) read = read ≡ Some (view x)
Gives view (Err e) read = read ≡ None

-- reading gives nothing, unless memory ran out
abbrev pub FailsUnless : {Y : Type 0} → Bool → Option Y → Type 0
FailsUnless true read = Unit {0}
FailsUnless false read = read ≡ None

-- reading gives nothing where this fault comes, unless the fault is out of memory
abbrev pub Fails : {Y E : Type 0} → (E → Bool) → E → Option Y → Type 0
Fails ran_out e read = FailsUnless (ran_out e) read

-- reading gives what the value is seen as, or nothing where there is a fault, unless that fault is out of memory
abbrev pub GivesUnless : {X Y E : Type 0} → (E → Bool) → (X → Y) → Result X E → Option Y → Type 0
GivesUnless ran_out view (Ok x) read = read ≡ Some (view x)
GivesUnless ran_out view (Err e) read = Fails ran_out e read
