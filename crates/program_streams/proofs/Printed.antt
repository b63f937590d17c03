-- What is printed of texts that may be.
use Rattle.std.proofs.Common.{◌≡◌, ℕ, List, Option, Result, Ok, Err, IfOk, refl, sym, subst}
use Rattle.std.proofs.lemmas.Result.{IfOk-weaker}
use Rattle.std.specs.Global.{Vec}
use Rattle.std.specs.Io.KnownBytes.{Appends}
use Rattle.program_streams.specs.Streams.{AppendsFront, IsMade, Prints, whole, front, nothing}
use Rattle.program_streams.proofs.StreamLaws.{none_written}

-- where each of these texts is one of those, what prints these prints those
pub prints_more : (A B : ℕ → List ℕ → Type 0) (old new : Option (List ℕ)) (result : ℕ) → ((status : ℕ) (text : List ℕ) → A status text → B status text) → Prints A old new result → Prints B old new result
prints_more A B old new _ more (whole status text may all) = whole status text (more status text may) all
prints_more A B old new _ more (front status text may part) = front status text (more status text may) part
prints_more A B old new _ more (nothing none) = nothing none

-- a text that was made may be printed
made : {E : Type 0} (text : Result (Vec ℕ) E) (v : Vec ℕ) (status : ℕ) → text ≡ Ok v → IsMade text status status v.items
made text v status is = rw is (refl, refl)

-- all of a text that was made
pub says_all : {E : Type 0} (text : Result (Vec ℕ) E) (v : Vec ℕ) (status : ℕ) (old new : Option (List ℕ)) → text ≡ Ok v → Appends old new v.items → Prints (IsMade text status) old new status
says_all text v status old new is all = whole status v.items (made text v status is) all

-- a front of it
pub says_front : {E : Type 0} (text : Result (Vec ℕ) E) (v : Vec ℕ) (status : ℕ) (old new : Option (List ℕ)) → text ≡ Ok v → AppendsFront old new v.items → Prints (IsMade text status) old new 1
says_front text v status old new is part = front status v.items (made text v status is) part

-- nothing
pub prints_nothing : (A : ℕ → List ℕ → Type 0) (known : Option (List ℕ)) → Prints A known known 1
prints_nothing A known = nothing (none_written known)

-- what may be printed of a text that was made
may_be : {E : Type 0} (text : Result (Vec ℕ) E) (wanted : ℕ) (A : ℕ → List ℕ → Type 0) (status : ℕ) (out : List ℕ) → IfOk text (λ v. A wanted v.items) → IsMade text wanted status out → A status out
may_be (Ok v) wanted A status out may is = subst (λ (s : ℕ). A s out) (sym is.0) (subst (A wanted) is.1 may)
may_be (Err e) wanted A status out may is = absurd is.1

pub prints_made : {E : Type 0} (text : Result (Vec ℕ) E) (wanted : ℕ) (A : ℕ → List ℕ → Type 0) (old new : Option (List ℕ)) (result : ℕ) → IfOk text (λ v. A wanted v.items) → Prints (IsMade text wanted) old new result → Prints A old new result
prints_made text wanted A old new result may told = prints_more (IsMade text wanted) A old new result (λ status out is. may_be text wanted A status out may is) told

-- a text that is known is printed
pub prints_line : {E : Type 0} (text : Result (Vec ℕ) E) (wanted : ℕ) (line : List ℕ) (A : ℕ → List ℕ → Type 0) (old new : Option (List ℕ)) (result : ℕ) → A wanted line → IfOk text (λ v. v.items ≡ line) → Prints (IsMade text wanted) old new result → Prints A old new result
prints_line text wanted line A old new result may is told = prints_made text wanted A old new result (IfOk-weaker text _ _ (λ v same. subst (A wanted) (sym same) may) is) told
