-- What is said of an answer that is passed on.
use Rattle.cover_judge.proofs.Vocabulary.{◌≡◌, sym, subst, Result, Ok, Err, OnOk, IfOk, IfErr, IsErrAnd}

-- a fault that is passed on as it is
pub err_up : {T E : Type 0} (r : Result T E) (x : E) (P : E → Type 0) → IsErrAnd r (λ y. y ≡ x) → P x → IfErr r P
err_up (Ok v) x P h p = tt
err_up (Err y) x P h p = subst P (sym h) p

-- what follows of a fault
pub if_err : {T E : Type 0} (r : Result T E) (P Q : E → Type 0) → ((x : E) → P x → Q x) → IfErr r P → IfErr r Q
if_err (Ok v) P Q f h = tt
if_err (Err x) P Q f h = f x h

-- what follows of an answer
pub on_ok : {T E : Type 0} (r : Result T E) (P Q : Type 0) → (P → Q) → OnOk r P → OnOk r Q
on_ok (Ok v) P Q f h = f h
on_ok (Err x) P Q f h = tt

pub if_ok : {T E : Type 0} (r : Result T E) (P Q : T → Type 0) → ((v : T) → P v → Q v) → IfOk r P → IfOk r Q
if_ok (Ok v) P Q f h = f v h
if_ok (Err x) P Q f h = tt
