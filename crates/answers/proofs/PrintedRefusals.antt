-- What is printed of a refusal.
use Rattle.answers.proofs.Vocabulary.{◌≡◌, ℕ, Bool, false, List, Option, Result, Ok, Err, IfOk, IsOkAnd, sym, subst, Prints, prints_more, PrintsRefusal, RefusalSays}
use Rattle.std.specs.Global.{Vec}

-- what is said of a line that is known
of_line : {E : Type 0} (json : Bool) (made : Result (Vec ℕ) E) (line text : List ℕ) → IfOk made (λ v. v.items ≡ line) → IsOkAnd made (λ v. RefusalSays json v.items text) → RefusalSays json line text
of_line json (Ok v) line text is says = subst (λ (l : List ℕ). RefusalSays json l text) is says
of_line json (Err e) line text is says = absurd says

pub prints_refusal : {E : Type 0} (json : Bool) (made : Result (Vec ℕ) E) (line : List ℕ) (A : ℕ → List ℕ → Type 0) (old new : Option (List ℕ)) (result : ℕ)
    → ((text : List ℕ) → RefusalSays json line text → A 1 text) → IfOk made (λ v. v.items ≡ line) → Prints (PrintsRefusal json made) old new result → Prints A old new result
prints_refusal json made line A old new result may is told =
    prints_more (PrintsRefusal json made) A old new result (λ status text refused. subst (λ (s : ℕ). A s text) (sym refused.0) (may text (of_line json made line text is refused.1))) told

-- a refusal whose line is known is printed as a text
pub prints_refused_line : {E : Type 0} (made : Result (Vec ℕ) E) (line : List ℕ) (A : ℕ → List ℕ → Type 0) (old new : Option (List ℕ)) (result : ℕ)
    → A 1 line → IfOk made (λ v. v.items ≡ line) → Prints (PrintsRefusal false made) old new result → Prints A old new result
prints_refused_line made line A old new result may is told =
    prints_refusal false made line A old new result (λ text same. subst (A 1) (sym same) may) is told
