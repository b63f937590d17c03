-- Documents, from the members that are added one after the other.
use Rattle.documents.proofs.Vocabulary.{◌≡◌, ◌∙◌, ℕ, List, [], ◌∷◌, ◌++◌, ap, append_assoc, Result, Ok, Err, IfOk}

-- more members after others
pub joined : (first front last before after : List (List ℕ)) → before ≡ first ++ front → after ≡ before ++ last → after ≡ first ++ (front ++ last)
joined first front last before after so_far more = more ∙ ap (λ (ms : List (List ℕ)). ms ++ last) so_far ∙ append_assoc first front last

-- one more member after others
pub added : (first front : List (List ℕ)) (one : List ℕ) (before after : List (List ℕ)) → before ≡ first ++ front → after ≡ before ++ one ∷ [] → after ≡ first ++ (front ++ one ∷ [])
added first front one before after so_far more = joined first front (one ∷ []) before after so_far more

-- what holds of the value, if there is one, twice
pub both : {X Y : Type 0} (made : Result X Y) (P Q : X → Type 0) → IfOk made P → IfOk made Q → IfOk made (λ x. P x × Q x)
both (Ok x) P Q first second = (first, second)
both (Err fault) P Q first second = first
