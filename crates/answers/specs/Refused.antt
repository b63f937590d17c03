-- How a refusal is printed.
use Rattle.std.specs.Prelude.{◌≡◌, ℕ, Bool, true, false, List, Result, IsOkAnd}
use Rattle.std.specs.Global.{Vec}
use Rattle.documents.specs.Documents.{IsRefusalDocument}

-- the line of a refusal, or its document
abbrev pub RefusalSays : Bool → List ℕ → List ℕ → Type 0
RefusalSays false line text = text ≡ line
RefusalSays true line text = IsRefusalDocument line text

-- what is printed of a line that could be made, with status 1
abbrev pub PrintsRefusal : {E : Type 0} → Bool → Result (Vec ℕ) E → ℕ → List ℕ → Type 0
PrintsRefusal json made status text = (status ≡ 1) × IsOkAnd made (λ line. RefusalSays json line.items text)
