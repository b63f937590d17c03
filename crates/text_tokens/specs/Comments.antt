-- Comments, which nest.
use Rattle.std.specs.Prelude.{◌≡◌, ◌==◌, ◌&&◌, ℕ, List, ◌∷◌, Bool, true, false, drop, slice_index}

-- the text begins with `(*`
abbrev pub opens : List ℕ → Bool
opens text = slice_index text 0 == 40 && slice_index text 1 == 42

-- the text begins with `*)`
abbrev pub closes : List ℕ → Bool
closes text = slice_index text 0 == 42 && slice_index text 1 == 41

-- The text is the inside of a comment with its `*)`, and then the rest: `*)` itself; or a comment within it and then the rest of the
-- inside; or a byte with which neither mark begins, and then the rest of the inside.
pub data Inside : List ℕ → List ℕ → Type 0 where
  close : {text rest : List ℕ} → closes text ≡ true → drop 2 text ≡ rest → Inside text rest
  nested : {text middle rest : List ℕ} → opens text ≡ true → Inside (drop 2 text) middle → Inside middle rest → Inside text rest
  other : {x : ℕ} {text rest : List ℕ} → opens (x ∷ text) ≡ false → closes (x ∷ text) ≡ false → Inside text rest → Inside (x ∷ text) rest

-- the text is a comment and then the rest
abbrev pub IsComment : List ℕ → List ℕ → Type 0
IsComment text rest = (opens text ≡ true) × Inside (drop 2 text) rest
