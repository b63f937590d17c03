-- White space and comments in front of something else.
use Rattle.std.specs.Prelude.{◌≡◌, ℕ, List, ◌∷◌, true, false, slice_index}
use Rattle.text_tokens.specs.Bytes.{is_white_space}
use Rattle.text_tokens.specs.Comments.{opens, IsComment}

-- The text is white space and comments in any number and order, and then the rest, which begins with neither.
pub data IsAfterSpace : List ℕ → List ℕ → Type 0 where
  nothing : {text : List ℕ} → is_white_space (slice_index text 0) ≡ false → opens text ≡ false → IsAfterSpace text text
  white_space : {b : ℕ} {text rest : List ℕ} → is_white_space b ≡ true → IsAfterSpace text rest → IsAfterSpace (b ∷ text) rest
  comment : {text others rest : List ℕ} → IsComment text others → IsAfterSpace others rest → IsAfterSpace text rest
