-- The text that pages hold.
use Rattle.std.specs.Prelude.{ℕ, List, map}
use Rattle.std.specs.Global.{Vec}
use Rattle.std.specs.List.{concat}

-- the bytes of all pages in order
abbrev pub text_of : List (Vec ℕ) → List ℕ
text_of pages = concat (map (λ page. page.items) pages)
