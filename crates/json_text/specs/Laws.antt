-- What the text of an object tells.
use Rattle.std.specs.Prelude.{◌≡◌, ℕ, List, [], ◌++◌}
use Rattle.json_text.specs.Texts.{object_text}
use Rattle.json_text.specs.Values.{AreMembers}

-- Where one object's text begins another's, they have the same members, and nothing comes after: so a text is that of one list of
-- members, and no object closes early.
abbrev pub NoObjectClosesEarly : Type 0
NoObjectClosesEarly = (members others : List (List ℕ)) (rest : List ℕ) → AreMembers members → AreMembers others → object_text members ++ rest ≡ object_text others → (members ≡ others) × (rest ≡ [])
