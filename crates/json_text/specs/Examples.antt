-- The definitions at an example: a value of each kind.
use Rattle.std.specs.Prelude.{◌≡◌, ℕ, ◌<◌, ◌^◌, true, [], ◌∷◌, codes}
use Rattle.json_text.specs.Values.{Json, Null, Truth, Number, Text, Array, Object, NoElement, MoreElements, NoField, MoreFields, written}

-- the second member's string has a quote, a line feed and `<`
abbrev pub example : 7 < 2 ^ 64 → Json
example small =
    Object (MoreFields (codes "a") (Array (MoreElements Null (MoreElements (Truth true) (MoreElements (Number 7 small) NoElement))))
    (MoreFields (codes "b") (Text (34 ∷ 10 ∷ 60 ∷ [])) (MoreFields (codes "c") (Object NoField) NoField)))

abbrev pub TheExampleIsWritten : Type 0
TheExampleIsWritten = (small : 7 < 2 ^ 64) → written (example small) ≡ codes "{\"a\":[null,true,7],\"b\":\"\\\"\\u000a\\u003c\",\"c\":{}}"
