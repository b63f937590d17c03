-- Values of JSON (RFC 8259, section 3), how each is written, and which texts are JSON. No space stands between the parts of a text
-- (section 2). Numbers are whole and below 2 ^ 64 (section 6). A byte of a string from 0x80 on stands in the text as it is, so a text
-- is UTF-8 (section 8.1) where its strings are.
use Rattle.std.specs.Prelude.{◌≡◌, ℕ, ◌<◌, ◌^◌, Bool, List, [], ◌∷◌, ◌++◌}
use Rattle.std.specs.Fmt.{decimal}
use Rattle.json_text.specs.Texts.{quoted, array_text, member, object_text, null_text, truth_text}

mutual
  pub data Json : Type 0 where
    Null : Json
    Truth : Bool → Json
    Number : (n : ℕ) → n < 2 ^ 64 → Json
    Text : List ℕ → Json
    Array : Elements → Json
    Object : Fields → Json

  pub data Elements : Type 0 where
    NoElement : Elements
    MoreElements : Json → Elements → Elements

  -- each with its name
  pub data Fields : Type 0 where
    NoField : Fields
    MoreFields : List ℕ → Json → Fields → Fields

abbrev mutual
  pub written : Json → List ℕ
  written Null = null_text
  written (Truth value) = truth_text value
  written (Number n small) = decimal n
  written (Text bytes) = quoted bytes
  written (Array items) = array_text (elements_written items)
  written (Object fields) = object_text (members_written fields)

  pub elements_written : Elements → List (List ℕ)
  elements_written NoElement = []
  elements_written (MoreElements value items) = written value ∷ elements_written items

  pub members_written : Fields → List (List ℕ)
  members_written NoField = []
  members_written (MoreFields name value fields) = member name (written value) ∷ members_written fields

-- the text is that of a value
pub record IsJson (text : List ℕ) : Type 0 where
  pub value : Json
  pub is : text ≡ written value

-- the line is the text of a value and its end, which is white space after the value (section 2)
pub record IsJsonLine (line : List ℕ) : Type 0 where
  pub text : List ℕ
  pub json : IsJson text
  pub ended : line ≡ text ++ 10 ∷ []

-- the texts are those of values
pub record AreJson (texts : List (List ℕ)) : Type 0 where
  pub items : Elements
  pub are : texts ≡ elements_written items

-- the texts are those of an object's members
pub record AreMembers (texts : List (List ℕ)) : Type 0 where
  pub fields : Fields
  pub are : texts ≡ members_written fields
