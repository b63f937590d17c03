-- Texts of values, one more.
use Rattle.json_text.proofs.Vocabulary.{◌≡◌, ◌∙◌, ℕ, List, [], ◌∷◌, ◌++◌, refl, sym, ap, member, Json, Elements, NoElement, MoreElements, Fields, NoField, MoreFields, written, elements_written, members_written, IsJson, AreJson, AreMembers}

abbrev with_item : Elements → Json → Elements
with_item NoElement value = MoreElements value NoElement
with_item (MoreElements first items) value = MoreElements first (with_item items value)

items_more : (items : Elements) (value : Json) → elements_written (with_item items value) ≡ elements_written items ++ written value ∷ []
items_more NoElement value = refl
items_more (MoreElements first items) value = ap (λ (ts : List (List ℕ)). written first ∷ ts) (items_more items value)

pub one_more_item : (texts : List (List ℕ)) (text : List ℕ) → AreJson texts → IsJson text → AreJson (texts ++ text ∷ [])
one_more_item texts text some one =
    let items = some.items in
    let value = one.value in
    record { items = with_item items value; are = ap (λ (ts : List (List ℕ)). ts ++ text ∷ []) some.are ∙ ap (λ (t : List ℕ). elements_written items ++ t ∷ []) one.is ∙ sym (items_more items value) }

abbrev with_field : Fields → List ℕ → Json → Fields
with_field NoField name value = MoreFields name value NoField
with_field (MoreFields first text fields) name value = MoreFields first text (with_field fields name value)

members_more : (fields : Fields) (name : List ℕ) (value : Json) → members_written (with_field fields name value) ≡ members_written fields ++ member name (written value) ∷ []
members_more NoField name value = refl
members_more (MoreFields first text fields) name value = ap (λ (ts : List (List ℕ)). member first (written text) ∷ ts) (members_more fields name value)

pub one_more_member : (texts : List (List ℕ)) (name text : List ℕ) → AreMembers texts → IsJson text → AreMembers (texts ++ member name text ∷ [])
one_more_member texts name text some one =
    let fields = some.fields in
    let value = one.value in
    record { fields = with_field fields name value; are = ap (λ (ts : List (List ℕ)). ts ++ member name text ∷ []) some.are ∙ ap (λ (t : List ℕ). members_written fields ++ member name t ∷ []) one.is ∙ sym (members_more fields name value) }
