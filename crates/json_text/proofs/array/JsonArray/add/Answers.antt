use Rattle.json_text.proofs.Vocabulary.{ℕ, [], ◌∷◌, sym, subst, Vec, map-append, bytes_of_each, IsJson, AreJson}
use Rattle.json_text.proofs.Values.{one_more_item}
use Rattle.json_text.proofs.array.JsonArray.add.Goals as goal

pub invariant_of-self-2 : goal.invariant_of-self-2
invariant_of-self-2 c =
    let items = c.self.inside.items.items in
    let item = c.into_bytes.result in
    rw c.in_ok-push.ensures.items (subst AreJson (sym (map-append (λ (v : Vec ℕ). v.items) items (item ∷ [])))
    (one_more_item (bytes_of_each items) item.items c.self.invariant (subst IsJson (sym c.into_bytes.ensures.text) c.into_bytes.ensures.json)))
