use Rattle.json_text.proofs.Vocabulary.{◌≡◌, ◌∙◌, ℕ, List, [], ◌∷◌, ◌++◌, ap, sym, subst, Vec, map-append, bytes_of_each, member, AreMembers}
use Rattle.json_text.proofs.Values.{one_more_member}
use Rattle.json_text.proofs.object.JsonObject.add.Goals as goal

pub invariant_of-self-2 : goal.invariant_of-self-2
invariant_of-self-2 c =
    let members = c.self.inside.members.items in
    let one = c.in_ok-text.text in
    let name = c.args.name.now in
    let is : one.items ≡ member name c.args.value = c.in_ok-text.ensures ∙ ap (member name) c.as_bytes.ensures.text in
    rw c.in_ok-push.ensures.items (subst AreMembers (sym (map-append (λ (v : Vec ℕ). v.items) members (one ∷ [])))
    (subst (λ (text : List ℕ). AreMembers (bytes_of_each members ++ text ∷ [])) (sym is) (one_more_member (bytes_of_each members) name c.args.value c.self.invariant c.as_bytes.ensures.json)))
