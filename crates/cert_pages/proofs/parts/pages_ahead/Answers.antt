use Rattle.cert_pages.proofs.Vocabulary.{◌≡◌, ◌∷◌, [], List, length, subst, sym, arith, TreePart, AreWritten, WriteFrom}
use Rattle.cert_pages.proofs.PartLaws.{all_written, written_back}
use Rattle.cert_pages.proofs.parts.pages_ahead.Goals as goal

pub returns : goal.returns
returns g c =
    let ts = c.args.tree.now ∷ [] in
    let old = c.in_ok-parts.parts.items in
    let new = c.write_parts.new.parts in
    let written : AreWritten old new = subst (λ (parts : List TreePart). AreWritten parts new) c.as_mut_slice.ensures.value c.write_parts.ensures in
    let long : c.in_ok-parts.parts.len ≡ length old = (let ok = c.in_ok-parts.parts.ok.0 in omega arith) in
    c.in_ok-joined.ensures ts
    (subst (λ (parts : List TreePart). WriteFrom ts parts []) (sym (written_back old new c.in_ok-parts.parts.len long written.as_many)) (all_written ts [] old new c.in_ok-parts.ensures written.as_many written.each))
