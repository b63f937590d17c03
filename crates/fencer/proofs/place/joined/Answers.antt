use Rattle.fencer.proofs.Vocabulary.{◌∙◌, ℕ, List, ap, nat_lt, refl}
use Rattle.answers.specs.Documented.{printed}
use Rattle.answers.specs.Statuses.{check_status}
use Rattle.fencer.proofs.place.joined.Goals as goal

pub returns : goal.returns
returns c =
    let asked = c.args.asked.now in
    record {
      answer = record {
        document = c.in_ok-document.document.items;
        noted = c.in_ok-document.ensures;
        printed = c.printed.ensures ∙ ap (λ (lines : List ℕ). printed asked.json lines c.in_ok-document.document.items) (rw c.deref.ensures.value at c.in_ok-extend_from_slice.ensures.items);
        ends = c.check_status.ensures ∙ ap (λ (count : ℕ). check_status asked.check (nat_lt 0 count)) c.len.ensures.value;
        as_asked = refl;
        program = c.in_ok-of.ensures;
        proof = refl;
      };
    }
