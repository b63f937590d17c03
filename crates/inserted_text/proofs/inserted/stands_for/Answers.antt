use Rattle.std.proofs.Common.{◌≡◌, IfSome, Option, sym, subst}
use Rattle.tso_program.specs.declared.listing.Listing.{Listing}
use Rattle.litmus_reader.specs.declared.litmus.Litmus.{Litmus}
use Rattle.litmus_reader.specs.Texts.{IsFencedLitmus}
use Rattle.inserted_text.proofs.SameTest.{same_test}
use Rattle.inserted_text.proofs.inserted.stands_for.Goals as goal

pub returns-in-Some : goal.returns-in-Some
returns-in-Some c =
    λ printed is same.
    let found = c.in-Some.found in
    let is_found : IsFencedLitmus c.args.text.now found = subst (λ (test : Option (Litmus Listing)). IfSome test (IsFencedLitmus c.args.text.now)) c.in-Some.is c.in_ok-found.ensures.found in
    let alike : c.args.test.now ≡ found = same_test printed c.args.text.now c.args.test.now found is.0 is_found.0 (c.is_same_test.ensures same) in
    subst (λ (l : Litmus Listing). IsFencedLitmus c.args.text.now l) (sym alike) is_found
