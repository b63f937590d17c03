use Rattle.litmus_reader.proofs.Vocabulary.{◌≡◌, ℕ, List, length, ap, ◌∙◌, arith, length-map, Listing, Location, first_value}
use Rattle.litmus_reader.proofs.laws.texts_name_few_locations.Goals as goal

pub returns : goal.returns
returns c text litmus is =
    let means = is.0.means in
    let value : List ℕ → ℕ = λ x. first_value means.body.entries (Location x) in
    let many : length litmus.program.memory ≡ length litmus.names.locations = ap (λ (listing : Listing). length listing.memory) means.program ∙ length-map litmus.names.locations value in
    let few = is.1.shared.few_locations in
    omega arith
