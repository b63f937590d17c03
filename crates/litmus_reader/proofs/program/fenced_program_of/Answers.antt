use Rattle.litmus_reader.proofs.Vocabulary.{◌≡◌, ◌∙◌, Option, ap, subst, Listing, ProgramFault, IsWithinFencedLimits, first_fenced_fault}
use Rattle.litmus_reader.proofs.Faults.{first_refused}
use Rattle.litmus_reader.proofs.program.fenced_program_of.Goals as goal

pub returns-in-Ok : goal.returns-in-Ok
returns-in-Ok c =
    let within : Listing → Type 0 = λ listing. IsWithinFencedLimits listing.threads listing.memory in
    let same : ◌≡◌ {A = Listing} (record { threads = c.into_vec.result.items; memory = c.into_vec-2.result.items }) c.args.listing = λ i. record { threads = c.into_vec.ensures i; memory = c.into_vec-2.ensures i } in
    (c.in-Ok.ensures.value ∙ same, subst within same c.in-Ok.ensures.limits)

pub returns-in-Err : goal.returns-in-Err
returns-in-Err c =
    let first : Listing → Option ProgramFault = λ listing. first_fenced_fault listing.threads listing.memory in
    let same : ◌≡◌ {A = Listing} (record { threads = c.into_vec.result.items; memory = c.into_vec-2.result.items }) c.args.listing = λ i. record { threads = c.into_vec.ensures i; memory = c.into_vec-2.ensures i } in
    first_refused (first c.args.listing) c.in-Err.fault c.refused.result
    (λ e. c.in-Err.ensures.within (ap first same ∙ e))
    (λ limit e. let q = c.in-Err.ensures.refused limit (ap first same ∙ e) in cc)
    c.refused.ensures
