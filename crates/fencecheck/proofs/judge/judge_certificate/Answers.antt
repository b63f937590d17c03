use Rattle.fencecheck.proofs.Vocabulary.{◌≡◌, inr, refl, sym, ap, ◌∙◌, subst, asked_with, handed_in}
use Rattle.tso_program.specs.{declared.listing.Listing.Listing, declared.shown.Shown.Shown}
use Rattle.litmus_reader.specs.declared.litmus.Litmus.{Litmus}
use Rattle.cert_forest.specs.{declared.shows.Shows.Shows, declared.shows.Shows.TheVariants.All, Shows.shows_of, Certificates.Certificate}
use Rattle.cert_check.specs.Faults.{CheckFaultIs}
use Rattle.fencecheck.proofs.judge.judge_certificate.Goals as goal

-- what is handed in is what is asked
asked_once : (litmus : Litmus Listing) (claimed : Shows) → handed_in litmus (shows_of (handed_in litmus claimed)) ≡ handed_in litmus claimed
asked_once litmus All = refl
asked_once litmus claimed = refl

pub returns-in-Err-clause-refused : goal.returns-in-Err-clause-refused
returns-in-Err-clause-refused c source claim spell =
    (c.args.litmus.now, c.args.certificate.now, spell, c.in-Err.ensures.none)

pub returns-in-Err-handed_in-clause-refused : goal.returns-in-Err-handed_in-clause-refused
returns-in-Err-handed_in-clause-refused c source claim spell =
    (c.args.litmus.now, spell.of_program, record { trailing = λ place same. absurd cc; more = λ place more. inr refl; none = λ certificate is. refl })

pub returns-in-Ok-checked_line-clause-accepted : goal.returns-in-Ok-checked_line-clause-accepted
returns-in-Ok-checked_line-clause-accepted c source claim spell = record {
  told = record {
    program = c.args.litmus.now;
    of_text = spell.of_program;
    gap_costs = c.in-Ok.costs;
    given = c.in-Ok.ensures.costs;
    shown = c.in-Ok-handed_in.shown;
    as_asked = subst (λ (shown : Shown). handed_in c.args.litmus.now (shows_of shown) ≡ shown) (sym c.in-Ok-handed_in.ensures) (asked_once c.args.litmus.now c.certificate.inside.shown);
    gaps = c.args.certificate.now.gaps;
    headline = c.in-Ok-checked_line.ensures.headline;
    fenced = c.in-Ok-checked_line.ensures.fenced;
    printed = c.in-Ok-checked_line.ensures.line;
  };
  claimed = c.args.certificate.now;
  of_certificate = spell.of_certificate;
  claims = refl;
  valid = c.in-Ok-checked_line.ensures.valid;
}

pub returns-clause-refused : goal.returns-clause-refused
returns-clause-refused c source claim spell = (
  c.args.litmus.now,
  c.args.certificate.now,
  c.in-Ok.costs,
  spell,
  c.in-Ok.ensures.costs,
  subst (λ shown. CheckFaultIs (asked_with c.in-Ok.costs.ties c.args.litmus.now.program shown) c.in-Ok.costs.costs c.args.certificate.now c.in-Err-checked_line.fault) (c.in-Ok-handed_in.ensures ∙ ap (λ (claimed : Certificate). handed_in c.args.litmus.now claimed.shown) c.certificate.view_is) c.in-Err-checked_line.ensures.refused,
)
