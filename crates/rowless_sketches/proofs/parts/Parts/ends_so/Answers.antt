use Rattle.rowless_sketches.proofs.Vocabulary.{◌≡◌, arith}
use Rattle.rowless_sketches.proofs.Known.{access_does}
use Rattle.rowless_sketches.proofs.parts.Parts.ends_so.Goals as goal

pub returns : goal.returns
returns c =
    let here : c.args.x.location ≡ c.args.location = omega (arith, c.if-x-location.false) in
    access_does c.args.self.now c.args.location c.args.value c.args.is c.args.event c.args.x c.in-Some.held c.has_later.result
    c.requires.access c.requires.other c.in-Some.is here (c.is_so.ensures.0 c.if-not-is_so.false) c.has_later.ensures
