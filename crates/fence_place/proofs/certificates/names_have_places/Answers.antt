use Rattle.fence_place.proofs.Vocabulary.{sym, subst, Shown, AreShownPlaces, shows_of}
use Rattle.fence_place.proofs.certificates.names_have_places.Goals as goal

pub returns-in-Only : goal.returns-in-Only
returns-in-Only c = subst (λ (s : Shown). AreShownPlaces (shows_of s)) (sym c.in-Only.is) c.places.ensures.below
