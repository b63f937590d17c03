-- Runs that show a truth are witnesses of it.
use Rattle.std.proofs.Common.{zero, suc, false, true, not, refl, [], ◌∷◌}
use Rattle.cover_solver.proofs.Vocabulary.{◌≡◌, Bool, List, Contains, arith, sym, ap, subst, Listing, Outcome, Label, Machine, IsShownRun, AllowsShown, told, asked}
use Rattle.tso_program.specs.{declared.atom.Atom.Atom, declared.shown.Shown.TheVariants.Truth, Tree.Tree, Truth.truth}
use Rattle.tso_program.proofs.ReadOff.{told_apart}
use Rattle.cover_solver.specs.Witnesses.{IsWitness, HasNoWitness}

-- no truth is its negation
not_itself : (b : Bool) → b ≡ not b → ⊥
not_itself true e = cc
not_itself false e = cc

-- the only outcome of a list is there
only : (o : Outcome) → Contains (o ∷ []) o
only o = (0, omega arith, refl)

-- what is there is the only outcome of a list
is_only : (o x : Outcome) → Contains (o ∷ []) x → o ≡ x
is_only o x (zero, h, e) = e
is_only o x (suc k, h, e) = absurd (omega (arith, h))

-- a truth is this one where the other one's outcome is all that it does not show
is_this : (b c : Bool) → (Contains (told (not b) ∷ []) (told c) → ⊥) → c ≡ b
is_this true true lacks = refl
is_this true false lacks = absurd (lacks (only (told false)))
is_this false true lacks = absurd (lacks (only (told true)))
is_this false false lacks = refl

module _ (p : Listing) (machine : Machine) (b : Bool) where
  none_shows : (f : Tree Atom) → ((o : Outcome) → AllowsShown (asked p (Truth f)) machine o → Contains (told (not b) ∷ []) o) → HasNoWitness p machine f b
  none_shows f all labels (o, is_run, e) = not_itself b (sym (told_apart (not b) b (is_only (told (not b)) (told b) (all (told b) (labels, (o, is_run, ap told (sym e)))))))

  other_shows : (f : Tree Atom) (labels : List Label) (o : Outcome) → IsShownRun (asked p (Truth f)) machine labels o → (Contains (told (not b) ∷ []) o → ⊥) → IsWitness p machine f b labels
  other_shows f labels o (whole, is_run, e) lacks = (whole, is_run, is_this b (truth whole f) (λ has. lacks (subst (Contains (told (not b) ∷ [])) (sym e) has)))

  -- where the other truth is all that is shown, no run is a witness
  pub no_witness : (f g : Tree Atom) (o : Outcome) → g ≡ f → o ≡ told (not b) → ((x : Outcome) → AllowsShown (asked p (Truth g)) machine x → Contains (o ∷ []) x) → HasNoWitness p machine f b
  no_witness f g o same is all =
      subst (λ (h : Tree Atom). HasNoWitness p machine h b) same (none_shows g (subst (λ (x : Outcome). (y : Outcome) → AllowsShown (asked p (Truth g)) machine y → Contains (x ∷ []) y) is all))

  -- a run that shows what the other truth does not is a witness
  pub a_witness : (f g : Tree Atom) (o x : Outcome) (labels : List Label) → g ≡ f → o ≡ told (not b) → IsShownRun (asked p (Truth g)) machine labels x → (Contains (o ∷ []) x → ⊥) → IsWitness p machine f b labels
  a_witness f g o x labels same is is_run lacks =
      subst (λ (h : Tree Atom). IsWitness p machine h b labels) same (other_shows g labels x is_run (subst (λ (y : Outcome). Contains (y ∷ []) x → ⊥) is lacks))
