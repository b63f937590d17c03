-- The events of the calls.
use Rattle.search_core.proofs.Vocabulary.{◌≡◌, ◌⊎◌, ℕ, ◌<◌, List, ◌++◌, Option, Some, None, sym, ap, ◌∙◌, subst, inl, inr, length, slice_get, slice_set, IfSome, slice_get_within, Region, Question, AreGapsOf, Foreign, Serving}
use Rattle.search_core.proofs.Vocabulary.{IsForeignValue, IsServing, PassesNoneOf, Entry, Open, Held, Split, Cut, Confirmed, Reason, children, entry, IsReached, Bound, IsCeiling, IsBound, IsCeilingOf, SearchState, IsOpenAt, IsHeldAt, HoldsNode, HoldsNothing}
use Rattle.search_core.proofs.Vocabulary.{HoldsOnly, HasNoOpen, open_entries, IsBeaten, IsTooDear, IsBestAfter, TakesNode, GivesBack, Splits, Cuts, Confirms, IsReasonOf, HasBound, CutsMust, IsAboveCeiling}
use Rattle.search_core.specs.declared.ceiling.Reason.TheVariants as reason
use Rattle.search_core.proofs.{Kept.facts_of, OneNode.only_node}

-- a seat of the value is one of the fields
pub seated : (s old : SearchState) → s ≡ old → (seat : ℕ) → seat < old.seats → seat < s.seats
seated s old is seat h = subst (λ (t : SearchState). seat < t.seats) (sym is) h

-- the fields as they were found, the value, and the entries that were looked through
module _ (s old : SearchState) (is : s ≡ old) (seen : List Entry) (at : seen ≡ s.entries) where
  seen_old : seen ≡ old.entries
  seen_old = at ∙ ap (λ (t : SearchState). t.entries) is

  pub holds_nothing : (seat : ℕ) → ((place : ℕ) (n : Region) → ¬ IsHeldAt seen seat place n) → HoldsNothing old seat
  holds_nothing seat none n held = none held.0 n (subst (λ es. IsHeldAt es seat held.0 n) (sym seen_old) held.1)

  pub does_hold : (seat place : ℕ) (n : Region) → IsHeldAt seen seat place n → HoldsNode old seat n
  does_hold seat place n held = (place, subst (λ es. IsHeldAt es seat place n) seen_old held)

  pub holds_only : IsReached s → (seat place : ℕ) (n : Region) → IsHeldAt seen seat place n → HoldsOnly old seat n
  holds_only r seat place n held = subst (λ (t : SearchState). HoldsOnly t seat n) is (only_node s seat place n r (subst (λ es. IsHeldAt es seat place n) at held))

  pub no_open : ((place : ℕ) (n : Region) → ¬ IsOpenAt seen place n) → HasNoOpen old
  no_open none place n open_there = none place n (subst (λ es. IsOpenAt es place n) (sym seen_old) open_there)

  pub is_within : (place : ℕ) (e : Entry) → slice_get seen place ≡ Some e → place < length s.entries
  is_within place e there = subst (λ es. place < length es) at (slice_get_within seen place e there)

  pub node_gaps : IsReached s → (place : ℕ) (e : Entry) → slice_get seen place ≡ Some e → (n : Region) → e.node ≡ n → AreGapsOf old.question.program n.must
  node_gaps r place e there n is_node = subst (λ (t : SearchState). AreGapsOf t.question.program n.must) is
      (subst (λ (m : Region). AreGapsOf s.question.program m.must) is_node ((facts_of s r).of_program place e (ap (λ es. slice_get es place) (sym at) ∙ there)))

  module _ (items : List Entry) (seat place : ℕ) (n : Region) where
    abbrev pub after : SearchState
    after = record s { entries = items }

    pub take_event : HoldsNothing old seat → IsOpenAt seen place n → items ≡ slice_set s.entries place (entry n seat Held) → TakesNode s after seat n
    take_event free open_there e = record {
      free = subst (λ (t : SearchState). HoldsNothing t seat) (sym is) free;
      place = place;
      there = subst (λ es. IsOpenAt es place n) at open_there;
      is_after = ap (λ es. record s { entries = es }) e;
    }

    module _ (held : IsHeldAt seen seat place n) where
      held_there : IsHeldAt s.entries seat place n
      held_there = subst (λ es. IsHeldAt es seat place n) at held

      pub give_event : items ≡ slice_set s.entries place (entry n seat Open) → GivesBack s after seat
      give_event e = record { node = n; place = place; there = held_there; is_after = ap (λ es. record s { entries = es }) e }

      pub cut_event : IsBeaten s n ⊎ IsTooDear s n → items ≡ slice_set s.entries place (entry n seat Cut) → Cuts s after seat
      cut_event why e = record { node = n; place = place; there = held_there; why = why; is_after = ap (λ es. record s { entries = es }) e }

      pub confirm_event : (b : Serving) (best : Option Serving) → b.question ≡ old.question → ((m : Region) → HoldsNode old seat m → b.gaps ≡ m.must) → IsServing b → IsBestAfter s.costs b s.best best →
          items ≡ slice_set s.entries place (entry n seat Confirmed) → Confirms s (record s { entries = items; best = best }) seat b
      confirm_event b best of of_node serves best_after e = record {
        node = n;
        place = place;
        there = held_there;
        of_question = of ∙ ap (λ (t : SearchState). t.question) (sym is);
        of_node = of_node n (does_hold seat place n held);
        serves = serves;
        best = best;
        best_after = best_after;
        is_after = ap (λ es. record s { entries = es; best = best }) e;
      }

      pub split_event : (f : Foreign) → f.question ≡ old.question → IsForeignValue f → PassesNoneOf n.must f →
          items ≡ slice_set s.entries place (entry n seat (Split f (length s.entries))) ++ open_entries seat (children n f.passed) → Splits s after seat f
      split_event f of foreign apart e = record {
        node = n;
        place = place;
        there = held_there;
        of_question = of ∙ ap (λ (t : SearchState). t.question) (sym is);
        foreign = foreign;
        passes_none = apart;
        is_after = ap (λ es. record s { entries = es }) e;
      }

-- a reason that cuts a node
pub why_cut : (s : SearchState) (why : Reason) (n : Region) → IsReasonOf s why → HasBound why → CutsMust s.costs s.best why n.must → IsBeaten s n ⊎ IsTooDear s n
why_cut s reason.Best n of bound cuts = inl cuts
why_cut s (reason.Ceiling ceiling) n of bound cuts = inr (by_ceiling ceiling of bound cuts)
  where
    by_ceiling : (c : Option Bound) → IsCeilingOf s.question s.costs c → IfSome c IsBound → IsAboveCeiling s.costs n.must c → IsTooDear s n
    by_ceiling None of bound cuts = absurd cuts
    by_ceiling (Some b) of bound cuts = (b.cost, subst (λ (l : List ℕ). IsCeiling s.question l b.cost) of.1 (subst (λ (q : Question). IsCeiling q b.costs b.cost) of.0 bound), cuts)
