-- What a program without its dead loads leaves, the program leaves.
use Rattle.std.proofs.Common.{◌≡◌, ◌↔◌, List, [], ◌∷◌, Contains, refl, sym, ap, ◌∙◌, subst, false}
use Rattle.std.specs.List.{AllZip}
use Rattle.std.specs.FinSet as set
use Rattle.std.specs.Option.{option_map_or}
use mathlib.Core.Path.{fun_ext}
use Rattle.tso_program.specs.Shown.{asked}
use Rattle.tso_program.specs.declared.listing.Listing.{Listing}
use Rattle.tso_program.specs.declared.outcome.Outcome.{Outcome}
use Rattle.tso_program.specs.declared.shown.Shown.{Shown}
use Rattle.tso_machine.specs.declared.label.Label.{Label}
use Rattle.tso_machine.specs.declared.mode.Mode.{Mode}
use Rattle.tso_machine.specs.declared.mode.Mode.TheVariants as modes
use Rattle.tso_machine.specs.Machine.{Machine, StoreBufferMachine}
use Rattle.tso_machine.specs.Modes.{machine_of_mode}
use Rattle.tso_machine.specs.Outcomes.{AllowsShown, IsShownRun}
use Rattle.dataflow_laws.specs.DeadLoads.{Places, drop_loads, AreDead, IsWithoutDeadLoads}
use Rattle.dataflow_laws.specs.Laws.{DroppedLoadsKeepGaps, DeadLoadsKeepRuns, DeadLoadsKeepOutcomes}
use Rattle.cover_solver.specs.declared.outcome_list.OutcomeList.{OutcomeList}
use Rattle.cover_solver.specs.declared.completeness.Completeness.{Completeness}
use Rattle.cover_solver.specs.declared.completeness.Completeness.TheVariants.{Complete, Lacking}
use Rattle.cover_solver.specs.Completeness.{IsCompleteness}
use Rattle.cover_solver.specs.OutcomeLists.{AreRunsOf, IsListOfAll}

-- lists that are in step by one relation are so by a weaker one
in_step : {A B : Type 0} (R Q : A → B → Type 0) → ((x : A) (y : B) → R x y → Q x y) → (xs : List A) (ys : List B) → AllZip R xs ys → AllZip Q xs ys
in_step R Q weaker [] [] all = tt
in_step R Q weaker [] (y ∷ ys) all = absurd all
in_step R Q weaker (x ∷ xs) [] all = absurd all
in_step R Q weaker (x ∷ xs) (y ∷ ys) all = (weaker x y all.0, in_step R Q weaker xs ys all.1)

-- a mode has one machine, with those loads or without them
one_machine : (p : Listing) (here : Places) (mode : Mode) → DroppedLoadsKeepGaps → machine_of_mode (drop_loads here p) mode ≡ machine_of_mode p mode
one_machine p here modes.Sequential gaps = refl
one_machine p here (modes.Fenced fenced) gaps = ap StoreBufferMachine (fun_ext (λ t. fun_ext (λ k. ap (λ n. option_map_or (set.contains fenced) n false) ((gaps p here).1 t k))))

module _ (p slim : Listing) (shown : Shown) (mode : Mode) (without : IsWithoutDeadLoads p shown slim) (gaps : DroppedLoadsKeepGaps) where
  dead : AreDead p shown without.0
  dead t k is = (without.1 t k).0 is

  machine : machine_of_mode slim mode ≡ machine_of_mode p mode
  machine = ap (λ (r : Listing). machine_of_mode r mode) without.2 ∙ one_machine p without.0 mode gaps

  run_back : DeadLoadsKeepRuns → (labels : List Label) (o : Outcome) → IsShownRun (asked slim shown) (machine_of_mode slim mode) labels o → IsShownRun (asked p shown) (machine_of_mode p mode) labels o
  run_back kept labels o is =
      (kept p shown without.0 (machine_of_mode p mode) labels o dead).0
      (subst (λ (m : Machine). IsShownRun (asked (drop_loads without.0 p) shown) m labels o) machine (subst (λ (r : Listing). IsShownRun (asked r shown) (machine_of_mode slim mode) labels o) without.2 is))

  runs_back : DeadLoadsKeepRuns → (runs : List (List Label)) (outcomes : List Outcome) → AreRunsOf (asked slim shown) (machine_of_mode slim mode) runs outcomes → AreRunsOf (asked p shown) (machine_of_mode p mode) runs outcomes
  runs_back kept runs outcomes are = in_step (IsShownRun (asked slim shown) (machine_of_mode slim mode)) (IsShownRun (asked p shown) (machine_of_mode p mode)) (run_back kept) runs outcomes are

  same_outcomes : DeadLoadsKeepOutcomes → (o : Outcome) → AllowsShown (asked slim shown) (machine_of_mode slim mode) o ↔ AllowsShown (asked p shown) (machine_of_mode p mode) o
  same_outcomes kept o =
      subst (λ (m : Machine). AllowsShown (asked slim shown) m o ↔ AllowsShown (asked p shown) (machine_of_mode p mode) o) (sym machine)
      (subst (λ (r : Listing). AllowsShown (asked r shown) (machine_of_mode p mode) o ↔ AllowsShown (asked p shown) (machine_of_mode p mode) o) (sym without.2) (kept p shown without.0 (machine_of_mode p mode) o dead))

  exact_back : DeadLoadsKeepOutcomes → (outcomes : List Outcome) → ((o : Outcome) → Contains outcomes o ↔ AllowsShown (asked slim shown) (machine_of_mode slim mode) o) →
      (o : Outcome) → Contains outcomes o ↔ AllowsShown (asked p shown) (machine_of_mode p mode) o
  exact_back kept outcomes exact o = (λ here. (same_outcomes kept o).0 ((exact o).0 here), λ allows. (exact o).1 ((same_outcomes kept o).1 allows))

  -- all outcomes without these loads, each with a run, are all outcomes of the program
  pub listed_back : DeadLoadsKeepRuns → DeadLoadsKeepOutcomes → (list : OutcomeList) → IsListOfAll (asked slim shown) (machine_of_mode slim mode) list → IsListOfAll (asked p shown) (machine_of_mode p mode) list
  listed_back kept_runs kept_outcomes list all = record {
    ascend = all.ascend;
    runs = runs_back kept_runs list.runs list.outcomes.items all.runs;
    exact = exact_back kept_outcomes list.outcomes.items all.exact;
  }

  -- what is so of a list of outcomes without these loads is so of the program
  pub completeness_back : DeadLoadsKeepRuns → DeadLoadsKeepOutcomes → (outcomes : List Outcome) (found : Completeness) → IsCompleteness (asked slim shown) (machine_of_mode slim mode) outcomes found →
      IsCompleteness (asked p shown) (machine_of_mode p mode) outcomes found
  completeness_back kept_runs kept_outcomes outcomes Complete all = λ o allows. all o ((same_outcomes kept_outcomes o).1 allows)
  completeness_back kept_runs kept_outcomes outcomes (Lacking labels) (o, is_run, lacks) = (o, run_back kept_runs labels.items o is_run, lacks)
