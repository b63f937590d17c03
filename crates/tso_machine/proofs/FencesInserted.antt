-- A run with gaps fenced is a run of the fenced program: its fences are executed just before their instructions.
use Rattle.std.proofs.Common.{◌≡◌, ℕ, suc, ◌+◌, Bool, true, false, List, [], ◌∷◌, ◌++◌, Some, refl, sym, ap, ◌∙◌, subst, arith}
use Rattle.std.specs.Option.{option_map}
use Rattle.std.proofs.lemmas.Option.{option_and_then_some}
use Rattle.tso_program.specs.declared.instruction.Instr.{Instr}
use Rattle.tso_program.specs.declared.instruction.Instr.TheVariants.{Fence}
use Rattle.tso_program.specs.declared.listing.Listing.{Listing}
use Rattle.tso_program.specs.declared.action.Local.{Local}
use Rattle.tso_program.specs.declared.action.Action.{TheVariants.Wait}
use Rattle.tso_program.specs.Actions.{onward}
use Rattle.tso_program.specs.Listings.{action, instr_at}
use Rattle.tso_program.specs.Fences.{Gaps, place_of, moved}
use Rattle.tso_program.specs.Fences.{fence}
use Rattle.tso_machine.specs.declared.label.Label.{Label, TheVariants.Exec, TheVariants.Flush}
use Rattle.tso_machine.specs.Machine.{no_gaps, State, put, when_empty, step, run}
use Rattle.tso_program.proofs.FencedPlaces.{first_of, instr_at_place, instr_after_fence}
use Rattle.std.specs.Prelude.{if◌then◌else◌}
use Rattle.tso_machine.proofs.{ChangedAt.put_same, ChangedAt.put_other, ChangedAt.put_each, FencedActions.placed}
use Rattle.tso_machine.proofs.EitherMachine.{mode_with, effect, NothingWaits, made, others_keep, run_first, stands_at, flush_made, flush_makes}
use Rattle.tso_machine.proofs.FencedSteps.{with_locals, follow, fence_step, instruction_step}

-- the next place, from after the fence or from where there is no fence
pub next_place : (gap : ℕ → Bool) (k : ℕ) (b : Bool) → gap k ≡ b → (if b then place_of gap k + 1 else place_of gap k) + 1 ≡ place_of gap (k + 1)
next_place gap k true e =
    let s : k + 1 ≡ suc k = omega arith in
    let z : place_of gap (k + 1) ≡ place_of gap k + 2 = ap (place_of gap) s ∙ ap (λ b. place_of gap k + (if b then 2 else 1)) e in omega arith
next_place gap k false e =
    let s : k + 1 ≡ suc k = omega arith in
    let z : place_of gap (k + 1) ≡ place_of gap k + 1 = ap (place_of gap) s ∙ ap (λ b. place_of gap k + (if b then 2 else 1)) e in omega arith

module _ (p : Listing) (gaps : Gaps) (waits : Bool) where
  -- each thread of the fenced program stands before the fence of where the thread stands
  abbrev pub Follow : State → (ℕ → Local) → Type 0
  Follow s locals = (u : ℕ) → locals u ≡ placed (gaps u) (s.locals u)

  -- labels that lead on to what follows the next state
  record Leads (s : State) (locals : ℕ → Local) (z : State) : Type 0 where
    labels : List Label
    locals' : ℕ → Local
    leads : (ls : List Label) → run (fence gaps p) (mode_with waits no_gaps) (with_locals s locals) (labels ++ ls) ≡ run (fence gaps p) (mode_with waits no_gaps) (with_locals z locals') ls
    follow' : Follow z locals'

  -- threads follow where one of them made a step
  pub still_follow : (s z : State) (locals locals' : ℕ → Local) (t : ℕ) → Follow s locals → ((u : ℕ) → (u ≡ t → ⊥) → locals' u ≡ locals u) →
      effect waits s t (action p.threads t (s.locals t)) ≡ Some z → Follow z (put locals' t (placed (gaps t) (z.locals t)))
  still_follow s z locals locals' t follows same e = put_each (λ u local. local ≡ placed (gaps u) (z.locals u)) locals' t (placed (gaps t) (z.locals t)) refl
      (λ u q. same u q ∙ follows u ∙ ap (placed (gaps u)) (sym (others_keep t u q waits s z (action p.threads t (s.locals t)) e).local))

  -- a fence is executed where nothing waits
  fence_waits : (b : Bool) (s : State) (t : ℕ) (next : Local) → NothingWaits b (s.buffers t) → effect b s t (Wait next) ≡ Some (record s { locals = put s.locals t next })
  fence_waits true s t next h = ap (λ ws. when_empty ws (record s { locals = put s.locals t next })) (h refl)
  fence_waits false s t next h = refl

  -- the step of an instruction, behind its fence where it has one
  by_exec : (s z : State) (locals : ℕ → Local) (t : ℕ) → Follow s locals → step p (mode_with waits gaps) s (Exec t) ≡ Some z → Leads s locals z
  by_exec s z locals t follows e =
      let (free, r) = made p gaps waits s z t e in
      let (x, here) = stands_at p waits s z t r in
      by_gap free r x here (gaps t (s.locals t).place) refl
    where
      by_gap : (gaps t (s.locals t).place ≡ true → NothingWaits waits (s.buffers t)) → effect waits s t (action p.threads t (s.locals t)) ≡ Some z →
          (x : Instr) → instr_at p.threads t (s.locals t).place ≡ Some x → (b : Bool) → gaps t (s.locals t).place ≡ b → Leads s locals z
      by_gap free r x here false g =
          let there : instr_at (fence gaps p).threads t (place_of (gaps t) (s.locals t).place) ≡ Some (moved (gaps t) x) =
          instr_at_place gaps p.threads t (s.locals t).place ∙ ap (λ b. first_of (gaps t) b (instr_at p.threads t (s.locals t).place)) g ∙ ap (first_of (gaps t) false) here in
          let one = instruction_step p gaps waits s locals t x (place_of (gaps t) (s.locals t).place) here (follows t) there (next_place (gaps t) (s.locals t).place false g)
          ∙ ap (option_map (follow (gaps t) t locals)) r in
          record {
            labels = Exec t ∷ [];
            locals' = put locals t (placed (gaps t) (z.locals t));
            leads = λ ls. run_first (fence gaps p) (mode_with waits no_gaps) (with_locals s locals) (follow (gaps t) t locals z) (Exec t) ls one;
            follow' = still_follow s z locals locals t follows (λ u q. refl) r;
          }
      by_gap free r x here true g =
          let k = (s.locals t).place in
          let between = put locals t (onward (locals t)) in
          let fence_here : instr_at (fence gaps p).threads t (locals t).place ≡ Some Fence =
          ap (λ (l : Local). instr_at (fence gaps p).threads t l.place) (follows t)
          ∙ instr_at_place gaps p.threads t k ∙ ap (λ b. first_of (gaps t) b (instr_at p.threads t k)) g ∙ ap (first_of (gaps t) true) here in
          let first : step (fence gaps p) (mode_with waits no_gaps) (with_locals s locals) (Exec t) ≡ Some (with_locals s between) =
          fence_step p gaps waits s locals t fence_here ∙ fence_waits waits (with_locals s locals) t (onward (locals t)) (free g) in
          let stands : between t ≡ record (s.locals t) { place = place_of (gaps t) k + 1 } = put_same locals t (onward (locals t)) ∙ ap onward (follows t) in
          let second : step (fence gaps p) (mode_with waits no_gaps) (with_locals s between) (Exec t) ≡ Some (follow (gaps t) t between z) =
          instruction_step p gaps waits s between t x (place_of (gaps t) k + 1) here stands (instr_after_fence gaps p.threads t k x g here) (next_place (gaps t) k true g)
          ∙ ap (option_map (follow (gaps t) t between)) r in
          record {
            labels = Exec t ∷ Exec t ∷ [];
            locals' = put between t (placed (gaps t) (z.locals t));
            leads = λ ls. run_first (fence gaps p) (mode_with waits no_gaps) (with_locals s locals) (with_locals s between) (Exec t) (Exec t ∷ ls) first
                ∙ run_first (fence gaps p) (mode_with waits no_gaps) (with_locals s between) (follow (gaps t) t between z) (Exec t) ls second;
            follow' = still_follow s z locals between t follows (λ u q. put_other locals t (onward (locals t)) u q) r;
          }

  -- a step of either kind
  by_label : (s z : State) (locals : ℕ → Local) (l : Label) → Follow s locals → step p (mode_with waits gaps) s l ≡ Some z → Leads s locals z
  by_label s z locals (Exec t) follows e = by_exec s z locals t follows e
  by_label s z locals (Flush t) follows e =
      let f = flush_made p gaps waits s z t e in
      let one : step (fence gaps p) (mode_with waits no_gaps) (with_locals s locals) (Flush t) ≡ Some (with_locals z locals) =
      flush_makes (fence gaps p) no_gaps waits (with_locals s locals) t f.oldest f.others f.buffered f.waiting ∙ ap (λ x. Some (with_locals x locals)) (sym f.result) in
      record {
        labels = Flush t ∷ [];
        locals' = locals;
        leads = λ ls. run_first (fence gaps p) (mode_with waits no_gaps) (with_locals s locals) (with_locals z locals) (Flush t) ls one;
        follow' = λ u. follows u ∙ ap (λ (x : State). placed (gaps u) (x.locals u)) (sym f.result);
      }

  -- the fenced program's run, and where it ends
  pub record Follows (locals : ℕ → Local) (s last : State) : Type 0 where
    pub labels : List Label
    pub last_locals : ℕ → Local
    pub is_run : run (fence gaps p) (mode_with waits no_gaps) (with_locals s locals) labels ≡ Some (with_locals last last_locals)
    pub follow : Follow last last_locals

  -- by each step in turn
  pub inserted : (ls : List Label) (s last : State) (locals : ℕ → Local) → Follow s locals → run p (mode_with waits gaps) s ls ≡ Some last → Follows locals s last
  inserted [] s last locals follows r =
      let e : s ≡ last = cc in
      record { labels = []; last_locals = locals; is_run = ap (λ x. Some (with_locals x locals)) e; follow = subst (λ x. Follow x locals) e follows }
  inserted (l ∷ ls) s last locals follows r = option_and_then_some (λ next. run p (mode_with waits gaps) next ls) (step p (mode_with waits gaps) s l) last r (λ z e rest.
      let first = by_label s z locals l follows e in
      let later = inserted ls z last first.locals' first.follow' rest in
      record { labels = first.labels ++ later.labels; last_locals = later.last_locals; is_run = first.leads later.labels ∙ later.is_run; follow = later.follow })
