-- A run of the fenced program is a run with gaps fenced: a thread after a fence of its own has nothing waiting until its instruction.
use Rattle.std.proofs.Common.{◌≡◌, ℕ, ◌+◌, Bool, true, false, List, [], ◌∷◌, ◌++◌, ◌⊎◌, Option, Some, None, refl, sym, ap, ◌∙◌, subst, inl, inr}
use Rattle.std.specs.Option.{option_map}
use Rattle.std.proofs.lemmas.Option.{same_Some, option_and_then_some}
use Rattle.tso_program.specs.declared.instruction.Instr.{Instr}
use Rattle.tso_program.specs.declared.instruction.Instr.TheVariants.{Fence}
use Rattle.tso_program.specs.declared.listing.Listing.{Listing}
use Rattle.tso_program.specs.declared.action.Local.{Local}
use Rattle.tso_program.specs.declared.action.Action.{TheVariants.Wait}
use Rattle.tso_program.specs.Actions.{onward}
use Rattle.tso_program.specs.Listings.{action}
use Rattle.tso_program.specs.Listings.{instr_at}
use Rattle.tso_program.specs.Fences.{Gaps, place_of, moved, fence}
use Rattle.tso_machine.specs.declared.label.Label.{Label, TheVariants.Exec, TheVariants.Flush}
use Rattle.tso_machine.specs.declared.label.Pending.{Pending}
use Rattle.tso_machine.specs.Machine.{no_gaps, State, put, when_empty, step, run}
use Rattle.tso_program.proofs.FencedPlaces.{first_of, instr_at_place, instr_after_fence}
use Rattle.tso_machine.proofs.{ChangedAt.put_each, FencedActions.placed, FencedSteps.with_locals, FencedSteps.follow, FencedSteps.fence_step, FencedSteps.instruction_step, FencesInserted.next_place}
use Rattle.tso_machine.proofs.EitherMachine.{mode_with, effect, NothingWaits, made, makes, others_keep, run_first, stands_at, stored, flush_made, flush_makes}

module _ (p : Listing) (gaps : Gaps) (waits : Bool) where
  -- the thread of the fenced program has executed the fence of the instruction at which the thread stands
  pub record IsBetween (u : ℕ) (local : Local) (buffer : List Pending) (other : Local) : Type 0 where
    pub behind : other ≡ onward (placed (gaps u) local)
    pub fenced : gaps u local.place ≡ true
    pub instruction : Instr
    pub there : instr_at p.threads u local.place ≡ Some instruction
    pub empty : NothingWaits waits buffer

  -- the thread of the fenced program stands before its fence or after it
  abbrev pub Stands : ℕ → Local → List Pending → Local → Type 0
  Stands u local buffer other = (other ≡ placed (gaps u) local) ⊎ IsBetween u local buffer other

  -- so does each thread
  abbrev pub AllStand : State → (ℕ → Local) → Type 0
  AllStand s locals = (u : ℕ) → Stands u (s.locals u) (s.buffers u) (locals u)

  -- labels that lead on to a state that the fenced program's has gone to
  record Leads (s z' : State) : Type 0 where
    labels : List Label
    z : State
    locals' : ℕ → Local
    leads : (ls : List Label) → run p (mode_with waits gaps) s (labels ++ ls) ≡ run p (mode_with waits gaps) z ls
    same : z' ≡ with_locals z locals'
    stand : AllStand z locals'

  -- the threads stand where one of them executed its instruction
  still_stand : (s z : State) (locals : ℕ → Local) (t : ℕ) → AllStand s locals → effect waits s t (action p.threads t (s.locals t)) ≡ Some z →
      AllStand z (put locals t (placed (gaps t) (z.locals t)))
  still_stand s z locals t stand e = put_each (λ u other. Stands u (z.locals u) (z.buffers u) other) locals t (placed (gaps t) (z.locals t)) (inl refl)
      (λ u q. let kept = others_keep t u q waits s z (action p.threads t (s.locals t)) e in rw (kept.local, kept.buffer) (stand u))

  -- the step of an instruction
  by_instruction : (s z' : State) (locals : ℕ → Local) (t : ℕ) (x : Instr) (q : ℕ) → AllStand s locals → instr_at p.threads t (s.locals t).place ≡ Some x →
      locals t ≡ record (s.locals t) { place = q } → instr_at (fence gaps p).threads t q ≡ Some (moved (gaps t) x) →
      q + 1 ≡ place_of (gaps t) ((s.locals t).place + 1) → (gaps t (s.locals t).place ≡ true → NothingWaits waits (s.buffers t)) →
      step (fence gaps p) (mode_with waits no_gaps) (with_locals s locals) (Exec t) ≡ Some z' → Leads s z'
  by_instruction s z' locals t x q stand here stands there next free e =
      by_effect (effect waits s t (action p.threads t (s.locals t))) refl (sym (instruction_step p gaps waits s locals t x q here stands there next) ∙ e)
    where
      by_effect : (o : Option State) → effect waits s t (action p.threads t (s.locals t)) ≡ o → option_map (follow (gaps t) t locals) o ≡ Some z' → Leads s z'
      by_effect None r e = absurd cc
      by_effect (Some z) r e = record {
        labels = Exec t ∷ [];
        z = z;
        locals' = put locals t (placed (gaps t) (z.locals t));
        leads = λ ls. run_first p (mode_with waits gaps) s z (Exec t) ls (makes p gaps waits s t free ∙ r);
        same = sym (same_Some _ z' e);
        stand = still_stand s z locals t stand r;
      }

  -- what the fence waited for
  fence_waited : (b : Bool) (s z : State) (t : ℕ) (next : Local) → effect b s t (Wait next) ≡ Some z → NothingWaits b (s.buffers t) × (z ≡ record s { locals = put s.locals t next })
  fence_waited false s z t next e = ((λ b. absurd cc), sym (same_Some _ z e))
  fence_waited true s z t next e = by_buffer (s.buffers t) e
    where
      by_buffer : (ws : List Pending) → when_empty ws (record s { locals = put s.locals t next }) ≡ Some z → NothingWaits true ws × (z ≡ record s { locals = put s.locals t next })
      by_buffer [] e = ((λ b. refl), sym (same_Some _ z e))
      by_buffer (w ∷ ws) e = absurd cc

  -- the step of a fence
  by_fence : (s z' : State) (locals : ℕ → Local) (t : ℕ) (x : Instr) → AllStand s locals → instr_at p.threads t (s.locals t).place ≡ Some x →
      locals t ≡ placed (gaps t) (s.locals t) → instr_at (fence gaps p).threads t (place_of (gaps t) (s.locals t).place) ≡ Some Fence → gaps t (s.locals t).place ≡ true →
      step (fence gaps p) (mode_with waits no_gaps) (with_locals s locals) (Exec t) ≡ Some z' → Leads s z'
  by_fence s z' locals t x stand here stands fence_there g e =
      let there : instr_at (fence gaps p).threads t (locals t).place ≡ Some Fence = ap (λ (l : Local). instr_at (fence gaps p).threads t l.place) stands ∙ fence_there in
      let (empty, is) = fence_waited waits (with_locals s locals) z' t (onward (locals t)) (sym (fence_step p gaps waits s locals t there) ∙ e) in
      record {
        labels = [];
        z = s;
        locals' = put locals t (onward (locals t));
        leads = λ ls. refl;
        same = is;
        stand = put_each (λ u other. Stands u (s.locals u) (s.buffers u) other) locals t (onward (locals t))
            (inr (record { behind = ap onward stands; fenced = g; instruction = x; there = here; empty = empty })) (λ u q. stand u);
      }

  -- a step of a thread that stands before its fence, or where it has none
  by_place : (s z' : State) (locals : ℕ → Local) (t : ℕ) → AllStand s locals → locals t ≡ placed (gaps t) (s.locals t) →
      step (fence gaps p) (mode_with waits no_gaps) (with_locals s locals) (Exec t) ≡ Some z' → Leads s z'
  by_place s z' locals t stand stands e =
      let (y, at) = stands_at (fence gaps p) waits (with_locals s locals) z' t (made (fence gaps p) no_gaps waits (with_locals s locals) z' t e).1 in
      by_gap y (ap (λ (l : Local). instr_at (fence gaps p).threads t l.place) (sym stands) ∙ at)
      (instr_at p.threads t (s.locals t).place) (gaps t (s.locals t).place) refl refl (instr_at_place gaps p.threads t (s.locals t).place)
    where
      by_gap : (y : Instr) → instr_at (fence gaps p).threads t (place_of (gaps t) (s.locals t).place) ≡ Some y →
          (o : Option Instr) (b : Bool) → instr_at p.threads t (s.locals t).place ≡ o → gaps t (s.locals t).place ≡ b →
          instr_at (fence gaps p).threads t (place_of (gaps t) (s.locals t).place) ≡ first_of (gaps t) (gaps t (s.locals t).place) (instr_at p.threads t (s.locals t).place) → Leads s z'
      by_gap y at None b here g there = absurd (let no : None ≡ Some y = sym (ap (first_of (gaps t) (gaps t (s.locals t).place)) here) ∙ sym there ∙ at in cc)
      by_gap y at (Some x) true here g there = by_fence s z' locals t x stand here stands
          (there ∙ ap (λ b. first_of (gaps t) b (instr_at p.threads t (s.locals t).place)) g ∙ ap (first_of (gaps t) true) here) g e
      by_gap y at (Some x) false here g there = by_instruction s z' locals t x (place_of (gaps t) (s.locals t).place) stand here stands
          (there ∙ ap (λ b. first_of (gaps t) b (instr_at p.threads t (s.locals t).place)) g ∙ ap (first_of (gaps t) false) here)
          (next_place (gaps t) (s.locals t).place false g) (λ h. absurd (let no : true ≡ false = sym h ∙ g in cc)) e

  -- a step of either kind
  by_label : (s z' : State) (locals : ℕ → Local) (l : Label) → AllStand s locals → step (fence gaps p) (mode_with waits no_gaps) (with_locals s locals) l ≡ Some z' → Leads s z'
  by_label s z' locals (Exec t) stand e = elim (stand t) [
    | inl stands ↦ by_place s z' locals t stand stands e
    | inr between ↦ by_instruction s z' locals t between.instruction (place_of (gaps t) (s.locals t).place + 1) stand between.there between.behind
        (instr_after_fence gaps p.threads t (s.locals t).place between.instruction between.fenced between.there)
        (next_place (gaps t) (s.locals t).place true between.fenced) (λ h. between.empty) e
  ]
  by_label s z' locals (Flush t) stand e =
      let f = flush_made (fence gaps p) no_gaps waits (with_locals s locals) z' t e in
      let z = stored s t f.oldest f.others in
      record {
        labels = Flush t ∷ [];
        z = z;
        locals' = locals;
        leads = λ ls. run_first p (mode_with waits gaps) s z (Flush t) ls (flush_makes p gaps waits s t f.oldest f.others f.buffered f.waiting);
        same = f.result;
        stand = put_each (λ u buffer. Stands u (s.locals u) buffer (locals u)) s.buffers t f.others
            (elim (stand t) [ inl stands ↦ inl stands | inr between ↦ absurd (let no : [] ≡ f.oldest ∷ f.others = sym (between.empty f.buffered) ∙ f.waiting in cc) ]) (λ u q. stand u);
      }

  -- the program's run, and where it ends
  pub record Dropped (s last : State) : Type 0 where
    pub labels : List Label
    pub end : State
    pub last_locals : ℕ → Local
    pub is_run : run p (mode_with waits gaps) s labels ≡ Some end
    pub same : last ≡ with_locals end last_locals
    pub stand : AllStand end last_locals

  -- by each step in turn
  pub dropped : (ls : List Label) (s last : State) (locals : ℕ → Local) → AllStand s locals → run (fence gaps p) (mode_with waits no_gaps) (with_locals s locals) ls ≡ Some last → Dropped s last
  dropped [] s last locals stand r = record { labels = []; end = s; last_locals = locals; is_run = refl; same = sym (same_Some _ last r); stand = stand }
  dropped (l ∷ ls) s last locals stand r =
      option_and_then_some (λ next. run (fence gaps p) (mode_with waits no_gaps) next ls) (step (fence gaps p) (mode_with waits no_gaps) (with_locals s locals) l) last r (λ z' e rest.
      let first = by_label s z' locals l stand e in
      let later = dropped ls first.z last first.locals' first.stand (subst (λ x. run (fence gaps p) (mode_with waits no_gaps) x ls ≡ Some last) first.same rest) in
      record {
        labels = first.labels ++ later.labels;
        end = later.end;
        last_locals = later.last_locals;
        is_run = first.leads later.labels ∙ later.is_run;
        same = later.same;
        stand = later.stand;
      })
