-- What a run passes are gaps: never a thread's first instruction, since nothing leads back to it, nor its end.
use Rattle.std.proofs.Common.{◌≡◌, ℕ, ◌<◌, ◌≤◌, Bool, true, false, ◌&&◌, ◌||◌, ◌==◌, not, List, [], ◌∷◌, length, Option, Some, None, option_and_then, refl, sym, ap, ◌∙◌, subst, inl, inr, arith}
use Rattle.std.proofs.lemmas.Option.{same_Some, slice_get_within}
use Rattle.std.proofs.lemmas.Bool.{cases_eq}
use Rattle.tso_program.specs.declared.instruction.Instr.{Instr}
use Rattle.tso_program.specs.declared.instruction.Instr.TheVariants.{Je, Jne}
use Rattle.tso_program.specs.declared.instruction.Instr.TheVariants.{Jmp}
use Rattle.tso_program.specs.declared.listing.Listing.{Listing}
use Rattle.tso_program.specs.declared.action.Local.{Local}
use Rattle.tso_program.specs.declared.action.Action.{Action, TheVariants.Stop, TheVariants.Go, TheVariants.Wait, TheVariants.Read, TheVariants.Write, TheVariants.Swap}
use Rattle.tso_program.specs.Actions.{act, jumped}
use Rattle.tso_program.specs.Limits.{JumpForward}
use Rattle.tso_machine.specs.declared.label.Label.{Label, TheVariants.Exec, TheVariants.Flush}
use Rattle.tso_machine.specs.declared.label.Pending.{Pending}
use Rattle.tso_program.specs.Listings.{action, instr_at, code_of}
use Rattle.tso_machine.specs.Machine.{no_gaps, put, StoreBufferMachine, State, buffered, step, run, is_empty}
use Rattle.tso_machine.specs.Machine.{from_some, passes_at, passes}
use Rattle.std.proofs.lemmas.Bool.{or_cases as either}
use Rattle.std.proofs.lemmas.Bool.Decides.{nat_tests}
use Rattle.tso_program.specs.Instructions.{target_of}
use Rattle.tso_machine.proofs.{ChangedAt.put_other, ChangedAt.put_each, StepCases.exec_by, StepCases.flush_by}

-- where an action leads is not the first instruction
abbrev LeadsOn : Action → Type 0
LeadsOn Stop = Unit {0}
LeadsOn (Go next) = 0 < next.place
LeadsOn (Wait next) = 0 < next.place
LeadsOn (Read l to next) = 0 < next.place
LeadsOn (Write l v next) = 0 < next.place
LeadsOn (Swap l v to next) = 0 < next.place

-- a jump forward, taken or not
jump_on : (taken : Bool) (k : ℕ) (s : Local) → 0 < k → 0 < (jumped taken k s).place
jump_on true k s h = h
jump_on false k s h = omega arith

-- an instruction whose jump leads forward
instruction_on : (x : Instr) (s : Local) → ((target : ℕ) → target_of x ≡ Some target → 0 < target) → LeadsOn (act (Some x) s)
instruction_on (Je k) s h = jump_on s.flag k s (h k refl)
instruction_on (Jne k) s h = jump_on (not s.flag) k s (h k refl)
instruction_on (Jmp k) s h = h k refl
instruction_on x s h = omega arith

-- a thread that does something stands at an instruction
stands_at : (o : Option Instr) (s : Local) → (act o s ≡ Stop → ⊥) → (x : Instr) × (o ≡ Some x)
stands_at None s h = absurd (h refl)
stands_at (Some x) s h = (x, refl)

module _ (p : Listing) (forward : JumpForward p.threads) where
  -- what a thread does leads on
  leads_on : (t : ℕ) (s : Local) (a : Action) → action p.threads t s ≡ a → LeadsOn a
  leads_on t s a e = subst LeadsOn e (by_instruction (instr_at p.threads t s.place) refl)
    where
      by_instruction : (o : Option Instr) → instr_at p.threads t s.place ≡ o → LeadsOn (act o s)
      by_instruction None e = tt
      by_instruction (Some x) e = instruction_on x s (λ target h. let z : s.place < target = forward t s.place target x e h in omega arith)

  -- at its first instruction a thread has nothing waiting
  abbrev NothingWaitsAtFirst : State → Type 0
  NothingWaitsAtFirst s = (t : ℕ) → (s.locals t).place ≡ 0 → s.buffers t ≡ []

  -- a state in which thread t has gone on
  on : (s : State) (t : ℕ) (next : Local) (buffers : ℕ → List Pending) (memory : ℕ → ℕ) → NothingWaitsAtFirst s → 0 < next.place →
      ((u : ℕ) → (u ≡ t → ⊥) → buffers u ≡ s.buffers u) → NothingWaitsAtFirst (record { locals = put s.locals t next; buffers = buffers; memory = memory })
  on s t next buffers memory first away others = put_each (λ u local. local.place ≡ 0 → buffers u ≡ []) s.locals t next (λ here. absurd (omega arith)) (λ u q here. others u q ∙ first u here)

  -- every step keeps it so
  step_keeps : (s z : State) (l : Label) → step p (StoreBufferMachine no_gaps) s l ≡ Some z → NothingWaitsAtFirst s → NothingWaitsAtFirst z
  step_keeps s z (Exec t) e first = exec_by z (λ next. Some next) p no_gaps s t (NothingWaitsAtFirst z) (ap (option_and_then (λ next. Some next)) e)
      (λ next a g r. subst NothingWaitsAtFirst (same_Some _ z r) (on s t next s.buffers s.memory first (leads_on t (s.locals t) _ a) (λ u q. refl)))
      (λ next a g r. subst NothingWaitsAtFirst (same_Some _ z r) (on s t next s.buffers s.memory first (leads_on t (s.locals t) _ a) (λ u q. refl)))
      (λ l to next a g r. subst NothingWaitsAtFirst (same_Some _ z r) (on s t _ s.buffers s.memory first (leads_on t (s.locals t) _ a) (λ u q. refl)))
      (λ l v next a g r. subst NothingWaitsAtFirst (same_Some _ z r) (on s t next _ s.memory first (leads_on t (s.locals t) _ a) (λ u q. put_other s.buffers t _ u q)))
      (λ l v to next a g r. subst NothingWaitsAtFirst (same_Some _ z r) (on s t _ s.buffers (put s.memory l v) first (leads_on t (s.locals t) _ a) (λ u q. refl)))
  step_keeps s z (Flush t) e first = flush_by z (λ next. Some next) p no_gaps s t (NothingWaitsAtFirst z) (ap (option_and_then (λ next. Some next)) e)
      (λ w ws b r. subst NothingWaitsAtFirst (same_Some _ z r) (put_each (λ u buffer. (s.locals u).place ≡ 0 → buffer ≡ []) s.buffers t ws
      (λ here. absurd (let none : [] ≡ w ∷ ws = sym (first t here) ∙ b in cc)) (λ u q here. first u here)))

  -- the place of an instruction that is not the first
  pub record IsInside (t k : ℕ) : Type 0 where
    pub past_first : 1 ≤ k
    pub before_end : k < length (code_of p.threads t)

  -- what the test of a passed place says
  parts : (u t place k : ℕ) (empty : Bool) → ((u == t) && ((place == k) && not empty)) ≡ true → (u ≡ t) × (place ≡ k) × (empty ≡ false)
  parts u t place k true e = absurd (grind (arith, nat_tests))
  parts u t place k false e = (grind (arith, nat_tests), grind (arith, nat_tests), refl)

  -- what one step passes
  passed_now : (s z : State) (l : Label) (t k : ℕ) → step p (StoreBufferMachine no_gaps) s l ≡ Some z → NothingWaitsAtFirst s → passes_at s l t k ≡ true → IsInside t k
  passed_now s z (Flush u) t k e first h = absurd cc
  passed_now s z (Exec u) t k e first h =
      let (same, here, waiting) = parts u t (s.locals t).place k (is_empty (s.buffers t)) h in
      let acts : action p.threads u (s.locals u) ≡ Stop → ⊥ = λ q. (let no : None ≡ Some z = ap (buffered s u) (sym q) ∙ e in cc) in
      let (x, at) = stands_at (instr_at p.threads u (s.locals u).place) (s.locals u) acts in
      let at_t : instr_at p.threads t (s.locals t).place ≡ Some x = subst (λ v. instr_at p.threads v (s.locals v).place ≡ Some x) same at in
      record {
        past_first = elim (cases_eq k 0) [
          | inl q ↦ absurd (let no : true ≡ false = ap is_empty (sym (first t (here ∙ q))) ∙ waiting in cc)
          | inr q ↦ omega arith
        ];
        before_end = slice_get_within (code_of p.threads t) k x (subst (λ n. instr_at p.threads t n ≡ Some x) here at_t);
      }

  -- what is passed lies before an instruction that is not the first
  pub passed_inside : (ls : List Label) (s last : State) (t k : ℕ) → run p (StoreBufferMachine no_gaps) s ls ≡ Some last → NothingWaitsAtFirst s →
      passes p (StoreBufferMachine no_gaps) s ls t k ≡ true → IsInside t k
  passed_inside [] s last t k r first h = absurd cc
  passed_inside (l ∷ ls) s last t k r first h = by_step (step p (StoreBufferMachine no_gaps) s l) refl r h (λ z. passed_inside ls z last t k)
    where
      by_step : (o : Option State) → step p (StoreBufferMachine no_gaps) s l ≡ o → option_and_then (λ next. run p (StoreBufferMachine no_gaps) next ls) o ≡ Some last →
          (passes_at s l t k || from_some (λ next. passes p (StoreBufferMachine no_gaps) next ls t k) o) ≡ true →
          ((z : State) → run p (StoreBufferMachine no_gaps) z ls ≡ Some last → NothingWaitsAtFirst z → passes p (StoreBufferMachine no_gaps) z ls t k ≡ true → IsInside t k) → IsInside t k
      by_step None e r h ih = absurd cc
      by_step (Some z) e r h ih = elim (either (passes_at s l t k) (passes p (StoreBufferMachine no_gaps) z ls t k) h) [
        | inl now ↦ passed_now s z l t k e first now
        | inr later ↦ ih z r (step_keeps s z l e first) later
      ]
