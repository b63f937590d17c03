-- Jumps lead forward, so a thread that is not at its end goes on further down.
use Rattle.std.proofs.Common.{◌≡◌, ℕ, ◌<◌, Bool, true, false, not, List, Option, Some, None, length, refl, arith}
use Rattle.std.proofs.lemmas.Option.{slice_get_within}
use Rattle.std.specs.Prelude.{slice_get}
use Rattle.tso_program.specs.Actions.{act, jumped, loaded}
use Rattle.tso_program.specs.Limits.{JumpForward}
use Rattle.tso_program.specs.Listings.{action, code_of}
use Rattle.tso_program.specs.declared.action.Action.{Action, TheVariants.Go, TheVariants.Read, TheVariants.Stop, TheVariants.Swap, TheVariants.Wait, TheVariants.Write}
use Rattle.tso_program.specs.declared.action.Local.{Local}
use Rattle.tso_program.specs.declared.instruction.Instr.{Instr, TheVariants.Je, TheVariants.Jmp, TheVariants.Jne}
use Rattle.tso_program.specs.declared.listing.Listing.{Listing}

-- the thread is not at its end, and goes on further down
abbrev pub Further : ℕ → ℕ → Local → Type 0
Further len i next = (i < len) × (i < next.place)

abbrev pub Advances : ℕ → ℕ → Action → Type 0
Advances len i Stop = Unit {0}
Advances len i (Go next) = Further len i next
Advances len i (Wait next) = Further len i next
Advances len i (Read l to next) = Further len i next
Advances len i (Write l v next) = Further len i next
Advances len i (Swap l v to next) = Further len i next

jumps : (b : Bool) (k : ℕ) (s : Local) → s.place < k → s.place < (jumped b k s).place
jumps true k s h = h
jumps false k s h = omega arith

pub advance : (p : Listing) → JumpForward p.threads → (t : ℕ) (s : Local) → Advances (length (code_of p.threads t)) s.place (action p.threads t s)
advance p forward t s = go (slice_get (code_of p.threads t) s.place) refl
  where
    go : (o : Option Instr) → slice_get (code_of p.threads t) s.place ≡ o → Advances (length (code_of p.threads t)) s.place (act o s)
    go None e = tt
    go (Some (Je k)) e = (slice_get_within _ _ _ e, jumps s.flag k s (forward t s.place k (Je k) e refl))
    go (Some (Jne k)) e = (slice_get_within _ _ _ e, jumps (not s.flag) k s (forward t s.place k (Jne k) e refl))
    go (Some (Jmp k)) e = (slice_get_within _ _ _ e, jumps true k s (forward t s.place k (Jmp k) e refl))
    go (Some _) e = (slice_get_within _ _ _ e, omega arith)
