use Rattle.cover_search.proofs.Vocabulary.{◌≡◌, Some, refl, sym, ap, ◌∙◌, subst, access_in, event_of, WholeAccesses}
use Rattle.cover_search.proofs.TakenIn.{TakesRead, read_put, read_left, write_put, write_left}
use Rattle.cover_search.proofs.accesses.WholeAccesses.add_access.Goals as goal
use Rattle.cover_search.proofs.accesses.WholeAccesses.add_access.Goals.{in-Some-read+in_ok-push, in_default-read}

pub returns-in_ok-push-2 : goal.returns-in_ok-push-2
returns-in_ok-push-2 c =
    let s = c.args.sketch.now in
    let a = c.args.id in
    let access = c.in-Some.access in
    let at : access_in s (event_of a) ≡ Some access = subst (λ e. access_in s e ≡ Some access) c.event_of.ensures (sym c.access.ensures ∙ c.in-Some.is) in
    let first : TakesRead s a c.args.self.now c.match-access-2.self = elim c.match-access-2.branch [
      | in-Some-read+in_ok-push w ↦ read_put s a access at c.args.self.now c.match-access-2.self w.in-Some-read.value w.in-Some-read.is
          (ap (λ (it : WholeAccesses). it.reads.items) w.self-is ∙ w.in_ok-push.ensures.items) (ap (λ (it : WholeAccesses). it.writes.items) w.self-is)
      | in_default-read w ↦ read_left s a access at c.args.self.now c.match-access-2.self w.in_default-read.is w.self-is
    ] in
    write_put s a access at c.args.self.now c.match-access-2.self (record { reads = c.match-access-2.self.reads; writes = c.push-in-Some-written.new.self; unsourced = c.match-access-2.self.unsourced }) c.in-Some-written.value first c.in-Some-written.is c.in_ok-push-2.ensures.items refl

pub returns-in_default-written : goal.returns-in_default-written
returns-in_default-written c =
    let s = c.args.sketch.now in
    let a = c.args.id in
    let access = c.in-Some.access in
    let at : access_in s (event_of a) ≡ Some access = subst (λ e. access_in s e ≡ Some access) c.event_of.ensures (sym c.access.ensures ∙ c.in-Some.is) in
    let first : TakesRead s a c.args.self.now c.match-access-2.self = elim c.match-access-2.branch [
      | in-Some-read+in_ok-push w ↦ read_put s a access at c.args.self.now c.match-access-2.self w.in-Some-read.value w.in-Some-read.is
          (ap (λ (it : WholeAccesses). it.reads.items) w.self-is ∙ w.in_ok-push.ensures.items) (ap (λ (it : WholeAccesses). it.writes.items) w.self-is)
      | in_default-read w ↦ read_left s a access at c.args.self.now c.match-access-2.self w.in_default-read.is w.self-is
    ] in
    write_left s a access at c.args.self.now c.match-access-2.self first c.in_default-written.is
