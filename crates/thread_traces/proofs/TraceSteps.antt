-- A trace is made an instruction at a time.
use Rattle.thread_traces.proofs.Vocabulary.{◌≡◌, ℕ, zero, suc, ◌+◌, ◌-◌, ◌<◌, ◌≤◌, Bool, true, false, List, [], get_or, drop, length, refl, sym, ap, ◌∙◌, subst, arith, append-nil, slice_get_read, code_found, Action, Thread, Listing, action, code_of, start_of}
use Rattle.thread_traces.proofs.Vocabulary.{Machine, read_is, Local, Trace, trace, entered, stopped, trace_by, fenced_gaps, with_accesses, GoesOn, first_local}
use Rattle.tso_program.proofs.Remainders.{one_less}
use Rattle.thread_traces.specs.declared.walk.TraceSoFar.{TraceSoFar}

-- what a thread does in its trace's next step leads to the rest of the trace
pub stepped : (whole : Trace) (does : Local → Action) (gap : ℕ → Bool) (len i : ℕ) (given : List ℕ) (w entering next : TraceSoFar) (b : Bool) → i < len →
    whole ≡ with_accesses w.accesses (trace does gap (len - i) w.section w.last (drop w.taken given)) →
    entering ≡ record w { section = entered (gap w.last.place) w.section } →
    GoesOn entering.section entering next (does w.last) given b → b ≡ true →
    whole ≡ with_accesses next.accesses (trace does gap (len - (i + 1)) next.section next.last (drop next.taken given))
stepped whole does gap len i given w entering next b h made e goes t =
    let goes_on : GoesOn entering.section entering next (does w.last) given true = subst (GoesOn entering.section entering next (does w.last) given) t goes in
    let begun : GoesOn (entered (gap w.last.place) w.section) (record w { section = entered (gap w.last.place) w.section }) next (does w.last) given true =
    subst (λ (v : TraceSoFar). GoesOn v.section v next (does w.last) given true) e goes_on in
    made ∙ ap (λ n. with_accesses w.accesses (trace does gap n w.section w.last (drop w.taken given))) (one_less len i h)
    ∙ begun (trace does gap (len - (i + 1)))

-- where a thread stops, its trace ends
pub halted : (whole : Trace) (does : Local → Action) (gap : ℕ → Bool) (len i : ℕ) (given : List ℕ) (w entering next : TraceSoFar) (b : Bool) → i < len →
    whole ≡ with_accesses w.accesses (trace does gap (len - i) w.section w.last (drop w.taken given)) →
    entering ≡ record w { section = entered (gap w.last.place) w.section } →
    GoesOn entering.section entering next (does w.last) given b → b ≡ false →
    (whole.accesses ≡ next.accesses) × (whole.last ≡ next.last) × (length next.accesses ≡ length w.accesses)
halted whole does gap len i given w entering next b h made e goes t =
    let stops : GoesOn entering.section entering next (does w.last) given false = subst (GoesOn entering.section entering next (does w.last) given) t goes in
    let begun : GoesOn (entered (gap w.last.place) w.section) (record w { section = entered (gap w.last.place) w.section }) next (does w.last) given false =
    subst (λ (v : TraceSoFar). GoesOn v.section v next (does w.last) given false) e stops in
    let all : whole ≡ with_accesses w.accesses (stopped w.last (drop w.taken given)) =
    made ∙ ap (λ n. with_accesses w.accesses (trace does gap n w.section w.last (drop w.taken given))) (one_less len i h)
    ∙ ap (with_accesses w.accesses) (begun.2 (trace does gap (len - (i + 1)))) in (
      ap (λ (z : Trace). z.accesses) all ∙ (append-nil w.accesses ∙ sym begun.0),
      ap (λ (z : Trace). z.last) all ∙ sym begun.1,
      ap length begun.0,
    )

-- after as many steps as there are, the trace ends
pub finished : (whole : Trace) (does : Local → Action) (gap : ℕ → Bool) (len i : ℕ) (given : List ℕ) (w : TraceSoFar) → len ≤ i →
    whole ≡ with_accesses w.accesses (trace does gap (len - i) w.section w.last (drop w.taken given)) →
    (whole.accesses ≡ w.accesses) × (whole.last ≡ w.last)
finished whole does gap len i given w h made =
    let none : len - i ≡ zero = omega arith in
    let all : whole ≡ with_accesses w.accesses (stopped w.last (drop w.taken given)) =
    made ∙ ap (λ n. with_accesses w.accesses (trace does gap n w.section w.last (drop w.taken given))) none in (
      ap (λ (z : Trace). z.accesses) all ∙ append-nil w.accesses,
      ap (λ (z : Trace). z.last) all,
    )

-- the whole trace lies before a thread at its start
pub begun : (p : Listing) (mode : Machine) (t : ℕ) (given : List ℕ) (thread : Thread) (w : TraceSoFar) → t < length p.threads → thread ≡ get_or p.threads t thread →
    w ≡ record { accesses = []; last = first_local thread.registers; section = 0; taken = 0 } →
    trace_by p mode (λ u. given) t ≡ with_accesses w.accesses (trace (action p.threads t) (fenced_gaps mode t) (length (code_of p.threads t) - 0) w.section w.last (drop w.taken given))
begun p mode t given thread w h is e =
    let found : get_or p.threads t (record { code = []; registers = [] }) ≡ thread = read_is p.threads t thread (record { code = []; registers = [] }) h is in
    let first : start_of p.threads t ≡ first_local thread.registers = ap (λ (x : Thread). first_local x.registers) found in
    let all : length (code_of p.threads t) ≡ length (code_of p.threads t) - 0 = omega arith in
    subst (λ (v : TraceSoFar). trace_by p mode (λ u. given) t ≡ with_accesses v.accesses (trace (action p.threads t) (fenced_gaps mode t) (length (code_of p.threads t) - 0) v.section v.last (drop v.taken given))) (sym e)
    ((λ i. trace (action p.threads t) (fenced_gaps mode t) (all i) 0 (first i) given))

-- the code of the thread that is there
pub code_there : (threads seen : List Thread) (t n : ℕ) (thread : Thread) → seen ≡ threads → t < length threads → thread ≡ get_or seen t thread → n ≡ length thread.code →
    (thread ≡ get_or threads t thread) × (length (code_of threads t) ≡ n)
code_there threads seen t n thread same h is e =
    let here : thread ≡ get_or threads t thread = subst (λ ts. thread ≡ get_or ts t thread) same is in
    (here, ap length (code_found threads t thread (slice_get_read threads (length threads) t thread refl h here)) ∙ sym e)

-- and its registers
pub registers_there : (threads : List Thread) (t : ℕ) (thread : Thread) → t < length threads → thread ≡ get_or threads t thread → length (start_of threads t).registers ≡ length thread.registers
registers_there threads t thread h is = ap (λ (x : Thread). length x.registers) (read_is threads t thread (record { code = []; registers = [] }) h is)

-- a gap ends at most one section
pub entered_once : (b : Bool) (n : ℕ) → entered b n ≤ n + 1
entered_once true n = omega arith
entered_once false n = omega arith

-- and an instruction at most one more
pub entered_by : (b : Bool) (w entering : TraceSoFar) → entering ≡ record w { section = entered b w.section } → entering.section ≤ w.section + 1
entered_by b w entering e = subst (λ (v : TraceSoFar). v.section ≤ w.section + 1) (sym e) (entered_once b w.section)
