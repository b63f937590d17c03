use Rattle.rowless_sketches.proofs.Vocabulary.{◌≡◌, ◌∙◌, ◌+◌, true, false, List, None, slice_get, length, get_or, ap, sym, subst, arith, Vec, slice_get-get_or, Access, Event, AreListedTo}
use Rattle.rowless_sketches.proofs.SourceLists.{one_more, other_gives, passed_over, next_thread, past_gives, unwritten_here}
use Rattle.rowless_sketches.proofs.parts.Parts.push_sources_in.Goals as goal
use Rattle.rowless_sketches.proofs.parts.Parts.push_sources_in.Goals.{then-writes_so+in_ok-push_if_source, else-writes_so}

pub push_if_source-requires : goal.push_if_source-requires
push_if_source-requires c =
    let accesses = c.accesses_of-access-items.result.now in
    let none : Access = record { section = 0; location = 0; read = None; written = None } in
    let here = ap (λ (xs : List Access). slice_get xs c.loop-i.i) (sym c.accesses_of-access-items.ensures.value) ∙ slice_get-get_or accesses c.loop-i.i none c.loop-i-test.true in
    other_gives c.args.self.now c.args.read c.args.location c.args.value c.args.t c.loop-i.i (get_or accesses c.loop-i.i none) c.is_other.result here c.requires
    (c.writes_so.ensures.0 c.if-writes_so.true) c.is_other.ensures

pub loop-i-preserved : goal.loop-i-preserved
loop-i-preserved c h =
    let s = c.args.self.now in
    let read = c.args.read in
    let t = c.args.t in
    let i = c.loop-i.i in
    let before = c.loop-i.invariant h in
    let accesses = c.accesses_of-access-items.result.now in
    let none : Access = record { section = 0; location = 0; read = None; written = None } in
    let here = ap (λ (xs : List Access). slice_get xs i) (sym c.accesses_of-access-items.ensures.value) ∙ slice_get-get_or accesses i none c.loop-i-test.true in
    elim c.if-writes_so.branch [
      | then-writes_so+in_ok-push_if_source w ↦ subst (λ (v : Vec Event). AreListedTo s read t (i + 1) v.items) (sym w.sources-is)
          (one_more s read t i c.loop-i.sources.items w.push_if_source.new.sources.items before w.in_ok-push_if_source.ensures.exact w.in_ok-push_if_source.ensures.ordered)
      | else-writes_so w ↦ subst (λ (v : Vec Event). AreListedTo s read t (i + 1) v.items) (sym w.sources-is)
          (passed_over s read t i c.loop-i.sources.items before (unwritten_here s read c.args.location c.args.value t i (get_or accesses i none) here c.requires
          (λ so. (let no : true ≡ false = sym (c.writes_so.ensures.1 so) ∙ w.if-writes_so.false in cc))))
    ]

pub returns : goal.returns
returns c h =
    let same = ap length c.accesses_of-access-items.ensures.value in
    next_thread c.args.self.now c.args.read c.args.t c.loop-i.i c.loop-i.sources.items (c.loop-i.invariant h)
    (λ j past. past_gives c.args.self.now c.args.read c.args.t j (omega (arith, c.loop-i-test.false)))
