use Rattle.oracle.proofs.Vocabulary.{◌∙◌, ◌↔◌, IsTrue, List, sym, ap, subst, Question, Outcome, IsSequentialOutcome, Table, Vec}
use Rattle.tree_laws.proofs.AscendingSearched.{searched}
use Rattle.oracle.specs.Facts.{IsListOf}
use Rattle.oracle.proofs.ForeignRuns.{found_by}
use Rattle.oracle.proofs.table.SeqTable.has.Goals as goal

pub returns : goal.returns
returns c =
    let o = c.args.outcome.now in
    let s = c.self.inside in
    let os = c.deref-2.result.now in
    let list = subst (IsListOf s.question) (sym (c.deref-2.ensures.value ∙ ap (λ (v : Vec Outcome). v.items) c.deref.ensures)) c.self.invariant.listed in
    let search = searched os o c.binary_search.result list.ascend c.binary_search.ensures.bound c.binary_search.ensures.position in
    let found = found_by os o c.binary_search.result c.is_ok.result search.there search.belongs c.is_ok.ensures.value in
    let exact = list.exact o in
    subst (λ (q : Question). IsTrue c.is_ok.result ↔ IsSequentialOutcome q o) (ap (λ (t : Table). t.question) c.self.view_is) ((λ yes. exact.0 (found.0 yes)), (λ sequential. found.1 (exact.1 sequential)))
