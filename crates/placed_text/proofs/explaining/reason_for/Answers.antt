use Rattle.placed_text.proofs.Vocabulary.{◌≡◌, subst, sym, Serves, names_of, question_in}
use Rattle.cert_forest.specs.Certificates.{Certificate}
use Rattle.placed_text.proofs.Needed.{passes_of_tie, some_avoids}
use Rattle.std.proofs.lemmas.List.Elements.{All-contains}
use Rattle.tree_laws.specs.Laws.{IsForeign, IsProved}
use Rattle.placed_text.proofs.explaining.reason_for.Goals as goal

pub run_avoiding-requires : goal.run_avoiding-requires
run_avoiding-requires c =
    let problem = c.args.problem.now in
    let q = question_in problem in
    let inside = sym c.certificate.view_is in
    rw (c.spread-2.ensures, c.without.ensures)
    (some_avoids q problem.costs.costs _ c.args.names.now c.args.name c.recall_facts.ensures.limits c.requires.one_each c.recall_facts-2.ensures.gaps
    (subst (IsProved q problem.costs.costs) inside c.requires.proved) (subst (λ (certificate : Certificate). c.args.names.now ≡ names_of q certificate) inside c.requires.names) c.requires.held)

pub reason_of-requires : goal.reason_of-requires
reason_of-requires c =
    let found = c.in_ok-run.ensures in
    let problem = c.args.problem.now in
    let q = question_in problem in
    let run = c.in_ok-run.run' in
    let foreign = All-contains (IsForeign q) c.args.certificate.now.runs run.labels.now c.requires.proved.foreign (rw (← c.certificate.view_is) found.here) in
    let (o, is) = foreign in
    let avoids = rw (c.spread-2.ensures, c.without.ensures) at found.avoids in
    record {
      foreign = (o, record { is_run = is.is_run; foreign = is.foreign });
      ended = found.ended;
      avoids = found.avoids;
      passes = rw (c.spread.ensures, c.with.ensures, c.empty.ensures)
          (passes_of_tie q c.args.names.now c.args.name run.labels.now run.ended (subst (Serves q) (sym c.requires.names) c.requires.proved.answer.serves) foreign found.ended avoids);
    }

pub returns : goal.returns
returns c = rw (c.spread.ensures, c.with.ensures, c.empty.ensures, c.spread-2.ensures, c.without.ensures) at c.reason_of.ensures
