-- The printed lines of the checker's faults, byte for byte.
use Rattle.std.specs.Prelude.{ℕ, List, ◌∷◌, ◌++◌, codes}
use Rattle.cert_forest.specs.Paths.{path_text}
use Rattle.cert_forest.specs.declared.check_fault.CheckFault.{CheckFault}
use Rattle.cert_forest.specs.declared.check_fault.CheckFault.TheVariants as check
use Rattle.report.specs.Faults.{refused, refused_at}

-- the line of a refusal with the path to a node
abbrev pub refused_node : List ℕ → List ℕ → List ℕ
refused_node what path = refused (what ++ 32 ∷ path_text path)

abbrev pub check_line : CheckFault → List ℕ
check_line check.Set = refused (codes "check 1 Set")
check_line check.Cost = refused (codes "check 2 Cost")
check_line (check.SequentialRun run) = refused_at (codes "check 3 SequentialRun") run
check_line (check.SequentialTree path) = refused_node (codes "check 4 SequentialTree") path
check_line (check.Run run) = refused_at (codes "check 5 Run") run
check_line (check.NotForeign run) = refused_at (codes "check 6 NotForeign") run
check_line (check.FencedTree path) = refused_node (codes "check 7 FencedTree") path
check_line (check.GapTree path) = refused_node (codes "check 8 GapTree") path
check_line check.OutOfMemory = refused (codes "check 9 OutOfMemory")
check_line check.Shown = refused (codes "check 10 Shown")
