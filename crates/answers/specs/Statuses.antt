-- The status of a check.
use Rattle.std.specs.Prelude.{ℕ, Bool, ◌&&◌, if◌then◌else◌}

-- the status of an answer: 3 where a check is asked for and finds a fault
abbrev pub check_status : Bool → Bool → ℕ
check_status check fault = if check && fault then 3 else 0
