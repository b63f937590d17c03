-- What decides how long a search takes, as far as it was measured (this project's own; docs/performance.md).
use Rattle.std.specs.Prelude.{◌&&◌, cond, nat_le, nat_lt, Bool}
use Rattle.search_effort.specs.declared.extent.Extent.{Extent}
use Rattle.search_effort.specs.declared.extent.TheConstants.{MANY_THREADS, MANY_ACCESSES, MANY_EXCHANGES}

-- many accesses with many exchanges, or one more with at least one exchange
abbrev pub has_many_accesses : Extent → Bool
has_many_accesses extent =
    cond (nat_le MANY_EXCHANGES extent.exchanges) (nat_le MANY_ACCESSES extent.accesses) (nat_le 1 extent.exchanges && nat_lt MANY_ACCESSES extent.accesses)

-- of programs with so many threads, accesses and exchanges some took more than a minute
abbrev pub may_take_minutes : Extent → Bool
may_take_minutes extent = nat_le MANY_THREADS extent.threads && has_many_accesses extent
