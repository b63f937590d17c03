-- In which lines of a text the instructions of its threads stand.
use Rattle.std.specs.Prelude.{ℕ, slice_get, slice_index}
use Rattle.std.specs.Option.{option_map_or}
use Rattle.gap_list.specs.declared.text_lines.TextLines.{TextLines}

-- the line of instruction k of thread t; 0 if there is none
abbrev pub line_at : TextLines → ℕ → ℕ → ℕ
line_at lines t k = option_map_or (λ own. slice_index own.items k) (slice_get lines.threads.items t) 0
