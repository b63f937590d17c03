-- How the first line is read.
use Rattle.std.specs.Prelude.{◌&&◌, ℕ, List, length, take, drop, codes, nat_lt, Option, Some, None, if◌then◌else◌}
use Rattle.std.specs.List.{prefix_len, list_all}
use Rattle.std.specs.Str.{bytes_eq}
use Rattle.text_tokens.specs.Bytes.{is_blank, is_line_space}
use Rattle.litmus_lines.specs.FirstLine.{is_inside, is_visible}

-- the name after blanks
abbrev pub name_after : List ℕ → List ℕ → Option (List ℕ)
name_after blanks rest =
    let n = prefix_len is_visible rest in
    if nat_lt 0 (length blanks) && nat_lt 0 (length (take n rest)) && list_all is_line_space (drop n rest) then Some (take n rest) else None

-- the name in a line
unfoldable pub heading_name : List ℕ → Option (List ℕ)
heading_name line =
    let rest = drop 3 line in
    let n = prefix_len is_blank rest in
    if bytes_eq (take 3 line) (codes "X86") then name_after (take n rest) (drop n rest) else None

-- the bytes before the first LF and those after it
unfoldable pub line_at : List ℕ → Option (List ℕ × List ℕ)
line_at text =
    let n = prefix_len is_inside text in
    if nat_lt n (length text) then Some (take n text, drop 1 (drop n text)) else None
