-- Steps over a line of text: a list of bytes, and the place up to which they are read.
use Rattle.std.specs.Prelude.{ℕ, Bool, ◌&&◌, List, length, ◌==◌, nat_lt, slice_index}

-- whether the byte b stands at place i of the text
abbrev pub stands_at : List ℕ → ℕ → ℕ → Bool
stands_at text i b = nat_lt i (length text) && slice_index text i == b
