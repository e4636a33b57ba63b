-- Kinds of messages, and how many of each kind a list has.
use Rattle.std.specs.Prelude.{ℕ, Bool, true, false, ◌||◌, List, [], ◌∷◌}
use Rattle.std.specs.List.{count_by, list_any}
use Rattle.lane.specs.declared.message.Taken.{Taken}
use Rattle.lane.specs.declared.message.Taken.TheVariants.{Row, End, Stop, Quit}

abbrev pub is_row : Taken → Bool
is_row (Row f place block) = true
is_row (End f rows) = false
is_row Stop = false
is_row Quit = false

abbrev pub is_end : Taken → Bool
is_end (Row f place block) = false
is_end (End f rows) = true
is_end Stop = false
is_end Quit = false

abbrev pub is_stop : Taken → Bool
is_stop (Row f place block) = false
is_stop (End f rows) = false
is_stop Stop = true
is_stop Quit = false

abbrev pub is_quit : Taken → Bool
is_quit (Row f place block) = false
is_quit (End f rows) = false
is_quit Stop = false
is_quit Quit = true

-- Stop or Quit
abbrev pub is_mark : Taken → Bool
is_mark m = is_stop m || is_quit m

-- the number of rows in a list
abbrev pub row_count : List Taken → ℕ
row_count ms = count_by is_row ms

-- whether the list has an end mark
abbrev pub has_end : List Taken → Bool
has_end ms = list_any is_end ms

-- whether a taker that took these messages is done: it took Stop or Quit
abbrev pub is_done : List Taken → Bool
is_done ms = list_any is_mark ms

-- whether the last message is Stop or Quit
abbrev pub ends_in_mark : List Taken → Bool
ends_in_mark [] = false
ends_in_mark (m ∷ []) = is_mark m
ends_in_mark (m ∷ n ∷ ms) = ends_in_mark (n ∷ ms)
