-- The text of the numbers of blocks, retained arcs and all arcs.
use Rattle.std.specs.Prelude.{ℕ, List, ◌++◌, codes}
use Rattle.std.specs.Fmt.{decimal}
use Rattle.thin_command.specs.declared.counts.ThinCounts.{ThinCounts}

-- `rows N arcs M of L`
abbrev pub counts_words : ThinCounts → List ℕ
counts_words counts =
    codes "rows " ++ (decimal counts.rows ++ (codes " arcs " ++ (decimal counts.retained ++ (codes " of " ++ decimal counts.all))))
