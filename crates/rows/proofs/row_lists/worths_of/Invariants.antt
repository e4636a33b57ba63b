use Rattle.std.proofs.Common.{◌≡◌, ◌++◌, List, length}
use Rattle.std.specs.List.{AllZip}
use Rattle.std.specs.Vec.Iter.{into_iter_items, into_iter_len}
use Rattle.rows.specs.ItemsView.{items_in}
use Rattle.rows.specs.declared.packed.worths.PackedWorths.{PackedWorths}
use Rattle.rows.specs.inner.Own.{HasWorths}
use Rattle.rows.proofs.row_lists.worths_of.Given as goal

-- With the worths of the lists to come, the worths so far are those of all.
abbrev pub invariant-loop-items : goal.invariant-loop-items
invariant-loop-items l = record {
  come : (more : List PackedWorths) → AllZip HasWorths (items_in (into_iter_items l.items-iterator)) more
      → AllZip HasWorths (items_in l.fn.lists.items) (l.worths.items ++ more);
  count : into_iter_len l.items-iterator ≡ length (into_iter_items l.items-iterator);
}
