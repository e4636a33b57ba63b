use Rattle.std.proofs.Common.{◌≡◌, ◌++◌, length}
use Rattle.std.specs.List.{flat_map}
use Rattle.std.specs.Vec.Iter.{into_iter_items, into_iter_len}
use Rattle.collector.proofs.ordering.all_item_refs.Given as goal

-- With the positions of the remaining files, the positions so far are the positions of all files.
abbrev pub invariant-loop-of_file : goal.invariant-loop-of_file
invariant-loop-of_file l = record {
  come : flat_map (λ of_file. of_file) l.fn.places.items ≡ l.item_refs.items ++ flat_map (λ of_file. of_file) (into_iter_items l.of_file-iterator);
  count : into_iter_len l.of_file-iterator ≡ length (into_iter_items l.of_file-iterator);
}
