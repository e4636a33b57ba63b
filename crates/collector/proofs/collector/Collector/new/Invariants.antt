use Rattle.std.proofs.Common.{◌≡◌, vec_len}
use Rattle.std.specs.Prelude.{All}
use Rattle.collector.specs.inner.ItemsByFile.{IsBare}
use Rattle.collector.proofs.collector.Collector.new.Given as goal

abbrev pub invariant-loop : goal.invariant-loop
invariant-loop l = record { bare : All IsBare l.items_by_file.items; count : vec_len l.items_by_file ≡ l.counter }
