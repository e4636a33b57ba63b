use Rattle.std.proofs.Common.{◌≡◌}
use Rattle.zone_csv.specs.ZoneReaderView.{blocks_remaining}
use Rattle.zone_csv.specs.Zone.{blocks_of, fault_of}
use Rattle.run_threads.specs.inner.Sending.{IsSending}
use Rattle.run_threads.proofs.file_reading.put_blocks.Given as goal

abbrev pub invariant-loop-reader : goal.invariant-loop-reader
invariant-loop-reader g l =
    (l.put_end.lane ≡ l.fn.put_end.lane)
    × (l.put_end.file ≡ l.file)
    × IsSending l.file (blocks_of l.plan.grid l.file l.fn.text.items) (fault_of l.plan.grid l.file l.fn.text.items) l.put_end.sent l.reader

abbrev pub decreases-loop-reader : goal.decreases-loop-reader
decreases-loop-reader g l = blocks_remaining l.reader
