use Rattle.csv.specs.Records.{fields_of}
use Rattle.records.proofs.RecordSteps.{reader-takes}
use Rattle.records.proofs.record_reader.take_record.Goals as goal
use Rattle.records.proofs.record_reader.take_record.Goals.{in-Ok, in-Err}

pub returns : goal.returns
returns g c =
    elim c.match-read_byte_record.branch [
      | in-Ok w ↦ rw w.result-is (λ set. let e =
          w.in-Ok.ensures in reader-takes g.R.Read.remaining c.args.reader.now c.read_byte_record.new.self w.in-Ok.found
          (fields_of c.read_byte_record.new.row) set (e.reads set.plain set.ready) e.flexible (e.ready set.plain))
      | in-Err w ↦ rw w.result-is (λ set. tt)
    ]
