use Rattle.std.proofs.Common.{rules, ◌<◌, ◌∙◌, ap, arith, get_or, length, sym}
use Rattle.std.proofs.lemmas.List.{get_or_default}
use Rattle.csv.specs.Records.{fields_of}
use Rattle.zone_csv.proofs.HeaderFacts.{each_step}
use Rattle.zone_csv.specs.Columns.{all_columns}
use Rattle.zone_csv.specs.declared.row_fault.Column.TheVariants.{X}
use Rattle.zone_csv.proofs.columns.columns_of.Goals as goal

pub loop-k-preserved : goal.loop-k-preserved
loop-k-preserved c =
    let k = c.loop-k.k in
    let within : k < length c.loop-k.places = omega (arith, c.loop-k.invariant.count) in
    record {
      ahead = each_step (fields_of c.args.header.now) c.loop-k.places k _ c.in_ok-places.field-0 within c.loop-k.invariant.count
          (ap (λ columns. get_or columns k X) c.loop-k.invariant.columns ∙ get_or_default all_columns k X _ (omega arith))
          (sym c.in_ok-places.ensures) c.loop-k.invariant.ahead;
      count = search rules;
      columns = c.loop-k.invariant.columns;
    }
