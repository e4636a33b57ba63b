use Rattle.std.proofs.lemmas.Result.{on_ok_weaker}
use Rattle.pit_units.specs.DecimalRange.{IsInDecimalRange}
use Rattle.mine_instance.specs.WellFormed.{HasDecimals}
use Rattle.minelib_writing.specs.Written.{one_value_line, cpit_coef_line, limit_line}
use Rattle.minelib_writing.proofs.KeptFacts.{kept_all}
use Rattle.minelib_writing.proofs.LineFacts.{line_parts_count}
use Rattle.minelib_writing.proofs.ByKeys.{cpit_by_keys}
use Rattle.minelib_writing.proofs.files.write_cpit.Goals as goal

pub returns : goal.returns
returns g c =
    let i = c.args.cpit.now in
    record {
      writes = rw (cpit_by_keys i) (rw (c.of_cpit.ensures.values, c.type_text.ensures, c.keys.ensures, c.values.ensures.value, c.coefs.ensures.value, c.limits.ensures.value)
          at c.write_text.ensures.writes);
      kept = on_ok_weaker c.write_text.result
          (λ kept. record {
            name = c.of_cpit.ensures.kept;
            values = kept_all (λ v. IsInDecimalRange v) i.values _ (line_parts_count one_value_line i.values) kept.0;
            coefs = kept_all (λ c. IsInDecimalRange c.v) i.coefs _ (line_parts_count cpit_coef_line i.coefs) kept.1;
            limits = kept_all (λ l. HasDecimals l.bound) i.limits _ (line_parts_count limit_line i.limits) kept.2;
          })
          (rw (c.values.ensures.value, c.coefs.ensures.value, c.limits.ensures.value) at c.write_text.ensures.kept);
      is = on_ok_weaker c.write_text.result (λ _. c.values.ensures.kept) c.write_text.ensures.kept;
    }
