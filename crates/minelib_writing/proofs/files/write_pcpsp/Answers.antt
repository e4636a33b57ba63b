use Rattle.std.proofs.Common.{◌≡◌, All, ap}
use Rattle.std.proofs.lemmas.List.{length-map}
use Rattle.std.proofs.lemmas.Result.{on_ok_weaker}
use Rattle.minelib_writing.specs.inner.CoefParts.{coef_part}
use Rattle.minelib_writing.specs.declared.lines.coefs.CoefForm.TheVariants.{OfAll}
use Rattle.pit_units.specs.DecimalRange.{IsInDecimalRange}
use Rattle.mine_instance.specs.Instance.{Instance}
use Rattle.mine_instance.specs.WellFormed.{HasDecimals}
use Rattle.minelib_writing.specs.Written.{value_line, limit_line}
use Rattle.minelib_writing.proofs.KeptFacts.{kept_all}
use Rattle.minelib_writing.proofs.LineFacts.{line_parts_count}
use Rattle.minelib_writing.proofs.ByKeys.{pcpsp_by_keys}
use Rattle.minelib_writing.proofs.files.write_pcpsp.Goals as goal

pub returns : goal.returns
returns g c =
    let i = c.args.instance.now in
    let seen_values : g.V.ValueList.list c.instance.inside.values ≡ i.values = ap (λ (i : Instance). i.values) c.instance.view_is in
    let seen_coefs : g.C.CoefList.list c.instance.inside.coefs ≡ i.coefs = ap (λ (i : Instance). i.coefs) c.instance.view_is in
    let seen_limits : c.instance.inside.limits ≡ i.limits = ap (λ (i : Instance). i.limits) c.instance.view_is in
    record {
      writes = rw (pcpsp_by_keys i) (rw (c.of_instance.ensures.values, c.type_text.ensures, c.keys.ensures, c.as_slice.ensures, seen_values, seen_coefs, seen_limits)
          at c.write_text.ensures.writes);
      kept = on_ok_weaker c.write_text.result
          (λ kept. record {
            name = c.of_instance.ensures.kept;
            values = kept_all (λ values. All IsInDecimalRange values) i.values _ (line_parts_count value_line i.values) kept.0;
            coefs = kept_all (λ c. IsInDecimalRange c.v) i.coefs _ (length-map i.coefs (coef_part g.V.ValueList.list OfAll)) kept.1;
            limits = kept_all (λ l. HasDecimals l.bound) i.limits _ (line_parts_count limit_line i.limits) kept.2;
          })
          (rw (c.as_slice.ensures, seen_values, seen_coefs, seen_limits) at c.write_text.ensures.kept);
    }
