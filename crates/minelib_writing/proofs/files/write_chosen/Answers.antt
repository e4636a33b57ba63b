use Rattle.std.proofs.Common.{◌≡◌, ap}
use Rattle.std.proofs.lemmas.List.{length-map}
use Rattle.std.proofs.lemmas.List.Elements.{All-filter, All-map}
use Rattle.std.proofs.lemmas.Result.{on_ok_weaker}
use Rattle.mine_instance.specs.Largest.{largest}
use Rattle.mine_instance.specs.Instance.{Instance}
use Rattle.mine_instance.specs.cpit.OfCpit.{is_chosen, at_only_destination}
use Rattle.pit_units.specs.DecimalRange.{IsInDecimalRange}
use Rattle.mine_instance.specs.WellFormed.{HasDecimals}
use Rattle.minelib_writing.specs.Written.{largest_line, limit_line}
use Rattle.minelib_writing.proofs.ChosenFacts.{chosen_text}
use Rattle.minelib_writing.proofs.KeptFacts.{kept_all}
use Rattle.minelib_writing.proofs.LineFacts.{line_parts_count}
use Rattle.minelib_writing.proofs.files.write_chosen.Goals as goal

pub returns : goal.returns
returns g c =
    let i = c.args.instance.now in
    let valid = c.requires in
    let seen_values : g.V.ValueList.list c.instance.inside.values ≡ i.values = ap (λ (i : Instance). i.values) c.instance.view_is in
    let seen_coefs : g.C.CoefList.list c.instance.inside.coefs ≡ i.coefs = ap (λ (i : Instance). i.coefs) c.instance.view_is in
    let seen_limits : c.instance.inside.limits ≡ i.limits = ap (λ (i : Instance). i.limits) c.instance.view_is in
    record {
      writes = rw (chosen_text i valid) (rw (c.of_one_destination.ensures.values, c.type_text.ensures, c.keys.ensures, c.as_slice.ensures, seen_values, seen_coefs, seen_limits)
          at c.write_text.ensures.writes);
      kept = on_ok_weaker c.write_text.result
          (λ kept. record {
            name = c.of_one_destination.ensures.kept;
            values = All-map IsInDecimalRange largest i.values
                (kept_all (λ of_block. IsInDecimalRange (largest of_block)) i.values _ (line_parts_count largest_line i.values) kept.0);
            coefs = All-map (λ e. IsInDecimalRange e.v) at_only_destination _
                (All-filter (is_chosen i.values) (λ c. IsInDecimalRange c.v) i.coefs
                (kept_all (λ c. IsInDecimalRange c.v) i.coefs _ (length-map i.coefs _) kept.1));
            limits = kept_all (λ l. HasDecimals l.bound) i.limits _ (line_parts_count limit_line i.limits) kept.2;
          })
          (rw (c.as_slice.ensures, seen_values, seen_coefs, seen_limits) at c.write_text.ensures.kept);
      is = on_ok_weaker c.write_text.result (λ _. c.a_valid_instance_has_a_cpit.ensures i valid) c.write_text.ensures.kept;
    }
