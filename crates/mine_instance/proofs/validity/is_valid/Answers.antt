use Rattle.std.proofs.Common.{sym, subst, ◌∙◌, length}
use Rattle.mine_instance.specs.Instance.{Instance}
use Rattle.mine_instance.specs.Valid.{AreCoefs, AreLimits, ArePreds, HasDestinations, IsHorizon}
use Rattle.mine_instance.proofs.validity.is_valid.Goals as goal

pub returns-then-not-are_preds : goal.returns-then-not-are_preds
returns-then-not-are_preds c = (
  λ f. absurd (cc),
  λ v. sym c.if-not-are_preds.true ∙ c.are_preds.ensures.1 (rw c.blocks_len-count.ensures
      (subst (λ (i : Instance). ArePreds (length c.args.instance.now.blocks) i.preds) (sym c.instance.view_is) v.preds)),
)

pub returns : goal.returns
returns c =
    let is = c.instance.view_is in (
      λ t. record {
        lengths = c.has_lengths.ensures.0 c.if-not-has_lengths.false;
        preds = subst (λ (i : Instance). ArePreds (length c.args.instance.now.blocks) i.preds) is
            (rw c.blocks_len-count.ensures at (c.are_preds.ensures.0 c.if-not-are_preds.false));
        horizon = subst (λ (i : Instance). IsHorizon i.periods i.resources i.rate) is (c.is_horizon.ensures.0 c.if-not-is_horizon.false);
        destinations = subst (λ (i : Instance). HasDestinations i.destinations i.values) is
            (c.has_destinations.ensures.0 c.if-not-has_destinations.false);
        coefs = subst (λ (i : Instance). AreCoefs (length c.args.instance.now.blocks) i.destinations i.resources i.coefs) is
            (rw (c.blocks_len-count.ensures, c.as_slice.ensures) at (c.are_coefs.ensures.0 c.if-not-are_coefs.false));
        limits = subst (λ (i : Instance). AreLimits i.resources i.periods i.limits) is (rw c.as_slice-2.ensures at (c.are_limits.ensures.0 t));
      },
      λ v. c.are_limits.ensures.1 (rw c.as_slice-2.ensures
          (subst (λ (i : Instance). AreLimits i.resources i.periods i.limits) (sym is) v.limits)),
    )
