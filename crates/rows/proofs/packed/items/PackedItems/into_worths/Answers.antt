use Rattle.std.proofs.Common.{ap, ◌∙◌}
use Rattle.rows.specs.Packed.{row_of}
use Rattle.rows.specs.ItemsView.{PackedView}
use Rattle.rows.proofs.Own.{has-worths}
use Rattle.rows.proofs.packed.items.PackedItems.into_worths.Goals as goal

pub returns : goal.returns
returns c = λ position row is.
    has-worths c.self.inside.width c.self.inside.worths.items c.self.inside.entries.items c.self.invariant.0 position row
    (ap (λ (v : PackedView). row_of v.items position) c.self.view_is ∙ is)
