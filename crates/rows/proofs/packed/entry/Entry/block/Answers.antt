use Rattle.std.proofs.Common.{◌∙◌, ap, sym}
use Rattle.rows.specs.inner.EntryView.{EntryView}
use Rattle.rows.proofs.Entries.{block_kept}
use Rattle.rows.proofs.packed.entry.Entry.block.Goals as goal

pub returns-then-self-lt-MAX_ZONES : goal.returns-then-self-lt-MAX_ZONES
returns-then-self-lt-MAX_ZONES c =
    sym (block_kept _ c.self.inside.kg (sym c.from.ensures)) ∙ ap (λ (v : EntryView). v.block) c.self.view_is
