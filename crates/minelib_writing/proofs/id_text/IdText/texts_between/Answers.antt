use Rattle.std.proofs.Common.{◌∙◌, arith}
use Rattle.minelib_writing.specs.inner.IdTextFields.{ids_in}
use Rattle.minelib_writing.proofs.SpacedFacts.{range_is, range_within}
use Rattle.minelib_writing.proofs.id_text.IdText.texts_between.Goals as goal

pub bytes_between-requires-clause-in_order : goal.bytes_between-requires-clause-in_order
bytes_between-requires-clause-in_order c =
    let t = c.self.inside in
    let known = c.self.invariant in
    (range_within t.starts.items t.text.items (ids_in t) c.args.first c.args.past _ _ known.starts known.text (omega (arith, known.some))
    c.requires.in_order (omega (arith, c.requires.within, c.self.view_is)) c.index.ensures c.index-2.ensures).0

pub bytes_between-requires-clause-within : goal.bytes_between-requires-clause-within
bytes_between-requires-clause-within c =
    let t = c.self.inside in
    let known = c.self.invariant in
    rw c.as_slice.ensures.value
    (range_within t.starts.items t.text.items (ids_in t) c.args.first c.args.past _ _ known.starts known.text (omega (arith, known.some))
    c.requires.in_order (omega (arith, c.requires.within, c.self.view_is)) c.index.ensures c.index-2.ensures).1

pub returns : goal.returns
returns c =
    let t = c.self.inside in
    let known = c.self.invariant in
    c.bytes_between.ensures
    ∙ rw c.as_slice.ensures.value
    (range_is t.starts.items t.text.items (ids_in t) c.args.first c.args.past _ _ known.starts known.text (omega (arith, known.some))
    c.requires.in_order (omega (arith, c.requires.within, c.self.view_is)) c.index.ensures c.index-2.ensures)
