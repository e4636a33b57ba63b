use Rattle.std.proofs.Common.{◌∙◌, [], ap, arith, length}
use Rattle.std.specs.Prelude.{sum_by}
use Rattle.std.proofs.lemmas.List.{take_all}
use Rattle.std.proofs.lemmas.List.Sums.{sum_by_more}
use Rattle.minelib_writing.proofs.lists_file.count_arcs.Goals as goal

pub overflow_add-arcs : goal.overflow_add-arcs
overflow_add-arcs g c =
    omega (arith, c.loop-id.invariant.1, c.loop-id-test.true, c.count-id-end.ensures, c.requires, c.from.ensures, c.in_ok-list_len.ensures.countable)

pub loop-id-preserved : goal.loop-id-preserved
loop-id-preserved g c =
    let more = sum_by_more length (g.P.PredLists.lists c.args.preds.now) c.loop-id.id [] (omega (arith, c.loop-id-test.true, c.count-id-end.ensures)) in
    let known = c.in_ok-list_len.ensures in
    (omega (arith, more, c.loop-id.invariant.0, known.count, c.from.ensures), omega (arith, c.loop-id.invariant.1, known.countable, c.from.ensures))

pub returns : goal.returns
returns g c =
    c.loop-id.invariant.0 ∙ ap (sum_by length) (take_all c.loop-id.id (g.P.PredLists.lists c.args.preds.now) (omega (arith, c.loop-id-test.false, c.count-id-end.ensures)))
