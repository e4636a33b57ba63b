use Rattle.std.proofs.Common.{◌≡◌, ◌<◌, ◌≤◌, ◌∙◌, ◌++◌, ◌∷◌, [], length, get_or, ap, sym, arith}
use Rattle.std.proofs.lemmas.List.{take_more, take_all}
use Rattle.precedence.specs.IdRanges.{ids_of}
use Rattle.precedence.proofs.AllLists.{lazy_length}
use Rattle.precedence.proofs.Pieces.{pushed}
use Rattle.precedence.proofs.lists.lazy_preds.LazyPreds.stored.Goals as goal

pub loop-id-preserved : goal.loop-id-preserved
loop-id-preserved c =
    let lists = c.args.self.now in
    let id = c.loop-id.id in
    let list = get_or lists id [] in
    let f = c.self.inside in
    let long = lazy_length f c.self.invariant in
    let within : id < length lists = omega (arith, c.loop-id-test.true, c.len-count.ensures, f.zones.ok, long, ap length c.self.view_is) in
    let found : ids_of c.as_slice.result.now ≡ list =
    ap ids_of c.as_slice.ensures.value ∙ c.in_ok-add_ranges.ensures.list ∙ ap (λ ranges. ids_of ranges ++ list) c.clear.ensures.items in
    let next = pushed c.loop-id.flat.items list _ c.loop-id.ends.items _ c.len.result c.loop-id.invariant.ends
    (rw found at c.in_ok-add_ids_of_ranges.ensures) c.in_ok-push.ensures.items (omega (arith, c.len.ensures, c.add_ids_of_ranges.new.list.ok)) in
    record {
      ends = next.0;
      lists = next.1 ∙ ap (λ front. front ++ list ∷ []) c.loop-id.invariant.lists ∙ sym (take_more lists id [] within);
    }

pub returns : goal.returns
returns c =
    let f = c.self.inside in
    let long = lazy_length f c.self.invariant in
    let past : length c.args.self.now ≤ c.loop-id.id =
    omega (arith, c.loop-id-test.false, c.len-count.ensures, f.zones.ok, long, ap length c.self.view_is) in
    c.of_parts.ensures ∙ c.loop-id.invariant.lists ∙ take_all _ c.args.self.now past
