use Rattle.std.proofs.Common.{◌≡◌, ◌*◌, ◌+◌, ◌∷◌, [], length, sym, ap, ◌∙◌, arith, ⊎_elim}
use Rattle.std.proofs.lemmas.Bool.{cases_lt}
use Rattle.std.proofs.lemmas.List.{get_or_append_left, get_or_push, length-map, length_push}
use Rattle.precedence.specs.Codes.{place_code}
use Rattle.precedence.proofs.ranges.Outside.{in_columns}
use Rattle.precedence.proofs.places.columns.columns_of.Goals as goal

pub loop-k-preserved : goal.loop-k-preserved
loop-k-preserved c =
    let blocks = c.args.blocks.now in
    let columns = c.loop-k.columns.items in
    let k = c.loop-k.k in
    let column = c.columns_in.result in
    let had = c.loop-k.invariant in
    let pushed = c.in_ok-push.ensures.items in
    record {
      each = ap length pushed ∙ length_push columns column ∙ ap (λ n. n + 1) had.each;
      columns = λ j m lt low up within. rw pushed (⊎_elim
          (λ before. rw (get_or_append_left columns (column ∷ []) 0 j before) (had.columns j m before low up within))
          (λ last.
          let here : j ≡ k = omega (arith, ap length pushed, length_push columns column, had.each) in
          rw (get_or_push columns column 0 j (had.each ∙ sym here))
          (in_columns column blocks (k * 64) c.min-end.result m (omega (arith, here, low))
          (omega (arith, c.min-end.ensures, here, up, within, length-map blocks place_code)) (omega (arith, c.min-end.ensures)) c.columns_in.ensures))
          (cases_lt j (length columns)));
    }
