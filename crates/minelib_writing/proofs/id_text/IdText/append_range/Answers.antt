use Rattle.std.proofs.Common.{◌≡◌, ◌+◌, ◌-◌, ◌∙◌, ap, sym, arith, rules}
use Rattle.std.specs.List.{range_with_len}
use Rattle.precedence.specs.IdRanges.{ids_of_range}
use Rattle.minelib_writing.specs.inner.Spaced.{spaced}
use Rattle.minelib_writing.proofs.id_text.IdText.append_range.Goals as goal

pub returns : goal.returns
returns c =
    let range = c.args.range in
    let long : (range.first + range.len) - range.first ≡ range.len = omega arith in
    let same : spaced (ids_of_range range) ≡ c.texts_between.result.now =
    sym (c.texts_between.ensures ∙ ap (λ n. spaced (range_with_len range.first n)) long) in
    rw same (search rules)
