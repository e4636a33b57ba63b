use Rattle.std.proofs.Common.{◌≡◌, ◌<◌, ◌++◌, ◌∷◌, [], length, take, drop, get_or, sym, ap, ◌∙◌, arith}
use Rattle.std.proofs.lemmas.Result.{IfOk-weaker}
use Rattle.precedence.specs.IdRanges.{ids_of}
use Rattle.minelib_lines.specs.Lines.{line_of, lines_from, text_of}
use Rattle.minelib_writing.specs.Written.{prec_line}
use Rattle.minelib_writing.proofs.LineFacts.{length-lines_from, get_or-lines_from, text_at}
use Rattle.minelib_writing.proofs.lines.preds.append_line.Goals as goal

pub returns-clause-text : goal.returns-clause-text
returns-clause-text g c =
    let lists = g.M.MadeLists.lists c.args.preds.now in
    let id = c.args.id in
    let lines = lines_from prec_line 0 lists in
    let list : ids_of c.as_slice.result.now ≡ get_or lists id [] =
    ap ids_of c.as_slice.ensures.value ∙ c.in_ok-add_ranges.ensures.list
    ∙ ap (λ ranges. ids_of ranges ++ get_or lists id []) c.clear.ensures.items in
    let within : id < length lines = rw length-lines_from c.requires.block in
    let text : text_of (take 1 (drop id lines)) ≡ line_of (prec_line id (ids_of c.as_slice.result.now)) ++ 10 ∷ [] =
    text_at lines id within
    ∙ ap (λ line. line ++ 10 ∷ [])
    (get_or-lines_from prec_line 0 id id lists [] c.requires.block (omega arith) ∙ ap (λ ids. line_of (prec_line id ids)) (sym list)) in
    rw text c.append_preds.ensures.text

pub returns-clause-count : goal.returns-clause-count
returns-clause-count g c =
    let lists = g.M.MadeLists.lists c.args.preds.now in
    let list : ids_of c.as_slice.result.now ≡ get_or lists c.args.id [] =
    ap ids_of c.as_slice.ensures.value ∙ c.in_ok-add_ranges.ensures.list
    ∙ ap (λ ranges. ids_of ranges ++ get_or lists c.args.id []) c.clear.ensures.items in
    IfOk-weaker c.append_preds.result _ _ (λ n is. is ∙ ap length list) c.append_preds.ensures.count

pub returns-clause-countable : goal.returns-clause-countable
returns-clause-countable g c =
    let lists = g.M.MadeLists.lists c.args.preds.now in
    let list : ids_of c.as_slice.result.now ≡ get_or lists c.args.id [] =
    ap ids_of c.as_slice.ensures.value ∙ c.in_ok-add_ranges.ensures.list
    ∙ ap (λ ranges. ids_of ranges ++ get_or lists c.args.id []) c.clear.ensures.items in
    let few = c.in_ok-add_ranges.ensures.countable in
    IfOk-weaker c.append_preds.result _ _ (λ n is. let same = is ∙ ap length list in omega (arith, same, few)) c.append_preds.ensures.count
