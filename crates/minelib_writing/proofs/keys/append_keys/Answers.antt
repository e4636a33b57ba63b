use Rattle.std.proofs.Common.{◌++◌, ◌∷◌, [], ◌∙◌, ap, arith, sym}
use Rattle.std.proofs.lemmas.List.{take_all}
use Rattle.std.specs.List.{flat_map}
use Rattle.minelib_lines.specs.KeyParts.{text_in}
use Rattle.minelib_lines.specs.HeaderTable.{key_line}
use Rattle.minelib_writing.proofs.LineFacts.{key_texts}
use Rattle.minelib_writing.proofs.keys.append_keys.Goals as goal

pub returns : goal.returns
returns c =
    let value = text_in c.args.values.now in
    let keys = c.args.keys.now in
    c.loop-key.invariant
    ∙ ap (λ lines. c.args.out.now.items ++ lines)
    (ap (flat_map (λ k. key_line k (value k) ++ 10 ∷ [])) (take_all c.loop-key.key-index keys (omega arith))
    ∙ sym (key_texts value keys))
