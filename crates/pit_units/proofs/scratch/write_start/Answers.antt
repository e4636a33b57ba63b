use Rattle.std.proofs.Common.{◌≡◌, ◌+◌, ◌-◌, ◌≤◌, ◌++◌, ◌∙◌, ℕ, List, length, length-drop, length-take, take, drop, ap, arith, sym}
use Rattle.std.proofs.Math.Seq.{drop-drop, drop-append_seam}
use Rattle.std.proofs.lemmas.List.{drop-append-le}
use Rattle.pit_units.proofs.Text.{put_before}
use Rattle.pit_units.specs.Line.{line_in}
use Rattle.pit_units.proofs.scratch.write_start.Goals as goal

-- bytes written before a position come before the bytes there
written : (old digits : List ℕ) (from start end : ℕ) → from + 20 ≡ end → end ≤ length old → length digits ≡ 20 → start ≤ 20
    → drop (from + start) (take from old ++ (digits ++ drop end old)) ≡ drop start digits ++ drop end old
written old digits from start end twenty within most some =
    let rest = digits ++ drop end old in
    let before : length (take from old) ≡ from = omega (arith, length-take from old, twenty, within) in
    sym (drop-drop start from (take from old ++ rest))
    ∙ ap (drop start) (ap (λ n. drop n (take from old ++ rest)) (sym before) ∙ drop-append_seam (take from old) rest)
    ∙ drop-append-le start digits (drop end old) (omega (arith, most, some))

pub returns-clause-text : goal.returns-clause-text
returns-clause-text c =
    let old = c.args.scratch.now in
    let start = c.digits.inside.start in
    let end = c.args.at in
    let from = end - 20 in
    let twenty : from + 20 ≡ end = omega (arith, c.requires) in
    let after : drop (end - from) (drop from old) ≡ drop end old =
    drop-drop (end - from) from old ∙ ap (λ n. drop n old) (omega arith) in
    let digits = c.digits.inside.bytes in
    (λ j. line_in (take from old ++ (c.copy_from_slice.ensures.after j ++ after j)) (from + start))
    ∙ put_before (drop start digits) old (take from old ++ (digits ++ drop end old)) (from + start) end 256
    (omega (arith, twenty, length-drop start digits, c.digits.told, c.digits.invariant)) c.requires.1
    (written old digits from start end twenty (omega (arith, c.requires.1, c.told-scratch)) c.digits.told c.digits.invariant)
    ∙ (λ j. c.digits.view_is j ++ line_in old end)
