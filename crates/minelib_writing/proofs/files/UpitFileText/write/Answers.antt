use Rattle.std.proofs.Common.{rules, ◌≡◌, ◌∷◌, ap, length}
use Rattle.std.specs.Prelude.{codes}
use Rattle.std.proofs.lemmas.Result.{on_ok_weaker}
use Rattle.mine_instance.specs.Instance.{Instance}
use Rattle.minelib_lines.specs.HeaderTable.{key_lines, key_text, upit_keys}
use Rattle.minelib_lines.specs.StatedHeader.{header_of}
use Rattle.minelib_lines.specs.Lines.{lines_from}
use Rattle.minelib_writing.specs.Written.{largest_line}
use Rattle.minelib_writing.proofs.ByKeys.{upit_by_keys}
use Rattle.minelib_writing.proofs.SectionsWritten.{continues, lines_cut_before}
use Rattle.minelib_writing.proofs.files.UpitFileText.write.Goals as goal

pub returns : goal.returns
returns g c =
    let i = c.args.self.now.instance.now in
    let keys = key_lines (key_text (codes "UPIT") (length i.blocks) (header_of i)) upit_keys in
    let values = codes "OBJECTIVE_FUNCTION:" ∷ lines_from largest_line 0 i.values in
    let seen_values : g.V.ValueList.list c.instance.inside.values ≡ i.values = ap (λ (i : Instance). i.values) c.instance.view_is in
    let first = rw (c.of_instance.ensures.values, c.of_upit.ensures) at c.in_ok-write_keys.ensures in
    let whole = continues _ _ keys values c.write_titled.result first (rw seen_values at c.write_titled.ensures.writes) in
    record {
      writes = rw (upit_by_keys i) whole;
      kept = on_ok_weaker c.write_titled.result (λ _. tt) c.write_titled.ensures.kept;
    }

-- the keys were cut off, and so are the lines after them
pub returns-in_err-write_keys-clause-writes : goal.returns-in_err-write_keys-clause-writes
returns-in_err-write_keys-clause-writes g c =
    let i = c.args.self.now.instance.now in
    let keys = key_lines (key_text (codes "UPIT") (length i.blocks) (header_of i)) upit_keys in
    let values = codes "OBJECTIVE_FUNCTION:" ∷ lines_from largest_line 0 i.values in
    let cut = lines_cut_before keys values (rw (c.of_instance.ensures.values, c.of_upit.ensures) at c.in_err-write_keys.ensures) in
    rw (upit_by_keys i) (search rules)
