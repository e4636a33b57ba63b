use Rattle.std.proofs.Common.{◌≡◌, ◌^◌, List, slice_index_or, subst, sym, refl, ap, ◌∙◌, arith}
use Rattle.std.proofs.lemmas.Option.{slice_get-get_or}
use Rattle.precedence.specs.inner.lanes.Windows.{rows_of, scene, AreFound, Sees}
use Rattle.precedence.specs.inner.ZoneTables.{rows_of_table}
use Rattle.precedence.specs.declared.cones.cone_rows.Row.{Row}
use Rattle.precedence.specs.declared.cones.cone_table.ConeTable.{ConeTable}
use Rattle.precedence.proofs.bits.Looking.{table_below}
use Rattle.precedence.proofs.bits.Windows.{no_window, window_of, windows_with}
use Rattle.precedence.proofs.lanes.windows.make_window.Goals as goal

pub returns-in_err-look-clause-windows : goal.returns-in_err-look-clause-windows
returns-in_err-look-clause-windows c =
    windows_with (scene c.args.cones.now) c.args.windows.now _ c.args.number _ c.requires.windows refl c.look.ensures.tables
    (no_window (scene c.args.cones.now) c.args.number _ refl)

pub returns-in_err-serve-clause-windows : goal.returns-in_err-serve-clause-windows
returns-in_err-serve-clause-windows c =
    windows_with (scene c.args.cones.now) c.args.windows.now _ c.args.number _ c.requires.windows refl c.look.ensures.tables
    (no_window (scene c.args.cones.now) c.args.number _ refl)

pub returns-clause-windows : goal.returns-clause-windows
returns-clause-windows c =
    let b = scene c.args.cones.now in
    let table = c.index-tables-number.result in
    let value = c.as_slice-tables.ensures.value in
    let within = table_below c.args.cones.now c.args.id c.requires.id in
    let rows : table.rows.items ≡ rows_of b c.args.number =
    ap (λ (t : ConeTable). t.rows.items) (c.index-tables-number.is ∙ ap (λ (ts : List ConeTable). slice_index_or ts c.args.number table) value)
    ∙ sym (ap rows_of_table (slice_get-get_or c.args.cones.now.tables.now.tables.items c.args.number table (omega (arith, within, c.requires.number)))) in
    let sees = subst (λ (rows : List Row). Sees b rows c.index-base.result.now (10 ^ 15) c.look.new.sight) rows c.in_ok-look.ensures.sees in
    let are = subst (λ (ts : List ConeTable). AreFound ts c.look.new.sight c.served_at_once-lanes.result (10 ^ 15) c.serve.new.found.items) value c.in_ok-serve.ensures in
    windows_with b c.args.windows.now _ c.args.number _ c.requires.windows refl c.look.ensures.tables
    (window_of c.args.cones.now c.args.number _ c.look.new.sight sees are)
