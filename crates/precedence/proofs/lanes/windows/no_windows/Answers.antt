use Rattle.std.proofs.Common.{◌≡◌, length, refl, ap, arith, length-append}
use Rattle.std.proofs.lemmas.List.Elements.{All-push, All-same}
use Rattle.precedence.specs.declared.lanes.strips.Strips.{Strips}
use Rattle.precedence.specs.declared.lanes.strips.Window.{Window}
use Rattle.precedence.proofs.bits.Windows.{no_window}
use Rattle.precedence.proofs.lanes.windows.no_windows.Goals as goal

pub loop-preserved : goal.loop-preserved
loop-preserved c =
    let inv = c.loop.invariant in
    record {
      windows = omega (arith, inv.windows, ap length c.in_ok-push.ensures.items, length-append {A = Window});
      lanes = All-same (λ (w : Window). w.lanes ≡ 0) _ _ c.in_ok-push.ensures.items
          (All-push (λ (w : Window). w.lanes ≡ 0) c.loop.windows.items _ inv.lanes refl);
      by_table = omega (arith, inv.by_table, ap length c.in_ok-push-2.ensures.items, length-append {A = Strips});
    }

pub returns : goal.returns
returns c = λ b long.
    let inv = c.loop.invariant in
    record {
      tables = omega (arith, c.loop-test.false, inv.windows, c.loop.auto.counter-end);
      sight = omega (arith, c.loop-test.false, inv.by_table, c.loop.auto.counter-end);
      each = λ n w lt. no_window b n _ (inv.lanes n w lt);
    }
