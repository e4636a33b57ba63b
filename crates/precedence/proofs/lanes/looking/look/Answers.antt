use Rattle.std.proofs.Common.{ℕ, ◌+◌, ◌^◌, refl, sym, subst, ◌∙◌, arith}
use Rattle.precedence.specs.inner.lanes.Windows.{scene, Sees}
use Rattle.precedence.proofs.bits.Looking.{end_later, sees_all, sees_more}
use Rattle.precedence.proofs.lanes.looking.look.Goals as goal

pub add_strip-requires-clause-ends : goal.add_strip-requires-clause-ends
add_strip-requires-clause-ends c =
    end_later c.loop-strip.at c.in-Some.strip.start _ c.in-Some.ensures.next.later c.loop-strip.invariant.sees.every.ends

pub add_strip-requires-clause-tables_end : goal.add_strip-requires-clause-tables_end
add_strip-requires-clause-tables_end c = λ n s lt.
    end_later c.loop-strip.at c.in-Some.strip.start _ c.in-Some.ensures.next.later (c.loop-strip.invariant.sees.each n s lt).ends

pub loop-strip-preserved : goal.loop-strip-preserved
loop-strip-preserved c =
    let base = c.args.base in
    let strip = c.in-Some.strip in
    let new = c.add_strip.new.sight in
    let own = c.args.table.now.rows.items in
    let more = sees_more c.args.cones.now own base c.loop-strip.at strip c.in-Some.ensures.next c.loop-strip.sight new c.in_ok-next.ensures.added
    c.loop-strip.invariant.sees in
    record {
      small = let small = strip.small in omega (arith, small, c.from.ensures);
      tables = c.add_strip.ensures.tables ∙ c.loop-strip.invariant.tables;
      sees = subst (λ (n : ℕ). Sees (scene c.args.cones.now) own base (strip.start + n) new) (sym c.from.ensures) more;
    }

pub returns-clause-sees : goal.returns-clause-sees
returns-clause-sees c =
    sees_all c.args.cones.now c.args.table.now.rows.items c.args.base c.loop-strip.at (10 ^ 15) c.loop-strip.sight c.loop-strip.invariant.small
    c.loop-strip.invariant.sees (c.in_default.ensures.none refl)
