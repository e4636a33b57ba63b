use Rattle.std.proofs.Common.{◌≡◌, ◌∷◌, [], ◌++◌, arith}
use Rattle.precedence.proofs.bits.Looking.{push_apart, push_each}
use Rattle.precedence.proofs.lanes.looking.push_strip.Goals as goal

pub invariant_of-strips-2 : goal.invariant_of-strips-2
invariant_of-strips-2 c =
    let s = c.args.strip in
    let strips = c.args.strips.now in
    let fits = c.in_ok-reserve.ensures.ok in
    let ok = c.push-2.ensures.succeeds (omega (arith, fits)) in
    let same = c.in_ok-reserve.ensures.items in
    let pushed : c.push-2.new.self.items ≡ strips.strips.items ++ s ∷ [] = rw (ok, same) at c.push-2.ensures.items in
    let first = c.in_ok-push.ensures.items in
    record {
      each = rw (first, pushed) (push_each strips.starts.items strips.strips.items s strips.each);
      apart = rw pushed (push_apart strips.strips.items s c.requires strips.apart);
    }
