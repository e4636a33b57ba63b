use Rattle.std.proofs.Common.{sym, subst, refl, arith, ◌+◌, ◌<◌, length}
use Rattle.lane.specs.EndFields.{SeatView, capacity_of, sent_in}
use Rattle.lane.specs.inner.Kept.{IsOpenPut}
use Rattle.lane.proofs.Ends.{row_put}
use Rattle.lane.proofs.put_end.PutEnd.row.Goals as goal

pub invariant_of-self : goal.invariant_of-self
invariant_of-self g c =
    let few : length (sent_in c.self.inside.seat.known) < 1000000 =
    subst (λ v. length v.sent < 1000000) (sym c.self.view_is) c.requires.few in
    subst (λ (s : SeatView). IsOpenPut s.known c.self.inside.file (capacity_of s) (c.self.inside.rows + 1)) (sym c.put.ensures.sent)
    (row_put _ _ _ _ _ c.args.block c.self.invariant refl (let open_put = c.self.invariant in omega (arith, open_put.places)))
