use Rattle.std.proofs.Common.{◌≡◌, ◌<◌, ◌∙◌, [], All, length, sym, arith, eq-eqb}
use Rattle.std.proofs.lemmas.Bool.{eqb-true}
use Rattle.mine_instance.proofs.ByBlockFacts.{blocks_have_width}
use Rattle.mine_instance.proofs.values.Values.are_of_width.Goals as goal

pub returns-else-len-eq0 : goal.returns-else-len-eq0
returns-else-len-eq0 c =
    let v = c.self.inside in
    let each : All (λ row. length row ≡ v.width) c.args.self.now =
    rw (← c.self.view_is) (blocks_have_width v.count v.width v.all.items (omega arith)) in
    let some : 0 < length c.args.self.now = omega arith in
    (λ t k d h. each k d h ∙ eqb-true _ _ t, λ all. eq-eqb _ _ (sym (each 0 [] some) ∙ all 0 [] some))
