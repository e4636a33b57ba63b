use Rattle.std.proofs.Common.{◌≡◌, ◌+◌, ◌*◌, ◌∷◌, ◌++◌, [], ℤ, List, ◌∙◌, ap, arith, length, length-append}
use Rattle.mine_instance.specs.ByBlock.{by_block}
use Rattle.mine_instance.proofs.ByBlockFacts.{block_pushed}
use Rattle.mine_instance.proofs.values.Values.push.Goals as goal

pub invariant_of-self-2 : goal.invariant_of-self-2
invariant_of-self-2 c =
    let v = c.self.inside in
    let whole : length v.all.items ≡ v.count * v.width = omega arith in
    let before = (block_pushed v.count v.width v.all.items c.args.values.now whole (rw c.self.view_is c.requires.width)).0 in
    let now = ap length c.in_ok-extend_from_slice.ensures.items ∙ length-append v.all.items c.args.values.now in
    grind arith

pub returns-clause-ok : goal.returns-clause-ok
returns-clause-ok c =
    let v = c.self.inside in
    let whole : length v.all.items ≡ v.count * v.width = omega arith in
    ap (λ (items : List ℤ). by_block (v.count + 1) (length c.args.values.now) items) c.in_ok-extend_from_slice.ensures.items
    ∙ (block_pushed v.count v.width v.all.items c.args.values.now whole (rw c.self.view_is c.requires.width)).1
    ∙ ap (λ (rows : List (List ℤ)). rows ++ c.args.values.now ∷ []) c.self.view_is
