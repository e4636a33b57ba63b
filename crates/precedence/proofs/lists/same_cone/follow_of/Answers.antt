use Rattle.std.proofs.lemmas.Result.{IfOk-weaker}
use Rattle.precedence.proofs.ranges.SameCone.{codes_along}
use Rattle.precedence.proofs.lists.same_cone.follow_of.Goals as goal

pub returns : goal.returns
returns c = IfOk-weaker c.same_cone_of.result _ _ (λ same_cone all. codes_along c.args.codes.now _ _ same_cone.items all) c.same_cone_of.ensures
