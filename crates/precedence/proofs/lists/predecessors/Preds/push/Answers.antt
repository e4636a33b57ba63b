use Rattle.std.proofs.Common.{◌∙◌, ◌++◌, ◌∷◌, [], ap, arith}
use Rattle.precedence.proofs.Pieces.{pushed}
use Rattle.precedence.proofs.lists.predecessors.Preds.push.Goals as goal

pub invariant_of-self-in-Ok : goal.invariant_of-self-in-Ok
invariant_of-self-in-Ok c =
    (pushed c.self.inside.flat.items c.args.list.now _ c.self.inside.ends.items _ c.len.result c.self.invariant
    c.in_ok-extend_from_slice.ensures.items c.in-Ok.ensures.items (omega (arith, c.len.ensures, c.extend_from_slice.new.self.ok))).0

pub returns-in-Ok-clause-ok : goal.returns-in-Ok-clause-ok
returns-in-Ok-clause-ok c =
    (pushed c.self.inside.flat.items c.args.list.now _ c.self.inside.ends.items _ c.len.result c.self.invariant
    c.in_ok-extend_from_slice.ensures.items c.in-Ok.ensures.items (omega (arith, c.len.ensures, c.extend_from_slice.new.self.ok))).1
    ∙ ap (λ lists. lists ++ c.args.list.now ∷ []) c.self.view_is
