use Rattle.std.proofs.Common.{◌∙◌, All, subst, sym}
use Rattle.std.proofs.lemmas.List.Elements.{All-drop, All-push, All-same}
use Rattle.precedence.specs.inner.lanes.Windows.{IsCover}
use Rattle.precedence.proofs.lanes.covering.keep_cover.Goals.{then-len-ge-COVERS, else-len-ge-COVERS}
use Rattle.precedence.proofs.lanes.covering.keep_cover.Goals as goal

pub returns-clause-all : goal.returns-clause-all
returns-clause-all c = λ lanes by_table all one.
    let fewer : All (IsCover lanes by_table) c.if-len-ge-COVERS.covers.items = elim c.if-len-ge-COVERS.branch [
      | then-len-ge-COVERS w ↦ subst (λ cs. All (IsCover lanes by_table) cs) (sym w.remove.ensures.items ∙ (λ i. (sym w.covers-is i).items))
          (All-drop (IsCover lanes by_table) 1 c.args.covers.now.items all)
      | else-len-ge-COVERS w ↦ subst (λ cs. All (IsCover lanes by_table) cs) (λ i. (sym w.covers-is i).items) all
    ] in
    All-same (IsCover lanes by_table) _ _ c.in_ok-push.ensures.items
    (All-push (IsCover lanes by_table) c.if-len-ge-COVERS.covers.items c.args.cover fewer one)
