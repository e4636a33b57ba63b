use Rattle.std.proofs.Common.{◌≡◌, ◌++◌, take}
use Rattle.std.specs.List.{flat_map}
use Rattle.mine_instance.specs.coefs.CoveredPairs.{coef_of}
use Rattle.minelib_writing.specs.inner.CoefParts.{coef_text}
use Rattle.pit_units.specs.Line.{line_in}
use Rattle.minelib_writing.proofs.lines.coefs.append_all.Given as goal

-- The lines so far are appended, and the end is unchanged.
abbrev pub invariant-loop-d : goal.invariant-loop-d
invariant-loop-d l = record {
  end : line_in l.scratch l.end ≡ line_in l.initial.scratch l.end;
  text : l.out.items ≡ l.initial.out.items
      ++ flat_map (λ pair. coef_text (coef_of l.group.b l.group.v pair)) (take l.d-index l.d-items);
}
