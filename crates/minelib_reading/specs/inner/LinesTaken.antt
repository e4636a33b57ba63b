-- Lines of predecessors as the code keeps them, and a coefficient as it reads it for either problem.
use Rattle.std.specs.Prelude.{ℕ, ◌==◌, not, List, [], ◌∷◌, ◌++◌, length, Result, Ok, Err, if◌then◌else◌}
use Rattle.pit_units.specs.Steps.{◌>>=◌}
use Rattle.mine_instance.specs.declared.coefs.coef.Coef.{Coef}
use Rattle.minelib_lines.specs.declared.problem.Problem.{Problem}
use Rattle.minelib_lines.specs.declared.problem.Problem.TheVariants.{Pcpsp, Cpit}
use Rattle.minelib_reading.specs.PrecText.{preds_stated}
use Rattle.text_lines.specs.FieldValues.{first_by}
use Rattle.text_lines.specs.StatedFields.{below_in, decimal_in}
use Rattle.text_lines.specs.TextLines.{fields_of}
use Rattle.text_lines.specs.declared.text_fault.TextKind.{TextKind}
use Rattle.text_lines.specs.declared.text_fault.TextKind.TheVariants.{Fields}

-- what the lines so far state for `blocks` blocks
pub record PrecDraftView : Type 0 where
  pub blocks : ℕ
  pub lists : List (List ℕ)

-- before the first line
abbrev pub no_lists : ℕ → PrecDraftView
no_lists n = record { blocks = n; lists = [] }

abbrev pub admit_preds : PrecDraftView → List ℕ → Result PrecDraftView TextKind
admit_preds d line =
    preds_stated d.blocks (length d.lists) (fields_of line) >>= λ ids.
    Ok (record d { lists = d.lists ++ ids ∷ [] })

-- the destination of a coefficient, and the fields after it; a CPIT has no such field, since it has one destination
abbrev pub destination_in : Problem → ℕ → List (List ℕ) → Result (ℕ × List (List ℕ)) TextKind
destination_in Pcpsp destinations fields = first_by (below_in destinations) fields
destination_in Cpit destinations fields = Ok (0, fields)

abbrev pub coef_steps : Problem → ℕ → ℕ → ℕ → List (List ℕ) → Result Coef TextKind
coef_steps problem n destinations resources fields =
    first_by (below_in n) fields >>= λ b. destination_in problem destinations b.1 >>= λ d. first_by (below_in resources) d.1
    >>= λ r. first_by decimal_in r.1
    >>= λ v. if not (length v.1 == 0) then Err Fields else Ok (record { b = b.0; d = d.0; r = r.0; v = v.0 })
