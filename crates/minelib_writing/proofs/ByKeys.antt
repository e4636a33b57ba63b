-- The texts of model files by the keys of their headers, in the order of the code.
use Rattle.std.proofs.Common.{◌≡◌, ℕ, ◌∷◌, ◌++◌, length, refl}
use Rattle.std.specs.Prelude.{codes, decimal}
use Rattle.plan_parts.specs.declared.limit.Bound.{Bound}
use Rattle.plan_parts.specs.declared.limit.Bound.TheVariants.{AtMost, AtLeast, Between}
use Rattle.plan_parts.specs.declared.limit.Limit.{Limit}
use Rattle.mine_instance.specs.cpit.Cpit.{CpitParts}
use Rattle.mine_instance.specs.Instance.{Instance}
use Rattle.minelib_lines.specs.HeaderKeys.{keys_of, type_text}
use Rattle.minelib_lines.specs.HeaderTable.{key_lines, key_text, upit_keys}
use Rattle.minelib_lines.specs.Lines.{line_of, lines_from, text_of}
use Rattle.minelib_lines.specs.StatedHeader.{header_of, header_of_cpit}
use Rattle.minelib_lines.specs.declared.problem.Problem.TheVariants.{Cpit, Pcpsp}
use Rattle.minelib_writing.specs.Written.{bound_fields, coef_line, cpit_coef_line, largest_line, limit_line, one_value_line, section_lines, text_cpit, text_pcpsp, text_upit, value_line}

-- the line of a limit, with its bound at the end
pub limit_text : (n : ℕ) (l : Limit)
    → line_of (limit_line n l) ≡ decimal l.resource ++ 32 ∷ (decimal l.period ++ 32 ∷ line_of (bound_fields l.bound))
limit_text n l = of l.bound
  where
    of : (bound : Bound) → line_of (limit_line n (record l { bound = bound }))
        ≡ decimal l.resource ++ 32 ∷ (decimal l.period ++ 32 ∷ line_of (bound_fields bound))
    of (AtMost v) = refl
    of (AtLeast v) = refl
    of (Between v w) = refl

-- each model file
pub upit_by_keys : (i : Instance) → text_upit i
    ≡ text_of (key_lines (key_text (codes "UPIT") (length i.blocks) (header_of i)) upit_keys
    ++ (codes "OBJECTIVE_FUNCTION:" ∷ lines_from largest_line 0 i.values))
unfolding text_upit
upit_by_keys i = refl

pub pcpsp_by_keys : (i : Instance) → text_pcpsp i
    ≡ text_of (key_lines (key_text (type_text Pcpsp) (length i.blocks) (header_of i)) (keys_of Pcpsp)
    ++ section_lines (lines_from value_line 0 i.values) (lines_from coef_line 0 i.coefs) (lines_from limit_line 0 i.limits))
unfolding text_pcpsp
pcpsp_by_keys i = refl

pub cpit_by_keys : (c : CpitParts) → text_cpit c
    ≡ text_of (key_lines (key_text (type_text Cpit) (length c.values) (header_of_cpit c)) (keys_of Cpit)
    ++ section_lines (lines_from one_value_line 0 c.values) (lines_from cpit_coef_line 0 c.coefs) (lines_from limit_line 0 c.limits))
unfolding text_cpit
cpit_by_keys c = refl
