-- The MineLib files of an instance (Espinoza, Goycoolea, Moreno and Newman 2013, in this project's profile): each line with its fields from
-- left to right. `decimal` writes an integer in digits, and `shortest` the shortest decimal of a number of millionths.
use Rattle.std.specs.Prelude.{ℕ, ◌*◌, List, [], ◌∷◌, ◌++◌, ℤ, pos, codes, decimal, length, map}
use Rattle.pit_units.specs.Decimal.{shortest}
use Rattle.plan_parts.specs.declared.block.Block.{Block}
use Rattle.plan_parts.specs.declared.limit.Bound.{Bound}
use Rattle.plan_parts.specs.declared.limit.Bound.TheVariants.{AtMost, AtLeast, Between}
use Rattle.plan_parts.specs.declared.limit.Limit.{Limit}
use Rattle.mine_instance.specs.cpit.Cpit.{CpitParts}
use Rattle.mine_instance.specs.Largest.{largest}
use Rattle.mine_instance.specs.Instance.{Instance}
use Rattle.mine_instance.specs.declared.coefs.coef.Coef.{Coef}
use Rattle.minelib_lines.specs.Lines.{line_of, lines_from, text_of}

-- `id x y z tonnes grade zone`: a kilogram is a thousandth of a tonne
abbrev pub block_line : ℕ → Block → List (List ℕ)
block_line id b =
    decimal id ∷ decimal b.x ∷ decimal b.y ∷ decimal b.z
    ∷ shortest (pos (b.kg * 1000)) ∷ shortest (pos b.grade) ∷ decimal b.zone ∷ []

-- `id k p1 .. pk`
abbrev pub prec_line : ℕ → List ℕ → List (List ℕ)
prec_line id ids = decimal id ∷ decimal (length ids) ∷ map decimal ids

-- `b v0 v1 ..`, and `b v` with one value
abbrev pub value_line : ℕ → List ℤ → List (List ℕ)
value_line b values = decimal b ∷ map shortest values

abbrev pub one_value_line : ℕ → ℤ → List (List ℕ)
one_value_line b value = decimal b ∷ shortest value ∷ []

-- `b v` with the largest of a block's values
abbrev pub largest_line : ℕ → List ℤ → List (List ℕ)
largest_line b values = one_value_line b (largest values)

-- `b d r v`, and `b r v` in a CPIT. The line's number n is not written, here and in the line of a limit
abbrev pub coef_line : ℕ → Coef → List (List ℕ)
coef_line n c = decimal c.b ∷ decimal c.d ∷ decimal c.r ∷ shortest c.v ∷ []

abbrev pub cpit_coef_line : ℕ → Coef → List (List ℕ)
cpit_coef_line n c = decimal c.b ∷ decimal c.r ∷ shortest c.v ∷ []

-- `r t L v`, `r t G v` or `r t I v w`
abbrev pub bound_fields : Bound → List (List ℕ)
bound_fields (AtMost v) = codes "L" ∷ shortest v ∷ []
bound_fields (AtLeast v) = codes "G" ∷ shortest v ∷ []
bound_fields (Between v w) = codes "I" ∷ shortest v ∷ shortest w ∷ []

abbrev pub limit_line : ℕ → Limit → List (List ℕ)
limit_line n l = decimal l.resource ∷ decimal l.period ∷ bound_fields l.bound

-- `KEY: value`
abbrev pub header_line : List ℕ → List ℕ → List ℕ
header_line key value = line_of (key ∷ value ∷ [])

-- the objective, the coefficients and the limits, each under its section line
abbrev pub section_lines : List (List ℕ) → List (List ℕ) → List (List ℕ) → List (List ℕ)
section_lines values coefs limits =
    (codes "OBJECTIVE_FUNCTION:" ∷ values)
    ++ (codes "RESOURCE_CONSTRAINT_COEFFICIENTS:" ∷ coefs)
    ++ (codes "RESOURCE_CONSTRAINT_LIMITS:" ∷ limits)

-- the block file
unfoldable pub text_blocks : Instance → List ℕ
text_blocks i = text_of (lines_from block_line 0 i.blocks)

-- the precedence file, for any lists of predecessors and for an instance
abbrev pub text_preds : List (List ℕ) → List ℕ
text_preds lists = text_of (lines_from prec_line 0 lists)

unfoldable pub text_prec : Instance → List ℕ
text_prec i = text_preds i.preds

-- the UPIT file
abbrev pub upit_header : Instance → List (List ℕ)
upit_header i =
    header_line (codes "NAME:") i.name
    ∷ header_line (codes "TYPE:") (codes "UPIT")
    ∷ header_line (codes "NBLOCKS:") (decimal (length i.blocks)) ∷ []

unfoldable pub text_upit : Instance → List ℕ
text_upit i =
    text_of (upit_header i
    ++ (codes "OBJECTIVE_FUNCTION:" ∷ lines_from largest_line 0 i.values))

-- the PCPSP file; there are no general side constraints
abbrev pub pcpsp_header : Instance → List (List ℕ)
pcpsp_header i =
    header_line (codes "NAME:") i.name
    ∷ header_line (codes "TYPE:") (codes "PCPSP")
    ∷ header_line (codes "NBLOCKS:") (decimal (length i.blocks))
    ∷ header_line (codes "NPERIODS:") (decimal i.periods)
    ∷ header_line (codes "NDESTINATIONS:") (decimal i.destinations)
    ∷ header_line (codes "NRESOURCE_SIDE_CONSTRAINTS:") (decimal i.resources)
    ∷ header_line (codes "NGENERAL_SIDE_CONSTRAINTS:") (decimal 0)
    ∷ header_line (codes "DISCOUNT_RATE:") (shortest i.rate) ∷ []

unfoldable pub text_pcpsp : Instance → List ℕ
text_pcpsp i =
    text_of (pcpsp_header i
    ++ section_lines (lines_from value_line 0 i.values) (lines_from coef_line 0 i.coefs) (lines_from limit_line 0 i.limits))

-- the CPIT file
abbrev pub cpit_header : CpitParts → List (List ℕ)
cpit_header c =
    header_line (codes "NAME:") c.name
    ∷ header_line (codes "TYPE:") (codes "CPIT")
    ∷ header_line (codes "NBLOCKS:") (decimal (length c.values))
    ∷ header_line (codes "NPERIODS:") (decimal c.periods)
    ∷ header_line (codes "NRESOURCE_SIDE_CONSTRAINTS:") (decimal c.resources)
    ∷ header_line (codes "DISCOUNT_RATE:") (shortest c.rate) ∷ []

unfoldable pub text_cpit : CpitParts → List ℕ
text_cpit c =
    text_of (cpit_header c
    ++ section_lines (lines_from one_value_line 0 c.values) (lines_from cpit_coef_line 0 c.coefs) (lines_from limit_line 0 c.limits))
