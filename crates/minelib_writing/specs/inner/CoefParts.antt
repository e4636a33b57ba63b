-- The lines of coefficients in a form, and the part of each.
use Rattle.std.specs.Prelude.{◌≡◌, ℕ, ◌+◌, ◌<◌, ◌&&◌, Bool, true, false, nat_lt, IsTrue, ℤ, List, [], ◌∷◌, ◌++◌, length, slice_index_or, map, filter, if◌then◌else◌}
use Rattle.std.specs.List.{concat}
use Rattle.std.proofs.Common.{ap, cond, refl}
use Rattle.mine_instance.specs.cpit.OfCpit.{is_chosen, at_only_destination}
use Rattle.mine_instance.specs.declared.coefs.coef.Coef.{Coef}
use Rattle.minelib_lines.specs.Lines.{line_of, lines_from, text_of}
use Rattle.minelib_writing.specs.Written.{coef_line, cpit_coef_line}
use Rattle.minelib_writing.specs.declared.lines.coefs.CoefForm.{CoefForm}
use Rattle.minelib_writing.specs.declared.lines.coefs.CoefForm.TheVariants.{OfAll, OfChosen}

-- the line of a coefficient, with its LF
abbrev pub coef_text : Coef → List ℕ
coef_text c = line_of (coef_line 0 c) ++ 10 ∷ []

-- the line of a coefficient in a CPIT, with its LF
abbrev pub cpit_coef_text : Coef → List ℕ
cpit_coef_text c = line_of (cpit_coef_line 0 c) ++ 10 ∷ []

-- the part of a coefficient, with the values as this list
abbrev pub coef_part : {V : Type 0} → (V → List (List ℤ)) → CoefForm V → Coef → List ℕ
coef_part list OfAll c = coef_text c
coef_part list (OfChosen values) c = if is_chosen (list values.now) c then cpit_coef_text c else []

-- the lines of coefficients
abbrev pub coef_lines : {V : Type 0} → (V → List (List ℤ)) → CoefForm V → List Coef → List (List ℕ)
coef_lines list OfAll coefs = lines_from coef_line 0 coefs
coef_lines list (OfChosen values) coefs =
    lines_from cpit_coef_line 0 (map at_only_destination (filter (is_chosen (list values.now)) coefs))

-- the block has values, if the form needs them
abbrev pub has_values : {V : Type 0} → (V → List (List ℤ)) → CoefForm V → ℕ → Bool
has_values list OfAll block = true
has_values list (OfChosen values) block =
    nat_lt block (length (list values.now)) && nat_lt 0 (length (slice_index_or (list values.now) block []))

-- a coefficient that can be written: its numbers have one digit
abbrev pub FitsForm : {V : Type 0} → (V → List (List ℤ)) → CoefForm V → Coef → Type 0
FitsForm list form c = (c.d < 10) × (c.r < 10) × IsTrue (has_values list form c.b)

all_whole : (n : ℕ) (coefs : List Coef) → concat (map coef_text coefs) ≡ text_of (lines_from coef_line n coefs)
all_whole n [] = refl
all_whole n (c ∷ coefs) = ap (λ rest. coef_text c ++ rest) (all_whole (n + 1) coefs)

-- the next coefficient
one_more : (c : Coef) (coefs : List Coef) (others : List ℕ) (n : ℕ) (chosen : Bool)
    → others ≡ text_of (lines_from cpit_coef_line (n + 1) (map at_only_destination coefs))
    → others ≡ text_of (lines_from cpit_coef_line n (map at_only_destination coefs))
    → cond chosen (cpit_coef_text c) [] ++ others
    ≡ text_of (lines_from cpit_coef_line n (map at_only_destination (cond chosen (c ∷ coefs) coefs)))
one_more c coefs others n true next here = ap (λ rest. cpit_coef_text c ++ rest) next
one_more c coefs others n false next here = here

chosen_whole : (p : Coef → Bool) (n : ℕ) (coefs : List Coef)
    → concat (map (λ c. if p c then cpit_coef_text c else []) coefs)
    ≡ text_of (lines_from cpit_coef_line n (map at_only_destination (filter p coefs)))
chosen_whole p n [] = refl
chosen_whole p n (c ∷ coefs) = one_more c (filter p coefs) _ n (p c) (chosen_whole p (n + 1) coefs) (chosen_whole p n coefs)

-- the parts together are the lines
pub coef_lines_whole : {V : Type 0} (list : V → List (List ℤ)) (form : CoefForm V) (coefs : List Coef)
    → concat (map (coef_part list form) coefs) ≡ text_of (coef_lines list form coefs)
coef_lines_whole list OfAll coefs = all_whole 0 coefs
coef_lines_whole list (OfChosen values) coefs = chosen_whole (is_chosen (list values.now)) 0 coefs
