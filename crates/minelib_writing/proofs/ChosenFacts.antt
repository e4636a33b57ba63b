-- The text of an instance's CPIT, by the instance.
use Rattle.std.proofs.Common.{◌≡◌, ℕ, ◌+◌, List, [], ◌∷◌, ◌++◌, ◌∙◌, length, map, refl, ap}
use Rattle.std.specs.Prelude.{ℤ, filter}
use Rattle.std.proofs.lemmas.List.{length-map}
use Rattle.mine_instance.specs.Largest.{largest}
use Rattle.mine_instance.specs.Instance.{Instance}
use Rattle.mine_instance.specs.cpit.OfCpit.{cpit, is_chosen, at_only_destination}
use Rattle.mine_instance.specs.Valid.{IsValid}
use Rattle.minelib_lines.specs.HeaderTable.{key_lines, key_text}
use Rattle.minelib_lines.specs.HeaderKeys.{keys_of, type_text}
use Rattle.minelib_lines.specs.StatedHeader.{header_of}
use Rattle.minelib_lines.specs.Lines.{line_of, lines_from, text_of}
use Rattle.minelib_lines.specs.declared.problem.Problem.TheVariants.{Cpit}
use Rattle.minelib_writing.specs.Written.{cpit_coef_line, largest_line, limit_line, one_value_line, section_lines, text_cpit}
use Rattle.minelib_writing.proofs.ByKeys.{cpit_by_keys}

largest_lines : (n : ℕ) (values : List (List ℤ)) → lines_from one_value_line n (map largest values) ≡ lines_from largest_line n values
largest_lines n [] = refl
largest_lines n (of_block ∷ values) = ap (λ rest. line_of (largest_line n of_block) ∷ rest) (largest_lines (n + 1) values)

-- its keys, and its sections
abbrev pub chosen_keys : Instance → List (List ℕ)
chosen_keys i =
    key_lines (key_text (type_text Cpit) (length i.blocks) (record (header_of i) { destinations = 1 })) (keys_of Cpit)

abbrev pub chosen_sections : Instance → List (List ℕ)
chosen_sections i =
    section_lines (lines_from largest_line 0 i.values)
    (lines_from cpit_coef_line 0 (map at_only_destination (filter (is_chosen i.values) i.coefs))) (lines_from limit_line 0 i.limits)

pub chosen_text : (i : Instance) → IsValid i → text_cpit (cpit i) ≡ text_of (chosen_keys i ++ chosen_sections i)
chosen_text i v =
    let count : length (map largest i.values) ≡ length i.blocks = length-map i.values largest ∙ v.lengths.values in
    let coefs = lines_from cpit_coef_line 0 (map at_only_destination (filter (is_chosen i.values) i.coefs)) in
    cpit_by_keys (cpit i)
    ∙ (λ j. text_of (key_lines (key_text (type_text Cpit) (count j) (record (header_of i) { destinations = 1 })) (keys_of Cpit)
    ++ section_lines (largest_lines 0 i.values j) coefs (lines_from limit_line 0 i.limits)))
