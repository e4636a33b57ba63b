-- Arguments in which clap found no values of a run.
use Rattle.std.proofs.Common.{◌≡◌, ◌∙◌, ◌<◌, List, [], ◌∷◌, Some, None, ap, arith, codes, length, map, refl, subst, sym, unwrap_or}
use Rattle.std.proofs.lemmas.List.{length-map}
use Rattle.clap.specs.Words.{Row, Text, all_of, first_of}
use Rattle.command_lines.specs.CommandLine.{FindsArguments, FindsSettings}
use Rattle.command_lines.specs.declared.job.RunArguments.{RunArguments}
use Rattle.plan_parts.specs.declared.settings.Settings.{Settings}

pub no_plan : (rows : List Row) → first_of (codes "plan") rows ≡ None → (run : RunArguments) → FindsArguments rows run → ⊥
no_plan rows none run found = let bad = sym none ∙ found.has_plan in cc

pub no_out : (rows : List Row) → first_of (codes "out") rows ≡ None → (run : RunArguments) → FindsArguments rows run → ⊥
no_out rows none run found = let bad = sym none ∙ found.has_out in cc

pub no_settings : (rows : List Row) → ((settings : Settings) → FindsSettings rows settings → ⊥) → (run : RunArguments) → FindsArguments rows run → ⊥
no_settings rows none run found = none run.settings found.has_settings

pub no_zones : (rows : List Row) → all_of (codes "zone") rows ≡ None → (run : RunArguments) → FindsArguments rows run → ⊥
no_zones rows none run found = let bad = sym none ∙ found.has_zones in cc

pub no_zone : (rows : List Row) → all_of (codes "zone") rows ≡ Some [] → (run : RunArguments) → FindsArguments rows run → ⊥
no_zone rows none run found =
    let same = ap (λ o. unwrap_or o []) (sym found.has_zones ∙ none) in
    let bad : 0 < 0 = subst (λ z. 0 < length z) same found.some_zone in
    absurd (omega (arith, bad))

-- if there are values, there are copied values
pub some_copied : {A B : Type 0} (f : A → Text) (g : B → Text) (xs : List A) (ys : List B) → map f xs ≡ map g ys → 0 < length ys
    → 0 < length (map f xs)
some_copied f g xs ys same some = subst (λ zs. 0 < length zs) (sym same) (subst (λ n. 0 < n) (sym (length-map ys g)) some)

pub none_mapped : {A : Type 0} (f : A → Text) (xs : List A) → length xs ≡ 0 → map f xs ≡ []
none_mapped f [] e = refl
none_mapped f (x ∷ xs) e = absurd (omega (arith, e))
