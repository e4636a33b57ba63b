use Rattle.std.proofs.Common.{◌≡◌, ◌<◌, ◌+◌, ◌++◌, ◌∙◌, ℕ, List, [], ◌∷◌, refl, sym, ap, length, get_or, take, map, arith}
use Rattle.std.proofs.lemmas.List.{take_more, get_or-map, map-append}
use Rattle.plan_parts.specs.Destinations.{formula_of}
use Rattle.plan_parts.specs.declared.formulas.formula.NamedFormula.{NamedFormula}
use Rattle.pit_compile.proofs.settings.are_same.Goals as goal

-- two lists that are compared through what their elements show
one_more_same : {A B C : Type 0} (f : A → C) (g : B → C) (xs : List A) (ys : List B) (i : ℕ) (a : A) (b : B)
    → i < length xs → i < length ys → a ≡ get_or xs i a → b ≡ get_or ys i b → f a ≡ g b
    → map f (take i xs) ≡ map g (take i ys) → map f (take (i + 1) xs) ≡ map g (take (i + 1) ys)
one_more_same f g xs ys i a b in_xs in_ys at_xs at_ys same before =
    ap (map f) (take_more xs i a in_xs ∙ ap (λ x. take i xs ++ x ∷ []) (sym at_xs))
    ∙ map-append f (take i xs) (a ∷ [])
    ∙ ap (λ c. map f (take i xs) ++ c ∷ []) same
    ∙ ap (λ zs. zs ++ g b ∷ []) before
    ∙ sym (map-append g (take i ys) (b ∷ []))
    ∙ sym (ap (map g) (take_more ys i b in_ys ∙ ap (λ y. take i ys ++ y ∷ []) (sym at_ys)))

same_at : {A B C : Type 0} (f : A → C) (g : B → C) (xs : List A) (ys : List B) (i : ℕ) (a : A) (b : B)
    → i < length xs → i < length ys → a ≡ get_or xs i a → b ≡ get_or ys i b → map f xs ≡ map g ys → f a ≡ g b
same_at f g xs ys i a b in_xs in_ys at_xs at_ys same =
    ap f at_xs ∙ sym (get_or-map f xs i a (f a) in_xs) ∙ ap (λ zs. get_or zs i (f a)) same ∙ get_or-map g ys i b (f a) in_ys
    ∙ sym (ap g at_ys)

pub returns-then-not-is_same : goal.returns-then-not-is_same
returns-then-not-is_same g c =
    let there : c.loop-i.i < length c.args.destinations.now = omega arith in
    let there_too : c.loop-i.i < length c.args.formulas.now = omega arith in (
      λ no_way. cc no_way,
      λ all_same. c.if-not-is_same.ensures.1 (
          c.formula.ensures.value
          ∙ same_at formula_of (λ (f : NamedFormula). f.formula) c.args.destinations.now c.args.formulas.now c.loop-i.i
          c.index-destinations-i.result c.index-formulas-i.result there there_too c.index-destinations-i.is c.index-formulas-i.is all_same
          ∙ ap (λ (f : NamedFormula). f.formula) c.index-formulas-i.is),
    )

pub loop-i-preserved : goal.loop-i-preserved
loop-i-preserved g c =
    let there : c.loop-i.i < length c.args.destinations.now = omega arith in
    let there_too : c.loop-i.i < length c.args.formulas.now = omega arith in
    one_more_same formula_of (λ (f : NamedFormula). f.formula) c.args.destinations.now c.args.formulas.now c.loop-i.i
    c.index-destinations-i.result c.index-formulas-i.result there there_too c.index-destinations-i.is c.index-formulas-i.is
    (sym c.formula.ensures.value ∙ c.if-not-is_same.ensures.0 refl ∙ sym (ap (λ (f : NamedFormula). f.formula) c.index-formulas-i.is))
    c.loop-i.invariant
