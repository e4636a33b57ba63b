-- A feed that reports its bytes gives one text.
use Rattle.std.specs.Prelude.{◌≡◌, ℕ, List, [], ◌∷◌, Option, Some}
use Rattle.std.proofs.Common.{ap, subst}
use Rattle.pit_compile.specs.ZoneFiles.{AreGiven}

one_given : (zone : List ℕ) (texts : List (List ℕ)) → AreGiven (Some zone ∷ []) texts
    → texts ≡ zone ∷ []
one_given zone [] given = absurd given
one_given zone (text ∷ []) given = ap (λ t. t ∷ []) given.0
one_given zone (text ∷ other ∷ more) given = absurd given.1

pub one_text : (zone : List ℕ) {remainders : List (Option (List ℕ))} (texts : List (List ℕ))
    → AreGiven remainders texts → remainders ≡ Some zone ∷ [] → texts ≡ zone ∷ []
one_text zone texts given reported = one_given zone texts (subst (λ remainders. AreGiven remainders texts) reported given)
