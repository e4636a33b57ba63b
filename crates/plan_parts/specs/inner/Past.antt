-- The list of items that are not stored.
use Rattle.std.specs.Prelude.{List, [], ◌∷◌, ◌++◌}
use Rattle.plan_parts.specs.declared.listed.past.Links.{Links, Start, More'}

-- in the order of their arrival
abbrev pub items_in : {A : Type 0} → Links A → List A
items_in Start = []
items_in (More' m before item) = items_in before ++ item.value ∷ []
