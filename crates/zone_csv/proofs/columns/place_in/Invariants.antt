use Rattle.std.proofs.Common.{◌≡◌, ◌++◌, drop}
use Rattle.std.specs.Option.{option_to_list}
use Rattle.csv.specs.Records.{fields_of}
use Rattle.zone_csv.specs.Header.{places_of}
use Rattle.zone_csv.proofs.columns.place_in.Given as goal

-- The found place, with the later ones, are all the places of the name.
abbrev pub invariant-loop-place : goal.invariant-loop-place
invariant-loop-place l =
    option_to_list l.found ++ places_of l.name (drop l.place (fields_of l.header)) l.place ≡ places_of l.name (fields_of l.header) 0
