-- The list and the position that the number of a spot encodes, and back.
use Rattle.std.specs.Prelude.{◌≡◌, ◌+◌, ◌*◌, ◌/◌, ◌%◌}
use Rattle.std.proofs.Math.Nat.{div-add-mod}
use Rattle.rows.specs.ItemRefView.{ItemRefView}
use Rattle.rows.specs.declared.item_ref.ItemRef.TheInside.{Inside}
use Rattle.rows.specs.declared.item_ref.TheConstants.{POSITIONS}

abbrev pub item_ref_in : Inside → ItemRefView
item_ref_in s = record { list = s.number / POSITIONS; position = s.number % POSITIONS }

abbrev pub number_of : ItemRefView → Inside
number_of s = record { number = POSITIONS * s.list + s.position }

pub number_back : (s : Inside) → POSITIONS * (s.number / POSITIONS) + s.number % POSITIONS ≡ s.number
number_back s = div-add-mod s.number POSITIONS
