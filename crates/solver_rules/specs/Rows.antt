-- Rows of atoms for the procedure that decides rows.
use Rattle.std.specs.Prelude.{ℕ, ◌+◌, ℤ, pos, neg_ℤ, List, [], ◌∷◌, ◌++◌, Bool, true, false, Option, Some, None}
use Rattle.pure_terms.specs.Pure.{PureAtom}
use Rattle.solver_proof.specs.Sums.{Side, Row, row_of}
use Rattle.linear_core.specs.declared.rows.Coefficient.{Coefficient}
use Rattle.linear_core.specs.declared.rows.Relation.{Relation}
use Rattle.linear_core.specs.declared.rows.Row.{Row as LinearRow}
use Rattle.solver_rules.specs.declared.offsets.Offset.{Offset}

abbrev pub offset_view : Offset → Side
offset_view o = record { of = o.of; plus = o.plus }

-- a variable with its factor, where there is one
abbrev pub part_of : ℤ → Option ℕ → List Coefficient
part_of factor (Some x) = record { variable = x; factor = factor } ∷ []
part_of factor None = []

abbrev pub relation_of : Bool → Relation
relation_of true = Relation.Zero
relation_of false = Relation.AtMostZero

abbrev pub linear_row : Row → LinearRow
linear_row r = record { coefficients = part_of (pos 1) r.plus ++ part_of (neg_ℤ (pos 1)) r.minus; constant = r.constant; relation = relation_of r.is_equal }

-- the rows of the atoms of a list, and the places of these atoms
abbrev pub row_before : Option Row → List LinearRow → List LinearRow
row_before (Some r) rows = linear_row r ∷ rows
row_before None rows = rows

abbrev pub rows_from : List PureAtom → List LinearRow
rows_from [] = []
rows_from (a ∷ atoms) = row_before (row_of a) (rows_from atoms)

abbrev pub place_before : Option Row → ℕ → List ℕ → List ℕ
place_before (Some r) place places = place ∷ places
place_before None place places = places

abbrev pub places_from : ℕ → List PureAtom → List ℕ
places_from place [] = []
places_from place (a ∷ atoms) = place_before (row_of a) place (places_from (place + 1) atoms)

-- a row that was found, and its place
abbrev pub found_rows : Option LinearRow → List LinearRow
found_rows (Some r) = r ∷ []
found_rows None = []

abbrev pub found_places : ℕ → Option LinearRow → List ℕ
found_places place (Some r) = place ∷ []
found_places place None = []
