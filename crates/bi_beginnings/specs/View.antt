-- The pure data of beginnings.
use Rattle.std.specs.Prelude.{List, [], map}
use Rattle.bi_beginnings.specs.declared.again.Again.{Again}
use Rattle.bi_beginnings.specs.declared.beginnings.Beginning.{Beginning}
use Rattle.bi_beginnings.specs.Beginnings.{PureBeginning}
use Rattle.pure_terms.specs.View.{atoms_view}
use Rattle.sym_model.specs.View.{uses_view}

abbrev pub beginning_view : Beginning → PureBeginning
beginning_view b = record { vars = b.vars; uses = uses_view b.uses; conds = atoms_view b.conds; place = b.place; choices = b.choices }

abbrev pub beginnings_view : List Beginning → List PureBeginning
beginnings_view bs = map beginning_view bs

-- the beginnings that fix a missed key
abbrev pub again_view : Again → List PureBeginning
again_view (Again.With bs) = beginnings_view bs
again_view (Again.Late t) = []
