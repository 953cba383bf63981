-- The pure data of doubts and readings, and of how paths end the entry.
use Rattle.gil_values.specs.View.{values_view}
use Rattle.pure_terms.specs.View.{atoms_view, term_view, terms_view}
use Rattle.sym_states.specs.View.{state_view}
use Rattle.checked_rows.specs.declared.ending.EntryEnd.{EntryEnd}
use Rattle.checked_rows.specs.Ending.{PureFinish, by_return, by_throw}
use Rattle.checked_rows.specs.declared.nexts.Doubt.{Doubt}
use Rattle.checked_rows.specs.declared.reading.Reading.{Reading}
use Rattle.checked_rows.specs.Doubts.{PureDoubt, always, under, beyond}
use Rattle.checked_rows.specs.Reading.{PureReading, values, never, doubted}

abbrev pub doubt_view : Doubt → PureDoubt
doubt_view Doubt.Always = always
doubt_view (Doubt.Under conds v) = under (atoms_view conds) (values_view v)
doubt_view (Doubt.Undecided conds reason) = beyond (atoms_view conds) reason

abbrev pub reading_view : {S : Type 0} → Reading S → PureReading S
reading_view (Reading.Values state terms) = values (state_view state) (terms_view terms)
reading_view Reading.Never = never
reading_view (Reading.Doubted doubt) = doubted (doubt_view doubt)

abbrev pub finish_view : EntryEnd → PureFinish
finish_view (EntryEnd.Return t) = by_return (term_view t)
finish_view (EntryEnd.Throw t) = by_throw (term_view t)
