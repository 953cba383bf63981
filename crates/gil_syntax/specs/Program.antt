-- A program as its parts.
use Rattle.gil_syntax.specs.Pure.{PureParts}
use Rattle.gil_syntax.specs.declared.program.Prog.{Prog}
use Rattle.gil_syntax.specs.Parts.{parts_seen}

abbrev pub prog_view : Prog → PureParts
prog_view p = parts_seen p.procs.entries p.specs p.preds
