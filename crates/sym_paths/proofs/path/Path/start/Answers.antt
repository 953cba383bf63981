use Rattle.std.proofs.Common.{[], refl, ap}
use Rattle.pure_terms.specs.View.{atoms_view}
use Rattle.sym_paths.proofs.Starting.{first_stands, first_plain}
use Rattle.sym_paths.proofs.path.Path.start.Goals as goal

pub returns-clause-stands : goal.returns-clause-stands
returns-clause-stands g c = λ p. first_stands _ _ p _ c.new.ensures c.new-2.ensures c.in_ok-stack.ensures (c.in_ok-memory.ensures.stands []) c.new-5.ensures

pub returns-clause-plain : goal.returns-clause-plain
returns-clause-plain g c = λ b. first_plain _ _ _ b c.new.ensures c.new-2.ensures c.in_ok-stack.ensures c.in_ok-memory.ensures.plain refl

pub returns-clause-first : goal.returns-clause-first
returns-clause-first g c = record {
  stack = c.in_ok-stack.ensures;
  vars = c.new.ensures;
  drawn = c.new-5.ensures;
  conds = c.new-2.ensures;
  given = ap atoms_view c.new-3.ensures;
  choices = c.new-4.ensures;
  steps = refl;
  going = refl;
  heap = c.in_ok-memory.ensures.stands [];
  no_terms = c.in_ok-memory.ensures.terms;
}
