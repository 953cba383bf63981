use Rattle.std.proofs.Common.{refl}
use Rattle.std.specs.Prelude.{codes}
use Rattle.json_parts.specs.Lines.{specification_of}
use Rattle.json_parts.proofs.Followed.{differs}
use Rattle.json_parts.proofs.lines.push_specification_of.Goals as goal

pub returns-in-verified : goal.returns-in-verified
unfolding specification_of
returns-in-verified c = rw c.in-verified.is c.push_line.ensures

pub returns-in-vacuous : goal.returns-in-vacuous
unfolding specification_of
returns-in-vacuous c = rw c.in-vacuous.is c.push_line-in-vacuous.ensures

pub returns-in-unproved : goal.returns-in-unproved
unfolding specification_of
returns-in-unproved c = rw c.in-unproved.is c.push_unproved.ensures

pub returns-in-spec : goal.returns-in-spec
unfolding specification_of
returns-in-spec c = rw c.in-spec.is (rw c.cut_mark.ensures at c.push_line-in-spec.ensures)

pub returns-in_default : goal.returns-in_default
unfolding specification_of
returns-in_default c =
    rw (differs (codes "verified") c.args.kind.now c.in_default.not-verified, differs (codes "vacuous") c.args.kind.now c.in_default.not-vacuous, differs (codes "unproved") c.args.kind.now c.in_default.not-unproved, differs (codes "spec") c.args.kind.now c.in_default.not-spec)
    refl
