use Rattle.std.proofs.Common.{sym, ap, ◌∙◌}
use Rattle.std.specs.Option.{option_map}
use Rattle.invariant_rows.specs.Passing.{former_at}
use Rattle.invariant_rows.proofs.PassedLaws.{running_found, running_none}
use Rattle.invariant_rows.proofs.passing.former_of.Goals as goal

pub returns-in-Some : goal.returns-in-Some
returns-in-Some g c =
    c.former_at.ensures ∙ ap (former_at c.args.at) (sym (running_found c.args.frames.now c.in-Some.all.now (sym c.get.ensures ∙ ap (option_map (λ a. a.now)) c.in-Some.is)))

pub returns-in-None : goal.returns-in-None
returns-in-None g c = sym (ap (former_at c.args.at) (running_none c.args.frames.now (sym c.get.ensures ∙ ap (option_map (λ a. a.now)) c.in-None.is)))
