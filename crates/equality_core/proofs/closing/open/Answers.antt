use Rattle.std.proofs.Common.{sym, ap, ◌∙◌}
use Rattle.std.proofs.lemmas.Option.{same_Some}
use Rattle.solver_proof.specs.Chains.{Sides}
use Rattle.equality_core.specs.Classes.{sides_view, classes_view}
use Rattle.equality_core.proofs.Saying.{list_pair}
use Rattle.equality_core.proofs.Taking.{after_flat}
use Rattle.equality_core.proofs.closing.open.Goals as goal

pub returns-in-None-as_list : goal.returns-in-None-as_list
returns-in-None-as_list c =
    after_flat (classes_view c.args.classes) c.args.place c.requires.placed c.requires.taken
    (λ ts us is. c.in-None-as_list.ensures.none us (ap (λ (s : Sides). s.right) (same_Some (sides_view c.args.sides.now) (list_pair ts us) (sym c.requires.sides ∙ is))))

pub returns-in-None : goal.returns-in-None
returns-in-None c =
    after_flat (classes_view c.args.classes) c.args.place c.requires.placed c.requires.taken
    (λ ts us is. c.in-None.ensures.none ts (ap (λ (s : Sides). s.left) (same_Some (sides_view c.args.sides.now) (list_pair ts us) (sym c.requires.sides ∙ is))))
