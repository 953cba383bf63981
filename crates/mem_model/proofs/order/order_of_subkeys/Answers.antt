use Rattle.std.proofs.Common.{◌≡◌, ◌∙◌}
use Rattle.std.specs.Ordering.{nat_cmp}
use Rattle.std.specs.declared.cmp.Ordering.TheVariants.{Equal}
use Rattle.mem_model.specs.KeyOrder.{variant_number, sub_cmp-variants, then_tied}
use Rattle.mem_model.proofs.order.order_of_subkeys.Goals as goal

pub returns-in-Equal : goal.returns-in-Equal
returns-in-Equal c =
    let tied : nat_cmp (variant_number c.args.a.now) (variant_number c.args.b.now) ≡ Equal = cc (c.in-Equal.ensures, c.in-Equal.is) in
    c.order_of_contents.ensures ∙ then_tied _ _ tied ∙ sub_cmp-variants c.args.a.now c.args.b.now
