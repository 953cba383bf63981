use Rattle.std.proofs.Common.{◌<◌, length, refl, arith}
use Rattle.pure_terms.proofs.ListTests.{term_at, length_of}
use Rattle.pure_terms.proofs.terms.Terms.into_element.Goals as goal

pub returns : goal.returns
returns c =
    let below : c.args.index < length c.args.self.items.items = omega (arith, length_of c.args.self, c.requires) in
    term_at c.args.self c.args.self.items.items c.args.index c.swap_remove.result refl below c.swap_remove.ensures.value
