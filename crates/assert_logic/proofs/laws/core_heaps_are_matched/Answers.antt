use Rattle.std.proofs.Common.{[]}
use Rattle.assert_logic.specs.Matching.{once}
use Rattle.assert_logic.specs.Names.{named_by_items}
use Rattle.assert_logic.proofs.CoreMatching.{items_matched}
use Rattle.assert_logic.proofs.laws.core_heaps_are_matched.Goals as goal

pub returns : goal.returns
returns c = λ preds memory scope declared items t store part rest whole facts core reads known declares extends sorts meets union.
    let r = items_matched store declared sorts (named_by_items items) (once preds) scope memory facts preds 0 [] items t whole part rest (record { within = extends; declares = declares }) (λ x is_named is. known x is_named is) core reads (λ x is. is) meets union in
    record { found = r.found; matches = r.is; left = r.left; same_values = r.part.within }
