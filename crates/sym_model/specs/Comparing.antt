-- What the forms of two terms and their variables' sorts tell of whether they are equal.
use Rattle.std.specs.Prelude.{if◌then◌else◌}
use Rattle.pure_terms.specs.Equality.{same_term}
use Rattle.pure_terms.specs.Pure.{PureTerm}
use Rattle.sym_model.specs.declared.comparing.Comparison.{Comparison}
pub use Rattle.sym_model.specs.Terms.{are_other_kinds, is_fresh_above, are_apart}

abbrev pub compared : PureTerm → PureTerm → Comparison
compared s t = if same_term s t then Comparison.Same else if are_apart s t then Comparison.Different else Comparison.Unsure
