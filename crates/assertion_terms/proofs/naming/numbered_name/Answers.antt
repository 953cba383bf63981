use Rattle.std.proofs.Common.{◌≡◌, ◌++◌, sym, subst}
use Rattle.std.specs.Prelude.{codes}
use Rattle.gil_values.specs.Characters.{IsText}
use Rattle.gil_values.specs.Printed.{numeral}
use Rattle.assertion_terms.proofs.Numbers.{numbered_text}
use Rattle.assertion_terms.proofs.naming.numbered_name.Goals as goal

pub text_of-requires : goal.text_of-requires
text_of-requires c =
    let is : c.as_str.result.now ≡ codes "#v" ++ numeral c.args.number = cc
    (c.as_str.ensures.value, c.in_ok-push_number.ensures, c.in_ok-characters.ensures.ok) in
    subst IsText (sym is) (numbered_text c.args.number)
