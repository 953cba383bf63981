use Rattle.std.proofs.Common.{◌≡◌, sym, subst}
use Rattle.gil_values.specs.Characters.{IsText}
use Rattle.source_language.specs.Names.{temporary}
use Rattle.source_language.proofs.NumberedNames.{temporary_text}
use Rattle.source_language.proofs.temporaries.temporary.Goals as goal

pub text-requires : goal.text-requires
text-requires c =
    let is : c.as_str.result.now ≡ temporary c.args.number = cc
    (c.as_str.ensures.value, c.in_ok-push_number.ensures, c.in_ok-name.ensures.ok) in
    subst IsText (sym is) (temporary_text c.args.number)
