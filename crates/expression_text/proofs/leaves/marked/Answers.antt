use Rattle.std.proofs.Common.{◌≡◌, ◌∷◌, sym, subst, inl, lit≤}
use Rattle.std.proofs.lemmas.List.Elements.{All-cons}
use Rattle.gil_values.specs.Characters.{IsText, IsTextCharacter}
use Rattle.expression_text.proofs.leaves.marked.Goals as goal

pub text_of-requires : goal.text_of-requires
text_of-requires c =
    let is : c.as_str-2.result.now ≡ 35 ∷ c.args.name.now = cc
    (c.as_str-2.ensures.value, c.in_ok-push_str.ensures.bytes, c.in_ok-characters.ensures.ok, c.as_str.ensures.characters) in
    subst IsText (sym is) (All-cons IsTextCharacter 35 c.args.name.now (inl (lit≤ tt, lit≤ tt)) c.as_str.ensures.text)
