-- Cases after one that surely comes don't count; and lists joined one after another.
use Rattle.std.proofs.Common.{◌≡◌, List, ◌++◌, true, sym, ap, ◌∙◌}
use Rattle.std.specs.List.{list_any}
use Rattle.std.proofs.lemmas.List.{append_assoc}
use Rattle.sym_chunks.specs.Cases.{AreChosenAs, PureCase, choose}
use Rattle.sym_model.specs.Alternatives.{is_empty}
use Rattle.sym_chunks.proofs.CaseLaws.{choose_sure}

-- the first cases, where one of them surely comes
pub first_alike : (xs ys whole : List PureCase) → list_any (λ (c : PureCase). list_any is_empty c.when) xs ≡ true → xs ++ ys ≡ whole → AreChosenAs xs whole
first_alike xs ys whole is e when = sym (choose_sure when xs ys is) ∙ ap (choose when) e

pub same_alike : (xs ys : List PureCase) → xs ≡ ys → AreChosenAs xs ys
same_alike xs ys e when = ap (choose when) e

pub joined_two : {X : Type 0} (x0 x1 xs a b : List X) → x1 ≡ x0 ++ a → xs ≡ x1 ++ b → xs ≡ x0 ++ (a ++ b)
joined_two x0 x1 xs a b first second = second ∙ ap (λ x. x ++ b) first ∙ append_assoc x0 a b

pub joined_three : {X : Type 0} (x0 x1 x2 xs a b c : List X) → x1 ≡ x0 ++ a → x2 ≡ x1 ++ b → xs ≡ x2 ++ c → xs ≡ x0 ++ (a ++ (b ++ c))
joined_three x0 x1 x2 xs a b c first second third =
    third ∙ ap (λ x. x ++ c) (second ∙ ap (λ x. x ++ b) first) ∙ append_assoc (x0 ++ a) b c ∙ append_assoc x0 a (b ++ c)
