-- What is plain, or decided, stays so within wider bounds.
use Rattle.std.proofs.Common.{◌≡◌, ℤ, pos, ◌-ℤ◌, ◌+ℤ◌, ◌≤ℤ◌, true, refl, arith}
use Rattle.std.specs.Prelude.{int_le}
use Rattle.std.proofs.lemmas.Bool.{and_parts, and_from}
use Rattle.std.proofs.lemmas.Int.{ints}
use Rattle.pure_terms.specs.declared.literals.Literal.{Literal}
use Rattle.pure_terms.specs.Fragment.{is_literal_between, has_literals_between, have_literals_between}
use Rattle.pure_terms.specs.Numbers.{is_between}
use Rattle.pure_terms.specs.Pure.{PureTerm, literal, variable, list_of, unary_of, binary_of, PureTerms, no_terms, term_and, PureAtom, term_of}
use Rattle.sym_model.specs.Laws.{IsPlainWithin, IsDecidedWithin, growth}

int_le-true : (m n : ℤ) → m ≤ℤ n → int_le m n ≡ true
int_le-true m n h = grind (arith, ints)

le_from_test : (m n : ℤ) → int_le m n ≡ true → m ≤ℤ n
le_from_test m n h = grind (arith, ints)

lower : (low n : ℤ) → low ≤ℤ n → (low -ℤ pos 10000) ≤ℤ n
lower low n h = omega (arith, ints, h)

higher : (n high : ℤ) → n ≤ℤ high → n ≤ℤ (high +ℤ pos 10000)
higher n high h = omega (arith, ints, h)

module _ (low high : ℤ) where
  between_wider : (n : ℤ) → is_between low high n ≡ true → is_between (low -ℤ growth) (high +ℤ growth) n ≡ true
  between_wider n is =
      let parts = and_parts (int_le low n) (int_le n high) is in
      and_from (int_le (low -ℤ growth) n) (int_le n (high +ℤ growth)) (int_le-true (low -ℤ growth) n (lower low n (le_from_test low n parts.0))) (int_le-true n (high +ℤ growth) (higher n high (le_from_test n high parts.1)))

  literal_wider : (k : Literal) → is_literal_between low high k ≡ true → is_literal_between (low -ℤ growth) (high +ℤ growth) k ≡ true
  literal_wider (Literal.Int n) is = between_wider n is
  literal_wider (Literal.Bool b) is = refl
  literal_wider (Literal.Str s) is = refl
  literal_wider (Literal.Kind k) is = refl
  literal_wider (Literal.Proc s) is = refl

  mutual
    literals_wider : (t : PureTerm) → has_literals_between low high t ≡ true → has_literals_between (low -ℤ growth) (high +ℤ growth) t ≡ true
    literals_wider (literal k) is = literal_wider k is
    literals_wider (variable x) is = refl
    literals_wider (list_of ts) is = all_wider ts is
    literals_wider (unary_of op t) is = literals_wider t is
    literals_wider (binary_of op s t) is =
        let parts = and_parts (has_literals_between low high s) (has_literals_between low high t) is in
        and_from _ _ (literals_wider s parts.0) (literals_wider t parts.1)

    all_wider : (ts : PureTerms) → have_literals_between low high ts ≡ true → have_literals_between (low -ℤ growth) (high +ℤ growth) ts ≡ true
    all_wider no_terms is = refl
    all_wider (term_and t ts) is =
        let parts = and_parts (has_literals_between low high t) (have_literals_between low high ts) is in
        and_from _ _ (literals_wider t parts.0) (all_wider ts parts.1)

  pub plain_wider : (t : PureTerm) → IsPlainWithin low high t → IsPlainWithin (low -ℤ growth) (high +ℤ growth) t
  plain_wider t is = (is.0, literals_wider t is.1)

  pub decided_wider : (a : PureAtom) → IsDecidedWithin low high a → IsDecidedWithin (low -ℤ growth) (high +ℤ growth) a
  decided_wider a is = (is.0, literals_wider (term_of a) is.1)
