-- What is plain within bounds is plain within wider ones.
use Rattle.std.proofs.Common.{◌≡◌, ℕ, ◌≤◌, ℤ, pos, neg_ℤ, ◌≤ℤ◌, int_le, true, refl, arith}
use Rattle.std.proofs.lemmas.Bool.{and_parts, and_from}
use Rattle.std.proofs.lemmas.Int.{ints}
use Rattle.pure_terms.specs.declared.literals.Literal.{Literal}
use Rattle.pure_terms.specs.Fragment.{is_literal_between, has_literals_between, have_literals_between}
use Rattle.pure_terms.specs.Numbers.{is_between}
use Rattle.pure_terms.specs.Pure.{PureTerm, literal, variable, list_of, unary_of, binary_of, PureTerms, no_terms, term_and, PureAtom, term_of}
use Rattle.sym_model.specs.Laws.{IsPlainWithin, IsDecidedWithin}

test_to : (m n : ℤ) → int_le m n ≡ true → m ≤ℤ n
test_to m n e = grind (arith, ints)

to_test : (m n : ℤ) → m ≤ℤ n → int_le m n ≡ true
to_test m n h = grind (arith, ints)

between_wider : (low high least greatest n : ℤ) → least ≤ℤ low → high ≤ℤ greatest → is_between low high n ≡ true → is_between least greatest n ≡ true
between_wider low high least greatest n below above between =
    let parts = and_parts (int_le low n) (int_le n high) between in
    let first : low ≤ℤ n = test_to low n parts.0 in
    let second : n ≤ℤ high = test_to n high parts.1 in
    and_from (int_le least n) (int_le n greatest) (to_test least n (omega (arith, ints, below, first))) (to_test n greatest (omega (arith, ints, above, second)))

module _ (low high least greatest : ℤ) (below : least ≤ℤ low) (above : high ≤ℤ greatest) where
  literal_wider : (l : Literal) → is_literal_between low high l ≡ true → is_literal_between least greatest l ≡ true
  literal_wider (Literal.Int n) is = between_wider low high least greatest n below above is
  literal_wider (Literal.Bool b) is = refl
  literal_wider (Literal.Str cs) is = refl
  literal_wider (Literal.Kind k) is = refl
  literal_wider (Literal.Proc f) is = refl

  mutual
    pub term_wider : (t : PureTerm) → has_literals_between low high t ≡ true → has_literals_between least greatest t ≡ true
    term_wider (literal l) is = literal_wider l is
    term_wider (variable x) is = refl
    term_wider (list_of ts) is = terms_wider ts is
    term_wider (unary_of op t) is = term_wider t is
    term_wider (binary_of op s t) is =
        let parts = and_parts (has_literals_between low high s) (has_literals_between low high t) is in
        and_from (has_literals_between least greatest s) (has_literals_between least greatest t) (term_wider s parts.0) (term_wider t parts.1)

    terms_wider : (ts : PureTerms) → have_literals_between low high ts ≡ true → have_literals_between least greatest ts ≡ true
    terms_wider no_terms is = refl
    terms_wider (term_and t ts) is =
        let parts = and_parts (has_literals_between low high t) (have_literals_between low high ts) is in
        and_from (has_literals_between least greatest t) (have_literals_between least greatest ts) (term_wider t parts.0) (terms_wider ts parts.1)

  pub plain_wider : (t : PureTerm) → IsPlainWithin low high t → IsPlainWithin least greatest t
  plain_wider t is = (is.0, term_wider t is.1)

  pub decided_wider : (a : PureAtom) → IsDecidedWithin low high a → IsDecidedWithin least greatest a
  decided_wider a is = (is.0, term_wider (term_of a) is.1)

-- bounds on both sides of 0
pub lower_bound : (b c : ℕ) → b ≤ c → neg_ℤ (pos c) ≤ℤ neg_ℤ (pos b)
lower_bound b c le = omega (arith, ints, le)

pub higher_bound : (b c : ℕ) → b ≤ c → pos b ≤ℤ pos c
higher_bound b c le = omega (arith, ints, le)
