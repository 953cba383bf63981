-- The values of classes: variables of one class have the same, and the given numbers and kinds.
use Rattle.std.proofs.Common.{◌≡◌, ⊎_elim, inl, inr, ℕ, zero, suc, ◌<◌, List, [], ◌∷◌, true, false, ◌&&◌, ◌||◌, Some, slice_get, refl, sym, ap, ◌∙◌, subst, arith}
use Rattle.std.specs.List.{Contains}
use Rattle.std.proofs.lemmas.Bool.{false≢true, true≢false, or_parts, and_parts, not-false, cases_order}
use Rattle.std.proofs.lemmas.List.Elements.{Contains-append_cases}
use Rattle.std.proofs.lemmas.Option.{same_Some, slice_get_within}
use Rattle.gil_values.specs.declared.kinds.Kind.{Kind}
use Rattle.gil_values.specs.Equality.{same_kind}
use Rattle.gil_values.specs.Pure.{PureValue, integer, kind_of}
use Rattle.pure_terms.specs.declared.literals.Literal.{Literal}
use Rattle.pure_terms.specs.declared.variables.Sort.{Sort}
use Rattle.pure_terms.specs.declared.variables.Var.{Var}
use Rattle.pure_terms.specs.EqualityLaws.{same_literal-same}
use Rattle.pure_terms.specs.Fragment.{are_simple, is_variable_of, is_integer_literal, is_shift, is_integer_side}
use Rattle.pure_terms.specs.Kinds.{kind_of_sort, kind_of_literal, is_of_kind, known_kind}
use Rattle.pure_terms.specs.Meaning.{literal_value, value, IsOver}
use Rattle.pure_terms.specs.Pure.{PureTerm, literal, variable, list_of, unary_of, binary_of, PureAtom, variables}
use Rattle.pure_terms.proofs.KindLaws.{same_kinds}
use Rattle.pure_terms.proofs.SimpleLaws.{from_is_variable_of, from_is_integer_literal, from_is_of_kind, found}
use Rattle.pure_terms.proofs.VariableLaws.{depend_on_variables}
use Rattle.solver_proof.specs.Chains.{are_different_literals, are_other_kinds, is_fresh_over, is_empty_kind}
use Rattle.equality_core.specs.Equating.{Equates, itself, turned, joined, have_other_lengths, clash, EquatesNoClash}
use Rattle.equality_core.specs.Valued.{FitNumbers, FitKinds}
use Rattle.equality_core.specs.Values.{IsInTable, new_value, IsKey, IsValueOf, AreValues}

-- ---- what there is where there is no clash

pub record NoClash (s t : PureTerm) : Type 0 where
  pub literals : are_different_literals s t ≡ false
  pub kinds : are_other_kinds (known_kind s) (known_kind t) ≡ false
  pub fresh : is_fresh_over s t ≡ false
  pub lengths : have_other_lengths s t ≡ false

pub no_clash : (s t : PureTerm) → clash s t ≡ false → NoClash s t
no_clash s t h =
    let one = or_parts (are_different_literals s t) (are_other_kinds (known_kind s) (known_kind t) || (is_fresh_over s t || (is_fresh_over t s || have_other_lengths s t))) h in
    let two = or_parts (are_other_kinds (known_kind s) (known_kind t)) (is_fresh_over s t || (is_fresh_over t s || have_other_lengths s t)) one.1 in
    let three = or_parts (is_fresh_over s t) (is_fresh_over t s || have_other_lengths s t) two.1 in
    record { literals = one.0; kinds = two.0; fresh = three.0; lengths = (or_parts (is_fresh_over t s) (have_other_lengths s t) three.1).1 }

-- ---- kinds of forms

pub kind-literal : (l : Literal) → kind_of (literal_value l) ≡ kind_of_literal l
kind-literal (Literal.Int n) = refl
kind-literal (Literal.Bool b) = refl
kind-literal (Literal.Str cs) = refl
kind-literal (Literal.Kind k) = refl
kind-literal (Literal.Proc name) = refl

pub kind-new : (long : ℕ) (k : Kind) (n : ℕ) → is_empty_kind k ≡ false → kind_of (new_value long k n) ≡ k
kind-new long Kind.Int n h = refl
kind-new long Kind.Bool n h = refl
kind-new long Kind.Str n h = refl
kind-new long Kind.Sym n h = refl
kind-new long Kind.Kind n h = refl
kind-new long Kind.Proc n h = refl
kind-new long Kind.List n h = refl
kind-new long Kind.Undef n h = absurd (true≢false h)
kind-new long Kind.Null n h = absurd (true≢false h)

pub integer_variable : (x : Var) → x.sort ≡ Sort.Int → is_integer_side (variable x) ≡ true
integer_variable x is = ap (λ s. is_of_kind (kind_of_sort s) Kind.Int) is

pub integer_literal : (l : Literal) → kind_of_literal l ≡ Kind.Int → is_integer_side (literal l) ≡ true
integer_literal l is = ap (λ k. same_kind k Kind.Int) is

int_sort : (s : Sort) → kind_of_sort s ≡ Some Kind.Int → s ≡ Sort.Int
int_sort Sort.Int h = refl
int_sort Sort.Bool h = cc
int_sort Sort.Str h = cc
int_sort Sort.Sym h = cc
int_sort Sort.Fresh h = cc
int_sort Sort.List h = cc
int_sort Sort.Any h = cc

contains_one : (x y : Var) → Contains (x ∷ []) y → x ≡ y
contains_one x y (zero, below, is) = is
contains_one x y (suc k, below, is) = absurd (omega (arith, below))

contains_none : (y : Var) → Contains {X = Var} [] y → ⊥
contains_none y (k, below, is) = omega (arith, below)

-- the variables of a simple term that is a whole number are Int ones
pub int_variables : (t : PureTerm) → is_integer_side t ≡ true → (y : Var) → Contains (variables t) y → y.sort ≡ Sort.Int
int_variables (literal l) side y has = absurd (contains_none y has)
int_variables (variable x) side y has = ap (λ (z : Var). z.sort) (sym (contains_one x y has)) ∙ int_sort x.sort (from_is_of_kind (kind_of_sort x.sort) Kind.Int side)
int_variables (list_of ts) side y has = absurd (false≢true (and_parts (are_simple ts) false side).1)
int_variables (unary_of op t) side y has = absurd (false≢true side)
int_variables (binary_of op s t) side y has = ⊎_elim left right (Contains-append_cases (variables s) (variables t) y has) where
  form : (is_shift op && (is_variable_of Sort.Int s && is_integer_literal t)) ≡ true
  form = (and_parts (is_shift op && (is_variable_of Sort.Int s && is_integer_literal t)) _ side).0

  parts : (is_variable_of Sort.Int s ≡ true) × (is_integer_literal t ≡ true)
  parts = and_parts (is_variable_of Sort.Int s) (is_integer_literal t) (and_parts (is_shift op) _ form).1

  left : Contains (variables s) y → y.sort ≡ Sort.Int
  left here =
      let (x, (is, sort)) = from_is_variable_of Sort.Int s parts.0 in
      ap (λ (z : Var). z.sort) (sym (contains_one x y (subst (λ u. Contains (variables u) y) is here))) ∙ sort

  right : Contains (variables t) y → y.sort ≡ Sort.Int
  right here =
      let (n, is) = from_is_integer_literal t parts.1 in
      absurd (contains_none y (subst (λ u. Contains (variables u) y) is here))

-- ---- classes

module _ (vars : List Sort) (atoms : List PureAtom) (numbers : List PureValue) (kinds : List Kind) (long : ℕ) (clear : EquatesNoClash atoms) (fit_numbers : FitNumbers vars atoms numbers) (fit_kinds : FitKinds vars atoms kinds) where
  abbrev Of : Var → PureValue → Type 0
  Of x w = IsValueOf vars atoms numbers kinds long x w

  abbrev at_number : ℕ → Sort → Var
  at_number n s = record { number = n; sort = s }

  pub same_literals : (l m : Literal) → Equates atoms (literal l) (literal m) → l ≡ m
  same_literals l m e = same_literal-same l m (not-false _ (no_clash (literal l) (literal m) (clear (literal l) (literal m) e)).literals)

  keys_same : (x y : Var) (a b : ℕ) → IsKey vars atoms x a → IsKey vars atoms y b → Equates atoms (variable x) (variable y) → a ≡ b
  keys_same x y a b of_x of_y e = ⊎_elim (λ same. same) (λ other. absurd (⊎_elim less more other)) (cases_order a b) where
    less : a < b → ⊥
    less h = of_y.least (at_number a of_x.sort) of_x.there h (joined (turned e) of_x.equated)

    more : b < a → ⊥
    more h = of_x.least (at_number b of_y.sort) of_y.there h (joined e of_y.equated)

  pub keys_equate : (x y : Var) (a b : ℕ) → IsKey vars atoms x a → IsKey vars atoms y b → a ≡ b → Equates atoms (variable x) (variable y)
  keys_equate x y a b of_x of_y same =
      let sorts : of_x.sort ≡ of_y.sort = same_Some of_x.sort of_y.sort (sym of_x.there ∙ ap (slice_get vars) same ∙ of_y.there) in
      joined of_x.equated (turned (subst (λ z. Equates atoms (variable y) (variable z)) (λ i. at_number (sym same i) (sym sorts i)) of_y.equated))

  pub class_same : (x y : Var) (u w : PureValue) → Equates atoms (variable x) (variable y) → Of x u → Of y w → u ≡ w
  class_same x y u w e (inl a) (inl b) = a.is ∙ ap literal_value (same_literals a.of b.of (joined (turned a.equated) (joined e b.equated))) ∙ sym b.is
  class_same x y u w e (inl a) (inr (lacks, b)) = absurd (lacks a.of (joined (turned e) a.equated))
  class_same x y u w e (inr (lacks, a)) (inl b) = absurd (lacks b.of (joined e b.equated))
  class_same x y u w e (inr (lacks, inl a)) (inr (also, inl b)) =
      same_Some u w (sym a.is ∙ fit_numbers.equated (variable a.of) (variable b.of) (joined (turned a.equated) (joined e b.equated)) (integer_variable a.of a.whole) (integer_variable b.of b.whole) ∙ b.is)
  class_same x y u w e (inr (lacks, inl a)) (inr (also, inr b)) = absurd (b.none a.of a.there a.whole (joined (turned e) a.equated))
  class_same x y u w e (inr (lacks, inr a)) (inr (also, inl b)) = absurd (a.none b.of b.there b.whole (joined e b.equated))
  class_same x y u w e (inr (lacks, inr a)) (inr (also, inr b)) =
      let keys : a.key ≡ b.key = keys_same x y a.key b.key a.is_key b.is_key e in
      let kind : a.of ≡ b.of = same_Some a.of b.of (sym a.there ∙ fit_kinds.alike (variable x) (variable y) e ∙ b.there) in
      a.is ∙ (λ i. new_value long (kind i) (keys i)) ∙ sym b.is

  pub class_literal : (x : Var) (l : Literal) (w : PureValue) → Equates atoms (variable x) (literal l) → Of x w → w ≡ literal_value l
  class_literal x l w e (inl a) = a.is ∙ ap literal_value (same_literals a.of l (joined (turned a.equated) e))
  class_literal x l w e (inr (lacks, a)) = absurd (lacks l e)

  pub int_kind : (n : ℕ) → slice_get vars n ≡ Some Sort.Int → slice_get kinds n ≡ Some Kind.Int
  int_kind n at =
      let (k, is) = found kinds n (subst (λ m. n < m) (sym fit_kinds.one_each) (slice_get_within vars n Sort.Int at)) in
      is ∙ ap Some (sym (same_kinds Kind.Int k (fit_kinds.sorts n Sort.Int k at is)))

  pub class_kind : (x : Var) (w : PureValue) → Of x w → slice_get kinds x.number ≡ Some (kind_of w)
  class_kind x w (inl a) = fit_kinds.alike (variable x) (literal a.of) a.equated ∙ ap Some (sym (kind-literal a.of)) ∙ ap (λ u. Some (kind_of u)) (sym a.is)
  class_kind x w (inr (lacks, inl a)) =
      let there : slice_get vars a.of.number ≡ Some Sort.Int = a.there ∙ ap Some a.whole in
      let given = fit_numbers.each a.of.number there in
      let is : integer given.number ≡ w = same_Some (integer given.number) w (sym given.is ∙ a.is) in
      fit_kinds.alike (variable x) (variable a.of) a.equated ∙ int_kind a.of.number there ∙ ap (λ u. Some (kind_of u)) is
  class_kind x w (inr (lacks, inr a)) =
      a.there ∙ ap Some (sym (kind-new long a.of a.key (fit_kinds.inhabited x.number a.of a.there))) ∙ ap (λ u. Some (kind_of u)) (sym a.is)

  pub class_number : (x : Var) (w : PureValue) → IsInTable vars x → x.sort ≡ Sort.Int → Of x w → slice_get numbers x.number ≡ Some w
  class_number x w there whole (inl a) =
      let kind : kind_of_literal a.of ≡ Kind.Int = same_Some (kind_of_literal a.of) Kind.Int (sym (fit_kinds.alike (variable x) (literal a.of) a.equated) ∙ int_kind x.number (there ∙ ap Some whole)) in
      fit_numbers.equated (variable x) (literal a.of) a.equated (integer_variable x whole) (integer_literal a.of kind) ∙ ap Some (sym a.is)
  class_number x w there whole (inr (lacks, inl a)) = fit_numbers.equated (variable x) (variable a.of) a.equated (integer_variable x whole) (integer_variable a.of a.whole) ∙ a.is
  class_number x w there whole (inr (lacks, inr a)) = absurd (a.none x there whole itself)

  -- ---- a list of such values

  module _ (v : List PureValue) (are : AreValues vars atoms numbers kinds long v) where
    pub record HasClassValue (x : Var) : Type 0 where
      pub of_class : PureValue
      pub at : slice_get v x.number ≡ Some of_class
      pub is : IsValueOf vars atoms numbers kinds long x of_class

    pub value_in : (x : Var) → IsInTable vars x → HasClassValue x
    value_in x there =
        let (w, is) = found v x.number (subst (λ m. x.number < m) (sym are.one_each) (slice_get_within vars x.number x.sort there)) in
        record { of_class = w; at = is; is = are.each x w there is }

    pub same_number : (n : ℕ) → slice_get vars n ≡ Some Sort.Int → slice_get v n ≡ slice_get numbers n
    same_number n at =
        let x : Var = at_number n Sort.Int in
        let has = value_in (at_number n Sort.Int) at in
        has.at ∙ sym (class_number (at_number n Sort.Int) has.of_class at refl has.is)

    -- whole numbers have the values that the given numbers make
    pub integer_value : (t : PureTerm) → is_integer_side t ≡ true → IsOver vars t → value v t ≡ value numbers t
    integer_value t side over = depend_on_variables.values t v numbers (λ y has. same_number y.number (over y has ∙ ap Some (int_variables t side y has)))
