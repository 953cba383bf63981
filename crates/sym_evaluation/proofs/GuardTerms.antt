-- What may stand for a guard's term has its values, and is the term itself where the guard is plain.
use Rattle.std.proofs.Common.{◌≡◌, ◌⊎◌, ⊎_elim, inl, inr, ℕ, Bool, true, false, not, ◌&&◌, ◌||◌, MatchBool, Some, refl, sym, ap, subst, ◌∙◌, true≢false, arith}
use Rattle.std.proofs.lemmas.Bool.{or_cases}
use Rattle.gil_values.specs.declared.kinds.Kind.{Kind}
use Rattle.gil_values.specs.declared.operators.UnOp.{UnOp}
use Rattle.gil_values.specs.declared.operators.BinOp.{BinOp}
use Rattle.gil_values.specs.Equality.{same_kind}
use Rattle.pure_terms.specs.declared.literals.Literal.{Literal}
use Rattle.pure_terms.specs.declared.variables.Sort.{Sort}
use Rattle.pure_terms.specs.declared.variables.Var.{Var}
use Rattle.pure_terms.specs.EqualityLaws.{same_sorts}
use Rattle.pure_terms.specs.Fragment.{is_plain, is_variable_of, has_fragment_form}
use Rattle.pure_terms.specs.Kinds.{same_sort, kind_of_sort, allows, known_kind}
use Rattle.pure_terms.specs.Pure.{PureTerm, literal, variable, list_of, unary_of, binary_of, positive}
use Rattle.pure_terms.specs.Rewriting.{Replaces, IsSameOrSmaller}
use Rattle.sym_evaluation.specs.Plainly.{is_plain_comparison, is_plain_guard, IsPlainGuard}
use Rattle.sym_evaluation.specs.Questions.{negates, connects, stands_as_it_is, MayStandForPart, MayStandForGuard}
use Rattle.sym_evaluation.proofs.PlainGuards.{no_comparison, boolean_sort, sides_are_decided}
use Rattle.sym_evaluation.proofs.PlainTerms.{plain_kind}
use Rattle.sym_evaluation.proofs.Replacing.{replaces_itself, replaces_operand, replaces_operands, positive_size}

-- ---- choices of two facts

by_test : (P Q : Type 0) (b : Bool) → MatchBool b P Q → ((b ≡ true) × P) ⊎ ((b ≡ false) × Q)
by_test P Q true holds = inl (refl, holds)
by_test P Q false holds = inr (refl, holds)

when_true : (P Q : Type 0) (b : Bool) → b ≡ true → P → MatchBool b P Q
when_true P Q b is holds = subst (λ c. MatchBool c P Q) (sym is) holds

when_false : (P Q : Type 0) (b : Bool) → b ≡ false → Q → MatchBool b P Q
when_false P Q b is holds = subst (λ c. MatchBool c P Q) (sym is) holds

-- ---- parts

-- a part that stays where it stands as it is, and is replaced otherwise
part_by : (P Q : Type 0) (b : Bool) → (b ≡ true → P) → Q → MatchBool b P Q
part_by P Q true same other = same refl
part_by P Q false same other = other

pub part_stands : (u t : PureTerm) → Replaces u t → (stands_as_it_is u ≡ true → t ≡ u) → MayStandForPart u t
part_stands u t replaces same = part_by (t ≡ u) (Replaces u t) (stands_as_it_is u) same replaces

part_replaces : (u t : PureTerm) → MayStandForPart u t → Replaces u t
part_replaces u t part =
    ⊎_elim (λ (stays : (stands_as_it_is u ≡ true) × (t ≡ u)). subst (Replaces u) (sym stays.1) (replaces_itself u)) (λ (other : (stands_as_it_is u ≡ false) × Replaces u t). other.1) (by_test (t ≡ u) (Replaces u t) (stands_as_it_is u) part)

part_stays : (u t : PureTerm) → stands_as_it_is u ≡ true → MayStandForPart u t → t ≡ u
part_stays u t stands part = subst (λ b. MatchBool b (t ≡ u) (Replaces u t)) stands part

-- ---- operators

abbrev StandsUnder : UnOp → PureTerm → PureTerm → Type 0
StandsUnder op u t = (w : PureTerm) × ((t ≡ unary_of op w) × MayStandForGuard u w)

abbrev StandsBetween : BinOp → PureTerm → PureTerm → PureTerm → Type 0
StandsBetween op p q t = (r : PureTerm) × ((s : PureTerm) × ((t ≡ binary_of op r s) × MayStandForGuard p r × MayStandForGuard q s))

pub negation_stands : (op : UnOp) (u w : PureTerm) → negates op ≡ true → MayStandForGuard u w → MayStandForGuard (unary_of op u) (unary_of op w)
negation_stands op u w is stands = when_true (StandsUnder op u (unary_of op w)) (MayStandForPart (unary_of op u) (unary_of op w)) (negates op) is (w, (refl, stands))

pub unary_stands : (op : UnOp) (u t : PureTerm) → negates op ≡ false → MayStandForPart (unary_of op u) t → MayStandForGuard (unary_of op u) t
unary_stands op u t isnt stands = when_false (StandsUnder op u t) (MayStandForPart (unary_of op u) t) (negates op) isnt stands

pub connective_stands : (op : BinOp) (p q r s : PureTerm) → connects op ≡ true → MayStandForGuard p r → MayStandForGuard q s → MayStandForGuard (binary_of op p q) (binary_of op r s)
connective_stands op p q r s is first second =
    when_true (StandsBetween op p q (binary_of op r s)) (MayStandForPart (binary_of op p q) (binary_of op r s)) (connects op) is (r, (s, (refl, first, second)))

pub binary_stands : (op : BinOp) (p q t : PureTerm) → connects op ≡ false → MayStandForPart (binary_of op p q) t → MayStandForGuard (binary_of op p q) t
binary_stands op p q t isnt stands = when_false (StandsBetween op p q t) (MayStandForPart (binary_of op p q) t) (connects op) isnt stands

-- ---- what stands for a guard has its values

pub guard_replaces : (u t : PureTerm) → MayStandForGuard u t → Replaces u t
guard_replaces (literal l) t stands = part_replaces (literal l) t stands
guard_replaces (variable x) t stands = part_replaces (variable x) t stands
guard_replaces (list_of us) t stands = part_replaces (list_of us) t stands
guard_replaces (unary_of op u) t stands =
    ⊎_elim
    (λ (under : (negates op ≡ true) × StandsUnder op u t). let (w, (same, inner)) = under.1 in subst (Replaces (unary_of op u)) (sym same) (replaces_operand op u w (guard_replaces u w inner)))
    (λ (part : (negates op ≡ false) × MayStandForPart (unary_of op u) t). part_replaces (unary_of op u) t part.1)
    (by_test (StandsUnder op u t) (MayStandForPart (unary_of op u) t) (negates op) stands)
guard_replaces (binary_of op p q) t stands =
    ⊎_elim
    (λ (between : (connects op ≡ true) × StandsBetween op p q t). let (r, (s, (same, first, second))) = between.1 in subst (Replaces (binary_of op p q)) (sym same) (replaces_operands op p q r s (guard_replaces p r first) (guard_replaces q s second)))
    (λ (part : (connects op ≡ false) × MayStandForPart (binary_of op p q) t). part_replaces (binary_of op p q) t part.1)
    (by_test (StandsBetween op p q t) (MayStandForPart (binary_of op p q) t) (connects op) stands)

-- ---- plain guards

or_true : (x : Bool) → (x || true) ≡ true
or_true true = refl
or_true false = refl

no_kind : (t : PureTerm) (k : Kind) → known_kind t ≡ Some k → same_kind k Kind.Bool ≡ false → stands_as_it_is t ≡ true
no_kind t k known other = ap (λ c. has_fragment_form (positive t) || not c) (ap (λ o. allows o Kind.Bool) known ∙ other) ∙ or_true (has_fragment_form (positive t))

variable_by : (b : ℕ) (x : Var) (k : Kind) (c : Bool) → known_kind (variable x) ≡ Some k → same_kind k Kind.Bool ≡ c → stands_as_it_is (variable x) ≡ true
variable_by b x k false known other = no_kind (variable x) k known other
variable_by b x k true known boolean =
    ap (λ s. ((same_sort s Sort.Bool || (false || (false || false))) && (not (same_sort s Sort.List) && (false || not (same_sort s Sort.Any)))) || not (allows (kind_of_sort s) Kind.Bool)) (boolean_sort b x.sort k known boolean)

-- a variable that is a plain guard stands as it is
variable_stands : (b : ℕ) (x : Var) → IsPlainGuard b (variable x) → stands_as_it_is (variable x) ≡ true
variable_stands b x plain =
    ⊎_elim (λ simple. let (k, known) = plain_kind (variable x) simple in variable_by b x k (same_kind k Kind.Bool) known refl) (λ isnt. absurd (true≢false (sym isnt))) (or_cases (is_plain (variable x)) false plain.0)

pair_stands : (b : ℕ) (op : BinOp) (s t : PureTerm) → IsPlainGuard b (binary_of op s t) → stands_as_it_is (binary_of op s t) ≡ true
pair_stands b BinOp.Add s t plain = or_true (has_fragment_form (positive (binary_of BinOp.Add s t)))
pair_stands b BinOp.Subtract s t plain = or_true (has_fragment_form (positive (binary_of BinOp.Subtract s t)))
pair_stands b BinOp.Equal s t plain = ap (λ c. c || false) (((sides_are_decided (binary_of BinOp.Equal s t)).conditions b plain).0.0.0)
pair_stands b BinOp.Less s t plain = ap (λ c. c || false) (((sides_are_decided (binary_of BinOp.Less s t)).conditions b plain).0.0.0)
pair_stands b BinOp.LessOrEqual s t plain = ap (λ c. c || false) (((sides_are_decided (binary_of BinOp.LessOrEqual s t)).conditions b plain).0.0.0)
pair_stands b BinOp.Multiply s t plain = no_comparison (is_plain s && is_plain t) false plain.0 refl
pair_stands b BinOp.Divide s t plain = no_comparison (is_plain s && is_plain t) false plain.0 refl
pair_stands b BinOp.Remainder s t plain = no_comparison (is_plain s && is_plain t) false plain.0 refl
pair_stands b BinOp.And s t plain = no_comparison (is_plain s && is_plain t) false plain.0 refl
pair_stands b BinOp.Or s t plain = no_comparison (is_plain s && is_plain t) false plain.0 refl
pair_stands b BinOp.Append s t plain = no_comparison (is_plain s && is_plain t) false plain.0 refl
pair_stands b BinOp.Nth s t plain = no_comparison (is_plain s && is_plain t) false plain.0 refl

-- what stands under `not` in a plain guard is one
operand_by : (t : PureTerm) → (is_variable_of Sort.Bool t ≡ true) ⊎ (is_plain_comparison t ≡ true) → is_plain_guard t ≡ true
operand_by (variable x) (inl is) = ap (λ s. (true && (not (same_sort s Sort.Any) && not (same_sort s Sort.List))) || false) (same_sorts x.sort Sort.Bool is)
operand_by (literal l) (inl is) = absurd (true≢false (sym is))
operand_by (list_of ts) (inl is) = absurd (true≢false (sym is))
operand_by (unary_of op t) (inl is) = absurd (true≢false (sym is))
operand_by (binary_of op s t) (inl is) = absurd (true≢false (sym is))
operand_by (binary_of op s t) (inr is) = ap (λ c. is_plain (binary_of op s t) || c) is ∙ or_true (is_plain (binary_of op s t))
operand_by (variable x) (inr is) = absurd (true≢false (sym is))
operand_by (literal l) (inr is) = absurd (true≢false (sym is))
operand_by (list_of ts) (inr is) = absurd (true≢false (sym is))
operand_by (unary_of op t) (inr is) = absurd (true≢false (sym is))

operand_plain : (b : ℕ) (op : UnOp) (t : PureTerm) → IsPlainGuard b (unary_of op t) → IsPlainGuard b t
operand_plain b UnOp.Not t plain = (operand_by t (or_cases (is_variable_of Sort.Bool t) (is_plain_comparison t) plain.0), plain.1)
operand_plain b UnOp.Neg t plain = absurd (true≢false (sym plain.0))
operand_plain b UnOp.Len t plain = absurd (true≢false (sym plain.0))
operand_plain b UnOp.Kind t plain = absurd (true≢false (sym plain.0))

-- a plain guard has no operator of one operand but `not`
not_alone : {X : Type 0} (b : ℕ) (op : UnOp) (t : PureTerm) → negates op ≡ false → IsPlainGuard b (unary_of op t) → X
not_alone b UnOp.Not t isnt plain = absurd (true≢false isnt)
not_alone b UnOp.Neg t isnt plain = absurd (true≢false (sym plain.0))
not_alone b UnOp.Len t isnt plain = absurd (true≢false (sym plain.0))
not_alone b UnOp.Kind t isnt plain = absurd (true≢false (sym plain.0))

-- and no conjunction or disjunction
no_connective : {X : Type 0} (b : ℕ) (op : BinOp) (s t : PureTerm) → connects op ≡ true → IsPlainGuard b (binary_of op s t) → X
no_connective b BinOp.And s t is plain = no_comparison (is_plain s && is_plain t) false plain.0 refl
no_connective b BinOp.Or s t is plain = no_comparison (is_plain s && is_plain t) false plain.0 refl
no_connective b BinOp.Add s t is plain = absurd (true≢false (sym is))
no_connective b BinOp.Subtract s t is plain = absurd (true≢false (sym is))
no_connective b BinOp.Multiply s t is plain = absurd (true≢false (sym is))
no_connective b BinOp.Divide s t is plain = absurd (true≢false (sym is))
no_connective b BinOp.Remainder s t is plain = absurd (true≢false (sym is))
no_connective b BinOp.Equal s t is plain = absurd (true≢false (sym is))
no_connective b BinOp.Less s t is plain = absurd (true≢false (sym is))
no_connective b BinOp.LessOrEqual s t is plain = absurd (true≢false (sym is))
no_connective b BinOp.Append s t is plain = absurd (true≢false (sym is))
no_connective b BinOp.Nth s t is plain = absurd (true≢false (sym is))

-- nothing is smaller than a literal
literal_place : (l : Literal) (t : PureTerm) → IsSameOrSmaller (literal l) t → t ≡ literal l
literal_place l t (inl same) = same
literal_place l t (inr less) = absurd (omega (arith, less, positive_size t))

-- only the term of a plain guard stands for it
pub plain_guard_stays : (b : ℕ) (u t : PureTerm) → IsPlainGuard b u → MayStandForGuard u t → t ≡ u
plain_guard_stays b (literal l) t plain stands = literal_place l t (part_replaces (literal l) t stands).no_larger
plain_guard_stays b (variable x) t plain stands = part_stays (variable x) t (variable_stands b x plain) stands
plain_guard_stays b (list_of us) t plain stands = part_stays (list_of us) t (or_true (has_fragment_form (positive (list_of us)))) stands
plain_guard_stays b (unary_of op u) t plain stands =
    ⊎_elim
    (λ (under : (negates op ≡ true) × StandsUnder op u t). let (w, (same, inner)) = under.1 in same ∙ ap (unary_of op) (plain_guard_stays b u w (operand_plain b op u plain) inner))
    (λ (part : (negates op ≡ false) × MayStandForPart (unary_of op u) t). not_alone b op u part.0 plain)
    (by_test (StandsUnder op u t) (MayStandForPart (unary_of op u) t) (negates op) stands)
plain_guard_stays b (binary_of op p q) t plain stands =
    ⊎_elim
    (λ (between : (connects op ≡ true) × StandsBetween op p q t). no_connective b op p q between.0 plain)
    (λ (part : (connects op ≡ false) × MayStandForPart (binary_of op p q) t). part_stays (binary_of op p q) t (pair_stands b op p q plain) part.1)
    (by_test (StandsBetween op p q t) (MayStandForPart (binary_of op p q) t) (connects op) stands)
