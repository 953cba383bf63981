-- What true atoms say of values.
use Rattle.std.proofs.Common.{◌≡◌, ⊎_elim, ℕ, zero, suc, List, [], ◌∷◌, ◌++◌, Bool, true, false, cond, Option, Some, None, slice_get, refl, sym, ap, ◌∙◌, subst, append_assoc, append-nil}
use Rattle.std.specs.Option.{option_and_then}
use Rattle.std.specs.Result.{result_ok}
use Rattle.std.specs.List.{Contains}
use Rattle.std.proofs.lemmas.Bool.{false≢true, and_from}
use Rattle.std.proofs.lemmas.List.Elements.{Contains-append_left, Contains-append_right, Contains-append_cases}
use Rattle.std.proofs.lemmas.List.Folds.{list_all-append}
use Rattle.gil_values.specs.declared.kinds.Kind.{Kind}
use Rattle.gil_values.specs.declared.operators.UnOp.{UnOp}
use Rattle.gil_values.specs.declared.operators.BinOp.{BinOp}
use Rattle.gil_values.specs.Equality.{same_value, same_kind}
use Rattle.gil_values.specs.EqualityLaws.{same_value-same, same_value-refl}
use Rattle.gil_values.specs.Operators.{unary, binary}
use Rattle.gil_values.specs.Pure.{PureValue, integer, boolean, text, symbol, kind, procedure, list, kind_of}
use Rattle.gil_values.proofs.OperatorSymbols.{none_contained}
use Rattle.pure_terms.specs.declared.literals.Literal.{Literal}
use Rattle.pure_terms.specs.declared.variables.Sort.{Sort}
use Rattle.pure_terms.specs.Kinds.{same_sort}
use Rattle.pure_terms.specs.Meaning.{value, truth, is_that_boolean, all_true, IsOver, AreOver}
use Rattle.pure_terms.specs.Pure.{PureTerm, literal, variable, list_of, unary_of, binary_of, PureAtom, positive, negative, opening, term_of, variables, variables_of_atoms}
use Rattle.pure_terms.proofs.FragmentLaws.{passes_at}
use Rattle.pure_terms.proofs.KindLaws.{over_left, over_right}
use Rattle.solver_proof.specs.Chains.{equals, truth_term, kind_is, Sides, sides_of_equality, sides_of_variable, either_sides, unless_kind_fact, equality_of, disequality_of, KindFact, kind_fact_of_term, kind_fact_of}

-- ---- lists

pub true_at : (v : List PureValue) (atoms : List PureAtom) (i : ℕ) (a : PureAtom) → all_true v atoms ≡ true → slice_get atoms i ≡ Some a → truth v a ≡ true
true_at v atoms i a all is = passes_at (truth v) atoms i a all is

pub true_more : (v : List PureValue) (atoms more : List PureAtom) → all_true v atoms ≡ true → all_true v more ≡ true → all_true v (atoms ++ more) ≡ true
true_more v atoms more h k = list_all-append (truth v) atoms more ∙ and_from _ _ h k

pub true_one_more : (v : List PureValue) (atoms : List PureAtom) (a : PureAtom) → all_true v atoms ≡ true → truth v a ≡ true → all_true v (atoms ++ a ∷ []) ≡ true
true_one_more v atoms a h k = true_more v atoms (a ∷ []) h (and_from (truth v a) true k refl)

variables-append : (atoms more : List PureAtom) → variables_of_atoms (atoms ++ more) ≡ variables_of_atoms atoms ++ variables_of_atoms more
variables-append [] more = refl
variables-append (a ∷ atoms) more = ap (λ xs. variables (term_of a) ++ xs) (variables-append atoms more) ∙ sym (append_assoc (variables (term_of a)) (variables_of_atoms atoms) (variables_of_atoms more))

pub over_more : (vars : List Sort) (atoms more : List PureAtom) → AreOver vars atoms → AreOver vars more → AreOver vars (atoms ++ more)
over_more vars atoms more h k x has =
    ⊎_elim (h x) (k x) (Contains-append_cases (variables_of_atoms atoms) (variables_of_atoms more) x (subst (λ xs. Contains xs x) (variables-append atoms more) has))

pub over_one : (vars : List Sort) (a : PureAtom) → IsOver vars (term_of a) → AreOver vars (a ∷ [])
over_one vars a h x has = h x (subst (λ xs. Contains xs x) (append-nil (variables (term_of a))) has)

pub over_at : (vars : List Sort) (atoms : List PureAtom) (i : ℕ) (a : PureAtom) → AreOver vars atoms → slice_get atoms i ≡ Some a → IsOver vars (term_of a)
over_at vars [] i a over is = cc
over_at vars (b ∷ atoms) zero a over is =
    let same : b ≡ a = cc in
    subst (λ c. IsOver vars (term_of c)) same (λ x has. over x (Contains-append_left (variables (term_of b)) (variables_of_atoms atoms) x has))
over_at vars (b ∷ atoms) (suc i) a over is = over_at vars atoms i a (λ x has. over x (Contains-append_right (variables (term_of b)) (variables_of_atoms atoms) x has)) is

pub over_sides : (vars : List Sort) (op : BinOp) (s t : PureTerm) → IsOver vars (binary_of op s t) → IsOver vars s × IsOver vars t
over_sides vars op s t over = (over_left vars (variables s) (variables t) over, over_right vars (variables s) (variables t) over)

pub over_both : (vars : List Sort) (op : BinOp) (s t : PureTerm) → IsOver vars s → IsOver vars t → IsOver vars (binary_of op s t)
over_both vars op s t h k x has = ⊎_elim (h x) (k x) (Contains-append_cases (variables s) (variables t) x has)

pub over_literal : (vars : List Sort) (l : Literal) → IsOver vars (literal l)
over_literal vars l x has = absurd (none_contained x has)

-- ---- equalities

pub record SameValues (v : List PureValue) (s t : PureTerm) : Type 0 where
  pub value_of_both : PureValue
  pub left : value v s ≡ Some value_of_both
  pub right : value v t ≡ Some value_of_both

pub record OtherValues (v : List PureValue) (s t : PureTerm) : Type 0 where
  pub first : PureValue
  pub second : PureValue
  pub left : value v s ≡ Some first
  pub right : value v t ≡ Some second
  pub differ : same_value first second ≡ false

abbrev EqualOptions : Option PureValue → Option PureValue → Option PureValue
EqualOptions a b = option_and_then (λ u. option_and_then (λ w. result_ok (binary BinOp.Equal u w)) b) a

abbrev AreSame : Option PureValue → Option PureValue → Type 0
AreSame a b = (w : PureValue) × ((a ≡ Some w) × (b ≡ Some w))

abbrev AreOther : Option PureValue → Option PureValue → Type 0
AreOther a b = (u : PureValue) × ((w : PureValue) × ((a ≡ Some u) × (b ≡ Some w) × (same_value u w ≡ false)))

pub false_is : (b : Bool) → is_that_boolean false (Some (boolean b)) ≡ true → b ≡ false
false_is true h = sym h
false_is false h = refl

same_options : (a b : Option PureValue) → is_that_boolean true (EqualOptions a b) ≡ true → AreSame a b
same_options (Some u) (Some w) h = (w, (ap Some (same_value-same u w h), refl))
same_options (Some u) None h = absurd (false≢true h)
same_options None b h = absurd (false≢true h)

other_options : (a b : Option PureValue) → is_that_boolean false (EqualOptions a b) ≡ true → AreOther a b
other_options (Some u) (Some w) h = (u, (w, (refl, refl, false_is (same_value u w) h)))
other_options (Some u) None h = absurd (false≢true h)
other_options None b h = absurd (false≢true h)

pub true_equality : (v : List PureValue) (s t : PureTerm) → truth v (positive (equals s t)) ≡ true → SameValues v s t
true_equality v s t h =
    let same = same_options (value v s) (value v t) h in
    record { value_of_both = same.0; left = same.1.0; right = same.1.1 }

pub false_equality : (v : List PureValue) (s t : PureTerm) → truth v (negative (equals s t)) ≡ true → OtherValues v s t
false_equality v s t h =
    let other = other_options (value v s) (value v t) h in
    record { first = other.0; second = other.1.0; left = other.1.1.0; right = other.1.1.1; differ = other.1.1.2 }

pub equality_true : (v : List PureValue) (s t : PureTerm) (w : PureValue) → value v s ≡ Some w → value v t ≡ Some w → truth v (positive (equals s t)) ≡ true
equality_true v s t w left right = (λ i. is_that_boolean true (EqualOptions (left i) (right i))) ∙ same_value-refl w

pub equality_false : (v : List PureValue) (s t : PureTerm) (u w : PureValue) → value v s ≡ Some u → value v t ≡ Some w → same_value u w ≡ false → truth v (negative (equals s t)) ≡ true
equality_false v s t u w left right differ =
    (λ i. is_that_boolean false (EqualOptions (left i) (right i))) ∙ ap (λ b. is_that_boolean false (Some (boolean b))) differ

true_boolean : (o : Option PureValue) → is_that_boolean true o ≡ true → o ≡ Some (boolean true)
true_boolean (Some (boolean b)) h = ap (λ c. Some (boolean c)) h
true_boolean (Some (integer n)) h = absurd (false≢true h)
true_boolean (Some (text cs)) h = absurd (false≢true h)
true_boolean (Some (symbol n)) h = absurd (false≢true h)
true_boolean (Some (kind k)) h = absurd (false≢true h)
true_boolean (Some (procedure name)) h = absurd (false≢true h)
true_boolean (Some (list vs)) h = absurd (false≢true h)
true_boolean None h = absurd (false≢true h)

false_boolean : (o : Option PureValue) → is_that_boolean false o ≡ true → o ≡ Some (boolean false)
false_boolean (Some (boolean b)) h = ap (λ c. Some (boolean c)) (false_is b h)
false_boolean (Some (integer n)) h = absurd (false≢true h)
false_boolean (Some (text cs)) h = absurd (false≢true h)
false_boolean (Some (symbol n)) h = absurd (false≢true h)
false_boolean (Some (kind k)) h = absurd (false≢true h)
false_boolean (Some (procedure name)) h = absurd (false≢true h)
false_boolean (Some (list vs)) h = absurd (false≢true h)
false_boolean None h = absurd (false≢true h)

-- what two terms have that an atom says to be equal: one value, and variables of the table
pub record Linked (vars : List Sort) (v : List PureValue) (s t : PureTerm) : Type 0 where
  pub same : SameValues v s t
  pub over_first : IsOver vars s
  pub over_second : IsOver vars t

linked_sides : (vars : List Sort) (v : List PureValue) (t : PureTerm) (sides : Sides) → sides_of_equality t ≡ Some sides → truth v (positive t) ≡ true → IsOver vars t → Linked vars v sides.left sides.right
linked_sides vars v (binary_of BinOp.Equal s t) sides is h over =
    let parts = over_sides vars BinOp.Equal s t over in
    let linked : Linked vars v s t = record { same = true_equality v s t h; over_first = parts.0; over_second = parts.1 } in
    let found : record { left = s; right = t } ≡ sides = cc in
    subst (λ (p : Sides). Linked vars v p.left p.right) found linked
linked_sides vars v t sides is h over = cc

pub chosen : (b : Bool) (x y : Sides) → cond b (Some x) None ≡ Some y → x ≡ y
chosen true x y e = cc
chosen false x y e = cc

linked_variable : (vars : List Sort) (v : List PureValue) (b : Bool) (t : PureTerm) (sides : Sides) → sides_of_variable b t ≡ Some sides → value v t ≡ Some (boolean b) → IsOver vars t → Linked vars v sides.left sides.right
linked_variable vars v b (variable x) sides is h over =
    let found : record { left = variable x; right = truth_term b } ≡ sides = chosen (same_sort x.sort Sort.Bool) _ sides is in
    let linked : Linked vars v (variable x) (truth_term b) = record { same = record { value_of_both = boolean b; left = h; right = refl }; over_first = over; over_second = over_literal vars (Literal.Bool b) } in
    subst (λ (p : Sides). Linked vars v p.left p.right) found linked
linked_variable vars v b (literal l) sides is h over = cc
linked_variable vars v b (list_of ts) sides is h over = cc
linked_variable vars v b (unary_of op t) sides is h over = cc
linked_variable vars v b (binary_of op s t) sides is h over = cc

linked_either : (vars : List Sort) (v : List PureValue) (o p : Option Sides) (sides : Sides) → either_sides o p ≡ Some sides
    → ((found : Sides) → o ≡ Some found → Linked vars v found.left found.right) → ((found : Sides) → p ≡ Some found → Linked vars v found.left found.right) → Linked vars v sides.left sides.right
linked_either vars v (Some found) p sides is h k = let same : found ≡ sides = cc in subst (λ (q : Sides). Linked vars v q.left q.right) same (h found refl)
linked_either vars v None p sides is h k = k sides is

no_kind_fact : (o : Option KindFact) (p : Option Sides) (sides : Sides) → unless_kind_fact o p ≡ Some sides → p ≡ Some sides
no_kind_fact (Some fact) p sides is = cc
no_kind_fact None p sides is = is

pub equality-linked : (vars : List Sort) (v : List PureValue) (a : PureAtom) (sides : Sides) → equality_of a ≡ Some sides → truth v a ≡ true → IsOver vars (term_of a) → Linked vars v sides.left sides.right
equality-linked vars v (positive t) sides is h over =
    linked_either vars v (unless_kind_fact (kind_fact_of_term true t) (sides_of_equality t)) (sides_of_variable true t) sides is (λ found e. linked_sides vars v t found (no_kind_fact (kind_fact_of_term true t) (sides_of_equality t) found e) h over)
    (λ found e. linked_variable vars v true t found e (true_boolean (value v t) h) over)
equality-linked vars v (negative t) sides is h over = linked_variable vars v false t sides is (false_boolean (value v t) h) over
equality-linked vars v (opening t) sides is h over = cc

pub disequality-other : (v : List PureValue) (a : PureAtom) (sides : Sides) → disequality_of a ≡ Some sides → truth v a ≡ true → OtherValues v sides.left sides.right
disequality-other v (negative (binary_of BinOp.Equal s t)) sides is h =
    let found : record { left = s; right = t } ≡ sides = cc in
    subst (λ (p : Sides). OtherValues v p.left p.right) found (false_equality v s t h)
disequality-other v a sides is h = cc

-- ---- kinds

-- the subject has a value, and its kind is this one or another
pub record HasKindFact (vars : List Sort) (v : List PureValue) (fact : KindFact) : Type 0 where
  pub subject_value : PureValue
  pub has : value v fact.subject ≡ Some subject_value
  pub so : same_kind (kind_of subject_value) fact.kind ≡ fact.is_so
  pub over_subject : IsOver vars fact.subject

KindOption : Option PureValue → Kind → Option PureValue
KindOption o k = EqualOptions (option_and_then (λ a. result_ok (unary UnOp.Kind a)) o) (Some (kind k))

kind_true : (o : Option PureValue) (k : Kind) → is_that_boolean true (KindOption o k) ≡ true → (w : PureValue) × ((o ≡ Some w) × (same_kind (kind_of w) k ≡ true))
unfolding KindOption
kind_true (Some w) k h = (w, (refl, h))
kind_true None k h = absurd (false≢true h)

kind_false : (o : Option PureValue) (k : Kind) → is_that_boolean false (KindOption o k) ≡ true → (w : PureValue) × ((o ≡ Some w) × (same_kind (kind_of w) k ≡ false))
unfolding KindOption
kind_false (Some w) k h = (w, (refl, false_is (same_kind (kind_of w) k) h))
kind_false None k h = absurd (false≢true h)

pub kind_is-true : (v : List PureValue) (t : PureTerm) (w : PureValue) → value v t ≡ Some w → truth v (positive (kind_is t (kind_of w))) ≡ true
kind_is-true v t w has =
    (λ i. is_that_boolean true (EqualOptions (option_and_then (λ a. result_ok (unary UnOp.Kind a)) (has i)) (Some (kind (kind_of w))))) ∙ same_value-refl (kind (kind_of w))

fact_of_term : (vars : List Sort) (v : List PureValue) (b : Bool) (t : PureTerm) (fact : KindFact) → kind_fact_of_term b t ≡ Some fact → is_that_boolean b (value v t) ≡ true → IsOver vars t → HasKindFact vars v fact
unfolding KindOption
fact_of_term vars v true (binary_of BinOp.Equal (unary_of UnOp.Kind t) (literal (Literal.Kind k))) fact is h over =
    let (w, (has, so)) = kind_true (value v t) k h in
    let here : HasKindFact vars v (record { subject = t; kind = k; is_so = true }) = record { subject_value = w; has = has; so = so; over_subject = (over_sides vars BinOp.Equal (unary_of UnOp.Kind t) (literal (Literal.Kind k)) over).0 } in
    let found : record { subject = t; kind = k; is_so = true } ≡ fact = cc in
    subst (HasKindFact vars v) found here
fact_of_term vars v false (binary_of BinOp.Equal (unary_of UnOp.Kind t) (literal (Literal.Kind k))) fact is h over =
    let (w, (has, so)) = kind_false (value v t) k h in
    let here : HasKindFact vars v (record { subject = t; kind = k; is_so = false }) = record { subject_value = w; has = has; so = so; over_subject = (over_sides vars BinOp.Equal (unary_of UnOp.Kind t) (literal (Literal.Kind k)) over).0 } in
    let found : record { subject = t; kind = k; is_so = false } ≡ fact = cc in
    subst (HasKindFact vars v) found here
fact_of_term vars v b t fact is h over = cc

pub fact-has : (vars : List Sort) (v : List PureValue) (a : PureAtom) (fact : KindFact) → kind_fact_of a ≡ Some fact → truth v a ≡ true → IsOver vars (term_of a) → HasKindFact vars v fact
fact-has vars v (positive t) fact is h over = fact_of_term vars v true t fact is h over
fact-has vars v (negative t) fact is h over = fact_of_term vars v false t fact is h over
fact-has vars v (opening t) fact is h over = cc
