-- What operators require is what the operator table asks of values.
use Rattle.std.proofs.Common.{◌≡◌, ℕ, zero, suc, ◌<◌, ◌≤◌, ℤ, pos, negsuc, int_lt, int_le, ◌+ℤ◌, ◌-ℤ◌, ◌*ℤ◌, int_div, int_rem, List, [], ◌∷◌, length, slice_get, ltb, Bool, true, false, not, ◌&&◌, ◌||◌, if◌then◌else◌, Option, Some, None, Ok, Err, refl, ap, subst, ◌∙◌, arith}
use Rattle.std.specs.Ordering.{int_eq}
use Rattle.std.proofs.lemmas.Bool.{le-ltb, lt-ltb, ltb-true, ltb-false}
use Rattle.gil_values.specs.declared.kinds.Kind.{Kind}
use Rattle.gil_values.specs.declared.operators.UnOp.{UnOp}
use Rattle.gil_values.specs.declared.operators.BinOp.{BinOp}
use Rattle.gil_values.specs.Equality.{same_kind}
use Rattle.gil_values.specs.Operators.{Fault, wrong_kind, zero_divisor, out_of_range, Outcome, unary, binary, on_integers, on_booleans, unless_zero, element_at, element_or_fault}
use Rattle.gil_values.specs.Pure.{PureValue, integer, boolean, text, symbol, kind, procedure, list, PureValues, kind_of, to_list}
use Rattle.pure_terms.specs.declared.variables.Sort.{Sort}
use Rattle.pure_terms.specs.Meaning.{value, IsProper, IsOver}
use Rattle.pure_terms.specs.Pure.{PureTerm}
use Rattle.sym_evaluation.specs.Checks.{kind_check, append_check, divisor_check, start_check, end_check, length_check, PureStage, required, kinds_required, unary_required, binary_required, has_length}
use Rattle.sym_evaluation.proofs.Stages.{SaysAt, next, shut_stays, open_goes_on, goes_on}
use Rattle.sym_evaluation.proofs.CheckLaws.{are_appendable, kind_says, length_says, append_says, divisor_says, start_says, end_says, list_length}

abbrev pub fault_of : Outcome → Option Fault
fault_of (Ok w) = None
fault_of (Err f) = Some f

-- ---- operators of one value

abbrev is_kind : PureValue → Kind → Bool
is_kind a k = same_kind (kind_of a) k

negation_fault : (a : PureValue) → next None (is_kind a Kind.Bool) wrong_kind ≡ fault_of (unary UnOp.Not a)
negation_fault (integer n) = refl
negation_fault (boolean b) = refl
negation_fault (text cs) = refl
negation_fault (symbol n) = refl
negation_fault (kind k) = refl
negation_fault (procedure p) = refl
negation_fault (list ws) = refl

opposite_fault : (a : PureValue) → next None (is_kind a Kind.Int) wrong_kind ≡ fault_of (unary UnOp.Neg a)
opposite_fault (integer n) = refl
opposite_fault (boolean b) = refl
opposite_fault (text cs) = refl
opposite_fault (symbol n) = refl
opposite_fault (kind k) = refl
opposite_fault (procedure p) = refl
opposite_fault (list ws) = refl

size_fault : (a : PureValue) → next None (has_length (kind_of a)) wrong_kind ≡ fault_of (unary UnOp.Len a)
size_fault (integer n) = refl
size_fault (boolean b) = refl
size_fault (text cs) = refl
size_fault (symbol n) = refl
size_fault (kind k) = refl
size_fault (procedure p) = refl
size_fault (list ws) = refl

-- ---- operators of two values

abbrev after_kinds : PureValue → PureValue → Kind → Kind → Option Fault
after_kinds a b j k = next (next None (is_kind a j) wrong_kind) (is_kind b k) wrong_kind

second_kind : (f : ℤ → ℤ → PureValue) (m : ℤ) (b : PureValue) → next None (is_kind b Kind.Int) wrong_kind ≡ fault_of (on_integers (λ m n. Ok (f m n)) (integer m) b)
second_kind f m (integer n) = refl
second_kind f m (boolean x) = refl
second_kind f m (text cs) = refl
second_kind f m (symbol n) = refl
second_kind f m (kind k) = refl
second_kind f m (procedure p) = refl
second_kind f m (list ws) = refl

numbers_fault : (f : ℤ → ℤ → PureValue) (a b : PureValue) → after_kinds a b Kind.Int Kind.Int ≡ fault_of (on_integers (λ m n. Ok (f m n)) a b)
numbers_fault f (integer m) b = second_kind f m b
numbers_fault f (boolean x) b = refl
numbers_fault f (text cs) b = refl
numbers_fault f (symbol n) b = refl
numbers_fault f (kind k) b = refl
numbers_fault f (procedure p) b = refl
numbers_fault f (list ws) b = refl

second_boolean : (f : Bool → Bool → PureValue) (x : Bool) (b : PureValue) → next None (is_kind b Kind.Bool) wrong_kind ≡ fault_of (on_booleans (λ x y. Ok (f x y)) (boolean x) b)
second_boolean f x (integer n) = refl
second_boolean f x (boolean y) = refl
second_boolean f x (text cs) = refl
second_boolean f x (symbol n) = refl
second_boolean f x (kind k) = refl
second_boolean f x (procedure p) = refl
second_boolean f x (list ws) = refl

booleans_fault : (f : Bool → Bool → PureValue) (a b : PureValue) → after_kinds a b Kind.Bool Kind.Bool ≡ fault_of (on_booleans (λ x y. Ok (f x y)) a b)
booleans_fault f (integer n) b = refl
booleans_fault f (boolean x) b = second_boolean f x b
booleans_fault f (text cs) b = refl
booleans_fault f (symbol n) b = refl
booleans_fault f (kind k) b = refl
booleans_fault f (procedure p) b = refl
booleans_fault f (list ws) b = refl

append_text : (cs : List ℕ) (b : PureValue) → next None (are_appendable Kind.Str (kind_of b)) wrong_kind ≡ fault_of (binary BinOp.Append (text cs) b)
append_text cs (integer n) = refl
append_text cs (boolean y) = refl
append_text cs (text ds) = refl
append_text cs (symbol n) = refl
append_text cs (kind k) = refl
append_text cs (procedure p) = refl
append_text cs (list ws) = refl

append_list : (vs : PureValues) (b : PureValue) → next None (are_appendable Kind.List (kind_of b)) wrong_kind ≡ fault_of (binary BinOp.Append (list vs) b)
append_list vs (integer n) = refl
append_list vs (boolean y) = refl
append_list vs (text ds) = refl
append_list vs (symbol n) = refl
append_list vs (kind k) = refl
append_list vs (procedure p) = refl
append_list vs (list ws) = refl

append_fault : (a b : PureValue) → next None (are_appendable (kind_of a) (kind_of b)) wrong_kind ≡ fault_of (binary BinOp.Append a b)
append_fault (integer n) b = refl
append_fault (boolean x) b = refl
append_fault (text cs) b = append_text cs b
append_fault (symbol n) b = refl
append_fault (kind k) b = refl
append_fault (procedure p) b = refl
append_fault (list vs) b = append_list vs b

divided : (x : Bool) (w : PureValue) → next None (not x) zero_divisor ≡ fault_of (if x then Err zero_divisor else Ok w)
divided true w = refl
divided false w = refl

none_less : (k : ℕ) → ltb k 0 ≡ false
none_less k = le-ltb k 0 (omega arith)

first_less : (n : ℕ) → ltb 0 (suc n) ≡ true
first_less n = lt-ltb 0 (suc n) (omega arith)

later_by : (b : Bool) (k n : ℕ) → ltb k n ≡ b → ltb (suc k) (suc n) ≡ b
later_by true k n is = let less : k < n = ltb-true k n is in lt-ltb (suc k) (suc n) (omega (arith, less))
later_by false k n is = let more : n ≤ k = ltb-false k n is in le-ltb (suc k) (suc n) (omega (arith, more))

later_less : (k n : ℕ) → ltb (suc k) (suc n) ≡ ltb k n
later_less k n = later_by (ltb k n) k n refl

found : (ws : List PureValue) (k : ℕ) → next None (ltb k (length ws)) out_of_range ≡ fault_of (element_or_fault (slice_get ws k))
found [] k = ap (λ b. next None b out_of_range) (none_less k)
found (w ∷ ws) zero = ap (λ b. next None b out_of_range) (first_less (length ws))
found (w ∷ ws) (suc k) = ap (λ b. next None b out_of_range) (later_less k (length ws)) ∙ found ws k

element_fault : (ws : List PureValue) (i : ℤ) → next (next None (not (int_lt i (pos 0))) out_of_range) (int_lt i (pos (length ws))) out_of_range ≡ fault_of (element_at ws i)
element_fault ws (pos k) = ap (λ b. next (next None (not b) out_of_range) (ltb k (length ws)) out_of_range) (none_less k) ∙ found ws k
element_fault ws (negsuc k) = refl

-- ---- what is required

module _ (v : List PureValue) where
  pub unary_shut : (g : Fault) (op : UnOp) (t : PureTerm) (st : PureStage) → SaysAt v (Some g) st → SaysAt v (Some g) (unary_required op t st)
  unary_shut g UnOp.Not t st says = shut_stays v g wrong_kind (kind_check Kind.Bool t) st says
  unary_shut g UnOp.Neg t st says = shut_stays v g wrong_kind (kind_check Kind.Int t) st says
  unary_shut g UnOp.Len t st says = shut_stays v g wrong_kind (length_check t) st says
  unary_shut g UnOp.Kind t st says = says

  kinds_shut : (g : Fault) (j k : Kind) (s t : PureTerm) (st : PureStage) → SaysAt v (Some g) st → SaysAt v (Some g) (kinds_required j k s t st)
  kinds_shut g j k s t st says = shut_stays v g wrong_kind (kind_check k t) _ (shut_stays v g wrong_kind (kind_check j s) st says)

  pub binary_shut : (g : Fault) (op : BinOp) (s t : PureTerm) (st : PureStage) → SaysAt v (Some g) st → SaysAt v (Some g) (binary_required op s t st)
  binary_shut g BinOp.Add s t st says = kinds_shut g Kind.Int Kind.Int s t st says
  binary_shut g BinOp.Subtract s t st says = kinds_shut g Kind.Int Kind.Int s t st says
  binary_shut g BinOp.Multiply s t st says = kinds_shut g Kind.Int Kind.Int s t st says
  binary_shut g BinOp.Divide s t st says = shut_stays v g zero_divisor (divisor_check t) _ (kinds_shut g Kind.Int Kind.Int s t st says)
  binary_shut g BinOp.Remainder s t st says = shut_stays v g zero_divisor (divisor_check t) _ (kinds_shut g Kind.Int Kind.Int s t st says)
  binary_shut g BinOp.Equal s t st says = says
  binary_shut g BinOp.Less s t st says = kinds_shut g Kind.Int Kind.Int s t st says
  binary_shut g BinOp.LessOrEqual s t st says = kinds_shut g Kind.Int Kind.Int s t st says
  binary_shut g BinOp.And s t st says = kinds_shut g Kind.Bool Kind.Bool s t st says
  binary_shut g BinOp.Or s t st says = kinds_shut g Kind.Bool Kind.Bool s t st says
  binary_shut g BinOp.Append s t st says = shut_stays v g wrong_kind (append_check s t) st says
  binary_shut g BinOp.Nth s t st says =
      shut_stays v g out_of_range (end_check s t) _ (shut_stays v g out_of_range (start_check t) _ (kinds_shut g Kind.List Kind.Int s t st says))

  module _ (vars : List Sort) (proper : IsProper vars v) where
    pub unary_says : (op : UnOp) (t : PureTerm) (a : PureValue) (st : PureStage) → IsOver vars t → value v t ≡ Some a → SaysAt v None st → SaysAt v (fault_of (unary op a)) (unary_required op t st)
    unary_says UnOp.Not t a st over is says =
        subst (λ o. SaysAt v o (unary_required UnOp.Not t st)) (negation_fault a) (open_goes_on v (is_kind a Kind.Bool) wrong_kind (kind_check Kind.Bool t) st says (kind_says v vars proper t a over is Kind.Bool))
    unary_says UnOp.Neg t a st over is says =
        subst (λ o. SaysAt v o (unary_required UnOp.Neg t st)) (opposite_fault a) (open_goes_on v (is_kind a Kind.Int) wrong_kind (kind_check Kind.Int t) st says (kind_says v vars proper t a over is Kind.Int))
    unary_says UnOp.Len t a st over is says =
        subst (λ o. SaysAt v o (unary_required UnOp.Len t st)) (size_fault a) (open_goes_on v (has_length (kind_of a)) wrong_kind (length_check t) st says (length_says v vars proper t a over is))
    unary_says UnOp.Kind t a st over is says = says

    module _ (s t : PureTerm) (over_s : IsOver vars s) (over_t : IsOver vars t) where
      abbrev Values : PureValue → PureValue → Type 0
      Values a b = (value v s ≡ Some a) × (value v t ≡ Some b)

      kinds_say : (j k : Kind) (a b : PureValue) (st : PureStage) → Values a b → SaysAt v None st → SaysAt v (after_kinds a b j k) (kinds_required j k s t st)
      kinds_say j k a b st is says =
          goes_on v (next None (is_kind a j) wrong_kind) (is_kind b k) wrong_kind (kind_check k t) _
          (open_goes_on v (is_kind a j) wrong_kind (kind_check j s) st says (kind_says v vars proper s a over_s is.0 j))
          (kind_says v vars proper t b over_t is.1 k)

      numbers_say : (f : ℤ → ℤ → PureValue) (a b : PureValue) (st : PureStage) → Values a b → SaysAt v None st → SaysAt v (fault_of (on_integers (λ m n. Ok (f m n)) a b)) (kinds_required Kind.Int Kind.Int s t st)
      numbers_say f a b st is says = subst (λ o. SaysAt v o (kinds_required Kind.Int Kind.Int s t st)) (numbers_fault f a b) (kinds_say Kind.Int Kind.Int a b st is says)

      booleans_say : (f : Bool → Bool → PureValue) (a b : PureValue) (st : PureStage) → Values a b → SaysAt v None st → SaysAt v (fault_of (on_booleans (λ x y. Ok (f x y)) a b)) (kinds_required Kind.Bool Kind.Bool s t st)
      booleans_say f a b st is says = subst (λ o. SaysAt v o (kinds_required Kind.Bool Kind.Bool s t st)) (booleans_fault f a b) (kinds_say Kind.Bool Kind.Bool a b st is says)

      abbrev division : PureStage → PureStage
      division st = required zero_divisor (divisor_check t) (kinds_required Kind.Int Kind.Int s t st)

      division_shut : (st : PureStage) → SaysAt v (Some wrong_kind) (kinds_required Kind.Int Kind.Int s t st) → SaysAt v (Some wrong_kind) (division st)
      division_shut st says = shut_stays v wrong_kind zero_divisor (divisor_check t) _ says

      divisor_says_by : (f : ℤ → ℤ → ℤ) (m : ℤ) (b : PureValue) (st : PureStage) → Values (integer m) b → SaysAt v None st → SaysAt v (fault_of (on_integers (unless_zero f) (integer m) b)) (division st)
      divisor_says_by f m (integer n) st is says =
          subst (λ o. SaysAt v o (division st)) (divided (int_eq n (pos 0)) (integer (f m n)))
          (open_goes_on v (not (int_eq n (pos 0))) zero_divisor (divisor_check t) _ (kinds_say Kind.Int Kind.Int (integer m) (integer n) st is says) (divisor_says v t n is.1))
      divisor_says_by f m (boolean x) st is says = division_shut st (kinds_say Kind.Int Kind.Int (integer m) (boolean x) st is says)
      divisor_says_by f m (text cs) st is says = division_shut st (kinds_say Kind.Int Kind.Int (integer m) (text cs) st is says)
      divisor_says_by f m (symbol n) st is says = division_shut st (kinds_say Kind.Int Kind.Int (integer m) (symbol n) st is says)
      divisor_says_by f m (kind k) st is says = division_shut st (kinds_say Kind.Int Kind.Int (integer m) (kind k) st is says)
      divisor_says_by f m (procedure p) st is says = division_shut st (kinds_say Kind.Int Kind.Int (integer m) (procedure p) st is says)
      divisor_says_by f m (list ws) st is says = division_shut st (kinds_say Kind.Int Kind.Int (integer m) (list ws) st is says)

      division_says : (f : ℤ → ℤ → ℤ) (a b : PureValue) (st : PureStage) → Values a b → SaysAt v None st → SaysAt v (fault_of (on_integers (unless_zero f) a b)) (division st)
      division_says f (integer m) b st is says = divisor_says_by f m b st is says
      division_says f (boolean x) b st is says = division_shut st (kinds_say Kind.Int Kind.Int (boolean x) b st is says)
      division_says f (text cs) b st is says = division_shut st (kinds_say Kind.Int Kind.Int (text cs) b st is says)
      division_says f (symbol n) b st is says = division_shut st (kinds_say Kind.Int Kind.Int (symbol n) b st is says)
      division_says f (kind k) b st is says = division_shut st (kinds_say Kind.Int Kind.Int (kind k) b st is says)
      division_says f (procedure p) b st is says = division_shut st (kinds_say Kind.Int Kind.Int (procedure p) b st is says)
      division_says f (list ws) b st is says = division_shut st (kinds_say Kind.Int Kind.Int (list ws) b st is says)

      abbrev element : PureStage → PureStage
      element st = binary_required BinOp.Nth s t st

      element_shut : (st : PureStage) → SaysAt v (Some wrong_kind) (kinds_required Kind.List Kind.Int s t st) → SaysAt v (Some wrong_kind) (element st)
      element_shut st says = shut_stays v wrong_kind out_of_range (end_check s t) _ (shut_stays v wrong_kind out_of_range (start_check t) _ says)

      place_says : (vs : PureValues) (b : PureValue) (st : PureStage) → Values (list vs) b → SaysAt v None st → SaysAt v (fault_of (binary BinOp.Nth (list vs) b)) (element st)
      place_says vs (integer i) st is says =
          subst (λ o. SaysAt v o (element st)) (element_fault (to_list vs) i)
          (goes_on v (next None (not (int_lt i (pos 0))) out_of_range) (int_lt i (list_length v vs)) out_of_range (end_check s t) _
          (open_goes_on v (not (int_lt i (pos 0))) out_of_range (start_check t) _ (kinds_say Kind.List Kind.Int (list vs) (integer i) st is says) (start_says v t i is.1))
          (end_says v s t vs i is.0 is.1))
      place_says vs (boolean x) st is says = element_shut st (kinds_say Kind.List Kind.Int (list vs) (boolean x) st is says)
      place_says vs (text cs) st is says = element_shut st (kinds_say Kind.List Kind.Int (list vs) (text cs) st is says)
      place_says vs (symbol n) st is says = element_shut st (kinds_say Kind.List Kind.Int (list vs) (symbol n) st is says)
      place_says vs (kind k) st is says = element_shut st (kinds_say Kind.List Kind.Int (list vs) (kind k) st is says)
      place_says vs (procedure p) st is says = element_shut st (kinds_say Kind.List Kind.Int (list vs) (procedure p) st is says)
      place_says vs (list ws) st is says = element_shut st (kinds_say Kind.List Kind.Int (list vs) (list ws) st is says)

      element_says : (a b : PureValue) (st : PureStage) → Values a b → SaysAt v None st → SaysAt v (fault_of (binary BinOp.Nth a b)) (element st)
      element_says (list vs) b st is says = place_says vs b st is says
      element_says (integer n) b st is says = element_shut st (kinds_say Kind.List Kind.Int (integer n) b st is says)
      element_says (boolean x) b st is says = element_shut st (kinds_say Kind.List Kind.Int (boolean x) b st is says)
      element_says (text cs) b st is says = element_shut st (kinds_say Kind.List Kind.Int (text cs) b st is says)
      element_says (symbol n) b st is says = element_shut st (kinds_say Kind.List Kind.Int (symbol n) b st is says)
      element_says (kind k) b st is says = element_shut st (kinds_say Kind.List Kind.Int (kind k) b st is says)
      element_says (procedure p) b st is says = element_shut st (kinds_say Kind.List Kind.Int (procedure p) b st is says)

      pub binary_says : (op : BinOp) (a b : PureValue) (st : PureStage) → Values a b → SaysAt v None st → SaysAt v (fault_of (binary op a b)) (binary_required op s t st)
      binary_says BinOp.Add a b st is says = numbers_say (λ m n. integer (m +ℤ n)) a b st is says
      binary_says BinOp.Subtract a b st is says = numbers_say (λ m n. integer (m -ℤ n)) a b st is says
      binary_says BinOp.Multiply a b st is says = numbers_say (λ m n. integer (m *ℤ n)) a b st is says
      binary_says BinOp.Divide a b st is says = division_says int_div a b st is says
      binary_says BinOp.Remainder a b st is says = division_says int_rem a b st is says
      binary_says BinOp.Equal a b st is says = says
      binary_says BinOp.Less a b st is says = numbers_say (λ m n. boolean (int_lt m n)) a b st is says
      binary_says BinOp.LessOrEqual a b st is says = numbers_say (λ m n. boolean (int_le m n)) a b st is says
      binary_says BinOp.And a b st is says = booleans_say (λ x y. boolean (x && y)) a b st is says
      binary_says BinOp.Or a b st is says = booleans_say (λ x y. boolean (x || y)) a b st is says
      binary_says BinOp.Append a b st is says =
          subst (λ o. SaysAt v o (binary_required BinOp.Append s t st)) (append_fault a b)
          (open_goes_on v (are_appendable (kind_of a) (kind_of b)) wrong_kind (append_check s t) st says (append_says v vars proper s t a b over_s over_t is.0 is.1))
      binary_says BinOp.Nth a b st is says = element_says a b st is says
