-- What is asked of operands before an operator is applied. Each question leaves nothing open that form and sorts tell.
use Rattle.std.specs.Prelude.{pos, int_lt, List, [], ◌∷◌, ◌++◌, length, map, Bool, not, ◌||◌, if◌then◌else◌, Option, Some, None}
use Rattle.std.specs.Ordering.{int_eq}
use Rattle.gil_values.specs.declared.kinds.Kind.{Kind}
use Rattle.gil_values.specs.declared.operators.UnOp.{UnOp}
use Rattle.gil_values.specs.declared.operators.BinOp.{BinOp}
use Rattle.gil_values.specs.Equality.{same_kind}
use Rattle.gil_values.specs.Operators.{Fault, wrong_kind, zero_divisor, out_of_range}
use Rattle.pure_terms.specs.declared.literals.Literal.{Literal}
use Rattle.pure_terms.specs.Kinds.{known_kind}
use Rattle.pure_terms.specs.Pure.{PureTerm, literal, list_of, unary_of, binary_of, PureAtom, positive, negative, to_list}
use Rattle.sym_evaluation.specs.Pure.{PureFaultCase}

-- A check passes, fails, or asks: it passes where all of the first conditions are true, and fails where all conditions of one of
-- the other lists are.
pub data PureCheck : Type 0 where
  passes : PureCheck
  fails : PureCheck
  asks : List PureAtom → List (List PureAtom) → PureCheck

abbrev pub decided : Bool → PureCheck
decided b = if b then passes else fails

-- a question whose answer yes passes, and one whose answer no does
abbrev pub needs : PureTerm → PureCheck
needs t = asks (positive t ∷ []) ((negative t ∷ []) ∷ [])

abbrev pub needs_not : PureTerm → PureCheck
needs_not t = asks (negative t ∷ []) ((positive t ∷ []) ∷ [])

-- ---- kinds

abbrev pub kind_of_term : PureTerm → PureTerm
kind_of_term t = unary_of UnOp.Kind t

abbrev pub is_of_kind : PureTerm → Kind → PureTerm
is_of_kind t k = binary_of BinOp.Equal (kind_of_term t) (literal (Literal.Kind k))

abbrev pub none_of : PureTerm → List Kind → List PureAtom
none_of t ks = map (λ k. negative (is_of_kind t k)) ks

abbrev pub kind_check_by : Option Kind → Kind → PureTerm → PureCheck
kind_check_by (Some j) k t = decided (same_kind j k)
kind_check_by None k t = needs (is_of_kind t k)

abbrev pub kind_check : Kind → PureTerm → PureCheck
kind_check k t = kind_check_by (known_kind t) k t

-- texts and lists have a length
abbrev pub has_length : Kind → Bool
has_length k = same_kind k Kind.Str || same_kind k Kind.List

abbrev pub kinds_with_length : List Kind
kinds_with_length = Kind.Str ∷ Kind.List ∷ []

-- the kinds of values that have none
abbrev pub kinds_without_length : List Kind
kinds_without_length = Kind.Int ∷ Kind.Bool ∷ Kind.Sym ∷ Kind.Kind ∷ Kind.Proc ∷ []

abbrev pub length_check_by : Option Kind → PureTerm → PureCheck
length_check_by (Some k) t = decided (has_length k)
length_check_by None t = asks (none_of t kinds_without_length) (none_of t kinds_with_length ∷ [])

abbrev pub length_check : PureTerm → PureCheck
length_check t = length_check_by (known_kind t) t

abbrev pub are_of_one_kind : PureTerm → PureTerm → PureTerm
are_of_one_kind s t = binary_of BinOp.Equal (kind_of_term s) (kind_of_term t)

-- `++` takes two texts or two lists
abbrev pub append_check_by : Option Kind → Option Kind → PureTerm → PureTerm → PureCheck
append_check_by (Some j) known s t = if has_length j then kind_check_by known j t else fails
append_check_by None (Some k) s t = if has_length k then needs (is_of_kind s k) else fails
append_check_by None None s t =
    asks (positive (are_of_one_kind s t) ∷ none_of s kinds_without_length)
    ((negative (are_of_one_kind s t) ∷ []) ∷ none_of s kinds_with_length ∷ [])

abbrev pub append_check : PureTerm → PureTerm → PureCheck
append_check s t = append_check_by (known_kind s) (known_kind t) s t

-- ---- numbers

abbrev pub zero_term : PureTerm
zero_term = literal (Literal.Int (pos 0))

abbrev pub is_zero : PureTerm → PureTerm
is_zero t = binary_of BinOp.Equal t zero_term

abbrev pub is_negative : PureTerm → PureTerm
is_negative t = binary_of BinOp.Less t zero_term

-- a divisor is not 0
abbrev pub divisor_check : PureTerm → PureCheck
divisor_check (literal (Literal.Int n)) = decided (not (int_eq n (pos 0)))
divisor_check t = needs_not (is_zero t)

-- a place of a list is not below 0
abbrev pub start_check : PureTerm → PureCheck
start_check (literal (Literal.Int n)) = decided (not (int_lt n (pos 0)))
start_check t = needs_not (is_negative t)

-- the length of a list, which the form of a list term tells
abbrev pub length_of : PureTerm → PureTerm
length_of (list_of ts) = literal (Literal.Int (pos (length (to_list ts))))
length_of s = unary_of UnOp.Len s

abbrev pub is_below : PureTerm → PureTerm → PureTerm
is_below t n = binary_of BinOp.Less t n

-- a place of a list is below the length
abbrev pub end_check_by : PureTerm → PureTerm → PureCheck
end_check_by (literal (Literal.Int i)) (literal (Literal.Int n)) = decided (int_lt i n)
end_check_by t n = needs (is_below t n)

abbrev pub end_check : PureTerm → PureTerm → PureCheck
end_check s t = end_check_by t (length_of s)

-- ---- how far an evaluation is

-- the faults so far, and the conditions under which there is none of them, unless one is sure
pub record PureStage : Type 0 where
  pub faults : List PureFaultCase
  pub conds : Option (List PureAtom)

abbrev pub failing : Fault → List PureAtom → List (List PureAtom) → List PureFaultCase
failing f conds bads = map (λ bad. record { conds = conds ++ bad; fault = f }) bads

abbrev pub required_from : Fault → PureCheck → List PureFaultCase → List PureAtom → PureStage
required_from f passes faults conds = record { faults = faults; conds = Some conds }
required_from f fails faults conds = record { faults = faults ++ record { conds = conds; fault = f } ∷ []; conds = None }
required_from f (asks good bads) faults conds = record { faults = faults ++ failing f conds bads; conds = Some (conds ++ good) }

abbrev pub required_at : Fault → PureCheck → List PureFaultCase → Option (List PureAtom) → PureStage
required_at f check faults None = record { faults = faults; conds = None }
required_at f check faults (Some conds) = required_from f check faults conds

-- the check is required to pass; where it doesn't, there is the fault
abbrev pub required : Fault → PureCheck → PureStage → PureStage
required f check st = required_at f check st.faults st.conds

abbrev pub kinds_required : Kind → Kind → PureTerm → PureTerm → PureStage → PureStage
kinds_required j k s t st = required wrong_kind (kind_check k t) (required wrong_kind (kind_check j s) st)

-- what an operator requires of its operands, in the order of the operator table
abbrev pub unary_required : UnOp → PureTerm → PureStage → PureStage
unary_required UnOp.Not t st = required wrong_kind (kind_check Kind.Bool t) st
unary_required UnOp.Neg t st = required wrong_kind (kind_check Kind.Int t) st
unary_required UnOp.Len t st = required wrong_kind (length_check t) st
unary_required UnOp.Kind t st = st

abbrev pub binary_required : BinOp → PureTerm → PureTerm → PureStage → PureStage
binary_required BinOp.Add s t st = kinds_required Kind.Int Kind.Int s t st
binary_required BinOp.Subtract s t st = kinds_required Kind.Int Kind.Int s t st
binary_required BinOp.Multiply s t st = kinds_required Kind.Int Kind.Int s t st
binary_required BinOp.Divide s t st = required zero_divisor (divisor_check t) (kinds_required Kind.Int Kind.Int s t st)
binary_required BinOp.Remainder s t st = required zero_divisor (divisor_check t) (kinds_required Kind.Int Kind.Int s t st)
binary_required BinOp.Equal s t st = st
binary_required BinOp.Less s t st = kinds_required Kind.Int Kind.Int s t st
binary_required BinOp.LessOrEqual s t st = kinds_required Kind.Int Kind.Int s t st
binary_required BinOp.And s t st = kinds_required Kind.Bool Kind.Bool s t st
binary_required BinOp.Or s t st = kinds_required Kind.Bool Kind.Bool s t st
binary_required BinOp.Append s t st = required wrong_kind (append_check s t) st
binary_required BinOp.Nth s t st =
    required out_of_range (end_check s t) (required out_of_range (start_check t) (kinds_required Kind.List Kind.Int s t st))
