-- Results are the terms of their expressions, and conditions are what these ask.
use Rattle.std.proofs.Common.{◌≡◌, ◌⊎◌, ⊎_elim, inl, inr, pos, int_lt, List, [], ◌∷◌, Bool, true, false, not, ◌&&◌, if◌then◌else◌, Option, Some, None, refl, sym, ap, true≢false}
use Rattle.std.specs.Option.{option_and_then, option_map}
use Rattle.gil_values.specs.declared.kinds.Kind.{Kind}
use Rattle.gil_values.specs.declared.operators.UnOp.{UnOp}
use Rattle.gil_values.specs.declared.operators.BinOp.{BinOp}
use Rattle.gil_values.specs.Equality.{same_kind}
use Rattle.gil_values.specs.Operators.{Fault, wrong_kind, zero_divisor, out_of_range, unset_variable}
use Rattle.gil_syntax.specs.Pure.{PureExpr, literal as value_literal, name, logical, list_of as list_expr, unary_of as unary_expr, binary_of as binary_expr, PureExprs, no_exprs, expr_and, from_list as exprs_from}
use Rattle.gil_syntax.specs.Subexpressions.{subexpressions, subexpressions_of_all}
use Rattle.pure_terms.specs.declared.literals.Literal.{Literal}
use Rattle.pure_terms.specs.Folding.{folded_unary, folded_binary}
use Rattle.pure_terms.specs.Kinds.{allows, known_kind}
use Rattle.pure_terms.specs.Pure.{PureTerm, literal, variable, list_of, unary_of, binary_of, from_list, PureAtom, positive, negative}
use Rattle.sym_model.specs.Lists.{Each, OneOf}
use Rattle.sym_model.specs.Terms.{is_literal}
use Rattle.sym_model.proofs.ListLaws.{not_none, each_append, one_left, one_right, one_parts}
use Rattle.sym_evaluation.specs.Checks.{PureCheck, passes, fails, asks, decided, needs, needs_not, is_of_kind, none_of, kind_check_by, kind_check, has_length, kinds_with_length, kinds_without_length, length_check_by, length_check, are_of_one_kind, append_check_by, append_check, is_zero, is_negative, divisor_check, start_check, length_of, is_below, end_check_by, end_check, PureStage, failing, required_from, required_at, required, kinds_required, unary_required, binary_required}
use Rattle.sym_evaluation.specs.Evaluating.{spelled, literal_term, given_or, finished_by, followed, followed_by, at_stage, cases_after, all_cases_after}
use Rattle.sym_evaluation.specs.Pure.{PureStore, term_at, PureFaultCase, PureGoodCase, PureCases}
use Rattle.sym_evaluation.specs.Questions.{all_substituted, IsTermOf, IsAbout, AsksKind, AsksLength, AsksKinds, MayBeOfKinds, AsksAppended, AsksZero, may_be_place, AsksPlace, AsksOne, AsksTwo, IsAskedOf, IsAsked, OnResult, EachCondition, ComesFrom, AllComeFrom}

-- ---- checks that are not sure to fail

decided_went : (b : Bool) (f : Fault) (faults : List PureFaultCase) (conds : Option (List PureAtom)) (cs : List PureAtom) → (required_at f (decided b) faults conds).conds ≡ Some cs → b ≡ true
decided_went true f faults conds cs is = refl
decided_went false f faults None cs is = not_none is
decided_went false f faults (Some ds) cs is = not_none is

went_before : (f : Fault) (check : PureCheck) (faults : List PureFaultCase) (conds : Option (List PureAtom)) (cs : List PureAtom) → (required_at f check faults conds).conds ≡ Some cs → (ds : List PureAtom) × (conds ≡ Some ds)
went_before f check faults None cs is = not_none is
went_before f check faults (Some ds) cs is = (ds, refl)

kind_went : (o : Option Kind) (k : Kind) (t : PureTerm) (f : Fault) (faults : List PureFaultCase) (conds : Option (List PureAtom)) (cs : List PureAtom) → (required_at f (kind_check_by o k t) faults conds).conds ≡ Some cs → allows o k ≡ true
kind_went (Some j) k t f faults conds cs is = decided_went (same_kind j k) f faults conds cs is
kind_went None k t f faults conds cs is = refl

kinds_went : (j k : Kind) (s t : PureTerm) (st : PureStage) (cs : List PureAtom) → (kinds_required j k s t st).conds ≡ Some cs → MayBeOfKinds j k s t
kinds_went j k s t st cs is =
    let (ds, earlier) = went_before wrong_kind (kind_check k t) (required wrong_kind (kind_check j s) st).faults (required wrong_kind (kind_check j s) st).conds cs is in
    (kind_went (known_kind s) j s wrong_kind st.faults st.conds ds earlier, kind_went (known_kind t) k t wrong_kind (required wrong_kind (kind_check j s) st).faults (required wrong_kind (kind_check j s) st).conds cs is)

start_went : (t : PureTerm) (f : Fault) (faults : List PureFaultCase) (conds : Option (List PureAtom)) (cs : List PureAtom) → (required_at f (start_check t) faults conds).conds ≡ Some cs → may_be_place t ≡ true
start_went (literal (Literal.Int n)) f faults conds cs is = decided_went (not (int_lt n (pos 0))) f faults conds cs is
start_went (literal (Literal.Bool b)) f faults conds cs is = refl
start_went (literal (Literal.Str xs)) f faults conds cs is = refl
start_went (literal (Literal.Kind k)) f faults conds cs is = refl
start_went (literal (Literal.Proc p)) f faults conds cs is = refl
start_went (variable x) f faults conds cs is = refl
start_went (list_of ts) f faults conds cs is = refl
start_went (unary_of op t) f faults conds cs is = refl
start_went (binary_of op s t) f faults conds cs is = refl

length_is_number : (s : PureTerm) → allows (known_kind (length_of s)) Kind.Int ≡ true
length_is_number (literal l) = refl
length_is_number (variable x) = refl
length_is_number (list_of ts) = refl
length_is_number (unary_of op t) = refl
length_is_number (binary_of op s t) = refl

-- ---- what holds of each condition

module _ (P : PureAtom → Type 0) where
  -- that a term is true may be asked, and that it is false
  abbrev MayAsk : PureTerm → Type 0
  MayAsk u = P (positive u) × P (negative u)

  both_ways : (u : PureTerm) → ((a : PureAtom) → IsAbout u a → P a) → MayAsk u
  both_ways u may = (may (positive u) refl, may (negative u) refl)

  abbrev OnCheck : PureCheck → Type 0
  OnCheck passes = Unit {0}
  OnCheck fails = Unit {0}
  OnCheck (asks met unmet) = Each P met × Each (Each P) unmet

  abbrev OnFaults : List PureFaultCase → Type 0
  OnFaults faults = Each (λ c. Each P c.conds) faults

  abbrev OnConds : Option (List PureAtom) → Type 0
  OnConds None = Unit {0}
  OnConds (Some conds) = Each P conds

  abbrev OnStage : PureStage → Type 0
  OnStage st = OnFaults st.faults × OnConds st.conds

  decided_on : (b : Bool) → OnCheck (decided b)
  decided_on true = tt
  decided_on false = tt

  needs_on : (u : PureTerm) → MayAsk u → OnCheck (needs u)
  needs_on u may = ((may.0, tt), ((may.1, tt), tt))

  needs_not_on : (u : PureTerm) → MayAsk u → OnCheck (needs_not u)
  needs_not_on u may = ((may.1, tt), ((may.0, tt), tt))

  abbrev MayAskKind : Kind → PureTerm → Type 0
  MayAskKind k t = (a : PureAtom) → AsksKind k t a → P a

  kind_asked : (k : Kind) (t : PureTerm) → known_kind t ≡ None → MayAskKind k t → MayAsk (is_of_kind t k)
  kind_asked k t known may = both_ways (is_of_kind t k) (λ a about. may a (known, about))

  kind_on_by : (o : Option Kind) (k : Kind) (t : PureTerm) → known_kind t ≡ o → MayAskKind k t → OnCheck (kind_check_by o k t)
  kind_on_by (Some j) k t known may = decided_on (same_kind j k)
  kind_on_by None k t known may = needs_on (is_of_kind t k) (kind_asked k t known may)

  kind_on : (k : Kind) (t : PureTerm) → MayAskKind k t → OnCheck (kind_check k t)
  kind_on k t may = kind_on_by (known_kind t) k t refl may

  abbrev MayAskLength : PureTerm → Type 0
  MayAskLength t = (a : PureAtom) → AsksLength t a → P a

  none_on : (t : PureTerm) (ks : List Kind) → known_kind t ≡ None → MayAskLength t → Each P (none_of t ks)
  none_on t [] known may = tt
  none_on t (k ∷ ks) known may = (may (negative (is_of_kind t k)) (k, (known, refl)), none_on t ks known may)

  length_on_by : (o : Option Kind) (t : PureTerm) → known_kind t ≡ o → MayAskLength t → OnCheck (length_check_by o t)
  length_on_by (Some k) t known may = decided_on (has_length k)
  length_on_by None t known may = (none_on t kinds_without_length known may, (none_on t kinds_with_length known may, tt))

  either_on : (b : Bool) (check : PureCheck) → (b ≡ true → OnCheck check) → OnCheck (if b then check else fails)
  either_on true check on = on refl
  either_on false check on = tt

  abbrev MayAskAppended : PureTerm → PureTerm → Type 0
  MayAskAppended s t = (a : PureAtom) → AsksAppended s t a → P a

  append_on_by : (j k : Option Kind) (s t : PureTerm) → known_kind s ≡ j → known_kind t ≡ k → MayAskAppended s t → OnCheck (append_check_by j k s t)
  append_on_by (Some j) k s t known_s known_t may =
      either_on (has_length j) (kind_check_by k j t) (λ long. kind_on_by k j t known_t (λ a asks. may a (inr (j, (long, inl (known_s, asks))))))
  append_on_by None (Some k) s t known_s known_t may =
      either_on (has_length k) (needs (is_of_kind s k)) (λ long. needs_on (is_of_kind s k) (kind_asked k s known_s (λ a asks. may a (inr (k, (long, inr (known_t, asks)))))))
  append_on_by None None s t known_s known_t may =
      let length : MayAskLength s = λ a asks. may a (inl (known_s, known_t, inr asks)) in
      let same : MayAsk (are_of_one_kind s t) = both_ways (are_of_one_kind s t) (λ a about. may a (inl (known_s, known_t, inl about))) in
      ((same.0, none_on s kinds_without_length known_s length), ((same.1, tt), (none_on s kinds_with_length known_s length, tt)))

  divisor_on : (t : PureTerm) → allows (known_kind t) Kind.Int ≡ true → ((a : PureAtom) → is_literal t ≡ false → IsAbout (is_zero t) a → P a) → OnCheck (divisor_check t)
  divisor_on (literal (Literal.Int n)) int may = decided_on _
  divisor_on (literal (Literal.Bool b)) int may = absurd (true≢false (sym int))
  divisor_on (literal (Literal.Str cs)) int may = absurd (true≢false (sym int))
  divisor_on (literal (Literal.Kind k)) int may = absurd (true≢false (sym int))
  divisor_on (literal (Literal.Proc p)) int may = absurd (true≢false (sym int))
  divisor_on (variable x) int may = needs_not_on (is_zero (variable x)) (both_ways (is_zero (variable x)) (λ a about. may a refl about))
  divisor_on (list_of ts) int may = needs_not_on (is_zero (list_of ts)) (both_ways (is_zero (list_of ts)) (λ a about. may a refl about))
  divisor_on (unary_of op t) int may = needs_not_on (is_zero (unary_of op t)) (both_ways (is_zero (unary_of op t)) (λ a about. may a refl about))
  divisor_on (binary_of op s t) int may = needs_not_on (is_zero (binary_of op s t)) (both_ways (is_zero (binary_of op s t)) (λ a about. may a refl about))

  start_on : (t : PureTerm) → allows (known_kind t) Kind.Int ≡ true → ((a : PureAtom) → is_literal t ≡ false → IsAbout (is_negative t) a → P a) → OnCheck (start_check t)
  start_on (literal (Literal.Int n)) int may = decided_on _
  start_on (literal (Literal.Bool b)) int may = absurd (true≢false (sym int))
  start_on (literal (Literal.Str cs)) int may = absurd (true≢false (sym int))
  start_on (literal (Literal.Kind k)) int may = absurd (true≢false (sym int))
  start_on (literal (Literal.Proc p)) int may = absurd (true≢false (sym int))
  start_on (variable x) int may = needs_not_on (is_negative (variable x)) (both_ways (is_negative (variable x)) (λ a about. may a refl about))
  start_on (list_of ts) int may = needs_not_on (is_negative (list_of ts)) (both_ways (is_negative (list_of ts)) (λ a about. may a refl about))
  start_on (unary_of op t) int may = needs_not_on (is_negative (unary_of op t)) (both_ways (is_negative (unary_of op t)) (λ a about. may a refl about))
  start_on (binary_of op s t) int may = needs_not_on (is_negative (binary_of op s t)) (both_ways (is_negative (binary_of op s t)) (λ a about. may a refl about))

  end_on : (t u : PureTerm) → allows (known_kind t) Kind.Int ≡ true → allows (known_kind u) Kind.Int ≡ true → ((a : PureAtom) → (is_literal t && is_literal u) ≡ false → IsAbout (is_below t u) a → P a) → OnCheck (end_check_by t u)
  end_on (literal (Literal.Int i)) (literal (Literal.Int n)) int_t int_u may = decided_on _
  end_on (literal (Literal.Int i)) (literal (Literal.Bool b)) int_t int_u may = absurd (true≢false (sym int_u))
  end_on (literal (Literal.Int i)) (literal (Literal.Str cs)) int_t int_u may = absurd (true≢false (sym int_u))
  end_on (literal (Literal.Int i)) (literal (Literal.Kind k)) int_t int_u may = absurd (true≢false (sym int_u))
  end_on (literal (Literal.Int i)) (literal (Literal.Proc p)) int_t int_u may = absurd (true≢false (sym int_u))
  end_on (literal (Literal.Int i)) (variable x) int_t int_u may = needs_on (is_below (literal (Literal.Int i)) (variable x)) (both_ways (is_below (literal (Literal.Int i)) (variable x)) (λ a about. may a refl about))
  end_on (literal (Literal.Int i)) (list_of ts) int_t int_u may = needs_on (is_below (literal (Literal.Int i)) (list_of ts)) (both_ways (is_below (literal (Literal.Int i)) (list_of ts)) (λ a about. may a refl about))
  end_on (literal (Literal.Int i)) (unary_of op t) int_t int_u may = needs_on (is_below (literal (Literal.Int i)) (unary_of op t)) (both_ways (is_below (literal (Literal.Int i)) (unary_of op t)) (λ a about. may a refl about))
  end_on (literal (Literal.Int i)) (binary_of op s t) int_t int_u may = needs_on (is_below (literal (Literal.Int i)) (binary_of op s t)) (both_ways (is_below (literal (Literal.Int i)) (binary_of op s t)) (λ a about. may a refl about))
  end_on (literal (Literal.Bool b)) u int_t int_u may = absurd (true≢false (sym int_t))
  end_on (literal (Literal.Str cs)) u int_t int_u may = absurd (true≢false (sym int_t))
  end_on (literal (Literal.Kind k)) u int_t int_u may = absurd (true≢false (sym int_t))
  end_on (literal (Literal.Proc p)) u int_t int_u may = absurd (true≢false (sym int_t))
  end_on (variable x) u int_t int_u may = needs_on (is_below (variable x) u) (both_ways (is_below (variable x) u) (λ a about. may a refl about))
  end_on (list_of ts) u int_t int_u may = needs_on (is_below (list_of ts) u) (both_ways (is_below (list_of ts) u) (λ a about. may a refl about))
  end_on (unary_of op t) u int_t int_u may = needs_on (is_below (unary_of op t) u) (both_ways (is_below (unary_of op t) u) (λ a about. may a refl about))
  end_on (binary_of op s t) u int_t int_u may = needs_on (is_below (binary_of op s t) u) (both_ways (is_below (binary_of op s t) u) (λ a about. may a refl about))

  -- ---- requiring

  failing_on : (f : Fault) (conds : List PureAtom) (bads : List (List PureAtom)) → Each P conds → Each (Each P) bads → OnFaults (failing f conds bads)
  failing_on f conds [] on all = tt
  failing_on f conds (bad ∷ bads) on all = (each_append P conds bad on all.0, failing_on f conds bads on all.1)

  required_on_from : (f : Fault) (check : PureCheck) (faults : List PureFaultCase) (conds : List PureAtom) → OnCheck check → OnFaults faults → Each P conds → OnStage (required_from f check faults conds)
  required_on_from f passes faults conds on first second = (first, second)
  required_on_from f fails faults conds on first second = (each_append (λ c. Each P c.conds) faults (record { conds = conds; fault = f } ∷ []) first (second, tt), tt)
  required_on_from f (asks met unmet) faults conds on first second =
      (each_append (λ c. Each P c.conds) faults (failing f conds unmet) first (failing_on f conds unmet second on.1), each_append P conds met second on.0)

  required_when_at : (f : Fault) (check : PureCheck) (faults : List PureFaultCase) (conds : Option (List PureAtom)) → ((cs : List PureAtom) → conds ≡ Some cs → OnCheck check) → OnFaults faults → OnConds conds → OnStage (required_at f check faults conds)
  required_when_at f check faults None on first second = (first, tt)
  required_when_at f check faults (Some conds) on first second = required_on_from f check faults conds (on conds refl) first second

  -- the check is asked only where no fault is sure before it
  required_when : (f : Fault) (check : PureCheck) (st : PureStage) → ((cs : List PureAtom) → st.conds ≡ Some cs → OnCheck check) → OnStage st → OnStage (required f check st)
  required_when f check st on stage = required_when_at f check st.faults st.conds on stage.0 stage.1

  required_on : (f : Fault) (check : PureCheck) (st : PureStage) → OnCheck check → OnStage st → OnStage (required f check st)
  required_on f check st on stage = required_when f check st (λ cs is. on) stage

  unary_on : (op : UnOp) (t : PureTerm) (st : PureStage) → ((a : PureAtom) → AsksOne op t a → P a) → OnStage st → OnStage (unary_required op t st)
  unary_on UnOp.Not t st may on = required_on wrong_kind (kind_check Kind.Bool t) st (kind_on Kind.Bool t may) on
  unary_on UnOp.Neg t st may on = required_on wrong_kind (kind_check Kind.Int t) st (kind_on Kind.Int t may) on
  unary_on UnOp.Len t st may on = required_on wrong_kind (length_check t) st (length_on_by (known_kind t) t refl may) on
  unary_on UnOp.Kind t st may on = on

  module _ (s t : PureTerm) where
    kinds_on : (j k : Kind) (st : PureStage) → ((a : PureAtom) → AsksKinds j k s t a → P a) → OnStage st → OnStage (kinds_required j k s t st)
    kinds_on j k st may on =
        required_when wrong_kind (kind_check k t) (required wrong_kind (kind_check j s) st)
        (λ cs is. kind_on k t (λ a asks. may a (inr (kind_went (known_kind s) j s wrong_kind st.faults st.conds cs is, asks))))
        (required_on wrong_kind (kind_check j s) st (kind_on j s (λ a asks. may a (inl asks))) on)

    divides_on : (st : PureStage) → ((a : PureAtom) → AsksKinds Kind.Int Kind.Int s t a ⊎ AsksZero s t a → P a) → OnStage st → OnStage (required zero_divisor (divisor_check t) (kinds_required Kind.Int Kind.Int s t st))
    divides_on st may on =
        required_when zero_divisor (divisor_check t) (kinds_required Kind.Int Kind.Int s t st)
        (λ cs is. let kinds : MayBeOfKinds Kind.Int Kind.Int s t = kinds_went Kind.Int Kind.Int s t st cs is in divisor_on t kinds.1 (λ a other about. may a (inr (kinds, other, about))))
        (kinds_on Kind.Int Kind.Int st (λ a asks. may a (inl asks)) on)

    places_on : (st : PureStage) → ((a : PureAtom) → AsksKinds Kind.List Kind.Int s t a ⊎ AsksPlace s t a → P a) → OnStage st → OnStage (binary_required BinOp.Nth s t st)
    places_on st may on =
        let kinds_stage = kinds_required Kind.List Kind.Int s t st in
        let start_stage = required out_of_range (start_check t) kinds_stage in
        required_when out_of_range (end_check s t) start_stage
        (λ cs is.
        let (ds, earlier) = went_before out_of_range (start_check t) kinds_stage.faults kinds_stage.conds cs is in
        let kinds : MayBeOfKinds Kind.List Kind.Int s t = kinds_went Kind.List Kind.Int s t st ds earlier in
        let place : may_be_place t ≡ true = start_went t out_of_range kinds_stage.faults kinds_stage.conds cs is in
        end_on t (length_of s) kinds.1 (length_is_number s) (λ a other about. may a (inr (kinds, inr (place, other, about)))))
        (required_when out_of_range (start_check t) kinds_stage
        (λ cs is. let kinds : MayBeOfKinds Kind.List Kind.Int s t = kinds_went Kind.List Kind.Int s t st cs is in start_on t kinds.1 (λ a other about. may a (inr (kinds, inl (other, about)))))
        (kinds_on Kind.List Kind.Int st (λ a asks. may a (inl asks)) on))

    binary_on : (op : BinOp) (st : PureStage) → ((a : PureAtom) → AsksTwo op s t a → P a) → OnStage st → OnStage (binary_required op s t st)
    binary_on BinOp.Add st may on = kinds_on Kind.Int Kind.Int st may on
    binary_on BinOp.Subtract st may on = kinds_on Kind.Int Kind.Int st may on
    binary_on BinOp.Multiply st may on = kinds_on Kind.Int Kind.Int st may on
    binary_on BinOp.Divide st may on = divides_on st may on
    binary_on BinOp.Remainder st may on = divides_on st may on
    binary_on BinOp.Equal st may on = on
    binary_on BinOp.Less st may on = kinds_on Kind.Int Kind.Int st may on
    binary_on BinOp.LessOrEqual st may on = kinds_on Kind.Int Kind.Int st may on
    binary_on BinOp.And st may on = kinds_on Kind.Bool Kind.Bool st may on
    binary_on BinOp.Or st may on = kinds_on Kind.Bool Kind.Bool st may on
    binary_on BinOp.Append st may on = required_on wrong_kind (append_check s t) st (append_on_by (known_kind s) (known_kind t) s t refl refl may) on
    binary_on BinOp.Nth st may on = places_on st may on

  -- ---- cases

  abbrev pub OnCases : {X : Type 0} → (X → Type 0) → PureCases X → Type 0
  OnCases R cases = EachCondition P cases × OnResult R cases.good

  finished_on : {X : Type 0} (R : X → Type 0) (faults : List PureFaultCase) (conds : Option (List PureAtom)) (x : X) → OnFaults faults → OnConds conds → R x → OnCases R (finished_by faults conds x)
  finished_on R faults (Some conds) x first second is = ((first, second), is)
  finished_on R faults None x first second is = ((first, tt), tt)

  given_on : {X : Type 0} (R : X → Type 0) (o : Option X) (fs : List PureFaultCase) (cs : List PureAtom) → OnFaults fs → Each P cs → ((x : X) → o ≡ Some x → R x) → OnCases R (given_or unset_variable fs cs o)
  given_on R (Some x) fs cs first second is = ((first, second), is x refl)
  given_on R None fs cs first second is = ((each_append (λ c. Each P c.conds) fs (record { conds = cs; fault = unset_variable } ∷ []) first (second, tt), tt), tt)

  followed_on_by : {X Y : Type 0} (R : X → Type 0) (S : Y → Type 0) (faults : List PureFaultCase) (good : Option (PureGoodCase X)) (k : List PureFaultCase → List PureAtom → X → PureCases Y) → OnCases R (record { faults = faults; good = good }) → ((fs : List PureFaultCase) (cs : List PureAtom) (x : X) → OnFaults fs → Each P cs → R x → OnCases S (k fs cs x)) → OnCases S (followed_by faults good k)
  followed_on_by R S faults (Some g) k on f = f faults g.conds g.result on.0.0 on.0.1 on.1
  followed_on_by R S faults None k on f = ((on.0.0, tt), tt)

  followed_on : {X Y : Type 0} (R : X → Type 0) (S : Y → Type 0) (cases : PureCases X) (k : List PureFaultCase → List PureAtom → X → PureCases Y) → OnCases R cases → ((fs : List PureFaultCase) (cs : List PureAtom) (x : X) → OnFaults fs → Each P cs → R x → OnCases S (k fs cs x)) → OnCases S (followed cases k)
  followed_on R S cases k on f = followed_on_by R S cases.faults cases.good k on f

  -- ---- expressions

  module _ (bs : PureStore) where
    -- what an expression asks may be asked
    abbrev MayAskAll : PureExpr → Type 0
    MayAskAll e = (a : PureAtom) → IsAsked bs e a → P a

    abbrev MayAskEach : List PureExpr → Type 0
    MayAskEach ds = (a : PureAtom) → OneOf (IsAskedOf bs a) ds → P a

    abbrev AreSubstituted : PureExprs → List PureTerm → Type 0
    AreSubstituted es ts = all_substituted bs es ≡ Some ts

    mutual
      pub from_after : (e : PureExpr) (fs : List PureFaultCase) (cs : List PureAtom) → MayAskAll e → OnFaults fs → Each P cs → OnCases (IsTermOf bs e) (cases_after bs fs cs e)
      from_after (value_literal w) fs cs may first second = given_on (IsTermOf bs (value_literal w)) (literal_term (spelled w)) fs cs first second (λ t is. is)
      from_after (name x) fs cs may first second = given_on (IsTermOf bs (name x)) (term_at bs x) fs cs first second (λ t is. is)
      from_after (logical x) fs cs may first second = given_on (IsTermOf bs (logical x)) (term_at bs x) fs cs first second (λ t is. is)
      from_after (list_expr es) fs cs may first second =
          followed_on (AreSubstituted es) (IsTermOf bs (list_expr es)) (all_cases_after bs fs cs es) _ (all_from_after es fs cs (λ a one. may a (inr one)) first second)
          (λ gs ds ts on also is. ((on, also), ap (option_map (λ ts. list_of (from_list ts))) is))
      from_after (unary_expr op e) fs cs may first second =
          followed_on (IsTermOf bs e) (IsTermOf bs (unary_expr op e)) (cases_after bs fs cs e) _ (from_after e fs cs (λ a one. may a (inr one)) first second)
          (λ gs ds t on also is.
          let st = unary_required op t (at_stage gs ds) in
          let stage = unary_on op t (at_stage gs ds) (λ a asks. may a (inl (t, (is, asks)))) (on, also) in
          finished_on (IsTermOf bs (unary_expr op e)) st.faults st.conds (folded_unary op t) stage.0 stage.1 (ap (option_map (folded_unary op)) is))
      from_after (binary_expr op d e) fs cs may first second =
          followed_on (IsTermOf bs d) (IsTermOf bs (binary_expr op d e)) (cases_after bs fs cs d) _ (from_after d fs cs (λ a one. may a (inr (one_left (IsAskedOf bs a) (subexpressions d) (subexpressions e) one))) first second)
          (λ gs ds s on also is_s. followed_on (IsTermOf bs e) (IsTermOf bs (binary_expr op d e)) (cases_after bs gs ds e) _ (from_after e gs ds (λ a one. may a (inr (one_right (IsAskedOf bs a) (subexpressions d) (subexpressions e) one))) on also)
          (λ hs es t on' also' is_t.
          let st = binary_required op s t (at_stage hs es) in
          let stage = binary_on s t op (at_stage hs es) (λ a asks. may a (inl (s, (t, (is_s, is_t, asks))))) (on', also') in
          finished_on (IsTermOf bs (binary_expr op d e)) st.faults st.conds (folded_binary op s t) stage.0 stage.1 (λ i. option_and_then (λ x. option_map (folded_binary op x) (is_t i)) (is_s i))))

      pub all_from_after : (es : PureExprs) (fs : List PureFaultCase) (cs : List PureAtom) → MayAskEach (subexpressions_of_all es) → OnFaults fs → Each P cs → OnCases (AreSubstituted es) (all_cases_after bs fs cs es)
      all_from_after no_exprs fs cs may first second = ((first, second), refl)
      all_from_after (expr_and e es) fs cs may first second =
          followed_on (IsTermOf bs e) (AreSubstituted (expr_and e es)) (cases_after bs fs cs e) _ (from_after e fs cs (λ a one. may a (one_left (IsAskedOf bs a) (subexpressions e) (subexpressions_of_all es) one)) first second)
          (λ gs ds t on also is. followed_on (AreSubstituted es) (AreSubstituted (expr_and e es)) (all_cases_after bs gs ds es) _ (all_from_after es gs ds (λ a one. may a (one_right (IsAskedOf bs a) (subexpressions e) (subexpressions_of_all es) one)) on also)
          (λ hs cs' ts on' also' all. ((on', also'), (λ i. option_and_then (λ t. option_map (λ ts. t ∷ ts) (all i)) (is i)))))

-- ---- laws of the cases that are found

pub on_result : {X : Type 0} {R S : X → Type 0} (good : Option (PureGoodCase X)) → ((x : X) → R x → S x) → OnResult R good → OnResult S good
on_result (Some g) f on = f g.result on
on_result None f on = tt

pub comes_from : (bs : PureStore) (e : PureExpr) → ComesFrom bs e (cases_after bs [] [] e)
comes_from bs e = from_after (IsAsked bs e) bs e [] [] (λ a asked. asked) tt tt

asked_by_one : (bs : PureStore) (a : PureAtom) (es : List PureExpr) → OneOf (IsAskedOf bs a) (subexpressions_of_all (exprs_from es)) → OneOf (λ e. IsAsked bs e a) es
asked_by_one bs a [] one = absurd one
asked_by_one bs a (e ∷ es) one = ⊎_elim inl (λ later. inr (asked_by_one bs a es later)) (one_parts (IsAskedOf bs a) (subexpressions e) (subexpressions_of_all (exprs_from es)) one)

pub all_come_from : (bs : PureStore) (es : List PureExpr) → AllComeFrom bs es (all_cases_after bs [] [] (exprs_from es))
all_come_from bs es = all_from_after (λ a. OneOf (λ e. IsAsked bs e a) es) bs (exprs_from es) [] [] (λ a one. asked_by_one bs a es one) tt tt
