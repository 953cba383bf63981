-- Simple expressions over plain terms come to a sure fault or to a plain term.
use Rattle.std.proofs.Common.{◌≡◌, ◌⊎◌, ⊎_elim, inl, inr, ℕ, zero, suc, ◌+◌, ◌^◌, ◌<◌, ℤ, pos, negsuc, neg_ℤ, int_lt, List, [], ◌∷◌, ◌++◌, length, slice_get, Bool, true, false, not, Option, Some, None, refl, sym, ap, subst, ◌∙◌, arith, true≢false}
use Rattle.std.specs.List.{list_all, flat_map}
use Rattle.std.proofs.lemmas.Grind.{flat_map-append}
use Rattle.std.proofs.lemmas.List.Folds.{list_all-append}
use Rattle.std.proofs.lemmas.Bool.{and_parts, ltb-true}
use Rattle.gil_values.specs.declared.kinds.Kind.{Kind}
use Rattle.gil_values.specs.declared.operators.BinOp.{BinOp}
use Rattle.gil_values.specs.Equality.{same_kind}
use Rattle.gil_values.specs.Operators.{Fault, wrong_kind, out_of_range, unset_variable}
use Rattle.gil_values.specs.Pure.{PureValue, integer, boolean, text, symbol, kind, procedure, list}
use Rattle.gil_syntax.specs.Pure.{PureExpr, literal as value_literal, name, logical, list_of as list_expr, unary_of as unary_expr, binary_of as binary_expr, PureExprs, no_exprs, expr_and, from_list as exprs_from}
use Rattle.gil_syntax.specs.Simple.{shifts, is_shift as is_text_shift, is_plain_value, are_plain_values, is_element_at, is_simple_value}
use Rattle.gil_syntax.specs.Subexpressions.{own_literals, literals_of, subexpressions, subexpressions_of_all}
use Rattle.gil_syntax.specs.WellMade.{is_spellable}
use Rattle.pure_terms.specs.declared.literals.Literal.{Literal}
use Rattle.pure_terms.specs.Folding.{folded_binary, term_or, element_term}
use Rattle.pure_terms.specs.Fragment.{is_shift, is_literal_between}
use Rattle.pure_terms.specs.Kinds.{kind_of_literal, known_kind}
use Rattle.pure_terms.specs.Pure.{PureTerm, literal, list_of, binary_of, PureTerms, from_list, to_list, PureAtom}
use Rattle.sym_model.specs.Lists.{Each}
use Rattle.sym_model.proofs.ListLaws.{same_some}
use Rattle.sym_evaluation.specs.Checks.{PureCheck, decided, kind_check_by, kind_check, start_check, end_check, PureStage, required, kinds_required, binary_required}
use Rattle.sym_evaluation.specs.Evaluating.{spelled, literal_term, result_given, sure_fault, given_or, finished, followed, at_stage, cases_after, all_cases_after}
use Rattle.sym_evaluation.specs.Plainly.{IsPlain, IsPlainStore, text_bound, is_text_number, has_text_numbers, AnswersPlainly, AllAnswerPlainly}
use Rattle.sym_evaluation.specs.Pure.{PureStore, term_at, PureFaultCase, PureCases}
use Rattle.sym_evaluation.proofs.PlainTerms.{plain_wider, plain_kind, list_form, plain_shifted, plain_element, plain_list}

found_at : (ws : List PureTerm) (k : ℕ) → k < length ws → (w : PureTerm) × (slice_get ws k ≡ Some w)
found_at [] k below = absurd (omega (arith, below))
found_at (w ∷ ws) zero below = (w, refl)
found_at (w ∷ ws) (suc k) below = found_at ws k (omega (arith, below))

pub literal_parts : (test : PureValue → Bool) (ds es : List PureExpr) → list_all test (flat_map own_literals (ds ++ es)) ≡ true → (list_all test (flat_map own_literals ds) ≡ true) × (list_all test (flat_map own_literals es) ≡ true)
literal_parts test ds es is =
    and_parts (list_all test (flat_map own_literals ds)) (list_all test (flat_map own_literals es))
    (sym (list_all-append test (flat_map own_literals ds) (flat_map own_literals es)) ∙ ap (list_all test) (sym (flat_map-append own_literals ds es)) ∙ is)

text_shift_cases : (op : BinOp) → shifts op ≡ true → (op ≡ BinOp.Add) ⊎ (op ≡ BinOp.Subtract)
text_shift_cases BinOp.Add is = inl refl
text_shift_cases BinOp.Subtract is = inr refl
text_shift_cases BinOp.Multiply is = absurd (true≢false (sym is))
text_shift_cases BinOp.Divide is = absurd (true≢false (sym is))
text_shift_cases BinOp.Remainder is = absurd (true≢false (sym is))
text_shift_cases BinOp.Equal is = absurd (true≢false (sym is))
text_shift_cases BinOp.Less is = absurd (true≢false (sym is))
text_shift_cases BinOp.LessOrEqual is = absurd (true≢false (sym is))
text_shift_cases BinOp.And is = absurd (true≢false (sym is))
text_shift_cases BinOp.Or is = absurd (true≢false (sym is))
text_shift_cases BinOp.Append is = absurd (true≢false (sym is))
text_shift_cases BinOp.Nth is = absurd (true≢false (sym is))

module _ (fs : List PureFaultCase) (cs : List PureAtom) where
  -- ---- stages at which no condition came

  abbrev failed_stage : Fault → PureStage
  failed_stage f = record { faults = fs ++ record { conds = cs; fault = f } ∷ []; conds = None }

  -- every check passed, and R holds; or a fault is sure
  abbrev pub StageIs : Type 0 → PureStage → Type 0
  StageIs R st = ((st ≡ at_stage fs cs) × R) ⊎ ((f : Fault) × (st ≡ failed_stage f))

  decided_passes : (f : Fault) (b : Bool) (st : PureStage) (R : Type 0) → b ≡ true → st ≡ at_stage fs cs → R → StageIs (R × (b ≡ true)) (required f (decided b) st)
  decided_passes f b st R is same r = inl (((λ i. required f (decided (is i)) (same i))), (r, is))

  decided_fails : (f : Fault) (b : Bool) (st : PureStage) (R : Type 0) → b ≡ false → st ≡ at_stage fs cs → StageIs R (required f (decided b) st)
  decided_fails f b st R is same = inr (f, (λ i. required f (decided (is i)) (same i)))

  decided_by : (f : Fault) (b c : Bool) (st : PureStage) (R : Type 0) → b ≡ c → st ≡ at_stage fs cs → R → StageIs (R × (b ≡ true)) (required f (decided b) st)
  decided_by f b true st R is same r = decided_passes f b st R is same r
  decided_by f b false st R is same r = decided_fails f b st (R × (b ≡ true)) is same

  -- a sure fault stays, whatever is required
  fault_stays : (f g : Fault) (check : PureCheck) (st : PureStage) → st ≡ failed_stage g → required f check st ≡ failed_stage g
  fault_stays f g check st same = ap (required f check) same

  pub stage_decided : (f : Fault) (b : Bool) (st : PureStage) (R : Type 0) → StageIs R st → StageIs (R × (b ≡ true)) (required f (decided b) st)
  stage_decided f b st R (inl (same, r)) = decided_by f b b st R refl same r
  stage_decided f b st R (inr (g, same)) = inr (g, fault_stays f g (decided b) st same)

  pub kind_decided : (j k : Kind) (t : PureTerm) → known_kind t ≡ Some k → kind_check j t ≡ decided (same_kind k j)
  kind_decided j k t known = ap (λ o. kind_check_by o j t) known

  -- two operands whose kinds are known
  pub kinds_decided : (j k p q : Kind) (s t : PureTerm) → known_kind s ≡ Some p → known_kind t ≡ Some q → StageIs ((same_kind p j ≡ true) × (same_kind q k ≡ true)) (kinds_required j k s t (at_stage fs cs))
  kinds_decided j k p q s t known_s known_t =
      let first : StageIs (Unit {0} × (same_kind p j ≡ true)) (required wrong_kind (kind_check j s) (at_stage fs cs))
      = subst (λ c. StageIs (Unit {0} × (same_kind p j ≡ true)) (required wrong_kind c (at_stage fs cs))) (sym (kind_decided j p s known_s)) (stage_decided wrong_kind (same_kind p j) (at_stage fs cs) (Unit {0}) (inl (refl, tt))) in
      let both : StageIs ((Unit {0} × (same_kind p j ≡ true)) × (same_kind q k ≡ true)) (kinds_required j k s t (at_stage fs cs))
      = subst (λ c. StageIs ((Unit {0} × (same_kind p j ≡ true)) × (same_kind q k ≡ true)) (required wrong_kind c (required wrong_kind (kind_check j s) (at_stage fs cs)))) (sym (kind_decided k q t known_t))
      (stage_decided wrong_kind (same_kind q k) (required wrong_kind (kind_check j s) (at_stage fs cs)) (Unit {0} × (same_kind p j ≡ true)) first) in
      ⊎_elim (λ passed. inl (passed.0, (passed.1.0.1, passed.1.1))) inr both

  -- ---- cases without conditions

  -- a fault is sure, or there is a result of which P holds
  abbrev pub IsSureFrom : {X : Type 0} → (X → Type 0) → PureCases X → Type 0
  IsSureFrom {X} P cases = ((f : Fault) × (cases ≡ sure_fault fs cs f)) ⊎ ((x : X) × ((cases ≡ result_given fs cs x) × P x))

  pub sure_at : {X : Type 0} (P : X → Type 0) (R : Type 0) (st : PureStage) (x : X) → StageIs R st → (R → P x) → IsSureFrom P (finished st x)
  sure_at P R st x (inl (same, r)) holds = inr (x, (ap (λ s. finished s x) same, holds r))
  sure_at P R st x (inr (f, same)) holds = inl (f, ap (λ s. finished s x) same)

  pub sure_followed : {X Y : Type 0} (P : X → Type 0) (Q : Y → Type 0) (cases : PureCases X) (k : List PureFaultCase → List PureAtom → X → PureCases Y) → IsSureFrom P cases → ((x : X) → P x → IsSureFrom Q (k fs cs x)) → IsSureFrom Q (followed cases k)
  sure_followed P Q cases k (inl (f, same)) go_on = inl (f, ap (λ c. followed c k) same)
  sure_followed P Q cases k (inr (x, (same, holds))) go_on = subst (IsSureFrom Q) (sym (ap (λ c. followed c k) same)) (go_on x holds)

  sure_given : {X : Type 0} (P : X → Type 0) (f : Fault) (o : Option X) → ((x : X) → o ≡ Some x → P x) → IsSureFrom P (given_or f fs cs o)
  sure_given P f (Some x) holds = inr (x, (refl, holds x refl))
  sure_given P f None holds = inl (f, refl)

  module _ (b : ℕ) (small : b + text_bound < 2 ^ 127) where
    abbrev wide : ℕ
    wide = b + text_bound

    -- ---- a term and a literal

    number_form : (l : Literal) → same_kind (kind_of_literal l) Kind.Int ≡ true → (n : ℤ) × (l ≡ Literal.Int n)
    number_form (Literal.Int n) is = (n, refl)
    number_form (Literal.Bool x) is = absurd (true≢false (sym is))
    number_form (Literal.Str s) is = absurd (true≢false (sym is))
    number_form (Literal.Kind k) is = absurd (true≢false (sym is))
    number_form (Literal.Proc s) is = absurd (true≢false (sym is))

    abbrev IsTextLiteral : Literal → Type 0
    IsTextLiteral l = is_literal_between (neg_ℤ (pos text_bound)) (pos text_bound) l ≡ true

    shift_holds : (op : BinOp) (t : PureTerm) (k : Kind) (l : Literal) → is_shift op ≡ true → IsPlain b t → known_kind t ≡ Some k → IsTextLiteral l → (same_kind k Kind.Int ≡ true) × (same_kind (kind_of_literal l) Kind.Int ≡ true) → IsPlain wide (folded_binary op t (literal l))
    shift_holds op t k l is plain known number kinds =
        let (n, form) = number_form l kinds.1 in
        subst (λ m. IsPlain wide (folded_binary op t (literal m))) (sym form) (plain_shifted b small n (subst IsTextLiteral form number) op t k is plain known kinds.0)

    shift_sure_at : (op : BinOp) (t : PureTerm) (l : Literal) → is_shift op ≡ true → IsPlain b t → IsTextLiteral l → IsSureFrom (IsPlain wide) (finished (kinds_required Kind.Int Kind.Int t (literal l) (at_stage fs cs)) (folded_binary op t (literal l)))
    shift_sure_at op t l is plain number =
        let (k, known) = plain_kind t plain.0 in
        sure_at (IsPlain wide) ((same_kind k Kind.Int ≡ true) × (same_kind (kind_of_literal l) Kind.Int ≡ true)) (kinds_required Kind.Int Kind.Int t (literal l) (at_stage fs cs)) (folded_binary op t (literal l))
        (kinds_decided Kind.Int Kind.Int k (kind_of_literal l) t (literal l) known refl) (shift_holds op t k l is plain known number)

    -- ---- an element of a list

    element_holds : (u : PureTerm) (ts : PureTerms) (i : ℤ) → IsPlain b (list_of ts) → not (int_lt i (pos 0)) ≡ true → int_lt i (pos (length (to_list ts))) ≡ true → IsPlain wide (term_or u (element_term ts i))
    element_holds u ts (pos k) plain start end =
        let (w, found) = found_at (to_list ts) k (ltb-true k (length (to_list ts)) end) in
        subst (λ o. IsPlain wide (term_or u o)) (sym found) (plain_wider b wide (omega arith) w (plain_element b ts k w plain found))
    element_holds u ts (negsuc k) plain start end = absurd (true≢false (sym start))

    element_of : (ts : PureTerms) (i : ℤ) (R : Type 0) (st : PureStage) → IsPlain b (list_of ts) → StageIs R st → IsSureFrom (IsPlain wide) (finished (required out_of_range (end_check (list_of ts) (literal (Literal.Int i))) (required out_of_range (start_check (literal (Literal.Int i))) st)) (folded_binary BinOp.Nth (list_of ts) (literal (Literal.Int i))))
    element_of ts i R st plain is =
        sure_at (IsPlain wide) ((R × (not (int_lt i (pos 0)) ≡ true)) × (int_lt i (pos (length (to_list ts))) ≡ true)) _ (folded_binary BinOp.Nth (list_of ts) (literal (Literal.Int i)))
        (stage_decided out_of_range (int_lt i (pos (length (to_list ts)))) _ (R × (not (int_lt i (pos 0)) ≡ true)) (stage_decided out_of_range (not (int_lt i (pos 0))) st R is))
        (λ passed. element_holds (binary_of BinOp.Nth (list_of ts) (literal (Literal.Int i))) ts i plain passed.0.1 passed.1)

    abbrev element_stage : PureTerm → Literal → PureStage
    element_stage t l = binary_required BinOp.Nth t (literal l) (at_stage fs cs)

    element_by : (t : PureTerm) (k : Kind) (l : Literal) → IsPlain b t → known_kind t ≡ Some k → StageIs ((same_kind k Kind.List ≡ true) × (same_kind (kind_of_literal l) Kind.Int ≡ true)) (kinds_required Kind.List Kind.Int t (literal l) (at_stage fs cs))
        → IsSureFrom (IsPlain wide) (finished (element_stage t l) (folded_binary BinOp.Nth t (literal l)))
    element_by t k l plain known (inl (same, kinds)) =
        let (ts, is_list) = list_form t k plain.0 known kinds.0 in
        let (n, form) = number_form l kinds.1 in
        subst (λ u. IsSureFrom (IsPlain wide) (finished (element_stage u l) (folded_binary BinOp.Nth u (literal l)))) (sym is_list)
        (subst (λ m. IsSureFrom (IsPlain wide) (finished (element_stage (list_of ts) m) (folded_binary BinOp.Nth (list_of ts) (literal m)))) (sym form)
        (element_of ts n (Unit {0}) (kinds_required Kind.List Kind.Int (list_of ts) (literal (Literal.Int n)) (at_stage fs cs)) (subst (IsPlain b) is_list plain) (inl (refl, tt))))
    element_by t k l plain known (inr (f, same)) =
        inl (f, ap (λ st. finished st (folded_binary BinOp.Nth t (literal l))) (fault_stays out_of_range f (end_check t (literal l)) _ (fault_stays out_of_range f (start_check (literal l)) _ same)))

    element_sure : (t : PureTerm) (l : Literal) → IsPlain b t → IsSureFrom (IsPlain wide) (finished (element_stage t l) (folded_binary BinOp.Nth t (literal l)))
    element_sure t l plain =
        let (k, known) = plain_kind t plain.0 in
        element_by t k l plain known (kinds_decided Kind.List Kind.Int k (kind_of_literal l) t (literal l) known refl)

    -- ---- expressions

    literal_spelled : (w : PureValue) → is_spellable w ≡ true → is_text_number w ≡ true → (l : Literal) × ((spelled w ≡ Some l) × IsTextLiteral l)
    literal_spelled (integer n) spells number = (Literal.Int n, (refl, number))
    literal_spelled (boolean x) spells number = (Literal.Bool x, (refl, refl))
    literal_spelled (text t) spells number = (Literal.Str t, (refl, refl))
    literal_spelled (kind k) spells number = (Literal.Kind k, (refl, refl))
    literal_spelled (procedure p) spells number = (Literal.Proc p, (refl, refl))
    literal_spelled (symbol n) spells number = absurd (true≢false (sym spells))
    literal_spelled (list ws) spells number = absurd (true≢false (sym spells))

    abbrev IsText : PureTerm → Type 0
    IsText u = (l : Literal) × ((u ≡ literal l) × IsTextLiteral l)

    text_of : (w : PureValue) → is_spellable w ≡ true → is_text_number w ≡ true → (u : PureTerm) → literal_term (spelled w) ≡ Some u → IsText u
    text_of w spells number u is =
        let (l, (spelled_is, within)) = literal_spelled w spells number in
        (l, (same_some (sym is ∙ ap literal_term spelled_is), within))

    text_plain : (u : PureTerm) → IsText u → IsPlain wide u
    text_plain u (l, (form, within)) = subst (IsPlain wide) (sym form) (plain_wider text_bound wide (omega arith) (literal l) (refl, within))

    module _ (bs : PureStore) (plain : IsPlainStore b bs) where
      abbrev pair_of : BinOp → List ℕ → PureValue → PureCases PureTerm
      pair_of op x w = cases_after bs fs cs (binary_expr op (name x) (value_literal w))

      pair_sure : (op : BinOp) (x : List ℕ) (w : PureValue) → is_spellable w ≡ true → is_text_number w ≡ true
          → ((t : PureTerm) (l : Literal) → IsPlain b t → IsTextLiteral l → IsSureFrom (IsPlain wide) (finished (binary_required op t (literal l) (at_stage fs cs)) (folded_binary op t (literal l))))
          → IsSureFrom (IsPlain wide) (pair_of op x w)
      pair_sure op x w spells number sure =
          sure_followed (IsPlain b) (IsPlain wide) (given_or unset_variable fs cs (term_at bs x)) _ (sure_given (IsPlain b) unset_variable (term_at bs x) (plain x))
          (λ t plain_t. sure_followed IsText (IsPlain wide) (given_or unset_variable fs cs (literal_term (spelled w))) _ (sure_given IsText unset_variable (literal_term (spelled w)) (text_of w spells number))
          (λ u (l, (form, within)). subst (λ v. IsSureFrom (IsPlain wide) (finished (binary_required op t v (at_stage fs cs)) (folded_binary op t v))) (sym form) (sure t l plain_t within)))

      shift_of_pair : (op : BinOp) (x : List ℕ) (w : PureValue) → (op ≡ BinOp.Add) ⊎ (op ≡ BinOp.Subtract) → is_spellable w ≡ true → is_text_number w ≡ true → IsSureFrom (IsPlain wide) (pair_of op x w)
      shift_of_pair op x w (inl e) spells number = subst (λ o. IsSureFrom (IsPlain wide) (pair_of o x w)) (sym e) (pair_sure BinOp.Add x w spells number (λ t l. shift_sure_at BinOp.Add t l refl))
      shift_of_pair op x w (inr e) spells number = subst (λ o. IsSureFrom (IsPlain wide) (pair_of o x w)) (sym e) (pair_sure BinOp.Subtract x w spells number (λ t l. shift_sure_at BinOp.Subtract t l refl))

      abbrev Spells : PureExpr → Type 0
      Spells e = list_all is_spellable (literals_of e) ≡ true

      abbrev HasNumbers : PureExpr → Type 0
      HasNumbers e = has_text_numbers e ≡ true

      value_sure : (w : PureValue) → is_spellable w ≡ true → is_text_number w ≡ true → IsSureFrom (IsPlain wide) (cases_after bs fs cs (value_literal w))
      value_sure w spells number = sure_given (IsPlain wide) unset_variable (literal_term (spelled w)) (λ u is. text_plain u (text_of w spells number u is))

      name_sure : (x : List ℕ) → IsSureFrom (IsPlain wide) (given_or unset_variable fs cs (term_at bs x))
      name_sure x = sure_given (IsPlain wide) unset_variable (term_at bs x) (λ t is. plain_wider b wide (omega arith) t (plain x t is))

      alone : (test : PureValue → Bool) (w : PureValue) → list_all test (w ∷ []) ≡ true → test w ≡ true
      alone test w is = (and_parts (test w) true is).0

      mutual
        plain_sure : (e : PureExpr) → is_plain_value e ≡ true → Spells e → HasNumbers e → IsSureFrom (IsPlain wide) (cases_after bs fs cs e)
        plain_sure (value_literal w) simple spells numbers = value_sure w (alone is_spellable w spells) (alone is_text_number w numbers)
        plain_sure (name x) simple spells numbers = name_sure x
        plain_sure (logical x) simple spells numbers = absurd (true≢false (sym simple))
        plain_sure (list_expr es) simple spells numbers =
            sure_followed (λ ts. IsPlain wide (list_of (from_list ts))) (IsPlain wide) (all_cases_after bs fs cs es) _ (all_plain_sure es simple spells numbers) (λ ts holds. inr (list_of (from_list ts), (refl, holds)))
        plain_sure (unary_expr op e) simple spells numbers = absurd (true≢false (sym simple))
        plain_sure (binary_expr op d e) simple spells numbers = pair_form_sure op d e simple spells numbers

        all_plain_sure : (es : PureExprs) → are_plain_values es ≡ true → list_all is_spellable (flat_map own_literals (subexpressions_of_all es)) ≡ true → list_all is_text_number (flat_map own_literals (subexpressions_of_all es)) ≡ true → IsSureFrom (λ ts. IsPlain wide (list_of (from_list ts))) (all_cases_after bs fs cs es)
        all_plain_sure no_exprs simple spells numbers = inr ([], (refl, (refl, refl)))
        all_plain_sure (expr_and e es) simple spells numbers =
            let (first, rest) = and_parts (is_plain_value e) (are_plain_values es) simple in
            let (spells_e, spells_es) = literal_parts is_spellable (subexpressions e) (subexpressions_of_all es) spells in
            let (numbers_e, numbers_es) = literal_parts is_text_number (subexpressions e) (subexpressions_of_all es) numbers in
            sure_followed (IsPlain wide) (λ ts. IsPlain wide (list_of (from_list ts))) (cases_after bs fs cs e) _ (plain_sure e first spells_e numbers_e)
            (λ t plain_t. sure_followed (λ ts. IsPlain wide (list_of (from_list ts))) (λ ts. IsPlain wide (list_of (from_list ts))) (all_cases_after bs fs cs es) _ (all_plain_sure es rest spells_es numbers_es)
            (λ ts plain_ts. inr (t ∷ ts, (refl, plain_list wide t (from_list ts) plain_t plain_ts))))

        pair_form_sure : (op : BinOp) (d e : PureExpr) → is_text_shift op d e ≡ true → Spells (binary_expr op d e) → HasNumbers (binary_expr op d e) → IsSureFrom (IsPlain wide) (cases_after bs fs cs (binary_expr op d e))
        pair_form_sure op (name x) (value_literal w) simple spells numbers = shift_of_pair op x w (text_shift_cases op simple) (alone is_spellable w spells) (alone is_text_number w numbers)
        pair_form_sure op (name x) (name y) simple spells numbers = absurd (true≢false (sym simple))
        pair_form_sure op (name x) (logical y) simple spells numbers = absurd (true≢false (sym simple))
        pair_form_sure op (name x) (list_expr es) simple spells numbers = absurd (true≢false (sym simple))
        pair_form_sure op (name x) (unary_expr o e) simple spells numbers = absurd (true≢false (sym simple))
        pair_form_sure op (name x) (binary_expr o d e) simple spells numbers = absurd (true≢false (sym simple))
        pair_form_sure op (value_literal v) e simple spells numbers = absurd (true≢false (sym simple))
        pair_form_sure op (logical x) e simple spells numbers = absurd (true≢false (sym simple))
        pair_form_sure op (list_expr es) e simple spells numbers = absurd (true≢false (sym simple))
        pair_form_sure op (unary_expr o d) e simple spells numbers = absurd (true≢false (sym simple))
        pair_form_sure op (binary_expr o c d) e simple spells numbers = absurd (true≢false (sym simple))

      element_form_sure : (d e : PureExpr) → is_element_at BinOp.Nth d e ≡ true → Spells (binary_expr BinOp.Nth d e) → HasNumbers (binary_expr BinOp.Nth d e) → IsSureFrom (IsPlain wide) (cases_after bs fs cs (binary_expr BinOp.Nth d e))
      element_form_sure (name x) (value_literal w) simple spells numbers = pair_sure BinOp.Nth x w (alone is_spellable w spells) (alone is_text_number w numbers) (λ t l plain_t number. element_sure t l plain_t)
      element_form_sure (name x) (name y) simple spells numbers = absurd (true≢false (sym simple))
      element_form_sure (name x) (logical y) simple spells numbers = absurd (true≢false (sym simple))
      element_form_sure (name x) (list_expr es) simple spells numbers = absurd (true≢false (sym simple))
      element_form_sure (name x) (unary_expr o e) simple spells numbers = absurd (true≢false (sym simple))
      element_form_sure (name x) (binary_expr o d e) simple spells numbers = absurd (true≢false (sym simple))
      element_form_sure (value_literal v) e simple spells numbers = absurd (true≢false (sym simple))
      element_form_sure (logical x) e simple spells numbers = absurd (true≢false (sym simple))
      element_form_sure (list_expr es) e simple spells numbers = absurd (true≢false (sym simple))
      element_form_sure (unary_expr o d) e simple spells numbers = absurd (true≢false (sym simple))
      element_form_sure (binary_expr o c d) e simple spells numbers = absurd (true≢false (sym simple))

      pub simple_sure : (e : PureExpr) → is_simple_value e ≡ true → Spells e → HasNumbers e → IsSureFrom (IsPlain wide) (cases_after bs fs cs e)
      simple_sure (value_literal w) simple spells numbers = plain_sure (value_literal w) simple spells numbers
      simple_sure (name x) simple spells numbers = plain_sure (name x) simple spells numbers
      simple_sure (logical x) simple spells numbers = plain_sure (logical x) simple spells numbers
      simple_sure (list_expr es) simple spells numbers = plain_sure (list_expr es) simple spells numbers
      simple_sure (unary_expr op e) simple spells numbers = plain_sure (unary_expr op e) simple spells numbers
      simple_sure (binary_expr BinOp.Nth d e) simple spells numbers = element_form_sure d e simple spells numbers
      simple_sure (binary_expr BinOp.Add d e) simple spells numbers = pair_form_sure BinOp.Add d e simple spells numbers
      simple_sure (binary_expr BinOp.Subtract d e) simple spells numbers = pair_form_sure BinOp.Subtract d e simple spells numbers
      simple_sure (binary_expr BinOp.Multiply d e) simple spells numbers = pair_form_sure BinOp.Multiply d e simple spells numbers
      simple_sure (binary_expr BinOp.Divide d e) simple spells numbers = pair_form_sure BinOp.Divide d e simple spells numbers
      simple_sure (binary_expr BinOp.Remainder d e) simple spells numbers = pair_form_sure BinOp.Remainder d e simple spells numbers
      simple_sure (binary_expr BinOp.Equal d e) simple spells numbers = pair_form_sure BinOp.Equal d e simple spells numbers
      simple_sure (binary_expr BinOp.Less d e) simple spells numbers = pair_form_sure BinOp.Less d e simple spells numbers
      simple_sure (binary_expr BinOp.LessOrEqual d e) simple spells numbers = pair_form_sure BinOp.LessOrEqual d e simple spells numbers
      simple_sure (binary_expr BinOp.And d e) simple spells numbers = pair_form_sure BinOp.And d e simple spells numbers
      simple_sure (binary_expr BinOp.Or d e) simple spells numbers = pair_form_sure BinOp.Or d e simple spells numbers
      simple_sure (binary_expr BinOp.Append d e) simple spells numbers = pair_form_sure BinOp.Append d e simple spells numbers

      pub all_simple_sure : (es : List PureExpr) → list_all is_simple_value es ≡ true → list_all (λ e. list_all is_spellable (literals_of e)) es ≡ true → list_all has_text_numbers es ≡ true → IsSureFrom (Each (IsPlain wide)) (all_cases_after bs fs cs (exprs_from es))
      all_simple_sure [] simple spells numbers = inr ([], (refl, tt))
      all_simple_sure (e ∷ es) simple spells numbers =
          let (first, rest) = and_parts (is_simple_value e) (list_all is_simple_value es) simple in
          let (spells_e, spells_es) = and_parts (list_all is_spellable (literals_of e)) (list_all (λ d. list_all is_spellable (literals_of d)) es) spells in
          let (numbers_e, numbers_es) = and_parts (has_text_numbers e) (list_all has_text_numbers es) numbers in
          sure_followed (IsPlain wide) (Each (IsPlain wide)) (cases_after bs fs cs e) _ (simple_sure e first spells_e numbers_e)
          (λ t plain_t. sure_followed (Each (IsPlain wide)) (Each (IsPlain wide)) (all_cases_after bs fs cs (exprs_from es)) _ (all_simple_sure es rest spells_es numbers_es)
          (λ ts plain_ts. inr (t ∷ ts, (refl, (plain_t, plain_ts)))))

-- from nothing
pub answers_plainly : (bs : PureStore) (e : PureExpr) → list_all is_spellable (literals_of e) ≡ true → AnswersPlainly bs e (cases_after bs [] [] e)
answers_plainly bs e spells b small plain simple numbers = simple_sure [] [] b small bs plain e simple spells numbers

pub all_answer_plainly : (bs : PureStore) (es : List PureExpr) → list_all (λ e. list_all is_spellable (literals_of e)) es ≡ true → AllAnswerPlainly bs es (all_cases_after bs [] [] (exprs_from es))
all_answer_plainly bs es spells b small plain simple numbers = all_simple_sure [] [] b small bs plain es simple spells numbers
