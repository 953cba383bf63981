-- The arguments of a use, from the cases of its ins and outs.
use Rattle.std.proofs.Common.{◌≡◌, ℕ, suc, ◌+◌, List, [], ◌∷◌, ◌++◌, length, true, Option, Some, None, IsTrue, refl, sym, ap, subst, ◌∙◌, true≢false}
use Rattle.std.specs.List.{list_all}
use Rattle.std.specs.Option.{option_map, option_and_then}
use Rattle.std.proofs.lemmas.Bool.{and_parts}
use Rattle.std.proofs.lemmas.List.Folds.{list_all-append}
use Rattle.gil_syntax.specs.Evaluation.{evaluate_all}
use Rattle.gil_syntax.specs.Pure.{PureExpr, literal, name, logical, list_of, unary_of, binary_of, PurePredUse, from_list as exprs_from}
use Rattle.gil_syntax.specs.Simple.{is_literal as is_literal_expr}
use Rattle.gil_syntax.specs.Subexpressions.{literals_of}
use Rattle.gil_syntax.specs.WellMade.{is_spellable}
use Rattle.mem_model.specs.declared.cores.Core.{Core}
use Rattle.mem_model.specs.declared.keys.MemoryName.{MemoryName}
use Rattle.mem_model.specs.CoreNames.{core_of}
use Rattle.pure_terms.specs.declared.literals.Literal.{Literal}
use Rattle.pure_terms.specs.declared.variables.Sort.{Sort}
use Rattle.pure_terms.specs.Meaning.{IsOver}
use Rattle.pure_terms.specs.Pure.{PureTerm, term_of}
use Rattle.sym_evaluation.specs.Evaluating.{spelled, literal_term}
use Rattle.sym_evaluation.specs.Meaning.{HaveValues, AreCasesOfAll, IsStoreOver}
use Rattle.sym_evaluation.specs.Plainly.{IsPlain, text_bound}
use Rattle.sym_evaluation.specs.Pure.{PureStore, PureGoodCase, PureCases}
use Rattle.sym_evaluation.specs.Questions.{IsAsked, substituted, all_substituted, AreTermsOf, AllComeFrom, NameNoOthers, AreEachOver, OnConditions, OnResult}
use Rattle.sym_model.specs.Cores.{TakesBoth}
use Rattle.sym_model.specs.Lists.{Each}
use Rattle.sym_model.specs.Terms.{is_literal}
use Rattle.sym_model.proofs.ListLaws.{same_some, not_none, each_append, each_to, one_left, one_right}
use Rattle.sym_states.specs.Producing.{are_spelled, FitsCore, IsAskedAmong, AreArguments, HaveNoValues, AreArgumentsIfAny, arguments_of}
use Rattle.sym_states.specs.Pure.{PureArguments}
use Rattle.sym_states.proofs.Conditions.{met_parts, met_both}
use Rattle.sym_states.proofs.Plainness.{ArgumentsAskPlainly, number_parts}
use Rattle.sym_states.proofs.Values.{good_if_ok, ok_if_good, no_value}

-- as many terms as expressions
pub terms_count : (bs : PureStore) (es : List PureExpr) (ts : List PureTerm) → AreTermsOf bs es ts → length ts ≡ length es
terms_count bs [] ts is = ap length (sym (same_some is))
terms_count bs (e ∷ es) ts is = by (λ us are. terms_count bs es us are) (substituted bs e) (all_substituted bs (exprs_from es)) refl is
  where
    by : ((us : List PureTerm) → AreTermsOf bs es us → length us ≡ length es) → (o : Option PureTerm) (p : Option (List PureTerm)) → all_substituted bs (exprs_from es) ≡ p
        → option_and_then (λ t. option_map (λ us. t ∷ us) p) o ≡ Some ts → length ts ≡ length (e ∷ es)
    by count None p are found = not_none found
    by count (Some t) None are found = not_none found
    by count (Some t) (Some us) are found = ap length (sym (same_some found)) ∙ ap suc (count us are)

-- the core predicate may be asked of the memory with these arguments
pub takes_both : (memory : MemoryName) (bs : PureStore) (u : PurePredUse) (core : Core) (a : PureArguments) → core_of u.pred ≡ Some core → FitsCore memory (core_of u.pred) u → AreArguments bs u a
    → TakesBoth memory u.pred a.ins a.outs
takes_both memory bs u core a named fits are =
    let fit : FitsCore memory (Some core) u = subst (λ (o : Option Core). FitsCore memory o u) named fits in
    record {
      core = core;
      of_memory = record { named = named; has = fit.0 };
      ins_number = terms_count bs u.ins a.ins are.ins_terms ∙ fit.1;
      outs_number = terms_count bs u.outs a.outs are.outs_terms ∙ fit.2;
    }

-- a text may spell the literals of ins and of outs
pub spelled_parts : (u : PurePredUse) → IsTrue (are_spelled (u.ins ++ u.outs)) → IsTrue (are_spelled u.ins) × IsTrue (are_spelled u.outs)
spelled_parts u spelled = and_parts (are_spelled u.ins) (are_spelled u.outs) (sym (list_all-append (λ e. list_all is_spellable (literals_of e)) u.ins u.outs) ∙ spelled)

-- what evaluation promises of the cases of a list of expressions
pub record AreRight (bs : PureStore) (es : List PureExpr) (cases : PureCases (List PureTerm)) : Type 0 where
  pub says : AreCasesOfAll bs es cases
  pub from : AllComeFrom bs es cases
  pub names : NameNoOthers AreEachOver bs cases
  pub plainly : ArgumentsAskPlainly bs es cases

-- the terms of literals are literals
literal_spelled : (l : Option Literal) (t : PureTerm) → literal_term l ≡ Some t → is_literal t ≡ true
literal_spelled None t is = not_none is
literal_spelled (Some l) t is = ap is_literal (sym (same_some is))

literal_of : (bs : PureStore) (e : PureExpr) (t : PureTerm) → is_literal_expr e ≡ true → substituted bs e ≡ Some t → is_literal t ≡ true
literal_of bs (literal v) t lit is = literal_spelled (spelled v) t is
literal_of bs (name x) t lit is = absurd (true≢false (sym lit))
literal_of bs (logical x) t lit is = absurd (true≢false (sym lit))
literal_of bs (list_of es) t lit is = absurd (true≢false (sym lit))
literal_of bs (unary_of op e) t lit is = absurd (true≢false (sym lit))
literal_of bs (binary_of op d e) t lit is = absurd (true≢false (sym lit))

literal_terms : (bs : PureStore) (es : List PureExpr) (ts : List PureTerm) → IsTrue (list_all is_literal_expr es) → AreTermsOf bs es ts → Each (λ t. IsTrue (is_literal t)) ts
literal_terms bs [] ts all are = subst (Each (λ t. IsTrue (is_literal t))) (same_some are) tt
literal_terms bs (e ∷ es) ts all are = by (λ us is. literal_terms bs es us parts.1 is) (substituted bs e) (all_substituted bs (exprs_from es)) refl refl are
  where
    parts : (is_literal_expr e ≡ true) × (list_all is_literal_expr es ≡ true)
    parts = and_parts (is_literal_expr e) (list_all is_literal_expr es) all

    by : ((us : List PureTerm) → AreTermsOf bs es us → Each (λ t. IsTrue (is_literal t)) us) → (o : Option PureTerm) (p : Option (List PureTerm)) → substituted bs e ≡ o → all_substituted bs (exprs_from es) ≡ p
        → option_and_then (λ t. option_map (λ us. t ∷ us) p) o ≡ Some ts → Each (λ t. IsTrue (is_literal t)) ts
    by rest None p is_o is_p found = not_none found
    by rest (Some t) None is_o is_p found = not_none found
    by rest (Some t) (Some us) is_o is_p found = subst (Each (λ t. IsTrue (is_literal t))) (same_some found) (literal_of bs e t parts.0 is_o, rest us is_p)

module _ (bs : PureStore) (u : PurePredUse) (first second : PureCases (List PureTerm)) (right_ins : AreRight bs u.ins first) (right_outs : AreRight bs u.outs second) where
  pub no_ins : first.good ≡ None → HaveNoValues bs u
  no_ins none vars v t ws us serves ins outs = no_value v (HaveValues v) (evaluate_all u.ins t) first ws none ins (right_ins.says vars v t serves)

  pub no_outs : second.good ≡ None → HaveNoValues bs u
  no_outs none vars v t ws us serves ins outs = no_value v (HaveValues v) (evaluate_all u.outs t) second us none outs (right_outs.says vars v t serves)

  module _ (g h : PureGoodCase (List PureTerm)) (is_g : first.good ≡ Some g) (is_h : second.good ≡ Some h) where
    asked_by : (es : List PureExpr) (cases : PureCases (List PureTerm)) (k : PureGoodCase (List PureTerm)) → cases.good ≡ Some k → AreRight bs es cases → Each (IsAskedAmong bs es) k.conds
    asked_by es cases k is right = subst (λ (o : Option (PureGoodCase (List PureTerm))). OnConditions (IsAskedAmong bs es) o) is right.from.0.1

    terms_by : (es : List PureExpr) (cases : PureCases (List PureTerm)) (k : PureGoodCase (List PureTerm)) → cases.good ≡ Some k → AreRight bs es cases → AreTermsOf bs es k.result
    terms_by es cases k is right = subst (λ (o : Option (PureGoodCase (List PureTerm))). OnResult (AreTermsOf bs es) o) is right.from.1

    conds_over : (vars : List Sort) (es : List PureExpr) (cases : PureCases (List PureTerm)) (k : PureGoodCase (List PureTerm)) → cases.good ≡ Some k → AreRight bs es cases → IsStoreOver vars bs → Each (λ c. IsOver vars (term_of c)) k.conds
    conds_over vars es cases k is right over = subst (λ (o : Option (PureGoodCase (List PureTerm))). OnConditions (λ c. IsOver vars (term_of c)) o) is (right.names vars over).0.1

    terms_over : (vars : List Sort) (es : List PureExpr) (cases : PureCases (List PureTerm)) (k : PureGoodCase (List PureTerm)) → cases.good ≡ Some k → AreRight bs es cases → IsStoreOver vars bs → AreEachOver vars k.result
    terms_over vars es cases k is right over = subst (λ (o : Option (PureGoodCase (List PureTerm))). OnResult (AreEachOver vars) o) is (right.names vars over).1

    nothing : (cases : PureCases (List PureTerm)) (k : PureGoodCase (List PureTerm)) → cases.good ≡ Some k → OnConditions (λ c. ⊥) cases.good → Each (λ c. ⊥) k.conds
    nothing cases k is none = subst (λ (o : Option (PureGoodCase (List PureTerm))). OnConditions (λ c. ⊥) o) is none

    all_plain : (b : ℕ) (cases : PureCases (List PureTerm)) (k : PureGoodCase (List PureTerm)) → cases.good ≡ Some k → OnResult (Each (IsPlain b)) cases.good → Each (IsPlain b) k.result
    all_plain b cases k is all = subst (λ (o : Option (PureGoodCase (List PureTerm))). OnResult (Each (IsPlain b)) o) is all

    pub are_arguments : AreArguments bs u (record { conds = g.conds ++ h.conds; ins = g.result; outs = h.result })
    are_arguments = record {
      have = λ vars v t ws us serves ins outs.
          let x = good_if_ok v (HaveValues v) (evaluate_all u.ins t) first g ws is_g ins (right_ins.says vars v t serves) in
          let y = good_if_ok v (HaveValues v) (evaluate_all u.outs t) second h us is_h outs (right_outs.says vars v t serves) in
          (met_both v g.conds h.conds x.0 y.0, x.1, y.1);
      are = λ vars v t serves met.
          let parts = met_parts v g.conds h.conds met in
          let (ws, (ins, have_ins)) = ok_if_good v (HaveValues v) (evaluate_all u.ins t) first g is_g (right_ins.says vars v t serves) parts.0 in
          let (us, (outs, have_outs)) = ok_if_good v (HaveValues v) (evaluate_all u.outs t) second h is_h (right_outs.says vars v t serves) parts.1 in
          (ws, (us, (ins, outs, have_ins, have_outs)));
      ins_terms = terms_by u.ins first g is_g right_ins;
      outs_terms = terms_by u.outs second h is_h right_outs;
      asked = each_append (IsAskedAmong bs (u.ins ++ u.outs)) g.conds h.conds
          (each_to (IsAskedAmong bs u.ins) (IsAskedAmong bs (u.ins ++ u.outs)) g.conds (λ a one. one_left (λ e. IsAsked bs e a) u.ins u.outs one) (asked_by u.ins first g is_g right_ins))
          (each_to (IsAskedAmong bs u.outs) (IsAskedAmong bs (u.ins ++ u.outs)) h.conds (λ a one. one_right (λ e. IsAsked bs e a) u.ins u.outs one) (asked_by u.outs second h is_h right_outs));
      over = λ vars over. (
        each_append (λ c. IsOver vars (term_of c)) g.conds h.conds (conds_over vars u.ins first g is_g right_ins over) (conds_over vars u.outs second h is_h right_outs over),
        terms_over vars u.ins first g is_g right_ins over,
        terms_over vars u.outs second h is_h right_outs over,
      );
      plain = λ vars b over item.
          let numbers = number_parts u item in
          let ins = right_ins.plainly b vars over item.form.ins numbers.0 in
          let outs = right_outs.plainly b vars over item.form.outs numbers.1 in
          record {
            nothing_asked = each_append (λ c. ⊥) g.conds h.conds (nothing first g is_g ins.0.1) (nothing second h is_h outs.0.1);
            plain_ins = all_plain (b + text_bound) first g is_g ins.1;
            plain_outs = all_plain (b + text_bound) second h is_h outs.1;
            literal_bound = λ is. literal_terms bs u.outs h.result (item.form.bound is) (terms_by u.outs second h is_h right_outs);
          };
    }

-- the arguments, where all have terms
pub arguments_if_any : (bs : PureStore) (u : PurePredUse) (first second : PureCases (List PureTerm)) → AreRight bs u.ins first → AreRight bs u.outs second
    → AreArgumentsIfAny bs u (arguments_of first.good second.good)
arguments_if_any bs u first second right_ins right_outs = by first.good second.good refl refl
  where
    by : (o p : Option (PureGoodCase (List PureTerm))) → first.good ≡ o → second.good ≡ p → AreArgumentsIfAny bs u (arguments_of o p)
    by None p none is = no_ins bs u first second right_ins right_outs none
    by (Some g) None is none = no_outs bs u first second right_ins right_outs none
    by (Some g) (Some h) is_g is_h = are_arguments bs u first second right_ins right_outs g h is_g is_h
