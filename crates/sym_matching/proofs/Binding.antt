-- What comes of giving a name a term.
use Rattle.std.proofs.Common.{◌≡◌, ℕ, List, Bool, true, false, ◌&&◌, if◌then◌else◌, Option, Some, None, refl, sym, subst, ◌∙◌}
use Rattle.std.specs.Str.{bytes_eq}
use Rattle.gil_values.specs.Pure.{PureValue}
use Rattle.gil_syntax.specs.declared.assertions.Param.{Param}
use Rattle.gil_syntax.specs.Evaluation.{Store, bind, value_of}
use Rattle.gil_syntax.specs.Valid.{is_among, param_names}
use Rattle.assert_logic.specs.Matching.{agrees_with}
use Rattle.assert_logic.specs.Sorts.{fits_sorts}
use Rattle.pure_terms.specs.declared.variables.Sort.{Sort}
use Rattle.pure_terms.specs.Meaning.{value, IsProper, IsOver}
use Rattle.pure_terms.specs.Pure.{PureTerm}
use Rattle.sym_model.specs.Alternatives.{always}
use Rattle.sym_evaluation.specs.Meaning.{AreSame, StandsFor, IsStoreOver}
use Rattle.sym_evaluation.specs.Plainly.{IsPlain, IsPlainStore}
use Rattle.sym_evaluation.specs.Pure.{PureStore, term_at}
use Rattle.sym_model.proofs.ListLaws.{same_some}
use Rattle.sym_matching.specs.Meaning.{SaysTest, IsTestOver, SaysSplit}
use Rattle.sym_matching.specs.Origins.{TestComesFrom, AsksSorts, AddsOnlyTo}
use Rattle.sym_matching.specs.Parts.{IsTestOf, ByTerm, IsThis, GivesTerm, BindsTerm, bound_where}
use Rattle.sym_matching.specs.Pure.{PureTest}
use Rattle.sym_matching.specs.Splitting.{also, out_test, nothing, where_met}
use Rattle.sym_matching.proofs.Conditions.{also_says, also_over, passed_says, passed_over}
use Rattle.sym_matching.proofs.Deciding.{plain_guard, never_decided, met_decided}
use Rattle.sym_matching.proofs.OriginLaws.{never_from, gives_from, bound_term_from}
use Rattle.sym_matching.proofs.SplitLaws.{never_says, met_says, never_over, met_over}
use Rattle.sym_matching.proofs.TestLaws.{equal_says, equal_over}

-- the store in which the name has the term
abbrev pub IsGiven : List ℕ → PureTerm → PureStore → PureStore → Type 0
IsGiven x t bs cs = (y : List ℕ) → term_at cs y ≡ (if bytes_eq x y then Some t else term_at bs y)

module _ (x : List ℕ) (t : PureTerm) (bs cs : PureStore) (is : IsGiven x t bs cs) where
  same_if : (v : List PureValue) (b : Bool) (w : PureValue) (o : Option PureTerm) (p : Option PureValue) → value v t ≡ Some w → AreSame v o p → AreSame v (if b then Some t else o) (if b then Some w else p)
  same_if v true w o p has same = has
  same_if v false w o p has same = same

  pub given_stands : (v : List PureValue) (s : Store) (w : PureValue) → value v t ≡ Some w → StandsFor v bs s → StandsFor v cs (bind x w s)
  given_stands v s w has stands y =
      subst (λ (o : Option PureTerm). AreSame v o (if bytes_eq x y then Some w else value_of s y)) (sym (is y)) (same_if v (bytes_eq x y) w (term_at bs y) (value_of s y) has (stands y))

  over_if : (vars : List Sort) (b : Bool) (o : Option PureTerm) (u : PureTerm) → IsOver vars t → ((r : PureTerm) → o ≡ Some r → IsOver vars r) → (if b then Some t else o) ≡ Some u → IsOver vars u
  over_if vars true o u over others at = subst (IsOver vars) (same_some at) over
  over_if vars false o u over others at = others u at

  plain_if : (b : ℕ) (c : Bool) (o : Option PureTerm) (u : PureTerm) → IsPlain b t → ((r : PureTerm) → o ≡ Some r → IsPlain b r) → (if c then Some t else o) ≡ Some u → IsPlain b u
  plain_if b true o u plain others at = subst (IsPlain b) (same_some at) plain
  plain_if b false o u plain others at = others u at

  pub given_plain : (b : ℕ) → IsPlain b t → IsPlainStore b bs → IsPlainStore b cs
  given_plain b plain others y u at = plain_if b (bytes_eq x y) (term_at bs y) u plain (λ r there. others y r there) (sym (is y) ∙ at)

  pub given_over : (vars : List Sort) → IsOver vars t → IsStoreOver vars bs → IsStoreOver vars cs
  given_over vars over others y u at = over_if vars (bytes_eq x y) (term_at bs y) u over (λ r there. others y r there) (sym (is y) ∙ at)

-- a name that may become known
module _ (scope : List Param) (x : List ℕ) (t : PureTerm) (bs : PureStore) where
  pub undeclared : is_among (param_names scope) x ≡ false → GivesTerm scope x t bs (nothing always)
  undeclared none = record {
    gives = record {
      says = λ vars v s w serves over has. subst (λ b. SaysSplit v (StandsFor v) (nothing always) (if b && fits_sorts scope x w then Some (bind x w s) else None)) (sym none) (never_says v (StandsFor v));
      over = λ vars store over. never_over vars (IsStoreOver vars);
    };
    plain = λ b store plain. never_decided (IsPlainStore b) b;
    from = never_from (AsksSorts scope x t) (AddsOnlyTo (IsThis x t) bs);
  }

  pub gives_term : (cs : PureStore) (test : PureTest) → is_among (param_names scope) x ≡ true → IsTestOf (fits_sorts scope x) t test → TestComesFrom (AsksSorts scope x t) test → IsGiven x t bs cs
      → GivesTerm scope x t bs (where_met test cs)
  gives_term cs test declared tests from is = record {
    gives = record {
      says = λ vars v s w serves over has.
          subst (λ b. SaysSplit v (StandsFor v) (where_met test cs) (if b && fits_sorts scope x w then Some (bind x w s) else None)) (sym declared)
          (met_says v (StandsFor v) test (fits_sorts scope x w) cs (bind x w s) (tests.says vars v w serves.proper over has) (given_stands x t bs cs is v s w has serves.stands));
      over = λ vars store over. met_over vars (IsStoreOver vars) test cs (tests.over vars over) (given_over x t bs cs is vars over store);
    };
    plain = λ b store plain. met_decided (IsPlainStore b) b test cs (tests.decided b (plain_guard b t plain)) (given_plain x t bs cs is b plain store);
    from = gives_from scope x t bs cs test from is;
  }

-- ---- a parameter that may have a term

pub out_says : (vars : List Sort) (v : List PureValue) (k : Option PureTerm) (o : Option PureValue) (t : PureTerm) (w : PureValue) → IsProper vars v → ((r : PureTerm) → k ≡ Some r → IsOver vars r) → IsOver vars t
    → AreSame v k o → value v t ≡ Some w → SaysTest v (out_test k t) (agrees_with o w)
out_says vars v None None t w proper known over same has = passed_says v
out_says vars v None (Some u) t w proper known over same has = absurd same
out_says vars v (Some r) None t w proper known over same has = absurd same
out_says vars v (Some r) (Some u) t w proper known over same has =
    equal_says vars v r t u w (record { proper = proper; first_over = known r refl; second_over = over; first = same; second = has })

pub out_over : (vars : List Sort) (k : Option PureTerm) (t : PureTerm) → ((r : PureTerm) → k ≡ Some r → IsOver vars r) → IsOver vars t → IsTestOver vars (out_test k t)
out_over vars None t known over = passed_over vars
out_over vars (Some r) t known over = equal_over vars r t (known r refl) over

binds_value : (sorts : List Param) (x : List ℕ) (t : PureTerm) (bs cs : PureStore) (fits test : PureTest) → IsTestOf (fits_sorts sorts x) t fits → test ≡ also fits (out_test (term_at bs x) t) → IsGiven x t bs cs
    → ByTerm t (bound_where sorts x) bs (where_met test cs)
binds_value sorts x t bs cs fits test tests is_test is = record {
  says = λ vars v s w serves over has.
      met_says v (StandsFor v) test (fits_sorts sorts x w && agrees_with (value_of s x) w) cs (bind x w s)
      (subst (λ c. SaysTest v c (fits_sorts sorts x w && agrees_with (value_of s x) w)) (sym is_test)
      (also_says v fits (out_test (term_at bs x) t) (fits_sorts sorts x w) (agrees_with (value_of s x) w) (tests.says vars v w serves.proper over has)
      (out_says vars v (term_at bs x) (value_of s x) t w serves.proper (serves.over x) over (serves.stands x) has)))
      (given_stands x t bs cs is v s w has serves.stands);
  over = λ vars store over.
      met_over vars (IsStoreOver vars) test cs (subst (IsTestOver vars) (sym is_test) (also_over vars fits (out_test (term_at bs x) t) (tests.over vars over) (out_over vars (term_at bs x) t (store x) over)))
      (given_over x t bs cs is vars over store);
}

pub binds_term : (sorts : List Param) (x : List ℕ) (t : PureTerm) (bs cs : PureStore) (fits test : PureTest) → IsTestOf (fits_sorts sorts x) t fits → TestComesFrom (AsksSorts sorts x t) fits
    → test ≡ also fits (out_test (term_at bs x) t) → IsGiven x t bs cs → BindsTerm sorts x t bs (where_met test cs)
binds_term sorts x t bs cs fits test tests from is_test is = (binds_value sorts x t bs cs fits test tests is_test is, bound_term_from sorts x t bs cs fits test from is_test is)
