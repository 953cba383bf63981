-- What answers of a call by specification say of the checked states from where the called procedure begins, and what that says of the call.
use Rattle.std.proofs.Common.{◌≡◌, ℕ, suc, ◌≤◌, List, [], ◌∷◌, ◌++◌, length, Option, Some, refl, sym, ap, subst, ◌∙◌, arith}
use Rattle.std.specs.Prelude.{⊤}
use Rattle.gil_values.specs.declared.places.Place.{Place}
use Rattle.gil_values.specs.Pure.{PureValue}
use Rattle.gil_values.specs.Symbols.{AreBelow}
use Rattle.gil_syntax.specs.Pure.{PureParts, PureSpec}
use Rattle.gil_machine.specs.Choices.{with_choice}
use Rattle.mem_model.specs.declared.keys.MemoryName.{MemoryName}
use Rattle.mem_model.specs.Actions.{Actions}
use Rattle.mem_model.specs.Heaps.{Heap}
use Rattle.checked_runs.specs.Checked.{Checked, Outcome, goes_on_to, has_fault, Entry, CalledIfFit}
use Rattle.checked_runs.specs.Specifications.{fit_params}
use Rattle.footprint.proofs.Parts.{longer_both}
use Rattle.pure_terms.specs.declared.deciders.Reason.{Reason}
use Rattle.pure_terms.specs.declared.variables.Sort.{Sort}
use Rattle.pure_terms.specs.Fragment.{InFragment}
use Rattle.pure_terms.specs.Meaning.{Satisfies, IsOver}
use Rattle.pure_terms.specs.Pure.{PureAtom, term_of}
use Rattle.sym_model.specs.Lists.{Each}
use Rattle.sym_model.proofs.ListLaws.{each_to}
use Rattle.sym_paths.proofs.Valuations.{below_both, below_higher, below_next}
use Rattle.sym_paths.specs.Steps.{IsFirstOutside, IsPlaceOf, counter_after, counter_past}
use Rattle.checked_paths.specs.Causes.{PureShown, PureCause, failure, fault, bound, undecided, cause_view, fault_of}
use Rattle.checked_paths.specs.Choosing.{LeadsAlong, choice_if_fit}
use Rattle.checked_paths.specs.Exactness.{IsNewValue, AreNewValues, IsContinued, HaveMore, CanBeMet, AreChoices, IsShownAt, IsUndecided, IsUnder, IsFollowed, IsSurely, FailsWith, IsRightCause, IsExactNext, AreExact}
use Rattle.checked_paths.specs.Meaning.{StandsForChecked}
use Rattle.checked_paths.specs.Pure.{PureEntry, PureChecking, PureNext, further, over as done_over, caused}
use Rattle.checked_rows.proofs.StepLaws.{none_below}
use Rattle.call_rows.specs.Arguments.{HasArguments}
use Rattle.call_rows.proofs.FrontLaws.{meets_part}

-- ---- new values

one_below : (sort : Sort) (n : ℕ) (w : PureValue) → IsNewValue n sort w → (n ≤ counter_after sort n) × AreBelow (counter_after sort n) (w ∷ [])
one_below Sort.Fresh n w is = (omega arith, subst (λ u. AreBelow (suc n) (u ∷ [])) (sym is) (below_next n))
one_below sort n w is = (omega arith, is)

-- they are below the counter past them
pub new_below : (n : ℕ) (sorts : List Sort) (ws : List PureValue) → AreNewValues n sorts ws → (n ≤ counter_past sorts n) × AreBelow (counter_past sorts n) ws
new_below n [] [] are = (omega arith, none_below n)
new_below n (sort ∷ sorts) (w ∷ ws) are =
    let (after, first) = one_below sort n w are.0 in
    let (higher, below) = new_below (counter_after sort n) sorts ws are.1 in (
      omega (arith, after, higher),
      below_both (counter_past sorts (counter_after sort n)) (w ∷ []) ws (below_higher (counter_after sort n) (counter_past sorts (counter_after sort n)) (w ∷ []) higher first) below,
    )
new_below n [] (w ∷ ws) are = absurd are
new_below n (sort ∷ sorts) [] are = absurd are

-- those of the first variables, and those of the others
pub record InTwo (xs : List Sort) (ws : List PureValue) : Type 0 where
  pub first : List PureValue
  pub second : List PureValue
  pub both : ws ≡ first ++ second
  pub counted : length first ≡ length xs

pub in_two : (n : ℕ) (xs ys : List Sort) (ws : List PureValue) → AreNewValues n (xs ++ ys) ws → InTwo xs ws
in_two n [] ys ws are = record { first = []; second = ws; both = refl; counted = refl }
in_two n (x ∷ xs) ys (w ∷ ws) are =
    let later = in_two (counter_after x n) xs ys ws are.1 in
    record { first = w ∷ later.first; second = later.second; both = ap (λ us. w ∷ us) later.both; counted = ap suc later.counted }
in_two n (x ∷ xs) ys [] are = absurd are

-- ---- from where the called procedure begins

module _ {S : Type 0} (p : PureParts) (memory : MemoryName) (m : Actions) (stands : S → List PureValue → Heap → Type 0) (e : PureEntry) (used : PureSpec) (y : PureChecking S) (here : Place) where
  -- under v the path stands for the state where the procedure begins, and w continues v and meets these conditions
  pub record IsUnderCall (vars : List Sort) (conds : List PureAtom) (v w : List PureValue) (entry : Entry) (d : Checked) (args : List PureValue) : Type 0 where
    pub standing : StandsForChecked stands e y v entry d
    pub arguments : HasArguments used args d
    pub continued : IsContinued d.machine.counter y.path.vars vars v w
    pub meets : Satisfies vars w conds

  -- the state makes the choice that is shown, and leads by the specification to such an outcome
  pub record LeadsByCall (choices : List ℕ) (entry : Entry) (d : Checked) (args : List PureValue) (place : Place) (Is : Outcome → Type 0) : Type 0 where
    pub chosen : Option ℕ
    pub choices_are : choices ≡ y.path.choices ++ with_choice chosen []
    pub outcome : Outcome
    pub leads : CalledIfFit p memory m entry (fit_params used.params args) used args place d outcome
    pub choice : choice_if_fit p memory m entry (fit_params used.params args) used args place d outcome leads ≡ chosen
    pub is : Is outcome

  pub record LeadsOnByCall (z : PureChecking S) (w : List PureValue) (entry : Entry) (d : Checked) (args : List PureValue) (place : Place) (new_vars : List Sort) : Type 0 where
    pub state : Checked
    pub led : LeadsByCall z.path.choices entry d args place (λ out. out ≡ goes_on_to state)
    pub stands_for : StandsForChecked stands e z w entry state
    pub counted : state.machine.counter ≡ counter_past new_vars d.machine.counter

  pub record IsFollowedCall (z : PureChecking S) : Type 0 where
    pub table : HaveMore y.path.vars z.path.vars
    pub longer : HaveMore y.path.conds z.path.conds
    pub met : CanBeMet y z.path.vars z.path.conds
    pub exact : (v w : List PureValue) (entry : Entry) (d : Checked) (args : List PureValue) (place : Place) (under : IsUnderCall z.path.vars z.path.conds v w entry d args) → LeadsOnByCall z w entry d args place under.continued.new_vars

  pub record IsShownFrom (shown : PureShown) : Type 0 where
    pub place : shown.place ≡ here
    pub table : HaveMore y.path.vars shown.vars
    pub longer : HaveMore y.path.conds shown.conds
    pub known : (u : List PureValue) → shown.valuation ≡ Some u → Satisfies shown.vars u shown.conds

  pub record IsSurelyCall (Is : List PureValue → Outcome → Type 0) (shown : PureShown) : Type 0 where
    pub at : IsShownFrom shown
    pub met : CanBeMet y shown.vars shown.conds
    pub exact : (v w : List PureValue) (entry : Entry) (d : Checked) (args : List PureValue) (place : Place) → IsUnderCall shown.vars shown.conds v w entry d args → LeadsByCall shown.choices entry d args place (Is w)

  pub record IsUndecidedCall (reason : Reason) (shown : PureShown) : Type 0 where
    pub at : IsShownFrom shown
    pub chosen : Option ℕ
    pub choices : shown.choices ≡ y.path.choices ++ with_choice chosen []
    pub outside : ¬ InFragment shown.conds
    pub first : IsFirstOutside shown.conds reason

  abbrev pub IsRightCall : PureCause → Type 0
  IsRightCall (failure t shown) = IsSurelyCall (FailsWith t) shown
  IsRightCall (fault kind shown) = IsSurelyCall (λ w out. out ≡ has_fault (fault_of kind)) shown
  IsRightCall (bound shown) = IsSurelyCall (λ w out. ⊥) shown
  IsRightCall (undecided reason shown) = IsUndecidedCall reason shown

  abbrev pub IsExactCall : PureNext S → Type 0
  IsExactCall (further z) = IsFollowedCall z
  IsExactCall done_over = ⊤
  IsExactCall (caused cause) = IsRightCall (cause_view cause)

  abbrev pub AreExactCall : List (PureNext S) → Type 0
  AreExactCall ks = Each IsExactCall ks

  -- ---- from the call

  module _ (x : PureChecking S) (vars : y.path.vars ≡ x.path.vars) (choices : y.path.choices ≡ x.path.choices) (conds : HaveMore x.path.conds y.path.conds) (can : CanBeMet x y.path.vars y.path.conds)
      (over : Each (λ a. IsOver y.path.vars (term_of a)) y.path.conds) (is_place : IsPlaceOf p x.path.stack here) where
    -- the state where the procedure begins, and what the call leads to by it
    pub record Begun (v : List PureValue) (entry : Entry) (c : Checked) : Type 0 where
      pub state : Checked
      pub args : List PureValue
      pub place : Place
      pub standing : StandsForChecked stands e y v entry state
      pub arguments : HasArguments used args state
      pub same_counter : state.machine.counter ≡ c.machine.counter
      pub along : (chosen : Option ℕ) (out : Outcome) (leads : CalledIfFit p memory m entry (fit_params used.params args) used args place state out) → choice_if_fit p memory m entry (fit_params used.params args) used args place state out leads ≡ chosen
          → LeadsAlong p memory m entry c chosen out

    module _ (begins : (v : List PureValue) (entry : Entry) (c : Checked) → StandsForChecked stands e x v entry c → Satisfies y.path.vars v y.path.conds → Begun v entry c) where
      module _ (later : List Sort) (atoms : List PureAtom) (table : HaveMore y.path.vars later) (longer : HaveMore y.path.conds atoms) (v w : List PureValue) (entry : Entry) (c : Checked) (under : IsUnder stands e x later atoms v w entry c) where
        met_before : Satisfies y.path.vars v y.path.conds
        met_before =
            let (more, is) = longer in
            let count : length v ≡ length y.path.vars = under.standing.path.proper.one_each ∙ ap length (sym vars) in
            let grown : later ≡ y.path.vars ++ under.continued.new_vars = under.continued.table ∙ ap (λ vs. vs ++ under.continued.new_vars) (sym vars) in
            meets_part y.path.vars under.continued.new_vars v under.continued.new_values y.path.conds more count over
            (subst (λ cs. Satisfies (y.path.vars ++ under.continued.new_vars) (v ++ under.continued.new_values) cs) is
            (subst (λ vs. Satisfies vs (v ++ under.continued.new_values) atoms) grown (subst (λ u. Satisfies later u atoms) under.continued.values under.meets)))

        abbrev begun : Begun v entry c
        begun = begins v entry c under.standing met_before

        abbrev under_call : IsUnderCall later atoms v w entry begun.state begun.args
        under_call = record {
          standing = begun.standing;
          arguments = begun.arguments;
          continued = record {
            new_vars = under.continued.new_vars;
            new_values = under.continued.new_values;
            table = under.continued.table ∙ ap (λ vs. vs ++ under.continued.new_vars) (sym vars);
            values = under.continued.values;
            in_turn = subst (λ n. AreNewValues n under.continued.new_vars under.continued.new_values) (sym begun.same_counter) under.continued.in_turn;
          };
          meets = under.meets;
        }

      chosen_by : (later : List ℕ) (chosen : Option ℕ) → later ≡ y.path.choices ++ with_choice chosen [] → AreChoices x later chosen
      chosen_by later chosen is = is ∙ ap (λ cs. cs ++ with_choice chosen []) choices

      table_there : (later : List Sort) → HaveMore y.path.vars later → HaveMore x.path.vars later
      table_there later (more, is) = (more, is ∙ ap (λ vs. vs ++ more) vars)

      shown_there : (shown : PureShown) → IsShownFrom shown → IsShownAt x p shown
      shown_there shown at = record {
        place = subst (IsPlaceOf p x.path.stack) (sym at.place) is_place;
        table = table_there shown.vars at.table;
        longer = longer_both x.path.conds y.path.conds shown.conds conds at.longer;
        known = at.known;
      }

      can_there : (later : List Sort) (atoms : List PureAtom) → CanBeMet y later atoms → CanBeMet x later atoms
      can_there later atoms met v meets = let (u, before) = can v meets in met u before

      followed_there : (z : PureChecking S) → IsFollowedCall z → IsFollowed p memory m stands e x z
      followed_there z call = record {
        table = table_there z.path.vars call.table;
        longer = longer_both x.path.conds y.path.conds z.path.conds conds call.longer;
        met = can_there z.path.vars z.path.conds call.met;
        exact = λ v w entry c under.
            let b = begun z.path.vars z.path.conds call.table call.longer v w entry c under in
            let on = call.exact v w entry b.state b.args b.place (under_call z.path.vars z.path.conds call.table call.longer v w entry c under) in
            record {
              state = on.state;
              chosen = on.led.chosen;
              choices = chosen_by z.path.choices on.led.chosen on.led.choices_are;
              leads = subst (LeadsAlong p memory m entry c on.led.chosen) on.led.is (b.along on.led.chosen on.led.outcome on.led.leads on.led.choice);
              stands_for = on.stands_for;
              counted = on.counted ∙ ap (counter_past under.continued.new_vars) b.same_counter;
            };
      }

      surely_there : (Is : List PureValue → Outcome → Type 0) (shown : PureShown) → IsSurelyCall Is shown → IsSurely p memory m stands e x Is shown
      surely_there Is shown call = record {
        at = shown_there shown call.at;
        met = can_there shown.vars shown.conds call.met;
        exact = λ v w entry c under.
            let b = begun shown.vars shown.conds call.at.table call.at.longer v w entry c under in
            let led = call.exact v w entry b.state b.args b.place (under_call shown.vars shown.conds call.at.table call.at.longer v w entry c under) in
            record {
              chosen = led.chosen;
              choices = chosen_by shown.choices led.chosen led.choices_are;
              outcome = led.outcome;
              leads = b.along led.chosen led.outcome led.leads led.choice;
              is = led.is;
            };
      }

      undecided_there : (reason : Reason) (shown : PureShown) → IsUndecidedCall reason shown → IsUndecided x p reason shown
      undecided_there reason shown call = record {
        at = shown_there shown call.at;
        chosen = call.chosen;
        choices = chosen_by shown.choices call.chosen call.choices;
        outside = call.outside;
        first = call.first;
      }

      right_there : (cause : PureCause) → IsRightCall cause → IsRightCause p memory m stands e x cause
      right_there (failure t shown) call = surely_there (FailsWith t) shown call
      right_there (fault kind shown) call = surely_there (λ w out. out ≡ has_fault (fault_of kind)) shown call
      right_there (bound shown) call = surely_there (λ w out. ⊥) shown call
      right_there (undecided reason shown) call = undecided_there reason shown call

      exact_there : (k : PureNext S) → IsExactCall k → IsExactNext p memory m stands e x k
      exact_there (further z) call = followed_there z call
      exact_there done_over call = tt
      exact_there (caused cause) call = right_there (cause_view cause) call

      -- what is exact from where the procedure begins is exact from the call
      pub call_exact : (ks : List (PureNext S)) → AreExactCall ks → AreExact p memory m stands e x ks
      call_exact ks all = each_to IsExactCall (IsExactNext p memory m stands e x) ks exact_there all
