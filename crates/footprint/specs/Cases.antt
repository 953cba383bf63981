-- Matching the cases of predicates, on values and on terms.
use Rattle.std.specs.Prelude.{◌≡◌, ℕ, List, [], ◌∷◌, map, Option, Some, None}
use Rattle.gil_values.specs.Pure.{PureValue}
use Rattle.gil_syntax.specs.declared.assertions.Param.{Param}
use Rattle.gil_syntax.specs.Evaluation.{Store}
use Rattle.gil_syntax.specs.Pure.{PureExpr, PurePredUse, PureItem, PurePredDef}
use Rattle.gil_syntax.specs.Valid.{param_names}
use Rattle.mem_model.specs.Heaps.{Heap}
use Rattle.assert_logic.specs.LogicStates.{LogicState}
use Rattle.assert_logic.specs.Matching.{Taken, Cases, match_from, match_case, case_of, try_cases, try_pred, scope_of, values_of}
use Rattle.pure_terms.specs.declared.variables.Sort.{Sort}
use Rattle.pure_terms.specs.Meaning.{IsOver}
use Rattle.pure_terms.specs.Pure.{PureTerm, PureAtom, term_of}
use Rattle.sym_evaluation.specs.Pure.{PureStore}
use Rattle.sym_matching.specs.Matching.{AreTermsAt, TermsStayOver}
use Rattle.sym_matching.specs.Origins.{terms_at}
use Rattle.sym_model.specs.Lists.{Each}
use Rattle.sym_model.specs.Terms.{StateTerms}
use Rattle.sym_states.specs.Meaning.{Stands, Serves, IsOverTable}
use Rattle.sym_states.specs.Pure.{PureState}
use Rattle.footprint.specs.Items.{SpreadsValues}
use Rattle.footprint.specs.Leaves.{Stopping, AreLeaves}
use Rattle.footprint.specs.Pure.{PureMatch, PureStop, PureLeaves}
use Rattle.footprint.specs.Spreading.{joined, all_stop, Gathers, IsRenewed}
use Rattle.footprint.specs.Uses.{PureAsked, AskedValues, AreAsked, AsksUse}

-- the conditions name only variables of the table
abbrev pub AreOverTable : List Sort → List PureAtom → Type 0
AreOverTable vars conds = Each (λ a. IsOver vars (term_of a)) conds

abbrev pub StopsIn : List Sort → PureStop → Type 0
StopsIn vars c = AreOverTable vars c.conds

abbrev pub at_number : ℕ → PureStop → PureStop
at_number n c = record { item = n; conds = c.conds }

abbrev pub renumbered : ℕ → List PureStop → List PureStop
renumbered n cs = map (at_number n) cs

-- ---- the end of a case

-- a match counts where the outs have terms
abbrev pub EndsAs : {S : Type 0} → ℕ → PureMatch S → Option (List PureTerm) → PureLeaves S → Type 0
EndsAs n m (Some ts) leaves = leaves ≡ record { matched = m ∷ []; stopped = []; undecided = [] }
EndsAs n m None leaves = leaves ≡ all_stop n m.state

abbrev pub EndsMatch : {S : Type 0} → ℕ → List Param → PureMatch S → PureLeaves S → Type 0
EndsMatch n outs m leaves = (o : Option (List PureTerm)) × (AreTermsAt m.store (param_names outs) o × EndsAs n m o leaves)

abbrev pub EndsCase : {S : Type 0} → ℕ → List Param → PureLeaves S → PureLeaves S → Type 0
EndsCase {S} n outs before after =
    (ended : PureLeaves S) × (Gathers (EndsMatch n outs) before.matched ended
    × (after ≡ joined (record { matched = []; stopped = renumbered n before.stopped; undecided = before.undecided }) ended))

-- ---- the outs of a use

abbrev pub FinishesAs : {S : Type 0} → ℕ → List Param → List PureExpr → PureStore → PureMatch S → Option (List PureTerm) → PureLeaves S
    → Type 0
FinishesAs n scope es bs m (Some ts) leaves = SpreadsValues n scope es bs m.state ts leaves
FinishesAs n scope es bs m None leaves = leaves ≡ all_stop n m.state

abbrev pub FinishesMatch : {S : Type 0} → ℕ → List Param → List PureExpr → PureStore → List Param → PureMatch S → PureLeaves S → Type 0
FinishesMatch n scope es bs outs m leaves =
    (o : Option (List PureTerm)) × (AreTermsAt m.store (param_names outs) o × TermsStayOver m.store o × (o ≡ terms_at m.store (param_names outs))
    × FinishesAs n scope es bs m o leaves)

abbrev pub Finishes : {S : Type 0} → ℕ → List Param → List PureExpr → PureStore → List Param → PureLeaves S → PureLeaves S → Type 0
Finishes {S} n scope es bs outs before after =
    (next : PureLeaves S) × (Gathers (FinishesMatch n scope es bs outs) before.matched next
    × (after ≡ joined (record { matched = []; stopped = before.stopped; undecided = before.undecided }) next))

-- ---- one case, and the first of several

-- the case is matched, with a value for each out, or not
pub record CaseGive (cases : Cases) (d : PurePredDef) (items : List PureItem) (v : List PureValue) (t : Store) (l : LogicState) (t' : Store)
    (l' : LogicState) : Type 0 where
  pub outs : List PureValue
  pub found : (n : ℕ) → (taken : Taken) × (case_of d n (match_from cases (scope_of d) 0 items t l)
      ≡ Some (record { outs = outs; state = l'; taken = taken }))
  pub outs_are : values_of t' (param_names d.outs) ≡ Some outs

abbrev pub CaseStop : ℕ → Cases → PurePredDef → List PureItem → Stopping
CaseStop n cases d items v t l k = (k ≡ n) × ((i : ℕ) → case_of d i (match_from cases (scope_of d) 0 items t l) ≡ None)

pub record CasesGive (cases : Cases) (d : PurePredDef) (bodies : List (List PureItem)) (v : List PureValue) (t : Store) (l : LogicState)
    (t' : Store) (l' : LogicState) : Type 0 where
  pub outs : List PureValue
  pub taken : Taken
  pub found : try_cases cases d 0 bodies t l ≡ Some (record { outs = outs; state = l'; taken = taken })
  pub outs_are : values_of t' (param_names d.outs) ≡ Some outs

abbrev pub CasesStop : ℕ → Cases → PurePredDef → List (List PureItem) → Stopping
CasesStop n cases d bodies v t l k = (k ≡ n) × (try_cases cases d 0 bodies t l ≡ None)

module _ {S : Type 0} (stands : S → List PureValue → Heap → Type 0) (terms : S → StateTerms) (kept : S → Type 0) where
  -- a case is tried in the state, under these conditions
  abbrev pub CaseTried : ℕ → Cases → PurePredDef → List Param → List PureItem → PureState S → PureStore → List PureAtom → PureLeaves S → Type 0
  CaseTried n cases d scope items s bs conds leaves =
      (r : PureState S) × (IsRenewed stands terms kept s conds r × (scope ≡ scope_of d
      → AreLeaves stands terms kept r (Serves stands terms r bs) (CaseGive cases d items) (CaseStop n cases d items) leaves))

  -- what matched or isn't decided stays, and where no case before it is matched, this one is tried
  abbrev pub NextCase : ℕ → Cases → PurePredDef → List Param → List PureItem → PureState S → PureStore → PureLeaves S → PureLeaves S → Type 0
  NextCase n cases d scope items s bs before after =
      (next : PureLeaves S) × (Gathers (λ c. CaseTried n cases d scope items s bs c.conds) before.stopped next
      × (after ≡ joined (record { matched = before.matched; stopped = []; undecided = before.undecided }) next))

  -- ---- the cases of a predicate

  -- a state, and the values of ins and known outs
  pub record AsksPred (s : PureState S) (a : PureAsked) (v : List PureValue) (t : Store) (l : LogicState) : Type 0 where
    pub over : IsOverTable terms s
    pub state : Stands stands s v l
    pub values : AskedValues
    pub are : AreAsked v a values

-- some case is matched, with a value for each out, or none
pub record PredGives (cases : Cases) (d : PurePredDef) (a : PureAsked) (v : List PureValue) (t : Store) (l : LogicState) (t' : Store)
    (l' : LogicState) : Type 0 where
  pub values : AskedValues
  pub are : AreAsked v a values
  pub outs : List PureValue
  pub taken : Taken
  pub found : try_pred cases (Some d) values.0 values.1 l ≡ Some (record { outs = outs; state = l'; taken = taken })
  pub outs_are : values_of t' (param_names d.outs) ≡ Some outs

pub record PredStops (n : ℕ) (cases : Cases) (d : PurePredDef) (a : PureAsked) (v : List PureValue) (t : Store) (l : LogicState) (k : ℕ)
    : Type 0 where
  pub number : k ≡ n
  pub values : AskedValues
  pub are : AreAsked v a values
  pub none : try_pred cases (Some d) values.0 values.1 l ≡ None

-- and the outs of the use are matched with them, or not
pub record FoundGives (cases : Cases) (scope : List Param) (d : PurePredDef) (u : PurePredUse) (a : PureAsked) (v : List PureValue) (t : Store)
    (l : LogicState) (t' : Store) (l' : LogicState) : Type 0 where
  pub values : AskedValues
  pub are : AreAsked v a values
  pub taken : Taken
  pub is : match_case scope u.outs (try_pred cases (Some d) values.0 values.1 l) t ≡ Some (record { store = t'; state = l'; taken = taken })

pub record FoundStops (n : ℕ) (cases : Cases) (scope : List Param) (d : PurePredDef) (u : PurePredUse) (a : PureAsked) (v : List PureValue)
    (t : Store) (l : LogicState) (k : ℕ) : Type 0 where
  pub number : k ≡ n
  pub values : AskedValues
  pub are : AreAsked v a values
  pub is : match_case scope u.outs (try_pred cases (Some d) values.0 values.1 l) t ≡ None

module _ {S : Type 0} (stands : S → List PureValue → Heap → Type 0) (terms : S → StateTerms) (kept : S → Type 0) where
  abbrev pub PredTried : ℕ → Cases → PurePredDef → PureAsked → PureState S → PureLeaves S → Type 0
  PredTried n cases d a s leaves =
      AreLeaves stands terms kept s (AsksPred stands terms kept s a) (PredGives cases d a) (PredStops n cases d a) leaves

  abbrev pub PredMatched : ℕ → Cases → List Param → PurePredDef → PurePredUse → PureStore → PureAsked → PureState S → PureLeaves S → Type 0
  PredMatched n cases scope d u bs a s leaves =
      AreLeaves stands terms kept s (AsksUse stands terms s bs a) (FoundGives cases scope d u a) (FoundStops n cases scope d u a) leaves
