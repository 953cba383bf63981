-- What `unfold` comes to: each case in place of the fact.
use Rattle.std.specs.Prelude.{◌≡◌, ◌⊎◌, ℕ, List, [], ◌∷◌, ◌++◌, length, map, false, Some, None}
use Rattle.gil_values.specs.declared.places.Place.{Place}
use Rattle.gil_values.specs.Pure.{PureValue}
use Rattle.gil_syntax.specs.Evaluation.{Store}
use Rattle.gil_syntax.specs.Pure.{PurePredUse, PurePredDef}
use Rattle.mem_model.specs.declared.keys.MemoryName.{MemoryName}
use Rattle.mem_model.specs.Heaps.{Heap}
use Rattle.assert_logic.specs.LogicStates.{LogicState}
use Rattle.assert_logic.specs.Matching.{first_fact, fits_fact}
use Rattle.pure_terms.specs.declared.deciders.Reason.{Reason}
use Rattle.pure_terms.specs.Meaning.{Satisfies, IsUnsatisfiable}
use Rattle.pure_terms.specs.Pure.{PureTerm}
use Rattle.sym_paths.specs.Asking.{IsOutside}
use Rattle.sym_evaluation.specs.Pure.{PureStore}
use Rattle.sym_model.specs.Lists.{Each}
use Rattle.sym_model.specs.Meaning.{has_open}
use Rattle.sym_model.specs.Terms.{StateTerms}
use Rattle.sym_states.specs.Meaning.{Serves}
use Rattle.sym_states.specs.Pure.{PureState}
use Rattle.sym_unfolding.specs.Further.{IsFurther}
use Rattle.sym_unfolding.specs.Unfolding.{PureUnfoldedCase, HasArguments, CoversUnfoldings, StandForUnfoldings}
use Rattle.checked_paths.specs.declared.nexts.FaultKind.{FaultKind}
use Rattle.checked_paths.specs.Covering.{IsCaused}
use Rattle.checked_paths.specs.Meaning.{EachWith}
use Rattle.checked_paths.specs.Pure.{PureChecking, PureNext, over}
use Rattle.checked_rows.specs.Doubts.{always, beyond, IsDoubtNext, IsDoubtAlone, DoubtsAlone}
use Rattle.checked_rows.specs.Folding.{GoesOnIn}
use Rattle.checked_rows.specs.Reading.{AreRead, AreUnread}
use Rattle.checked_rows.specs.States.{with_state}

-- the state, where the number of its case is a choice
abbrev pub chosen_case : {S : Type 0} → ℕ → PureState S → PureState S
chosen_case number s = record s { path = s.path ++ number ∷ [] }

-- the conditions of the state aren't decided, and this shows the path as it would go on in the state
abbrev pub IsUndecidedIn : {S : Type 0} → Place → PureChecking S → PureState S → Reason → PureNext S → Type 0
IsUndecidedIn here x s reason k = IsDoubtNext FaultKind.FoldBody here (with_state x.path s) (beyond s.conds reason) k

module _ {S : Type 0} (stands : S → List PureValue → Heap → Type 0) (terms : S → StateTerms) (here : Place) (x : PureChecking S) where
  -- What is answered of a state to which the case with this number was added: some valuation meets its conditions, none of which needs a
  -- literal form, and its path goes on; or none does; or they aren't decided.
  abbrev pub IsUnfoldedNext : ℕ → PureState S → PureNext S → Type 0
  IsUnfoldedNext number s k =
      ((has_open s.conds ≡ false) × (((w : List PureValue) × Satisfies s.vars w s.conds) × GoesOnIn stands terms x (chosen_case number s) s.facts k))
      ⊎ (((k ≡ over) × IsUnsatisfiable s.vars s.conds)
      ⊎ ((reason : Reason) × (IsOutside s.conds reason × IsUndecidedIn here x (chosen_case number s) reason k)))

  abbrev pub EachUnfolded : List (PureUnfoldedCase S) → List (PureNext S) → Type 0
  EachUnfolded = EachWith (λ r k. IsUnfoldedNext r.number r.state k)

-- What is answered of a state to which an invariant was added: a cause; or no literal form is needed, and the state surely stands for
-- nothing, or its path goes on, whatever the choices.
abbrev pub IsCaseAnswered : {S : Type 0} → (S → List PureValue → Heap → Type 0) → (S → StateTerms) → PureChecking S → PureState S → PureNext S
    → Type 0
IsCaseAnswered stands terms x s k =
    IsCaused k
    ⊎ ((has_open s.conds ≡ false) × (((k ≡ over) × IsUnsatisfiable s.vars s.conds)
    ⊎ ((choices : List ℕ) × GoesOnIn stands terms x (record s { path = choices }) s.facts k)))

-- no fact has these ins and outs, whatever the state stands for
abbrev pub HasNoFact : {S : Type 0} → MemoryName → (S → List PureValue → Heap → Type 0) → (S → StateTerms) → (S → Type 0) → PurePredDef
    → PureState S → List PureTerm → List PureTerm → List PureValue → Type 0
HasNoFact memory stands terms kept d s ins outs v =
    (l : LogicState) (ws us : List PureValue) → HasArguments memory stands terms kept d ins outs s v l ws us
    → first_fact (fits_fact d.name ws (map Some us)) l.facts ≡ None

-- as many ins and outs as the predicate has
abbrev pub AreAsMany : PurePredDef → List PureTerm → List PureTerm → Type 0
AreAsMany d ins outs = (length ins ≡ length d.ins) × (length outs ≡ length d.outs)

-- A doubt alone: there may be no such fact, or the predicate has other numbers of ins and outs. Or the states of cases that say what
-- unfolding gives are answered.
abbrev pub AreUnfoldings : {S : Type 0} → MemoryName → (S → List PureValue → Heap → Type 0) → (S → StateTerms) → (S → Type 0) → Place
    → PurePredDef → PureChecking S → PureState S → List PureTerm → List PureTerm → List (PureNext S) → Type 0
AreUnfoldings {S} memory stands terms kept here d x s ins outs nexts =
    DoubtsAlone FaultKind.FoldBody here x s (HasNoFact memory stands terms kept d s ins outs) nexts
    ⊎ ((¬ AreAsMany d ins outs × IsDoubtAlone FaultKind.FoldBody here x.path always nexts)
    ⊎ (AreAsMany d ins outs × ((rs : List (PureUnfoldedCase S)) × (CoversUnfoldings memory stands terms kept d ins outs s rs
    × Each (λ r. IsFurther terms kept s r.state) rs × StandForUnfoldings memory stands terms kept d ins outs s rs
    × EachUnfolded stands terms here x rs nexts))))

module _ {S : Type 0} (memory : MemoryName) (stands : S → List PureValue → Heap → Type 0) (terms : S → StateTerms) (kept : S → Type 0)
    (here : Place) (d : PurePredDef) (x : PureChecking S) (bs : PureStore) (u : PurePredUse) where
  -- a doubt alone; or the state stands for nothing; or outs are read in it, and it is unfolded with these ins
  abbrev pub UnfoldsOuts : PureState S → List PureTerm → List (PureNext S) → Type 0
  UnfoldsOuts s ins nexts =
      DoubtsAlone FaultKind.FoldBody here x s (AreUnread stands terms s bs u.outs) nexts
      ⊎ (((nexts ≡ []) × ((v : List PureValue) (t : Store) (l : LogicState) → ¬ Serves stands terms s bs v t l))
      ⊎ ((r : PureState S) × ((outs : List PureTerm)
      × (AreRead stands terms s bs u.outs r outs × AreUnfoldings memory stands terms kept here d x r ins outs nexts))))
