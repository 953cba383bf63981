-- What `fold` comes to: the state that a match leaves, with the fact behind the others.
use Rattle.std.specs.Prelude.{◌≡◌, ◌⊎◌, ℕ, List, [], ◌∷◌, ◌++◌}
use Rattle.gil_syntax.specs.Evaluation.{Store}
use Rattle.gil_syntax.specs.Pure.{PurePredUse, PurePredDef}
use Rattle.assert_logic.specs.LogicStates.{LogicState}
use Rattle.sym_evaluation.specs.Pure.{PureStore}
use Rattle.sym_states.specs.Meaning.{Serves}
use Rattle.checked_rows.specs.Doubts.{beyond, IsDoubtNext, DoubtsAlone}
use Rattle.checked_rows.specs.Reading.{AreRead, AreUnread}
use Rattle.gil_values.specs.declared.places.Place.{Place}
use Rattle.gil_values.specs.Pure.{PureValue}
use Rattle.mem_model.specs.Heaps.{Heap}
use Rattle.pure_terms.specs.declared.deciders.Reason.{Reason}
use Rattle.pure_terms.specs.Meaning.{Satisfies, IsUnsatisfiable}
use Rattle.pure_terms.specs.Pure.{PureTerm}
use Rattle.sym_paths.specs.Asking.{IsOutside}
use Rattle.sym_model.specs.Terms.{StateTerms}
use Rattle.sym_paths.specs.Moves.{passing}
use Rattle.sym_states.specs.Pure.{PureFact, PureState}
use Rattle.checked_paths.specs.Following.{IsAnswered}
use Rattle.checked_paths.specs.Meaning.{EachWith}
use Rattle.checked_paths.specs.Pure.{PureChecking, PureNext, over}
use Rattle.checked_paths.specs.declared.nexts.FaultKind.{FaultKind}
use Rattle.footprint.specs.Consuming.{IsFolding, Folds, FoldsNever}
use Rattle.footprint.specs.Leaves.{AreAll}
use Rattle.footprint.specs.Pure.{PureMatch}
use Rattle.checked_rows.specs.States.{with_state}

-- the path of the state goes on at the next command, with these facts and what was passed
abbrev pub GoesOnIn : {S : Type 0} → (S → List PureValue → Heap → Type 0) → (S → StateTerms) → PureChecking S → PureState S → List PureFact
    → PureNext S → Type 0
GoesOnIn stands terms x s facts n = IsAnswered stands terms facts x.passed (passing (with_state x.path s)) n

abbrev pub fact_of : List ℕ → List PureTerm → List PureTerm → PureFact
fact_of name ins outs = record { pred = name; ins = ins; outs = outs }

-- What is answered of a state that a match left, with the fact behind its own: some valuation meets its conditions, and its path goes on;
-- or none does; or they aren't decided.
abbrev pub IsFoldedNext : {S : Type 0} → (S → List PureValue → Heap → Type 0) → (S → StateTerms) → Place → PureChecking S → PureFact
    → PureState S → PureNext S → Type 0
IsFoldedNext stands terms here x f s n =
    (((w : List PureValue) × Satisfies s.vars w s.conds) × GoesOnIn stands terms x s (s.facts ++ f ∷ []) n)
    ⊎ (((n ≡ over) × IsUnsatisfiable s.vars s.conds)
    ⊎ ((reason : Reason) × (IsOutside s.conds reason × IsDoubtNext FaultKind.FoldBody here x.path (beyond s.conds reason) n)))

abbrev pub EachFolded : {S : Type 0} → (S → List PureValue → Heap → Type 0) → (S → StateTerms) → Place → PureChecking S → PureFact
    → List (PureMatch S) → List (PureNext S) → Type 0
EachFolded stands terms here x f = EachWith (λ m n. IsFoldedNext stands terms here x f m.state n)

-- no case of the predicate is matched, whatever the state stands for
abbrev pub FoldFails : {S : Type 0} → (S → List PureValue → Heap → Type 0) → (S → StateTerms) → List PurePredDef → PureState S → List ℕ
    → List PureTerm → List PureTerm → List PureValue → Type 0
FoldFails stands terms preds s name ins outs v =
    (t : Store) (l : LogicState) → IsFolding stands terms s ins outs v t l → FoldsNever preds name ins outs v t l 0

-- a doubt alone, or each state that is left, of matches that say what folding gives, with the fact
abbrev pub AreFoldings : {S : Type 0} → (S → List PureValue → Heap → Type 0) → (S → StateTerms) → (S → Type 0) → Place → List PurePredDef
    → PureChecking S → PureState S → List ℕ → List PureTerm → List PureTerm → List (PureNext S) → Type 0
AreFoldings {S} stands terms kept here preds x s name ins outs nexts =
    DoubtsAlone FaultKind.FoldBody here x s (FoldFails stands terms preds s name ins outs) nexts
    ⊎ ((ms : List (PureMatch S)) × (AreAll stands terms kept s (IsFolding stands terms s ins outs) (Folds preds name ins outs) ms
    × EachFolded stands terms here x (fact_of name ins outs) ms nexts))

module _ {S : Type 0} (stands : S → List PureValue → Heap → Type 0) (terms : S → StateTerms) (kept : S → Type 0) (here : Place)
    (preds : List PurePredDef) (x : PureChecking S) (bs : PureStore) (u : PurePredUse) where
  -- a doubt alone; or the state stands for nothing; or outs are read in it, and it is folded with these ins
  abbrev pub FoldsOuts : PureState S → List PureTerm → List (PureNext S) → Type 0
  FoldsOuts s ins nexts =
      DoubtsAlone FaultKind.FoldBody here x s (AreUnread stands terms s bs u.outs) nexts
      ⊎ (((nexts ≡ []) × ((v : List PureValue) (t : Store) (l : LogicState) → ¬ Serves stands terms s bs v t l))
      ⊎ ((r : PureState S) × ((outs : List PureTerm)
      × (AreRead stands terms s bs u.outs r outs × AreFoldings stands terms kept here preds x r u.pred ins outs nexts))))
