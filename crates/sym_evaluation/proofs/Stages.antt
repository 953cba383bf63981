-- What stages say under a valuation, and that requiring a check says more.
use Rattle.std.proofs.Common.{◌≡◌, ⊎_elim, inl, inr, List, [], ◌∷◌, ◌++◌, Bool, true, false, ◌&&◌, Option, Some, None, IsTrue, refl, sym, ◌∙◌, true≢false}
use Rattle.std.proofs.lemmas.Bool.{and_from}
use Rattle.std.proofs.lemmas.List.Folds.{list_all-append}
use Rattle.gil_values.specs.Operators.{Fault}
use Rattle.gil_values.specs.Pure.{PureValue}
use Rattle.pure_terms.specs.Meaning.{truth, all_true}
use Rattle.pure_terms.specs.Pure.{PureAtom}
use Rattle.sym_model.specs.Lists.{Each, OneOf}
use Rattle.sym_model.proofs.ListLaws.{each_append, each_to, each_map, one_left, one_right}
use Rattle.sym_evaluation.specs.Checks.{PureCheck, passes, fails, asks, decided, PureStage, failing, required_from, required_at, required}
use Rattle.sym_evaluation.specs.Meaning.{IsTaken}
use Rattle.sym_evaluation.specs.Pure.{PureFaultCase}

-- the fault so far, after a check that passes or doesn't
abbrev pub next : Option Fault → Bool → Fault → Option Fault
next (Some g) b f = Some g
next None true f = None
next None false f = Some f

module _ (v : List PureValue) where
  abbrev pub AllTrue : List PureAtom → Type 0
  AllTrue conds = IsTrue (all_true v conds)

  abbrev pub NotAll : List PureAtom → Type 0
  NotAll conds = all_true v conds ≡ false

  abbrev pub AreMet : Option (List PureAtom) → Type 0
  AreMet None = ⊥
  AreMet (Some conds) = AllTrue conds

  abbrev pub AreShut : Option (List PureAtom) → Type 0
  AreShut None = Unit {0}
  AreShut (Some conds) = NotAll conds

  -- with no fault so far the conditions are true and no fault case is; with a fault it is the other way round
  abbrev pub Says : Option Fault → List PureFaultCase → Option (List PureAtom) → Type 0
  Says None faults conds = AreMet conds × Each (λ c. NotAll c.conds) faults
  Says (Some f) faults conds = AreShut conds × OneOf (IsTaken v) faults × Each (λ c. IsTaken v c → c.fault ≡ f) faults

  abbrev pub SaysAt : Option Fault → PureStage → Type 0
  SaysAt o st = Says o st.faults st.conds

  abbrev pub CheckSays : PureCheck → Bool → Type 0
  CheckSays passes b = b ≡ true
  CheckSays fails b = b ≡ false
  CheckSays (asks met unmet) true = AllTrue met × Each NotAll unmet
  CheckSays (asks met unmet) false = NotAll met × OneOf AllTrue unmet

  pub decided_says : (b : Bool) → CheckSays (decided b) b
  decided_says true = refl
  decided_says false = refl

  -- ---- joined conditions

  pub joined_true : (a b : List PureAtom) → AllTrue a → AllTrue b → AllTrue (a ++ b)
  joined_true a b first second = list_all-append (truth v) a b ∙ and_from _ _ first second

  not_both : (x y : Bool) → y ≡ false → (x && y) ≡ false
  not_both true y is = is
  not_both false y is = refl

  not_first : (x y : Bool) → x ≡ false → (x && y) ≡ false
  not_first true y is = absurd (true≢false is)
  not_first false y is = refl

  pub joined_not_second : (a b : List PureAtom) → NotAll b → NotAll (a ++ b)
  joined_not_second a b second = list_all-append (truth v) a b ∙ not_both (all_true v a) (all_true v b) second

  pub joined_not_first : (a b : List PureAtom) → NotAll a → NotAll (a ++ b)
  joined_not_first a b first = list_all-append (truth v) a b ∙ not_first (all_true v a) (all_true v b) first

  pub not_taken : {X : Type 0} (b : Bool) → b ≡ false → b ≡ true → X
  not_taken b first second = absurd (true≢false (sym second ∙ first))

  -- ---- fault cases of a question

  failing_not : (f : Fault) (conds : List PureAtom) (bads : List (List PureAtom)) → Each NotAll bads → Each (λ c. NotAll c.conds) (failing f conds bads)
  failing_not f conds bads all =
      each_map (λ (c : PureFaultCase). NotAll c.conds) (λ bad. record { conds = conds ++ bad; fault = f }) bads (each_to NotAll (λ bad. NotAll (conds ++ bad)) bads (λ bad is. joined_not_second conds bad is) all)

  failing_shut : (f g : Fault) (conds : List PureAtom) (bads : List (List PureAtom)) → NotAll conds → Each (λ c. IsTaken v c → c.fault ≡ g) (failing f conds bads)
  failing_shut f g conds [] shut = tt
  failing_shut f g conds (bad ∷ bads) shut = (λ taken. not_taken (all_true v (conds ++ bad)) (joined_not_first conds bad shut) taken, failing_shut f g conds bads shut)

  failing_one : (f : Fault) (conds : List PureAtom) (bads : List (List PureAtom)) → AllTrue conds → OneOf AllTrue bads → OneOf (IsTaken v) (failing f conds bads)
  failing_one f conds [] met one = absurd one
  failing_one f conds (bad ∷ bads) met one = ⊎_elim (λ here. inl (joined_true conds bad met here)) (λ later. inr (failing_one f conds bads met later)) one

  failing_same : (f : Fault) (conds : List PureAtom) (bads : List (List PureAtom)) → Each (λ c. IsTaken v c → c.fault ≡ f) (failing f conds bads)
  failing_same f conds [] = tt
  failing_same f conds (bad ∷ bads) = (λ taken. refl, failing_same f conds bads)

  none_taken : (f : Fault) (faults : List PureFaultCase) → Each (λ c. NotAll c.conds) faults → Each (λ c. IsTaken v c → c.fault ≡ f) faults
  none_taken f faults all = each_to (λ (c : PureFaultCase). NotAll c.conds) (λ c. IsTaken v c → c.fault ≡ f) faults (λ c no taken. not_taken (all_true v c.conds) no taken) all

  -- ---- requiring

  shut_from : (g f : Fault) (check : PureCheck) (faults : List PureFaultCase) (conds : List PureAtom) → Says (Some g) faults (Some conds) → SaysAt (Some g) (required_from f check faults conds)
  shut_from g f passes faults conds says = says
  shut_from g f fails faults conds says = (
    tt,
    one_left (IsTaken v) faults _ says.1,
    each_append (λ c. IsTaken v c → c.fault ≡ g) faults _ says.2 (λ taken. not_taken (all_true v conds) says.0 taken, tt),
  )
  shut_from g f (asks met unmet) faults conds says = (
    joined_not_first conds met says.0,
    one_left (IsTaken v) faults (failing f conds unmet) says.1,
    each_append (λ c. IsTaken v c → c.fault ≡ g) faults (failing f conds unmet) says.2 (failing_shut f g conds unmet says.0),
  )

  shut_at : (g f : Fault) (check : PureCheck) (faults : List PureFaultCase) (conds : Option (List PureAtom)) → Says (Some g) faults conds → SaysAt (Some g) (required_at f check faults conds)
  shut_at g f check faults None says = says
  shut_at g f check faults (Some conds) says = shut_from g f check faults conds says

  -- a fault that came stays
  pub shut_stays : (g f : Fault) (check : PureCheck) (st : PureStage) → SaysAt (Some g) st → SaysAt (Some g) (required f check st)
  shut_stays g f check st says = shut_at g f check st.faults st.conds says

  pub fail_says : (f : Fault) (faults : List PureFaultCase) (conds : List PureAtom) → Says None faults (Some conds) → SaysAt (Some f) (required_from f fails faults conds)
  fail_says f faults conds says = (tt, one_right (IsTaken v) faults _ (inl says.0), each_append (λ c. IsTaken v c → c.fault ≡ f) faults _ (none_taken f faults says.1) (λ taken. refl, tt))

  ask_says : (b : Bool) (f : Fault) (met : List PureAtom) (unmet : List (List PureAtom)) (faults : List PureFaultCase) (conds : List PureAtom) → Says None faults (Some conds) → CheckSays (asks met unmet) b → SaysAt (next None b f) (required_from f (asks met unmet) faults conds)
  ask_says true f met unmet faults conds says check = (joined_true conds met says.0 check.0, each_append (λ (c : PureFaultCase). NotAll c.conds) faults (failing f conds unmet) says.1 (failing_not f conds unmet check.1))
  ask_says false f met unmet faults conds says check = (
    joined_not_second conds met check.0,
    one_right (IsTaken v) faults (failing f conds unmet) (failing_one f conds unmet says.0 check.1),
    each_append (λ c. IsTaken v c → c.fault ≡ f) faults (failing f conds unmet) (none_taken f faults says.1) (failing_same f conds unmet),
  )

  from_says : (b : Bool) (f : Fault) (check : PureCheck) (faults : List PureFaultCase) (conds : List PureAtom) → Says None faults (Some conds) → CheckSays check b → SaysAt (next None b f) (required_from f check faults conds)
  from_says true f passes faults conds says check = says
  from_says false f passes faults conds says check = absurd (true≢false (sym check))
  from_says true f fails faults conds says check = absurd (true≢false check)
  from_says false f fails faults conds says check = fail_says f faults conds says
  from_says b f (asks met unmet) faults conds says check = ask_says b f met unmet faults conds says check

  open_at : (b : Bool) (f : Fault) (check : PureCheck) (faults : List PureFaultCase) (conds : Option (List PureAtom)) → Says None faults conds → CheckSays check b → SaysAt (next None b f) (required_at f check faults conds)
  open_at b f check faults None says checked = absurd says.0
  open_at b f check faults (Some conds) says checked = from_says b f check faults conds says checked

  -- where no fault came so far, the check decides
  pub open_goes_on : (b : Bool) (f : Fault) (check : PureCheck) (st : PureStage) → SaysAt None st → CheckSays check b → SaysAt (next None b f) (required f check st)
  open_goes_on b f check st says checked = open_at b f check st.faults st.conds says checked

  -- the same after a fault or none
  pub goes_on : (o : Option Fault) (b : Bool) (f : Fault) (check : PureCheck) (st : PureStage) → SaysAt o st → CheckSays check b → SaysAt (next o b f) (required f check st)
  goes_on None b f check st says checked = open_goes_on b f check st says checked
  goes_on (Some g) b f check st says checked = shut_stays g f check st says
