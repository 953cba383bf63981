-- The cases of a callee and of the arguments after it.
use Rattle.std.proofs.Common.{◌≡◌, List, [], ◌∷◌, ◌++◌, map, ◌&&◌, false, Option, Some, None, Result, Ok, Err, IsTrue, sym, ap, ◌∙◌, true≢false}
use Rattle.std.specs.Option.{option_map}
use Rattle.std.proofs.lemmas.Bool.{and_from, and_parts}
use Rattle.std.proofs.lemmas.List.Folds.{list_all-append}
use Rattle.gil_values.specs.Operators.{Fault, Outcome}
use Rattle.gil_values.specs.Pure.{PureValue}
use Rattle.gil_syntax.specs.Evaluation.{Outcomes}
use Rattle.pure_terms.specs.declared.variables.Sort.{Sort}
use Rattle.pure_terms.specs.Meaning.{value, truth, all_true, IsOver}
use Rattle.pure_terms.specs.Pure.{PureTerm, PureAtom}
use Rattle.sym_evaluation.specs.Meaning.{IsTaken, IsClosed, IsGood, SayOutcome, HasValue, HaveValues}
use Rattle.sym_evaluation.specs.Pure.{PureFaultCase, PureGoodCase, PureCases}
use Rattle.sym_evaluation.specs.Questions.{OnConditions, OnResult, EachCondition, AreEachOver}
use Rattle.sym_model.specs.Lists.{Each, OneOf}
use Rattle.sym_model.proofs.ListLaws.{each_append, each_map, each_to, one_left, one_right, one_map, one_to}
use Rattle.sym_paths.specs.Calls.{Called, fault_under, called_with, call_cases_by, call_cases}

-- the values of the callee and of the arguments, or the first fault
abbrev pub both_of : Outcome → Outcomes → Result (PureValue × List PureValue) Fault
both_of (Ok f) (Ok args) = Ok (f, args)
both_of (Ok f) (Err fault) = Err fault
both_of (Err fault) args = Err fault

abbrev pub AreCalled : List PureValue → Called → PureValue × List PureValue → Type 0
AreCalled v k a = HasValue v k.callee a.0 × HaveValues v k.args a.1

abbrev pub AreCalledOver : List Sort → Called → Type 0
AreCalledOver vars k = IsOver vars k.callee × AreEachOver vars k.args

-- ---- what holds of each condition, and of the result

module _ (P : PureAtom → Type 0) (args : PureCases (List PureTerm)) (of_args : EachCondition P args) where
  called_conditions : (g : PureGoodCase PureTerm) → Each P g.conds → (o : Option (PureGoodCase (List PureTerm))) → OnConditions P o → OnConditions P (option_map (called_with g) o)
  called_conditions g first None second = tt
  called_conditions g first (Some h) second = each_append P g.conds h.conds first second

  each_by : (faults : List PureFaultCase) (o : Option (PureGoodCase PureTerm)) → Each (λ c. Each P c.conds) faults → OnConditions P o → EachCondition P (call_cases_by faults o args)
  each_by faults None first good = (first, tt)
  each_by faults (Some g) first good = (
    each_append (λ c. Each P c.conds) faults (map (fault_under g.conds) args.faults) first
        (each_map (λ c. Each P c.conds) (fault_under g.conds) args.faults
        (each_to (λ c. Each P c.conds) (λ c. Each P (g.conds ++ c.conds)) args.faults (λ c second. each_append P g.conds c.conds good second) of_args.0)),
    called_conditions g good args.good of_args.1,
  )

pub each_called : (P : PureAtom → Type 0) (callee : PureCases PureTerm) (args : PureCases (List PureTerm)) → EachCondition P callee → EachCondition P args → EachCondition P (call_cases callee args)
each_called P callee args of_callee of_args = each_by P args of_args callee.faults callee.good of_callee.0 of_callee.1

module _ (P : PureTerm → Type 0) (Q : List PureTerm → Type 0) where
  abbrev OfCalled : Called → Type 0
  OfCalled k = P k.callee × Q k.args

  called_result : (g : PureGoodCase PureTerm) → P g.result → (o : Option (PureGoodCase (List PureTerm))) → OnResult Q o → OnResult OfCalled (option_map (called_with g) o)
  called_result g first None second = tt
  called_result g first (Some h) second = (first, second)

  result_by : (faults : List PureFaultCase) (o : Option (PureGoodCase PureTerm)) (args : PureCases (List PureTerm)) → OnResult P o → OnResult Q args.good → OnResult OfCalled (call_cases_by faults o args).good
  result_by faults None args first second = tt
  result_by faults (Some g) args first second = called_result g first args.good second

  pub called_from : (callee : PureCases PureTerm) (args : PureCases (List PureTerm)) → OnResult P callee.good → OnResult Q args.good → OnResult OfCalled (call_cases callee args).good
  called_from callee args = result_by callee.faults callee.good args

-- ---- what the cases say

module _ (v : List PureValue) where
  joined-is : (a b : List PureAtom) → all_true v (a ++ b) ≡ (all_true v a && all_true v b)
  joined-is a b = list_all-append (truth v) a b

  first_false : (a b : List PureAtom) → all_true v a ≡ false → all_true v (a ++ b) ≡ false
  first_false a b untrue = joined-is a b ∙ ap (λ c. c && all_true v b) untrue

  second_false : (a b : List PureAtom) → IsTrue (all_true v a) → all_true v b ≡ false → all_true v (a ++ b) ≡ false
  second_false a b true_there untrue = joined-is a b ∙ ap (λ c. c && all_true v b) true_there ∙ untrue

  both_met : (a b : List PureAtom) → IsTrue (all_true v a) → IsTrue (all_true v b) → IsTrue (all_true v (a ++ b))
  both_met a b first second = joined-is a b ∙ and_from (all_true v a) (all_true v b) first second

  second_met : (a b : List PureAtom) → IsTrue (all_true v (a ++ b)) → IsTrue (all_true v b)
  second_met a b whole = (and_parts (all_true v a) (all_true v b) (sym (joined-is a b) ∙ whole)).1

  not_both : {X : Type 0} (a : List PureAtom) → all_true v a ≡ false → IsTrue (all_true v a) → X
  not_both a untrue true_there = absurd (true≢false (sym true_there ∙ untrue))

  -- the callee has a value: the rest is as the arguments say
  module _ (faults : List PureFaultCase) (g : PureGoodCase PureTerm) (f : PureValue) (met : IsTrue (all_true v g.conds)) (val : value v g.result ≡ Some f) (none : Each (λ c. all_true v c.conds ≡ false) faults) where
    good_called : (ws : List PureValue) (o : Option (PureGoodCase (List PureTerm))) → IsGood v (λ ts. HaveValues v ts ws) o → IsGood v (λ k. AreCalled v k (f, ws)) (option_map (called_with g) o)
    good_called ws None good = good
    good_called ws (Some h) good = (both_met g.conds h.conds met good.0, (val, good.1))

    closed_called : (o : Option (PureGoodCase (List PureTerm))) → IsClosed v o → IsClosed v (option_map (called_with g) o)
    closed_called None closed = tt
    closed_called (Some h) closed = second_false g.conds h.conds met closed

    say_args : (o : Outcomes) (args : PureCases (List PureTerm)) → SayOutcome v (HaveValues v) o args → SayOutcome v (AreCalled v) (both_of (Ok f) o) (call_cases_by faults (Some g) args)
    say_args (Ok ws) args said = (
      good_called ws args.good said.0,
      each_append (λ c. all_true v c.conds ≡ false) faults (map (fault_under g.conds) args.faults) none
          (each_map (λ c. all_true v c.conds ≡ false) (fault_under g.conds) args.faults
          (each_to (λ c. all_true v c.conds ≡ false) (λ c. all_true v (g.conds ++ c.conds) ≡ false) args.faults (λ c untrue. second_false g.conds c.conds met untrue) said.1)),
    )
    say_args (Err fault) args said = (
      closed_called args.good said.0,
      one_right (IsTaken v) faults (map (fault_under g.conds) args.faults) (one_map (IsTaken v) (fault_under g.conds) args.faults
          (one_to (IsTaken v) (λ c. IsTaken v (fault_under g.conds c)) args.faults (λ c taken. both_met g.conds c.conds met taken) said.1)),
      each_append (λ c. IsTaken v c → c.fault ≡ fault) faults (map (fault_under g.conds) args.faults)
          (each_to (λ c. all_true v c.conds ≡ false) (λ c. IsTaken v c → c.fault ≡ fault) faults (λ c untrue taken. not_both c.conds untrue taken) none)
          (each_map (λ c. IsTaken v c → c.fault ≡ fault) (fault_under g.conds) args.faults
          (each_to (λ c. IsTaken v c → c.fault ≡ fault) (λ c. IsTaken v (fault_under g.conds c) → c.fault ≡ fault) args.faults (λ c is taken. is (second_met g.conds c.conds taken)) said.2)),
    )

  -- the callee has a fault, and so the whole has it
  module _ (fault : Fault) where
    closed_after : (g : PureGoodCase PureTerm) → all_true v g.conds ≡ false → (o : Option (PureGoodCase (List PureTerm))) → IsClosed v (option_map (called_with g) o)
    closed_after g untrue None = tt
    closed_after g untrue (Some h) = first_false g.conds h.conds untrue

    first_met : (a b : List PureAtom) → IsTrue (all_true v (a ++ b)) → IsTrue (all_true v a)
    first_met a b whole = (and_parts (all_true v a) (all_true v b) (sym (joined-is a b) ∙ whole)).0

    never : (g : PureGoodCase PureTerm) → all_true v g.conds ≡ false → (cs : List PureFaultCase) → Each (λ c. IsTaken v (fault_under g.conds c) → c.fault ≡ fault) cs
    never g closed [] = tt
    never g closed (c ∷ cs) = (λ taken. not_both g.conds closed (first_met g.conds c.conds taken), never g closed cs)

    say_fault : (faults : List PureFaultCase) (o : Option (PureGoodCase PureTerm)) (args : PureCases (List PureTerm)) (rest : Outcomes) → IsClosed v o → OneOf (IsTaken v) faults → Each (λ c. IsTaken v c → c.fault ≡ fault) faults
        → SayOutcome v (AreCalled v) (both_of (Err fault) rest) (call_cases_by faults o args)
    say_fault faults None args rest closed one each = (tt, one, each)
    say_fault faults (Some g) args rest closed one each = (
      closed_after g closed args.good,
      one_left (IsTaken v) faults (map (fault_under g.conds) args.faults) one,
      each_append (λ c. IsTaken v c → c.fault ≡ fault) faults (map (fault_under g.conds) args.faults) each
          (each_map (λ c. IsTaken v c → c.fault ≡ fault) (fault_under g.conds) args.faults (never g closed args.faults)),
    )

  say_value : (f : PureValue) (callee : PureCases PureTerm) (o : Option (PureGoodCase PureTerm)) (args : PureCases (List PureTerm)) (rest : Outcomes) → IsGood v (λ t. HasValue v t f) o → Each (λ c. all_true v c.conds ≡ false) callee.faults
      → SayOutcome v (HaveValues v) rest args → SayOutcome v (AreCalled v) (both_of (Ok f) rest) (call_cases_by callee.faults o args)
  say_value f callee None args rest good none said = absurd good
  say_value f callee (Some g) args rest good none said = say_args callee.faults g f good.0 good.1 none rest args said

  pub both_say : (o : Outcome) (rest : Outcomes) (callee : PureCases PureTerm) (args : PureCases (List PureTerm)) → SayOutcome v (HasValue v) o callee → SayOutcome v (HaveValues v) rest args
      → SayOutcome v (AreCalled v) (both_of o rest) (call_cases callee args)
  both_say (Ok f) rest callee args first second = say_value f callee callee.good args rest first.0 first.1 second
  both_say (Err fault) rest callee args first second = say_fault fault callee.faults callee.good args rest first.0 first.1 first.2
