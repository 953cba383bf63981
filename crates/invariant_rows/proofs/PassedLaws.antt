-- The invariants that frames passed, on terms and on values.
use Rattle.std.proofs.Common.{◌≡◌, ℕ, ◌+◌, ◌<◌, ◌≤◌, List, [], ◌∷◌, drop, get_or, length, Bool, true, false, cond, Some, None, slice_get, refl, sym, ap, subst}
use Rattle.std.specs.Prelude.{nat_eq}
use Rattle.gil_values.specs.Pure.{PureValue}
use Rattle.mem_model.specs.Heaps.{Heap}
use Rattle.assert_logic.proofs.LoopLemmas.{next_of, none_left}
use Rattle.checked_runs.specs.Checked.{Passed, passed_at, current_passed, with_passed}
use Rattle.sym_model.proofs.ListLaws.{same_some, not_none}
use Rattle.sym_model.specs.Lists.{Each}
use Rattle.sym_model.specs.Terms.{StateTerms}
use Rattle.checked_paths.proofs.Copies.{SaysSame}
use Rattle.checked_paths.specs.declared.checking.Passed.{Passed as PassedOf}
use Rattle.checked_paths.specs.Meaning.{IsPassed, ArePassed, ArePassedBy, IsPassedOver, SaySame, SayTheSame}
use Rattle.checked_paths.specs.Pure.{PurePassed}
use Rattle.checked_paths.specs.View.{passed_view, all_passed_view, passed_by_view}
use Rattle.invariant_rows.specs.Passing.{former_at, of_running, with_one}
use Rattle.invariant_rows.specs.Visiting.{ArePassedIfAny}

-- ---- the one with an index

pub former_next : {S : Type 0} (at : ℕ) (qs : List (PassedOf S)) (i : ℕ) (q : PassedOf S) → i < length qs → q ≡ get_or qs i q
    → former_at at (all_passed_view (drop i qs)) ≡ cond (nat_eq (passed_view q).at at) (Some (passed_view q)) (former_at at (all_passed_view (drop (i + 1) qs)))
former_next at qs i q below is = ap (λ rs. former_at at (all_passed_view rs)) (next_of qs i q below is)

pub former_none : {S : Type 0} (at : ℕ) (qs : List (PassedOf S)) (i : ℕ) → length qs ≤ i → former_at at (all_passed_view (drop i qs)) ≡ None
former_none at qs i past = ap (λ rs. former_at at (all_passed_view rs)) (none_left qs i past)

-- those of the frame that runs are the first ones
pub running_found : {S : Type 0} (frames : List (List (PassedOf S))) (all : List (PassedOf S)) → slice_get frames 0 ≡ Some all → of_running (passed_by_view frames) ≡ all_passed_view all
running_found [] all at = not_none at
running_found (qs ∷ later) all at = ap all_passed_view (same_some at)

pub one_before : {S : Type 0} (q : PurePassed S) (frames : List (List (PassedOf S))) (all : List (PassedOf S)) → slice_get frames 0 ≡ Some all → with_one q (passed_by_view frames) ≡ (q ∷ all_passed_view all) ∷ passed_by_view (drop 1 frames)
one_before q [] all at = not_none at
one_before q (qs ∷ later) all at = ap (λ k. (q ∷ all_passed_view k) ∷ passed_by_view later) (same_some at)

pub one_alone : {S : Type 0} (q : PurePassed S) (frames : List (List (PassedOf S))) → slice_get frames 0 ≡ None → with_one q (passed_by_view frames) ≡ (q ∷ []) ∷ []
one_alone q [] none = refl
one_alone q (qs ∷ later) none = not_none (sym none)

pub running_none : {S : Type 0} (frames : List (List (PassedOf S))) → slice_get frames 0 ≡ None → of_running (passed_by_view frames) ≡ []
running_none [] none = refl
running_none (qs ∷ later) none = not_none (sym none)

module _ {S : Type 0} (stands : S → List PureValue → Heap → Type 0) (v : List PureValue) where
  former_related : (i : ℕ) (qs : List (PurePassed S)) (rs : List Passed) → ArePassed stands v qs rs → ArePassedIfAny stands v (former_at i qs) (passed_at i rs)
  former_related i [] [] are = tt
  former_related i [] (r ∷ rs) are = absurd are
  former_related i (q ∷ qs) [] are = absurd are
  former_related i (q ∷ qs) (r ∷ rs) are =
      subst (λ k. ArePassedIfAny stands v (cond (nat_eq q.at i) (Some q) (former_at i qs)) (cond (nat_eq k i) (Some r) (passed_at i rs))) are.0.at
      (by (nat_eq q.at i) (former_related i qs rs are.1))
    where
      by : (b : Bool) → ArePassedIfAny stands v (former_at i qs) (passed_at i rs) → ArePassedIfAny stands v (cond b (Some q) (former_at i qs)) (cond b (Some r) (passed_at i rs))
      by true later = are.0
      by false later = later

  pub passed_if_any : (i : ℕ) (ps : List (List (PurePassed S))) (rs : List (List Passed)) → ArePassedBy stands v ps rs → ArePassedIfAny stands v (former_at i (of_running ps)) (passed_at i (current_passed rs))
  passed_if_any i [] [] are = tt
  passed_if_any i [] (r ∷ rs) are = absurd are
  passed_if_any i (q ∷ qs) [] are = absurd are
  passed_if_any i (q ∷ qs) (r ∷ rs) are = former_related i q r are.0

  -- one more of the frame that runs
  pub one_passed : (q : PurePassed S) (r : Passed) (ps : List (List (PurePassed S))) (rs : List (List Passed)) → IsPassed stands v q r → ArePassedBy stands v ps rs → ArePassedBy stands v (with_one q ps) (with_passed r rs)
  one_passed q r [] [] is are = ((is, tt), tt)
  one_passed q r [] (s ∷ rs) is are = absurd are
  one_passed q r (p ∷ ps) [] is are = absurd are
  one_passed q r (p ∷ ps) (s ∷ rs) is are = ((is, are.0), are.1)

pub one_over : {A : Type 0} (P : A → Type 0) (q : A) (ps : List (List A)) → P q → Each (Each P) ps → Each (Each P) (with_one q ps)
one_over P q [] is all = ((is, tt), tt)
one_over P q (p ∷ ps) is all = ((is, all.0), all.1)

-- ---- what says the same

module _ {S : Type 0} (stands : S → List PureValue → Heap → Type 0) (terms : S → StateTerms) where
  pub before_says : (one : PurePassed S) (others copied : List (PurePassed S)) → SaySame stands terms others copied → SaySame stands terms (one ∷ others) (one ∷ copied)
  before_says one others copied same = record { stand = λ v rs. stand v rs; over = λ vars all. (all.0, same.over vars all.1) }
    where
      stand : (v : List PureValue) (rs : List Passed) → ArePassed stands v (one ∷ others) rs → ArePassed stands v (one ∷ copied) rs
      stand v [] are = absurd are
      stand v (r ∷ rs) are = (are.0, same.stand v rs are.1)

  pub later_say : (first copied : List (PurePassed S)) (later : List (List (PurePassed S))) (all : List (List (PurePassed S))) → SaySame stands terms first copied → SayTheSame stands terms (copied ∷ later) all → SayTheSame stands terms (first ∷ later) all
  later_say first copied later all same rest = record { stand = λ v rs are. rest.stand v rs (stand v rs are); over = λ vars is. rest.over vars (same.over vars is.0, is.1) }
    where
      stand : (v : List PureValue) (rs : List (List Passed)) → ArePassedBy stands v (first ∷ later) rs → ArePassedBy stands v (copied ∷ later) rs
      stand v [] are = absurd are
      stand v (r ∷ rs) are = (same.stand v r are.0, are.1)

  -- one that says of every valuation what another one says, before the same ones
  pub one_says : (q r : PurePassed S) (ps all : List (List (PurePassed S))) → SaysSame stands terms q r → SayTheSame stands terms (with_one r ps) all → SayTheSame stands terms (with_one q ps) all
  one_says q r ps all same rest = record { stand = λ v rs are. rest.stand v rs (stand v ps rs are); over = λ vars is. rest.over vars (over vars ps is) }
    where
      stand : (v : List PureValue) (ps : List (List (PurePassed S))) (rs : List (List Passed)) → ArePassedBy stands v (with_one q ps) rs → ArePassedBy stands v (with_one r ps) rs
      stand v [] [] are = absurd are
      stand v [] ([] ∷ rs) are = absurd are.0
      stand v [] ((z ∷ later) ∷ rs) are = ((same.stand v z are.0.0, are.0.1), are.1)
      stand v (p ∷ ps) [] are = absurd are
      stand v (p ∷ ps) ([] ∷ rs) are = absurd are.0
      stand v (p ∷ ps) ((z ∷ later) ∷ rs) are = ((same.stand v z are.0.0, are.0.1), are.1)

      over : (vars : _) (ps : List (List (PurePassed S))) → Each (Each (IsPassedOver terms vars)) (with_one q ps) → Each (Each (IsPassedOver terms vars)) (with_one r ps)
      over vars [] is = ((same.over vars is.0.0, is.0.1), is.1)
      over vars (p ∷ ps) is = ((same.over vars is.0.0, is.0.1), is.1)
