use Rattle.std.proofs.Common.{◌≡◌, ◌<◌, ℕ, List, [], ◌∷◌, Bool, true, false, not, ◌&&◌, ◌||◌, zero, suc, slice_get, codes, cond, Some, None, inl, refl, sym, ap, subst, ◌∙◌, arith}
use Rattle.std.specs.FinMap.{empty}
use Rattle.std.specs.Str.{bytes_eq}
use Rattle.std.proofs.lemmas.List.Elements.{All-nil, All-cons}
use Rattle.gil_values.specs.Pure.{PureValue}
use Rattle.gil_values.specs.Symbols.{IsBelow}
use Rattle.gil_syntax.specs.Evaluation.{Store, bind, value_of}
use Rattle.gil_syntax.proofs.Symbols.{each-nil}
use Rattle.mem_model.specs.declared.keys.MemoryName.TheVariants.{Record}
use Rattle.mem_model.proofs.Parts.{empty_is_heap, empty_is_below}
use Rattle.gil_machine.specs.Proper.{IsStoreBelow, IsFrameBelow}
use Rattle.gil_syntax.specs.declared.assertions.SpecSort.TheVariants.{Int as Numbers}
use Rattle.assert_logic.specs.LogicStates.{nothing}
use Rattle.assert_logic.specs.Sorts.{has_sort}
use Rattle.checked_runs.specs.Checked.{IsFactBelow}
use Rattle.checked_runs.specs.Rows.{number_value, state_with, passed_listing_a}
use Rattle.checked_runs.proofs.rows.what_is_not_told_may_be_anything.Goals as goal

number_below : (counter : ℕ) (x : List ℕ) (n : ℕ) → IsStoreBelow counter (bind x (number_value n) [])
number_below counter x n y v = by (bytes_eq x y)
  where
    by : (b : Bool) → cond b (Some (number_value n)) None ≡ Some v → IsBelow counter v
    by true is =
        let same : number_value n ≡ v = cc in
        subst (IsBelow counter) same (each-nil (λ k. k < counter))
    by false is = absurd (cc)

no_value : {X : Type 0} {P : Type 0} (x : X) → None ≡ Some x → P
no_value x is = absurd (cc)

-- x is 3 and the result is 8
abbrev three_and_eight : Store
three_and_eight = bind (codes "x") (number_value 3) (bind (codes "ret") (number_value 8) [])

parameter : (i : ℕ) (y : List ℕ) (v : PureValue) → slice_get (codes "x" ∷ []) i ≡ Some y → slice_get (number_value 3 ∷ []) i ≡ Some v → value_of three_and_eight y ≡ Some v
parameter zero y v name value =
    let same : codes "x" ≡ y = cc in
    ap (value_of three_and_eight) (sym same) ∙ value
parameter (suc i) y v name value = no_value y name

stays : (y : List ℕ) (v : PureValue) → value_of (bind (codes "x") (number_value 3) []) y ≡ Some v → value_of three_and_eight y ≡ Some v
stays y v = by (bytes_eq (codes "x") y)
  where
    by : (b : Bool) → cond b (Some (number_value 3)) None ≡ Some v → cond b (Some (number_value 3)) (value_of (bind (codes "ret") (number_value 8) []) y) ≡ Some v
    by true is = is
    by false is = no_value v is

sorted : (y : List ℕ) (v : PureValue) → value_of three_and_eight y ≡ Some v → ((not (bytes_eq (codes "x") y) || has_sort Numbers v) && true) ≡ true
sorted y v = by (bytes_eq (codes "x") y)
  where
    by : (b : Bool) → cond b (Some (number_value 3)) (value_of (bind (codes "ret") (number_value 8) []) y) ≡ Some v → ((not b || has_sort Numbers v) && true) ≡ true
    by true is =
        let same : number_value 3 ≡ v = cc in
        ap (λ w. (not true || has_sort Numbers w) && true) (sym same)
    by false is = refl

pub returns-clause-result : goal.returns-clause-result
returns-clause-result c = inl (record {
  number = 0;
  items = [];
  is_post = refl;
  result = number_value 8;
  store = three_and_eight;
  is_store = record { parameters = parameter; variables_stay = stays; result = refl; sorts = sorted };
  state = nothing;
  adding = record { added_is = refl; well_formed = empty_is_heap Record };
  counter = 9;
  not_lower = omega arith;
  below = record {
    heap_below = empty_is_below 9;
    current_below = number_below 9 (codes "x") 3;
    callers_below = All-cons (IsFrameBelow 9) _ [] (number_below 9 (codes "a") 5) (All-nil (IsFrameBelow 9));
    facts_below = All-nil (IsFactBelow 9);
  };
  result_below = each-nil (λ k. k < 9);
  leads = refl;
})

pub returns-clause-draws : goal.returns-clause-draws
returns-clause-draws c = (number_value 8, (refl, refl))

pub returns-clause-listed : goal.returns-clause-listed
returns-clause-listed c = record {
  store = bind (codes "a") (number_value 6) [];
  listed_have_values = refl;
  others_stay = λ x. refl;
  names = bind (codes "a") (number_value 6) [];
  known_stay = λ x v is. is;
  sorts = λ x v is. refl;
  counter = 9;
  next = state_with (number_value 6) empty [] (passed_listing_a ∷ []);
  adds = record {
    state = nothing;
    adding = record { added_is = refl; well_formed = empty_is_heap Record };
    not_lower = omega arith;
    is_next = refl;
    above = record { heap_below = empty_is_below 9; current_below = number_below 9 (codes "a") 6; callers_below = All-nil (IsFrameBelow 9); facts_below = All-nil (IsFactBelow 9) };
  };
  leads = refl;
}
