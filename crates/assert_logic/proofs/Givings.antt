-- What matching does to the store: it gives names values of their sorts, and takes none away.
use Rattle.std.proofs.Common.{◌≡◌, ℕ, List, [], ◌∷◌, Bool, true, false, ◌&&◌, cond, Option, Some, None, Ok, Err, is_some, refl, sym, ap, subst, ◌∙◌}
use Rattle.std.specs.Option.{option_and_then}
use Rattle.std.specs.Str.{bytes_eq}
use Rattle.std.proofs.lemmas.Bool.{and_parts}
use Rattle.std.proofs.lemmas.Slice.Eq.{bytes_eq-Decides}
use Rattle.gil_values.specs.declared.operators.BinOp.TheVariants.{Equal}
use Rattle.gil_values.specs.Pure.{PureValue, boolean}
use Rattle.gil_values.specs.Equality.{same_value}
use Rattle.gil_values.specs.EqualityLaws.{same_value-same, same_value-refl}
use Rattle.gil_values.specs.Operators.{Outcome, binary}
use Rattle.gil_syntax.specs.declared.assertions.Param.{Param}
use Rattle.gil_syntax.specs.Pure.{PureExpr, name, logical, binary_of}
use Rattle.gil_syntax.specs.Valid.{param_names, is_among}
use Rattle.gil_syntax.specs.Evaluation.{Store, bind, value_of, set_or_fault, after_value, both, evaluate, evaluate_all}
use Rattle.assert_logic.specs.Sorts.{fits_sorts, HasSorts, Extends}
use Rattle.assert_logic.specs.Matching.{given, unless_known, unknown_name, where_same, match_known_or, match_value, match_values, given_outcome, match_equation, match_pure}
use Rattle.assert_logic.proofs.AddingLaws.{same_some, no_value}
use Rattle.assert_logic.proofs.Evaluations.{evaluate_extends}

pub chosen : {X : Type 0} (b : Bool) (x y : X) → cond b (Some x) None ≡ Some y → (b ≡ true) × (x ≡ y)
chosen true x y is = (refl, same_some is)
chosen false x y is = no_value y is

pub record Goes (scope : List Param) (s t : Store) : Type 0 where
  pub extends : Extends s t
  pub sorts : HasSorts scope s → HasSorts scope t

pub goes_nowhere : (scope : List Param) (s t : Store) → s ≡ t → Goes scope s t
goes_nowhere scope s t same = subst (Goes scope s) same (record { extends = λ x v is. is; sorts = λ h. h })

pub goes_further : (scope : List Param) (s t u : Store) → Goes scope s t → Goes scope t u → Goes scope s u
goes_further scope s t u first second = record { extends = λ x v is. second.extends x v (first.extends x v is); sorts = λ h. second.sorts (first.sorts h) }

module _ (scope : List Param) where
  bound_extends : (x : List ℕ) (v : PureValue) (s : Store) → value_of s x ≡ None → Extends s (bind x v s)
  bound_extends x v s none y w is = by (bytes_eq x y) refl
    where
      by : (b : Bool) → bytes_eq x y ≡ b → cond b (Some v) (value_of s y) ≡ Some w
      by true same = no_value w (sym none ∙ ap (value_of s) ((bytes_eq-Decides x y).0 same) ∙ is)
      by false other = is

  pub bound_sorts : (x : List ℕ) (v : PureValue) (s : Store) → fits_sorts scope x v ≡ true → HasSorts scope s → HasSorts scope (bind x v s)
  bound_sorts x v s fits h y w = by (bytes_eq x y) refl
    where
      by : (b : Bool) → bytes_eq x y ≡ b → cond b (Some v) (value_of s y) ≡ Some w → fits_sorts scope y w ≡ true
      by true same is = (λ i. fits_sorts scope (sym ((bytes_eq-Decides x y).0 same) i) (sym (same_some is) i)) ∙ fits
      by false other is = h y w is

  pub bound_value : (x : List ℕ) (v : PureValue) (s : Store) → value_of (bind x v s) x ≡ Some v
  bound_value x v s = ap (λ b. cond b (Some v) (value_of s x)) ((bytes_eq-Decides x x).1 refl)

  pub bound_goes : (x : List ℕ) (v : PureValue) (s : Store) → value_of s x ≡ None → fits_sorts scope x v ≡ true → Goes scope s (bind x v s) × (value_of (bind x v s) x ≡ Some v)
  bound_goes x v s none fits = (record { extends = bound_extends x v s none; sorts = bound_sorts x v s fits }, bound_value x v s)

  given_goes : (x : List ℕ) (v : PureValue) (s t : Store) → value_of s x ≡ None → given scope x v s ≡ Some t → Goes scope s t × (value_of t x ≡ Some v)
  given_goes x v s t none is =
      let (test, same) = chosen (is_among (param_names scope) x && fits_sorts scope x v) (bind x v s) t is in
      let fits = (and_parts (is_among (param_names scope) x) (fits_sorts scope x v) test).1 in
      subst (λ u. Goes scope s u × (value_of u x ≡ Some v)) same (bound_goes x v s none fits)

  pub unless_goes : (s : Store) (x y : List ℕ) → unless_known s x ≡ Some y → (x ≡ y) × (value_of s x ≡ None)
  unless_goes s x y = by (value_of s x) refl
    where
      by : (o : Option PureValue) → value_of s x ≡ o → cond (is_some o) None (Some x) ≡ Some y → (x ≡ y) × (value_of s x ≡ None)
      by None none is = (same_some is, none)
      by (Some w) at is = no_value y is

  named : (e : PureExpr) (s : Store) (x : List ℕ) → unknown_name s e ≡ Some x
      → (value_of s x ≡ None) × ((t : Store) (v : PureValue) → value_of t x ≡ Some v → evaluate e t ≡ Ok v)
  named (name y) s x is =
      let (same, none) = unless_goes s y x is in
      (ap (value_of s) (sym same) ∙ none, λ t v at. ap set_or_fault (ap (value_of t) same ∙ at))
  named (logical y) s x is =
      let (same, none) = unless_goes s y x is in
      (ap (value_of s) (sym same) ∙ none, λ t v at. ap set_or_fault (ap (value_of t) same ∙ at))
  named e s x is = no_value x is

  pub same_goes : (o : Outcome) (v : PureValue) (s t : Store) → where_same o v s ≡ Some t → (o ≡ Ok v) × (s ≡ t)
  same_goes (Ok w) v s t is =
      let (test, same) = chosen (same_value w v) s t is in
      (ap Ok (same_value-same w v test), same)
  same_goes (Err f) v s t is = no_value t is

  pub value_goes : (e : PureExpr) (v : PureValue) (s t : Store) → match_value scope e v s ≡ Some t → Goes scope s t × (evaluate e t ≡ Ok v)
  value_goes e v s t = by (unknown_name s e) refl
    where
      by : (o : Option (List ℕ)) → unknown_name s e ≡ o → match_known_or o scope e v s ≡ Some t → Goes scope s t × (evaluate e t ≡ Ok v)
      by (Some x) unknown is =
          let (none, later) = named e s x unknown in
          let (goes, at) = given_goes x v s t none is in
          (goes, later t v at)
      by None known is =
          let (holds, same) = same_goes (evaluate e s) v s t is in
          (goes_nowhere scope s t same, ap (evaluate e) (sym same) ∙ holds)

  pub values_go : (es : List PureExpr) (vs : List PureValue) (s t : Store) → match_values scope es vs s ≡ Some t → Goes scope s t × (evaluate_all es t ≡ Ok vs)
  values_go [] [] s t is = (goes_nowhere scope s t (same_some is), refl)
  values_go [] (v ∷ vs) s t is = no_value t is
  values_go (e ∷ es) [] s t is = no_value t is
  values_go (e ∷ es) (v ∷ vs) s t is = by (λ u. values_go es vs u t) (match_value scope e v s) refl is
    where
      by : ((u : Store) → match_values scope es vs u ≡ Some t → Goes scope u t × (evaluate_all es t ≡ Ok vs))
          → (o : Option Store) → match_value scope e v s ≡ o → option_and_then (match_values scope es vs) o ≡ Some t → Goes scope s t × (evaluate_all (e ∷ es) t ≡ Ok (v ∷ vs))
      by later None none is = no_value t is
      by later (Some u) first is =
          let (goes, at) = value_goes e v s u first in
          let (further, all) = later u is in
          (goes_further scope s u t goes further, λ i. both (evaluate_extends u t further.extends e v at i) (all i))

  equation_goes : (d e : PureExpr) (s t : Store) (o : Option (List ℕ)) → unknown_name s d ≡ o → match_equation o scope d e s ≡ Some t
      → Goes scope s t × (evaluate (binary_of Equal d e) t ≡ Ok (boolean true))
  equation_goes d e s t None unknown is =
      let (holds, same) = same_goes (evaluate (binary_of Equal d e) s) (boolean true) s t is in
      (goes_nowhere scope s t same, ap (evaluate (binary_of Equal d e)) (sym same) ∙ holds)
  equation_goes d e s t (Some x) unknown is = by (evaluate e s) refl is
    where
      by : (o : Outcome) → evaluate e s ≡ o → given_outcome scope x o s ≡ Some t → Goes scope s t × (evaluate (binary_of Equal d e) t ≡ Ok (boolean true))
      by (Err f) fault is = no_value t is
      by (Ok v) value is =
          let (none, later) = named d s x unknown in
          let (goes, at) = given_goes x v s t none is in
          let left = later t v at in
          let right = evaluate_extends s t goes.extends e v value in
          (goes, (λ i. after_value (left i) (λ w. after_value (right i) (binary Equal w))) ∙ ap (λ b. Ok (boolean b)) (same_value-refl v))

  guard_goes : (e : PureExpr) (s t : Store) → where_same (evaluate e s) (boolean true) s ≡ Some t → Goes scope s t × (evaluate e t ≡ Ok (boolean true))
  guard_goes e s t is =
      let (holds, same) = same_goes (evaluate e s) (boolean true) s t is in
      (goes_nowhere scope s t same, ap (evaluate e) (sym same) ∙ holds)

  pub pure_goes : (e : PureExpr) (s t : Store) → match_pure scope e s ≡ Some t → Goes scope s t × (evaluate e t ≡ Ok (boolean true))
  pure_goes (binary_of Equal d e) s t is = equation_goes d e s t (unknown_name s d) refl is
  pure_goes e s t is = guard_goes e s t is
