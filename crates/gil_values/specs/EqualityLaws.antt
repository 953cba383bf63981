-- Equality of values is equality of their pure data.
use Rattle.std.proofs.Common.{◌≡◌, Bool, true, false, List, refl, sym, ◌∙◌, ap}
use Rattle.std.proofs.lemmas.Bool.{and_from, and_parts, false≢true}
use Rattle.std.proofs.lemmas.Bool.Decides.{Decides-eqb, Decides-int_eq}
use Rattle.std.proofs.lemmas.Slice.Eq.{bytes_eq-Decides}
use Rattle.std.specs.Bool.{Decides}
use Rattle.std.specs.Cmp.{IsEquivalence, decided}
use Rattle.gil_values.specs.declared.kinds.Kind.{Kind}
use Rattle.gil_values.specs.declared.kinds.Kind.TheVariants.{Int, Bool as Boolean, Str, Sym, Kind as OfKinds, Proc, List as OfLists, Undef, Null}
use Rattle.gil_values.specs.Pure.{PureValue, integer, boolean, text, symbol, kind, procedure, list, PureValues, no_values, value_and, from_list, to_list, to_list-from_list}
use Rattle.gil_values.specs.Equality.{kind_number, same_kind, same_boolean, same_value, same_values, same_elements}

same_boolean-same : (a b : Bool) → same_boolean a b ≡ true → a ≡ b
same_boolean-same true true h = refl
same_boolean-same true false h = sym h
same_boolean-same false true h = h
same_boolean-same false false h = refl

same_boolean-refl : (a : Bool) → same_boolean a a ≡ true
same_boolean-refl true = refl
same_boolean-refl false = refl

same_kind-same : (k l : Kind) → same_kind k l ≡ true → k ≡ l
same_kind-same Int Int h = refl
same_kind-same Boolean Boolean h = refl
same_kind-same Str Str h = refl
same_kind-same Sym Sym h = refl
same_kind-same OfKinds OfKinds h = refl
same_kind-same Proc Proc h = refl
same_kind-same OfLists OfLists h = refl
same_kind-same Undef Undef h = refl
same_kind-same Null Null h = refl
same_kind-same k l h = absurd (false≢true h)

same_kind-refl : (k : Kind) → same_kind k k ≡ true
same_kind-refl k = (Decides-eqb (kind_number k) (kind_number k)).1 refl

mutual
  pub same_value-refl : (v : PureValue) → same_value v v ≡ true
  same_value-refl (integer n) = (Decides-int_eq n n).1 refl
  same_value-refl (boolean b) = same_boolean-refl b
  same_value-refl (text s) = (bytes_eq-Decides s s).1 refl
  same_value-refl (symbol n) = (Decides-eqb n n).1 refl
  same_value-refl (kind k) = same_kind-refl k
  same_value-refl (procedure f) = (bytes_eq-Decides f f).1 refl
  same_value-refl (list vs) = same_values-refl vs

  same_values-refl : (vs : PureValues) → same_values vs vs ≡ true
  same_values-refl no_values = refl
  same_values-refl (value_and v vs) = and_from _ _ (same_value-refl v) (same_values-refl vs)

mutual
  pub same_value-same : (v w : PureValue) → same_value v w ≡ true → v ≡ w
  same_value-same (integer m) (integer n) h = ap integer ((Decides-int_eq m n).0 h)
  same_value-same (boolean a) (boolean b) h = ap boolean (same_boolean-same a b h)
  same_value-same (text s) (text t) h = ap text ((bytes_eq-Decides s t).0 h)
  same_value-same (symbol m) (symbol n) h = ap symbol ((Decides-eqb m n).0 h)
  same_value-same (kind k) (kind l) h = ap kind (same_kind-same k l h)
  same_value-same (procedure f) (procedure g) h = ap procedure ((bytes_eq-Decides f g).0 h)
  same_value-same (list vs) (list ws) h = ap list (same_values-same vs ws h)
  same_value-same v w h = absurd (false≢true h)

  same_values-same : (vs ws : PureValues) → same_values vs ws ≡ true → vs ≡ ws
  same_values-same no_values no_values h = refl
  same_values-same (value_and v vs) (value_and w ws) h =
      let both = and_parts (same_value v w) (same_values vs ws) h in
      ap (λ x. value_and x vs) (same_value-same v w both.0) ∙ ap (value_and w) (same_values-same vs ws both.1)
  same_values-same vs ws h = absurd (false≢true h)

pub same_value-Decides : (v w : PureValue) → Decides (same_value v w) (v ≡ w)
same_value-Decides v w = (same_value-same v w, λ e. ap (same_value v) (sym e) ∙ same_value-refl v)

pub same_elements-Decides : (vs ws : List PureValue) → Decides (same_elements vs ws) (vs ≡ ws)
same_elements-Decides vs ws = (
  λ h. sym (to_list-from_list vs) ∙ ap to_list (same_values-same _ _ h) ∙ to_list-from_list ws,
  λ e. ap (same_elements vs) (sym e) ∙ same_values-refl (from_list vs),
)

when_differing : {P : Type 0} (b : Bool) → Decides b P → (P → ⊥) → false ≡ b
when_differing true decides differ = absurd (differ (decides.0 refl))
when_differing false decides differ = refl

pub same_elements-differing : (vs ws : List PureValue) → (vs ≡ ws → ⊥) → false ≡ same_elements vs ws
same_elements-differing vs ws = when_differing _ (same_elements-Decides vs ws)

pub same_elements-equal : (vs ws : List PureValue) → vs ≡ ws → true ≡ same_elements vs ws
same_elements-equal vs ws e = sym ((same_elements-Decides vs ws).1 e)

pub same_value-equivalence : IsEquivalence same_value
same_value-equivalence = decided same_value same_value-Decides

pub same_elements-equivalence : IsEquivalence same_elements
same_elements-equivalence = decided same_elements same_elements-Decides
