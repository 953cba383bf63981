-- Where no rule has anything to add, disequalities of variables and literals, and of whole numbers, are true in a model.
use Rattle.std.proofs.Common.{◌≡◌, ⊎_elim, ◌⊎◌, inl, inr, ℕ, List, Bool, true, false, ◌&&◌, Option, Some, None, slice_get, refl, sym, ap, ◌∙◌}
use Rattle.std.proofs.lemmas.Bool.{false_from_ne_true, and_parts, both_ways}
use Rattle.gil_values.specs.declared.kinds.Kind.{Kind}
use Rattle.gil_values.specs.declared.operators.BinOp.{BinOp}
use Rattle.gil_values.specs.Equality.{same_value}
use Rattle.gil_values.specs.EqualityLaws.{same_value-refl, same_value-same}
use Rattle.gil_values.specs.Pure.{PureValue}
use Rattle.pure_terms.specs.declared.variables.Sort.{Sort}
use Rattle.pure_terms.specs.Fragment.{is_flat, is_integer_side}
use Rattle.pure_terms.specs.Meaning.{value, truth}
use Rattle.pure_terms.specs.Pure.{PureTerm, PureAtom, negative, term_of}
use Rattle.solver_proof.specs.Chains.{equals}
use Rattle.solver_proof.proofs.Truths.{false_equality, equality_false, true_at}
use Rattle.equality_core.specs.declared.classes.Wanted.{Wanted}
use Rattle.equality_core.specs.Classes.{PureClasses, given_list}
use Rattle.equality_core.specs.Classified.{first_in_class}
use Rattle.equality_core.specs.Equating.{Equates}
use Rattle.equality_core.specs.Valued.{MeetsApart}
use Rattle.solver_rules.specs.declared.rules.Rule.{Rule}
use Rattle.solver_rules.specs.Rules.{AreDone, AreKinds, SaysDifferent}
use Rattle.solver_rules.specs.Steps.{IsPlainAtom, IsNode}
use Rattle.solver_rules.proofs.KindsApart.{first_found}
use Rattle.solver_rules.proofs.Plain.{number_side}
use Rattle.solver_rules.proofs.Modelling.{same_truth}
use Rattle.solver_rules.proofs.Sounding.{equated_same}

pub flip_values : (u w : PureValue) → same_value u w ≡ false → same_value w u ≡ false
flip_values u w h = false_from_ne_true (same_value w u) (λ same. both_ways (same_value u w) h (ap (same_value u) (same_value-same w u same) ∙ same_value-refl u))

pub turned_differ : (v : List PureValue) (s t : PureTerm) → truth v (negative (equals s t)) ≡ true → truth v (negative (equals t s)) ≡ true
turned_differ v s t h = let o = false_equality v s t h in equality_false v t s o.second o.first o.right o.left (flip_values o.first o.second o.differ)

pub differ_along : (v : List PureValue) (s t m n : PureTerm) → value v s ≡ value v m → value v t ≡ value v n → truth v (negative (equals m n)) ≡ true → truth v (negative (equals s t)) ≡ true
differ_along v s t m n e f h =
    let o = false_equality v m n h in
    equality_false v s t o.first o.second (e ∙ o.left) (f ∙ o.right) o.differ

-- disequalities of which a side is equated with no number are among these
abbrev pub AreGathered : PureClasses → List PureAtom → Type 0
AreGathered c apart = (i : ℕ) (a : PureAtom) (s t : PureTerm) → slice_get (given_list c) i ≡ Some a → a ≡ negative (equals s t) → is_flat s ≡ true → is_flat t ≡ true → (is_integer_side s && is_integer_side t) ≡ false
    → (first_in_class c.nodes Wanted.Number s ≡ None) ⊎ (first_in_class c.nodes Wanted.Number t ≡ None) → (j : ℕ) × (slice_get apart j ≡ Some a)

module _ (vars : List Sort) (list : List PureAtom) (c : PureClasses) (node : IsNode vars list c) (numbers : List PureValue) (kinds : List Kind) (are : AreKinds vars c kinds)
    (one : AreDone Rule.OneKind c numbers) (two : AreDone Rule.TwoKinds c numbers) (numbered : AreDone Rule.Numbers c numbers) (orders : AreDone Rule.Orders c numbers)
    (apart : List PureAtom) (gathered : AreGathered c apart) (v : List PureValue) (meets : MeetsApart vars (given_list c) numbers kinds apart v) where
  plain_here : (i : ℕ) (a : PureAtom) → slice_get (given_list c) i ≡ Some a → IsPlainAtom vars a
  plain_here i a at = node.plain i a (ap (λ l. slice_get l i) (sym node.given) ∙ at)

  values_same : (s t : PureTerm) → Equates (given_list c) s t → value v s ≡ value v t
  values_same s t e = equated_same vars (given_list c) v (λ i a at. (plain_here i a at).over) meets.equal s t e

  pub integers_differ : (i : ℕ) (a : PureAtom) (s t : PureTerm) → slice_get (given_list c) i ≡ Some a → a ≡ negative (equals s t) → is_integer_side s ≡ true → is_integer_side t ≡ true → truth v a ≡ true
  integers_differ i a s t at is side_s side_t =
      same_truth vars list c node numbers kinds are one two apart v meets a BinOp.Equal s t (ap term_of is) (plain_here i a at).over side_s side_t (orders i a at s t is side_s side_t)

  said_differ : (m n : PureTerm) → SaysDifferent (given_list c) m n → is_integer_side m ≡ true → is_integer_side n ≡ true → truth v (negative (equals m n)) ≡ true
  said_differ m n says side_m side_n = ⊎_elim (λ at. integers_differ says.place (negative (equals m n)) m n at refl side_m side_n)
      (λ at. turned_differ v n m (integers_differ says.place (negative (equals n m)) n m at refl side_n side_m)) says.at

  pub flat_differ : (i : ℕ) (a : PureAtom) (s t : PureTerm) → slice_get (given_list c) i ≡ Some a → a ≡ negative (equals s t) → is_flat s ≡ true → is_flat t ≡ true → truth v a ≡ true
  flat_differ i a s t at is flat_s flat_t = by_whole (is_integer_side s && is_integer_side t) refl where
    by_firsts : (is_integer_side s && is_integer_side t) ≡ false → (o p : Option PureTerm) → first_in_class c.nodes Wanted.Number s ≡ o → first_in_class c.nodes Wanted.Number t ≡ p → truth v a ≡ true
    by_firsts other None p first_s first_t = let (j, there) = gathered i a s t at is flat_s flat_t other (inl first_s) in true_at v apart j a meets.differ there
    by_firsts other (Some m) None first_s first_t = let (j, there) = gathered i a s t at is flat_s flat_t other (inr first_t) in true_at v apart j a meets.differ there
    by_firsts other (Some m) (Some n) first_s first_t =
        let found_m = first_found vars list c node Wanted.Number s m first_s in
        let found_n = first_found vars list c node Wanted.Number t n first_t in
        ap (truth v) is ∙ differ_along v s t m n (values_same s m found_m.equated) (values_same t n found_n.equated)
        (said_differ m n (numbered i a at s t m n is flat_s flat_t other first_s first_t) (number_side m found_m.wanted) (number_side n found_n.wanted))

    by_whole : (b : Bool) → (is_integer_side s && is_integer_side t) ≡ b → truth v a ≡ true
    by_whole true both = let sides = and_parts (is_integer_side s) (is_integer_side t) both in integers_differ i a s t at is sides.0 sides.1
    by_whole false other = by_firsts other (first_in_class c.nodes Wanted.Number s) (first_in_class c.nodes Wanted.Number t) refl refl
