-- Kinds that classes tell fit, where the rules about kinds have nothing to add.
use Rattle.std.proofs.Common.{◌≡◌, ⊎_elim, inl, inr, ℕ, ◌<◌, List, Bool, true, false, not, ◌&&◌, ◌||◌, if◌then◌else◌, Option, Some, None, slice_get, refl, sym, ap, ◌∙◌, subst}
use Rattle.std.specs.Option.{option_or}
use Rattle.std.proofs.lemmas.Bool.{false≢true, or_parts, not-false, both_ways}
use Rattle.std.proofs.lemmas.Option.{same_Some, option_and_then_some, slice_get_within}
use Rattle.gil_values.specs.declared.kinds.Kind.{Kind}
use Rattle.gil_values.specs.declared.operators.BinOp.{BinOp}
use Rattle.gil_values.specs.declared.operators.UnOp.{UnOp}
use Rattle.gil_values.specs.Equality.{same_kind}
use Rattle.gil_values.specs.Pure.{PureValue}
use Rattle.pure_terms.specs.declared.literals.Literal.{Literal}
use Rattle.pure_terms.specs.declared.variables.Sort.{Sort}
use Rattle.pure_terms.specs.declared.variables.Var.{Var}
use Rattle.pure_terms.specs.Kinds.{known_kind, kind_of_sort, kind_of_literal, kind_of_unary, kind_of_binary, allows}
use Rattle.pure_terms.specs.Pure.{PureTerm, literal, variable, list_of, unary_of, binary_of, PureAtom}
use Rattle.pure_terms.proofs.KindLaws.{same_kinds, over_variable}
use Rattle.pure_terms.proofs.SimpleLaws.{found}
use Rattle.solver_proof.specs.Chains.{KindFact, kind_fact_of, kind_fact_at, are_other_kinds, is_empty_kind, are_facts_apart}
use Rattle.equality_core.specs.Classes.{PureClasses, given_list}
use Rattle.equality_core.specs.Equating.{Equates, itself, turned, joined}
use Rattle.equality_core.specs.Valued.{kind_with, FitKinds}
use Rattle.equality_core.proofs.Valuing.{no_clash}
use Rattle.solver_rules.specs.declared.rules.Rule.{Rule}
use Rattle.solver_rules.specs.Atoms.{is_against_kind}
use Rattle.solver_rules.specs.Rules.{AreDone, HasKind, HasKindTerm, HasKindFact, AreKinds}
use Rattle.solver_rules.specs.Sides.{IsTableSide}
use Rattle.solver_rules.specs.Steps.{IsNode}
use Rattle.solver_rules.proofs.KindsApart.{against_is, clear_given}
use Rattle.solver_rules.proofs.Plain.{equated_sides}

-- known kinds are those of values
sort_inhabited : (s : Sort) (k : Kind) → kind_of_sort s ≡ Some k → is_empty_kind k ≡ false
sort_inhabited Sort.Int k is = ap is_empty_kind (sym (same_Some Kind.Int k is))
sort_inhabited Sort.Bool k is = ap is_empty_kind (sym (same_Some Kind.Bool k is))
sort_inhabited Sort.Str k is = ap is_empty_kind (sym (same_Some Kind.Str k is))
sort_inhabited Sort.Sym k is = ap is_empty_kind (sym (same_Some Kind.Sym k is))
sort_inhabited Sort.Fresh k is = ap is_empty_kind (sym (same_Some Kind.Sym k is))
sort_inhabited Sort.List k is = ap is_empty_kind (sym (same_Some Kind.List k is))
sort_inhabited Sort.Any k is = cc

literal_inhabited : (l : Literal) → is_empty_kind (kind_of_literal l) ≡ false
literal_inhabited (Literal.Int n) = refl
literal_inhabited (Literal.Bool b) = refl
literal_inhabited (Literal.Str cs) = refl
literal_inhabited (Literal.Kind k) = refl
literal_inhabited (Literal.Proc name) = refl

unary_inhabited : (op : UnOp) → is_empty_kind (kind_of_unary op) ≡ false
unary_inhabited UnOp.Not = refl
unary_inhabited UnOp.Neg = refl
unary_inhabited UnOp.Len = refl
unary_inhabited UnOp.Kind = refl

abbrev AreInhabited : Option Kind → Type 0
AreInhabited o = (k : Kind) → o ≡ Some k → is_empty_kind k ≡ false

either_inhabited : (o p : Option Kind) → AreInhabited o → AreInhabited p → AreInhabited (option_or o p)
either_inhabited (Some k) p one two = one
either_inhabited None p one two = two

binary_inhabited : (op : BinOp) (o p : Option Kind) → AreInhabited o → AreInhabited p → AreInhabited (kind_of_binary op o p)
binary_inhabited BinOp.Add o p one two k is = ap is_empty_kind (sym (same_Some Kind.Int k is))
binary_inhabited BinOp.Subtract o p one two k is = ap is_empty_kind (sym (same_Some Kind.Int k is))
binary_inhabited BinOp.Multiply o p one two k is = ap is_empty_kind (sym (same_Some Kind.Int k is))
binary_inhabited BinOp.Divide o p one two k is = ap is_empty_kind (sym (same_Some Kind.Int k is))
binary_inhabited BinOp.Remainder o p one two k is = ap is_empty_kind (sym (same_Some Kind.Int k is))
binary_inhabited BinOp.Equal o p one two k is = ap is_empty_kind (sym (same_Some Kind.Bool k is))
binary_inhabited BinOp.Less o p one two k is = ap is_empty_kind (sym (same_Some Kind.Bool k is))
binary_inhabited BinOp.LessOrEqual o p one two k is = ap is_empty_kind (sym (same_Some Kind.Bool k is))
binary_inhabited BinOp.And o p one two k is = ap is_empty_kind (sym (same_Some Kind.Bool k is))
binary_inhabited BinOp.Or o p one two k is = ap is_empty_kind (sym (same_Some Kind.Bool k is))
binary_inhabited BinOp.Append o p one two k is = either_inhabited o p one two k is
binary_inhabited BinOp.Nth o p one two k is = cc

known_inhabited : (t : PureTerm) → AreInhabited (known_kind t)
known_inhabited (literal l) k is = ap is_empty_kind (sym (same_Some (kind_of_literal l) k is)) ∙ literal_inhabited l
known_inhabited (variable x) k is = sort_inhabited x.sort k is
known_inhabited (list_of ts) k is = ap is_empty_kind (sym (same_Some Kind.List k is))
known_inhabited (unary_of op t) k is = ap is_empty_kind (sym (same_Some (kind_of_unary op) k is)) ∙ unary_inhabited op
known_inhabited (binary_of op s t) k is = binary_inhabited op (known_kind s) (known_kind t) (known_inhabited s) (known_inhabited t) k is

pub same_kind-refl : (k : Kind) → same_kind k k ≡ true
same_kind-refl Kind.Int = refl
same_kind-refl Kind.Bool = refl
same_kind-refl Kind.Str = refl
same_kind-refl Kind.Sym = refl
same_kind-refl Kind.Kind = refl
same_kind-refl Kind.Proc = refl
same_kind-refl Kind.List = refl
same_kind-refl Kind.Undef = refl
same_kind-refl Kind.Null = refl

other_known : (k l : Kind) → are_other_kinds (Some k) (Some l) ≡ false → k ≡ l
other_known k l h = same_kinds k l (not-false _ h)

against_known : (k l : Kind) → is_against_kind true l (Some k) ≡ false → k ≡ l
against_known k l h = other_known k l (or_parts (is_empty_kind l) (are_other_kinds (Some k) (Some l)) h).1

facts_same : (f g : KindFact) → f.is_so ≡ true → g.is_so ≡ true → are_facts_apart f g ≡ false → f.kind ≡ g.kind
facts_same f g so also h = by_test (same_kind f.kind g.kind) refl where
  by_test : (b : Bool) → same_kind f.kind g.kind ≡ b → f.kind ≡ g.kind
  by_test true is = same_kinds f.kind g.kind is
  by_test false is = absurd (both_ways (are_facts_apart f g) h ((λ j. if is j then ((f.is_so && not g.is_so) || (not f.is_so && g.is_so)) else (so j && also j))))

module _ (vars : List Sort) (list : List PureAtom) (c : PureClasses) (node : IsNode vars list c) (v : List PureValue) (one : AreDone Rule.OneKind c v) (two : AreDone Rule.TwoKinds c v) where
  pub said_once : (i : ℕ) (f : KindFact) → kind_fact_at (given_list c) i ≡ Some f → (u : PureTerm) → Equates (given_list c) f.subject u → is_against_kind f.is_so f.kind (known_kind u) ≡ false
  said_once i f is u e = sym (against_is f u) ∙ option_and_then_some kind_fact_of (slice_get (given_list c) i) f is (λ a at said. one i a at f said u e)

  pub said_twice : (i j : ℕ) (f g : KindFact) → kind_fact_at (given_list c) i ≡ Some f → kind_fact_at (given_list c) j ≡ Some g → Equates (given_list c) f.subject g.subject → are_facts_apart f g ≡ false
  said_twice i j f g is also e = option_and_then_some kind_fact_of (slice_get (given_list c) i) f is (λ a at said.
      option_and_then_some kind_fact_of (slice_get (given_list c) j) g also (λ b there told. two i a at f said j b there g told e))

  -- the kinds of two equated terms are one
  term_fact : (s t : PureTerm) (k l : Kind) → Equates (given_list c) s t → HasKindTerm c s k → HasKindFact c t l → k ≡ l
  term_fact s t k l e a b =
      let h = said_once b.place b.fact b.at a.of (joined (turned b.equated) (joined (turned e) a.equated)) in
      against_known k b.fact.kind ((λ j. is_against_kind (sym b.so j) b.fact.kind (sym a.known j)) ∙ h) ∙ b.kind

  pub one_kind : (s t : PureTerm) (k l : Kind) → Equates (given_list c) s t → HasKind c s k → HasKind c t l → k ≡ l
  one_kind s t k l e (inl a) (inl b) =
      other_known k l ((λ j. are_other_kinds (sym a.known j) (sym b.known j)) ∙ (no_clash a.of b.of (clear_given vars list c node a.of b.of (joined (turned a.equated) (joined e b.equated)))).kinds)
  one_kind s t k l e (inl a) (inr b) = term_fact s t k l e a b
  one_kind s t k l e (inr a) (inl b) = sym (term_fact t s l k (turned e) b a)
  one_kind s t k l e (inr a) (inr b) =
      sym a.kind ∙ facts_same a.fact b.fact a.so b.so (said_twice a.place b.place a.fact b.fact a.at b.at (joined (turned a.equated) (joined e b.equated))) ∙ b.kind

  pub kind_inhabited : (t : PureTerm) (k : Kind) → HasKind c t k → is_empty_kind k ≡ false
  kind_inhabited t k (inl a) = known_inhabited a.of k a.known
  kind_inhabited t k (inr a) =
      ap is_empty_kind (sym a.kind) ∙ (or_parts (is_empty_kind a.fact.kind) (are_other_kinds (known_kind t) (Some a.fact.kind)) (ap (λ b. is_against_kind b a.fact.kind (known_kind t)) (sym a.so) ∙ said_once a.place a.fact a.at t (turned a.equated))).0

  own_kind : (t : PureTerm) (k : Kind) → known_kind t ≡ Some k → HasKind c t k
  own_kind t k is = inl (record { of = t; equated = itself; known = is })

  module _ (kinds : List Kind) (are : AreKinds vars c kinds) where
    sorts_fit : (x : ℕ) (s : Sort) (k : Kind) → slice_get vars x ≡ Some s → slice_get kinds x ≡ Some k → allows (kind_of_sort s) k ≡ true
    sorts_fit x s k at is = by_kind (kind_of_sort s) refl where
      here : Var
      here = record { number = x; sort = s }

      by_kind : (o : Option Kind) → kind_of_sort s ≡ o → allows (kind_of_sort s) k ≡ true
      by_kind None none = ap (λ o. allows o k) none
      by_kind (Some l) some =
          let same : l ≡ k = one_kind (variable (record { number = x; sort = s })) (variable (record { number = x; sort = s })) l k itself (own_kind (variable (record { number = x; sort = s })) l some) (are.each (record { number = x; sort = s }) k at is) in
          ap (λ o. allows o k) some ∙ ap (λ m. same_kind m k) same ∙ same_kind-refl k

    pub record HasKindThere (t : PureTerm) : Type 0 where
      pub kind : Kind
      pub is : kind_with kinds t ≡ Some kind
      pub has : HasKind c t kind

    pub side_kind : (t : PureTerm) → IsTableSide vars t → HasKindThere t
    side_kind (variable x) side =
        let there = over_variable vars x side.over in
        let (k, is) = found kinds x.number (subst (λ n. x.number < n) (sym are.one_each) (slice_get_within vars x.number x.sort there)) in
        record { kind = k; is = is; has = are.each x k there is }
    side_kind (literal l) side = record { kind = kind_of_literal l; is = refl; has = own_kind (literal l) (kind_of_literal l) refl }
    side_kind (list_of ts) side = record { kind = Kind.List; is = refl; has = own_kind (list_of ts) Kind.List refl }
    side_kind (unary_of op t) side = absurd (false≢true side.simple)
    side_kind (binary_of BinOp.Add s t) side = record { kind = Kind.Int; is = refl; has = own_kind (binary_of BinOp.Add s t) Kind.Int refl }
    side_kind (binary_of BinOp.Subtract s t) side = record { kind = Kind.Int; is = refl; has = own_kind (binary_of BinOp.Subtract s t) Kind.Int refl }
    side_kind (binary_of op s t) side = absurd (false≢true side.simple)

    alike : (s t : PureTerm) → Equates (given_list c) s t → kind_with kinds s ≡ kind_with kinds t
    alike s t e = ⊎_elim (λ same. ap (kind_with kinds) same) (λ both. sides both) (equated_sides vars list node.plain s t (subst (λ l. Equates l s t) node.given e)) where
      sides : IsTableSide vars s × IsTableSide vars t → kind_with kinds s ≡ kind_with kinds t
      sides both =
          let one = side_kind s both.0 in
          let other = side_kind t both.1 in
          one.is ∙ ap Some (one_kind s t one.kind other.kind e one.has other.has) ∙ sym other.is

    pub kinds_fit : FitKinds vars (given_list c) kinds
    kinds_fit = record { one_each = are.one_each; sorts = sorts_fit; inhabited = inhabited; alike = alike } where
      inhabited : (x : ℕ) (k : Kind) → slice_get kinds x ≡ Some k → is_empty_kind k ≡ false
      inhabited x k is =
          let (s, at) = found vars x (subst (λ n. x < n) are.one_each (slice_get_within kinds x k is)) in
          kind_inhabited (variable (record { number = x; sort = s })) k (are.each (record { number = x; sort = s }) k at is)
