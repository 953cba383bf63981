-- A chain that closes a list shows that not all of its atoms are true.
use Rattle.std.proofs.Common.{◌≡◌, ⊎_elim, ◌⊎◌, inl, inr, ℕ, zero, suc, ◌<◌, List, [], ◌∷◌, Bool, true, false, not, ◌&&◌, ◌||◌, if◌then◌else◌, Option, Some, None, slice_get, ltb, refl, sym, ap, ◌∙◌, subst, true≢false, arith}
use Rattle.std.specs.Option.{option_and_then}
use Rattle.std.specs.List.{Contains, list_all}
use Rattle.std.proofs.lemmas.Bool.{false≢true, and_parts, or_cases, ltb-true}
use Rattle.std.proofs.lemmas.Option.{option_and_then_some}
use Rattle.gil_values.specs.declared.kinds.Kind.{Kind}
use Rattle.gil_values.specs.Equality.{same_value, same_kind}
use Rattle.gil_values.specs.EqualityLaws.{same_value-refl}
use Rattle.gil_values.specs.Pure.{PureValue, integer, boolean, text, symbol, kind, procedure, list, kind_of}
use Rattle.gil_values.proofs.OperatorSymbols.{none_contained}
use Rattle.std.proofs.lemmas.List.Elements.{Contains-push}
use Rattle.pure_terms.specs.declared.literals.Literal.{Literal}
use Rattle.pure_terms.specs.declared.variables.Sort.{Sort}
use Rattle.pure_terms.specs.declared.variables.Var.{Var}
use Rattle.pure_terms.specs.EqualityLaws.{same_sorts, same_literal-refl, same_term-same}
use Rattle.pure_terms.specs.Kinds.{same_sort, is_of_kind, known_kind}
use Rattle.pure_terms.specs.Meaning.{literal_value, value, all_true, IsProper, IsOver, AreOver}
use Rattle.pure_terms.specs.Pure.{PureTerm, literal, variable, list_of, unary_of, binary_of, PureAtom, variables}
use Rattle.pure_terms.proofs.KindLaws.{same_kinds, known_kinds_are_right, over_variable}
use Rattle.pure_terms.proofs.SimpleLaws.{from_is_of_kind}
use Rattle.pure_terms.proofs.SymbolLaws.{invents_no_symbol}
use Rattle.solver_proof.specs.declared.proofs.ChainEnd.{ChainEnd}
use Rattle.solver_proof.specs.Chains.{Sides, equality_of, disequality_of, KindFact, kind_fact_of, equality_at, disequality_at, kind_fact_at, AreEqualAt, Leads, are_different_literals, are_other_kinds, is_fresh_over, are_sides, is_empty_kind, is_against, are_facts_apart, are_against, end_closes}
use Rattle.solver_proof.proofs.Truths.{true_at, over_at, OtherValues, Linked, equality-linked, disequality-other, HasKindFact, fact-has}

-- the atom at which something was found
abbrev FoundAt : {X : Type 0} → (PureAtom → Option X) → List PureAtom → ℕ → X → Type 0
FoundAt f atoms i x = (a : PureAtom) × ((slice_get atoms i ≡ Some a) × (f a ≡ Some x))

found_at : {X : Type 0} (f : PureAtom → Option X) (atoms : List PureAtom) (i : ℕ) (x : X) → option_and_then f (slice_get atoms i) ≡ Some x → FoundAt f atoms i x
found_at f atoms i x is = option_and_then_some f (slice_get atoms i) x is (λ a here found. (a, (here, found)))

turned : {vars : List Sort} {v : List PureValue} {s t : PureTerm} → Linked vars v s t → Linked vars v t s
turned l = record { same = record { value_of_both = l.same.value_of_both; left = l.same.right; right = l.same.left }; over_first = l.over_second; over_second = l.over_first }

joined : {vars : List Sort} {v : List PureValue} {s t u : PureTerm} → Linked vars v s t → Linked vars v t u → Linked vars v s u
joined l m =
    let both : l.same.value_of_both ≡ m.same.value_of_both = (let e : Some l.same.value_of_both ≡ Some m.same.value_of_both = sym l.same.right ∙ m.same.left in cc) in
    record {
      same = record { value_of_both = m.same.value_of_both; left = l.same.left ∙ ap Some both; right = m.same.right };
      over_first = l.over_first;
      over_second = m.over_second;
    }

-- ---- a term and itself

pub never_different : (t : PureTerm) → are_different_literals t t ≡ true → ⊥
never_different (literal l) h = false≢true (sym (ap not (same_literal-refl l)) ∙ h)
never_different (variable x) h = false≢true h
never_different (list_of ts) h = false≢true h
never_different (unary_of op t) h = false≢true h
never_different (binary_of op s t) h = false≢true h

pub never_other : (k l : Option Kind) → k ≡ l → are_other_kinds k l ≡ true → ⊥
never_other (Some k) (Some l) e other = let same : k ≡ l = cc in false≢true (sym (ap not (ap (same_kind k) (sym same) ∙ same_value-refl (kind k))) ∙ other)
never_other (Some k) None e other = false≢true other
never_other None l e other = false≢true other

passes : (f : Var → Bool) (zs : List Var) (z : Var) → list_all f zs ≡ true → Contains zs z → f z ≡ true
passes f [] z all has = absurd (none_contained z has)
passes f (x ∷ zs) z all (zero, below, is) = ap f (sym is) ∙ (and_parts (f x) (list_all f zs) all).0
passes f (x ∷ zs) z all (suc k, below, is) = passes f zs z (and_parts (f x) (list_all f zs) all).1 (k, omega (arith, below), is)

all_below : (n : ℕ) (ys : List Var) (y : Var) → list_all (λ z. ltb z.number n) ys ≡ true → Contains ys y → y.number < n
all_below n ys y all has = ltb-true y.number n (passes (λ (z : Var). ltb z.number n) ys y all has)

pub never_itself : (t : PureTerm) → is_fresh_over t t ≡ true → ⊥
never_itself (variable x) h =
    let parts = and_parts (same_sort x.sort Sort.Fresh) (list_all (λ y. ltb y.number x.number) (variables (variable x))) h in
    let below : x.number < x.number = all_below x.number (x ∷ []) x parts.1 (Contains-push [] x) in
    absurd (omega (arith, below))
never_itself (literal l) h = false≢true h
never_itself (list_of ts) h = false≢true h
never_itself (unary_of op t) h = false≢true h
never_itself (binary_of op s t) h = false≢true h

module _ (vars : List Sort) (v : List PureValue) (proper : IsProper vars v) (atoms : List PureAtom) (over : AreOver vars atoms) (all : all_true v atoms ≡ true) where
  linked_at : (i : ℕ) (sides : Sides) → equality_at atoms i ≡ Some sides → Linked vars v sides.left sides.right
  linked_at i sides is =
      let (a, (here, found)) = found_at equality_of atoms i sides is in
      equality-linked vars v a sides found (true_at v atoms i a all here) (over_at vars atoms i a over here)

  linked_by : (i : ℕ) (s t : PureTerm) → AreEqualAt atoms i s t → Linked vars v s t
  linked_by i s t (inl is) = linked_at i (record { left = s; right = t }) is
  linked_by i s t (inr is) = turned (linked_at i (record { left = t; right = s }) is)

  -- equalities lead from a term to itself, or to one with the same value
  leads-linked : (is : List ℕ) (s t : PureTerm) → Leads atoms is s t → (s ≡ t) ⊎ Linked vars v s t
  leads-linked [] s t leads = inl leads
  leads-linked (i ∷ is) s t (u, (here, leads)) =
      let first : Linked vars v s u = linked_by i s u here in
      inr (⊎_elim (λ same. subst (λ w. Linked vars v s w) same first) (joined first) (leads-linked is u t leads))

  same_options : (s t : PureTerm) → (s ≡ t) ⊎ Linked vars v s t → value v s ≡ value v t
  same_options s t (inl e) = ap (value v) e
  same_options s t (inr l) = l.same.left ∙ sym l.same.right

  -- ---- literals

  literals_close : (s t : PureTerm) → value v s ≡ value v t → are_different_literals s t ≡ true → ⊥
  literals_close (literal k) (literal l) e differ =
      let same : literal_value k ≡ literal_value l = cc in
      false≢true (sym (ap not (ap (λ w. same_value (literal_value k) w) (sym same) ∙ same_literal-refl k)) ∙ differ)
  literals_close s t e differ = false≢true differ

  -- ---- kinds

  kinds_close : (s t : PureTerm) → (s ≡ t) ⊎ Linked vars v s t → are_other_kinds (known_kind s) (known_kind t) ≡ true → ⊥
  kinds_close s t (inl e) other = never_other (known_kind s) (known_kind t) (ap known_kind e) other
  kinds_close s t (inr l) other = known_differ (known_kind s) (known_kind t) refl refl other where
    known_differ : (j k : Option Kind) → known_kind s ≡ j → known_kind t ≡ k → are_other_kinds j k ≡ true → ⊥
    known_differ (Some j) (Some k) is_j is_k other =
        let first = known_kinds_are_right vars v s l.same.value_of_both j proper l.over_first l.same.left is_j in
        let second = known_kinds_are_right vars v t l.same.value_of_both k proper l.over_second l.same.right is_k in
        let same : j ≡ k = sym first ∙ second in
        false≢true (sym (ap not (ap (same_kind j) (sym same) ∙ same_value-refl (kind j))) ∙ other)
    known_differ (Some j) None is_j is_k other = false≢true other
    known_differ None k is_j is_k other = false≢true other

  -- ---- fresh variables

  symbol_of_fresh : (x : Var) (w : PureValue) → x.sort ≡ Sort.Fresh → IsOver vars (variable x) → value v (variable x) ≡ Some w → (n : ℕ) × (w ≡ symbol n)
  symbol_of_fresh x w sort over_x has = symbol_of_kind w (known_kinds_are_right vars v (variable x) w Kind.Sym proper over_x has (ap (λ s. known_kind (variable (record { number = x.number; sort = s }))) sort)) where
    symbol_of_kind : (w : PureValue) → kind_of w ≡ Kind.Sym → (n : ℕ) × (w ≡ symbol n)
    symbol_of_kind (symbol n) is = (n, refl)
    symbol_of_kind w is = cc

  fresh_above : (s t : PureTerm) → Linked vars v s t → is_fresh_over s t ≡ true → ⊥
  fresh_above (variable x) t l h =
      let parts = and_parts (same_sort x.sort Sort.Fresh) (list_all (λ y. ltb y.number x.number) (variables t)) h in
      let sort : x.sort ≡ Sort.Fresh = same_sorts x.sort Sort.Fresh parts.0 in
      let (n, is) = symbol_of_fresh x l.same.value_of_both sort l.over_first l.same.left in
      let of_t : value v t ≡ Some (symbol n) = l.same.right ∙ ap Some is in
      let (y, (u, (named, has, occurs))) = invents_no_symbol t v (symbol n) n of_t (Contains-push [] n) in
      proper.fresh x.number y.number n u (over_variable vars x l.over_first ∙ ap Some sort) (l.same.left ∙ ap Some is) (all_below x.number (variables t) y parts.1 named) has occurs
  fresh_above (literal k) t l h = false≢true h
  fresh_above (list_of ts) t l h = false≢true h
  fresh_above (unary_of op s) t l h = false≢true h
  fresh_above (binary_of op s u) t l h = false≢true h

  fresh_closes : (s t : PureTerm) → (s ≡ t) ⊎ Linked vars v s t → is_fresh_over s t ≡ true → ⊥
  fresh_closes s t (inl e) h = never_itself s (ap (is_fresh_over s) e ∙ h)
  fresh_closes s t (inr l) h = fresh_above s t l h

  turned_case : (s t : PureTerm) → (s ≡ t) ⊎ Linked vars v s t → (t ≡ s) ⊎ Linked vars v t s
  turned_case s t (inl e) = inl (sym e)
  turned_case s t (inr l) = inr (turned l)

  -- ---- disequalities

  sides_close : (s t : PureTerm) (j : ℕ) (o : Option Sides) → disequality_at atoms j ≡ o → value v s ≡ value v t → are_sides o s t ≡ true → ⊥
  sides_close s t j None is e h = false≢true h
  sides_close s t j (Some sides) is e h =
      let (a, (here, found)) = found_at disequality_of atoms j sides is in
      let other : OtherValues v sides.left sides.right = disequality-other v a sides found (true_at v atoms j a all here) in
      let differ : value v sides.left ≡ value v sides.right → ⊥ = (λ same.
      let alike : other.first ≡ other.second = (let both : Some other.first ≡ Some other.second = sym other.left ∙ same ∙ other.right in cc) in
      true≢false (sym (ap (same_value other.first) (sym alike) ∙ same_value-refl other.first) ∙ other.differ)) in
      ⊎_elim
      (λ straight. let parts = and_parts _ _ straight in
      differ (ap (value v) (same_term-same sides.left s parts.0) ∙ e ∙ ap (value v) (sym (same_term-same sides.right t parts.1))))
      (λ across. let parts = and_parts _ _ across in
      differ (ap (value v) (same_term-same sides.left t parts.0) ∙ sym e ∙ ap (value v) (sym (same_term-same sides.right s parts.1))))
      (or_cases _ _ h)

  -- ---- facts on kinds

  has_fact : (j : ℕ) (fact : KindFact) → kind_fact_at atoms j ≡ Some fact → HasKindFact vars v fact
  has_fact j fact is =
      let (a, (here, found)) = found_at kind_fact_of atoms j fact is in
      fact-has vars v a fact found (true_at v atoms j a all here) (over_at vars atoms j a over here)

  over_second : (s t : PureTerm) → (s ≡ t) ⊎ Linked vars v s t → IsOver vars s → IsOver vars t
  over_second s t (inl e) over_s = subst (IsOver vars) e over_s
  over_second s t (inr l) over_s = l.over_second

  never_empty : (w : PureValue) (k : Kind) → kind_of w ≡ k → is_empty_kind k ≡ true → ⊥
  never_empty w k e h = empty_kind w (ap is_empty_kind e ∙ h) where
    empty_kind : (w : PureValue) → is_empty_kind (kind_of w) ≡ true → ⊥
    empty_kind (integer n) h = false≢true h
    empty_kind (boolean b) h = false≢true h
    empty_kind (text cs) h = false≢true h
    empty_kind (symbol n) h = false≢true h
    empty_kind (kind k) h = false≢true h
    empty_kind (procedure name) h = false≢true h
    empty_kind (list vs) h = false≢true h

  never_other_kind : (t : PureTerm) (w : PureValue) (k : Kind) (o : Option Kind) → known_kind t ≡ o → IsOver vars t → value v t ≡ Some w → kind_of w ≡ k → are_other_kinds o (Some k) ≡ true → ⊥
  never_other_kind t w k (Some l) known over_t has is h =
      let right : kind_of w ≡ l = known_kinds_are_right vars v t w l proper over_t has known in
      let same : l ≡ k = sym right ∙ is in
      false≢true (sym (ap not (ap (same_kind l) (sym same) ∙ same_value-refl (kind l))) ∙ h)
  never_other_kind t w k None known over_t has is h = false≢true h

  fact_against : (s t : PureTerm) (fact : KindFact) (b : Bool) → fact.is_so ≡ b → HasKindFact vars v fact → fact.subject ≡ s → (s ≡ t) ⊎ Linked vars v s t
      → (if b then is_empty_kind fact.kind || are_other_kinds (known_kind t) (Some fact.kind) else is_of_kind (known_kind t) fact.kind) ≡ true → ⊥
  fact_against s t fact true is_so has subject linked h =
      let of_t : value v t ≡ Some has.subject_value = sym (same_options s t linked) ∙ ap (value v) (sym subject) ∙ has.has in
      let over_t : IsOver vars t = over_second s t linked (subst (IsOver vars) subject has.over_subject) in
      let kind_is_so : kind_of has.subject_value ≡ fact.kind = same_kinds (kind_of has.subject_value) fact.kind (has.so ∙ is_so) in
      ⊎_elim (never_empty has.subject_value fact.kind kind_is_so) (never_other_kind t has.subject_value fact.kind (known_kind t) refl over_t of_t kind_is_so) (or_cases _ _ h)
  fact_against s t fact false is_so has subject linked h =
      let of_t : value v t ≡ Some has.subject_value = sym (same_options s t linked) ∙ ap (value v) (sym subject) ∙ has.has in
      let over_t : IsOver vars t = over_second s t linked (subst (IsOver vars) subject has.over_subject) in
      let right : kind_of has.subject_value ≡ fact.kind = known_kinds_are_right vars v t has.subject_value fact.kind proper over_t of_t (from_is_of_kind (known_kind t) fact.kind h) in
      true≢false (sym (ap (same_kind (kind_of has.subject_value)) (sym right) ∙ same_value-refl (kind (kind_of has.subject_value))) ∙ has.so ∙ is_so)

  against_closes : (s t : PureTerm) (j : ℕ) (o : Option KindFact) → kind_fact_at atoms j ≡ o → (s ≡ t) ⊎ Linked vars v s t → is_against o s t ≡ true → ⊥
  against_closes s t j None is linked h = false≢true h
  against_closes s t j (Some fact) is linked h =
      let parts = and_parts _ _ h in
      fact_against s t fact fact.is_so refl (has_fact j fact is) (same_term-same fact.subject s parts.0) linked parts.1

  apart_facts : (k l m : Kind) (b c : Bool) → same_kind m k ≡ b → same_kind m l ≡ c → are_facts_apart (record { subject = literal (Literal.Bool b); kind = k; is_so = b }) (record { subject = literal (Literal.Bool c); kind = l; is_so = c }) ≡ true → ⊥
  apart_facts k l m b c is_b is_c h = at (same_kind k l) b c refl is_b is_c h where
    at : (same b c : Bool) → same_kind k l ≡ same → same_kind m k ≡ b → same_kind m l ≡ c → (if same then (b && not c) || (not b && c) else b && c) ≡ true → ⊥
    at true b c e is_b is_c h = one_kind b c (sym is_b ∙ ap (same_kind m) (same_kinds k l e) ∙ is_c) h where
      one_kind : (b c : Bool) → b ≡ c → ((b && not c) || (not b && c)) ≡ true → ⊥
      one_kind true true e h = false≢true h
      one_kind true false e h = true≢false e
      one_kind false true e h = false≢true e
      one_kind false false e h = false≢true h
    at false true true e is_b is_c h =
        let same : k ≡ l = sym (same_kinds m k is_b) ∙ same_kinds m l is_c in
        true≢false (sym (ap (same_kind k) (sym same) ∙ same_value-refl (kind k)) ∙ e)
    at false true false e is_b is_c h = false≢true h
    at false false c e is_b is_c h = false≢true h

  both_against : (s t : PureTerm) (j k : ℕ) (o p : Option KindFact) → kind_fact_at atoms j ≡ o → kind_fact_at atoms k ≡ p → value v s ≡ value v t → are_against o p s t ≡ true → ⊥
  both_against s t j k (Some f) (Some g) is_f is_g e h =
      let parts = and_parts _ _ h in
      let subjects = and_parts _ _ parts.0 in
      let first : HasKindFact vars v f = has_fact j f is_f in
      let second : HasKindFact vars v g = has_fact k g is_g in
      let alike : Some first.subject_value ≡ Some second.subject_value = sym first.has ∙ ap (value v) (same_term-same f.subject s subjects.0) ∙ e ∙ ap (value v) (sym (same_term-same g.subject t subjects.1)) ∙ second.has in
      let same : second.subject_value ≡ first.subject_value = cc in
      apart_facts f.kind g.kind (kind_of first.subject_value) f.is_so g.is_so first.so (ap (λ w. same_kind (kind_of w) g.kind) (sym same) ∙ second.so) parts.1
  both_against s t j k (Some f) None is_f is_g e h = false≢true h
  both_against s t j k None p is_f is_g e h = false≢true h

  -- ---- chains

  end-closes : (end : ChainEnd) (s t : PureTerm) → (s ≡ t) ⊎ Linked vars v s t → end_closes atoms end s t ≡ true → ⊥
  end-closes ChainEnd.Literals s t linked h = literals_close s t (same_options s t linked) h
  end-closes ChainEnd.Kinds s t linked h = kinds_close s t linked h
  end-closes ChainEnd.Fresh s t linked h = ⊎_elim (fresh_closes s t linked) (fresh_closes t s (turned_case s t linked)) (or_cases _ _ h)
  end-closes (ChainEnd.Not j) s t linked h = sides_close s t j (disequality_at atoms j) refl (same_options s t linked) h
  end-closes (ChainEnd.Kind j) s t linked h = against_closes s t j (kind_fact_at atoms j) refl linked h
  end-closes (ChainEnd.BothKinds j k) s t linked h = both_against s t j k (kind_fact_at atoms j) (kind_fact_at atoms k) refl refl (same_options s t linked) h

  pub chain-closes : (is : List ℕ) (end : ChainEnd) (s t : PureTerm) → Leads atoms is s t → end_closes atoms end s t ≡ true → ⊥
  chain-closes is end s t leads h = end-closes end s t (leads-linked is s t leads) h
