-- What is said of kinds, beside the terms of a class.
use Rattle.std.proofs.Common.{◌≡◌, ⊎_elim, ◌⊎◌, inl, inr, ℕ, ◌+◌, ◌<◌, List, [], ◌∷◌, ◌++◌, length, Bool, true, false, ◌&&◌, Option, Some, None, slice_get, refl, sym, ap, ◌∙◌, subst, arith, length-append}
use Rattle.std.specs.Option.{option_and_then, is_some, IfSome, IfNone}
use Rattle.std.proofs.lemmas.Bool.{false≢true, true≢false, or_parts, or_from, and_from, not-false, cases_eq}
use Rattle.std.proofs.lemmas.Option.{same_Some, option_and_then_some}
use Rattle.gil_values.specs.declared.kinds.Kind.{Kind}
use Rattle.pure_terms.specs.declared.variables.Sort.{Sort}
use Rattle.pure_terms.specs.declared.variables.Var.{Var}
use Rattle.pure_terms.specs.EqualityLaws.{same_term-refl}
use Rattle.pure_terms.specs.Equality.{same_term}
use Rattle.pure_terms.specs.Kinds.{known_kind, kind_of_sort}
use Rattle.pure_terms.specs.Pure.{PureTerm, PureAtom}
use Rattle.pure_terms.proofs.KindLaws.{same_kinds}
use Rattle.pure_terms.proofs.VariableLaws.{slice_get-append}
use Rattle.solver_proof.specs.declared.proofs.ChainEnd.{ChainEnd}
use Rattle.solver_proof.specs.Chains.{KindFact, kind_fact_of, kind_fact_at, is_against, are_other_kinds, is_empty_kind, are_facts_apart, are_against, end_closes}
use Rattle.solver_proof.proofs.Growing.{found_right}
use Rattle.equality_core.specs.declared.classes.Wanted.{Wanted}
use Rattle.equality_core.specs.Classes.{PureClasses, given_list}
use Rattle.equality_core.specs.Classified.{first_in_class}
use Rattle.equality_core.specs.Equating.{Equates, turned, joined, EquatesNoClash, HaveFragmentForms}
use Rattle.equality_core.specs.Values.{IsInTable}
use Rattle.equality_core.proofs.Seeking.{IsFirst, first-found, first-none}
use Rattle.equality_core.proofs.Valuing.{no_clash}
use Rattle.solver_rules.specs.Atoms.{is_against_kind}
use Rattle.solver_rules.specs.Rules.{HasKind}
use Rattle.solver_rules.specs.Sides.{IsTableSide}
use Rattle.solver_rules.specs.Steps.{IsNode}
use Rattle.solver_rules.proofs.Given.{given_there}
use Rattle.solver_rules.proofs.Plain.{forms_of, equated_sides}

pub against_is : (f : KindFact) (t : PureTerm) → is_against (Some f) f.subject t ≡ is_against_kind f.is_so f.kind (known_kind t)
against_is f t = ap (λ b. b && is_against_kind f.is_so f.kind (known_kind t)) (same_term-refl f.subject)

against_other : (so : Bool) (k : Kind) (o p : Option Kind) → is_against_kind so k o ≡ false → (p ≡ None) ⊎ (p ≡ o) → is_against_kind so k p ≡ false
against_other so k o p h (inr same) = ap (is_against_kind so k) same ∙ h
against_other true k o p h (inl none) = ap (is_against_kind true k) none ∙ or_from (is_empty_kind k) false (or_parts (is_empty_kind k) (are_other_kinds o (Some k)) h).0 refl
against_other false k o p h (inl none) = ap (is_against_kind false k) none

-- two known kinds that don't clash
pub one_kind_of : (o p : Option Kind) → is_some o ≡ true → are_other_kinds o p ≡ false → (p ≡ None) ⊎ (p ≡ o)
one_kind_of (Some k) (Some l) some h = inr (ap Some (sym (same_kinds k l (not-false _ h))))
one_kind_of o None some h = inl refl
one_kind_of None (Some l) some h = absurd (false≢true some)

not_some : (o : Option Kind) → is_some o ≡ false → o ≡ None
not_some (Some k) h = absurd (true≢false h)
not_some None h = refl

module _ (vars : List Sort) (list : List PureAtom) (c : PureClasses) (node : IsNode vars list c) where
  pub forms_given : HaveFragmentForms (given_list c)
  forms_given = subst HaveFragmentForms (sym node.given) (forms_of vars list node.plain)

  pub clear_given : EquatesNoClash (given_list c)
  clear_given = subst EquatesNoClash (sym node.given) node.clear

  pub first_found : (w : Wanted) (t u : PureTerm) → first_in_class c.nodes w t ≡ Some u → IsFirst c node.whole forms_given clear_given w t u
  first_found w t u is = first-found c node.whole forms_given clear_given w t u is

  -- the known kind of a term in the class, beside the first one
  pub kind_beside : (t u : PureTerm) (first : PureTerm) → first_in_class c.nodes Wanted.KnownKind t ≡ Some first → Equates (given_list c) t u → (known_kind u ≡ None) ⊎ (known_kind u ≡ known_kind first)
  kind_beside t u first is e =
      let found = first_found Wanted.KnownKind t first is in
      one_kind_of (known_kind first) (known_kind u) found.wanted (no_clash first u (clear_given first u (joined (turned found.equated) e))).kinds

  pub no_kind_beside : (t u : PureTerm) → first_in_class c.nodes Wanted.KnownKind t ≡ None → Equates (given_list c) t u → known_kind u ≡ None
  no_kind_beside t u is e = not_some (known_kind u) (first-none c node.whole forms_given clear_given Wanted.KnownKind t is u e)

  pub one_kind_done : (f : KindFact) (first : PureTerm) → first_in_class c.nodes Wanted.KnownKind f.subject ≡ Some first → is_against_kind f.is_so f.kind (known_kind first) ≡ false
      → (u : PureTerm) → Equates (given_list c) f.subject u → is_against (Some f) f.subject u ≡ false
  one_kind_done f first is h u e = against_is f u ∙ against_other f.is_so f.kind (known_kind first) (known_kind u) h (kind_beside f.subject u first is e)

  pub alone_kind_done : (f : KindFact) → first_in_class c.nodes Wanted.KnownKind f.subject ≡ None → is_against_kind f.is_so f.kind (known_kind f.subject) ≡ false
      → (u : PureTerm) → Equates (given_list c) f.subject u → is_against (Some f) f.subject u ≡ false
  alone_kind_done f is h u e = against_is f u ∙ against_other f.is_so f.kind (known_kind f.subject) (known_kind u) h (inl (no_kind_beside f.subject u is e))

  -- ends of chains
  pub fact_there : (i : ℕ) (a : PureAtom) (f : KindFact) → slice_get list i ≡ Some a → kind_fact_of a ≡ Some f → kind_fact_at c.list i ≡ Some f
  fact_there i a f at is = ap (option_and_then kind_fact_of) (given_there vars list c node i a at) ∙ is

  pub kind_ends : (i : ℕ) (a : PureAtom) (f : KindFact) (t : PureTerm) → slice_get list i ≡ Some a → kind_fact_of a ≡ Some f → is_against_kind f.is_so f.kind (known_kind t) ≡ true → end_closes c.list (ChainEnd.Kind i) f.subject t ≡ true
  kind_ends i a f t at is h = ap (λ o. is_against o f.subject t) (fact_there i a f at is) ∙ against_is f t ∙ h

pub fact_done : (a : PureAtom) (f : KindFact) → kind_fact_of a ≡ Some f → (P : KindFact → Type 0) → P f → (g : KindFact) → kind_fact_of a ≡ Some g → P g
fact_done a f is P h g also = subst P (same_Some f g (sym is ∙ also)) h

-- two facts
module _ (vars : List Sort) (list : List PureAtom) (c : PureClasses) (node : IsNode vars list c) where
  pub both_ends : (i j : ℕ) (f g : KindFact) → kind_fact_at list i ≡ Some f → kind_fact_at list j ≡ Some g → are_facts_apart f g ≡ true → end_closes c.list (ChainEnd.BothKinds i j) f.subject g.subject ≡ true
  both_ends i j f g at_f at_g apart =
      let first : kind_fact_at c.list i ≡ Some f = longer i f at_f in
      let second : kind_fact_at c.list j ≡ Some g = longer j g at_g in
      (λ k. are_against (first k) (second k) f.subject g.subject) ∙ and_from (same_term f.subject f.subject && same_term g.subject g.subject) (are_facts_apart f g) (and_from _ _ (same_term-refl f.subject) (same_term-refl g.subject)) apart where
        longer : (i : ℕ) (f : KindFact) → kind_fact_at list i ≡ Some f → kind_fact_at c.list i ≡ Some f
        longer i f is = option_and_then_some kind_fact_of (slice_get list i) f is (λ a at said. ap (option_and_then kind_fact_of) (given_there vars list c node i a at) ∙ said)

  -- the first term of a side's class is a side
  pub first_side : (w : Wanted) (t u : PureTerm) → IsTableSide vars t → first_in_class c.nodes w t ≡ Some u → IsTableSide vars u
  first_side w t u side is =
      let found = first_found vars list c node w t u is in
      ⊎_elim (λ same. subst (IsTableSide vars) same side) (λ both. both.1) (equated_sides vars list node.plain t u (subst (λ l. Equates l t u) node.given found.equated))

-- ---- kinds that are found

pub known_found : (c : PureClasses) (t u : PureTerm) (o : Option Kind) → o ≡ known_kind u → Equates (given_list c) t u → IfSome o (HasKind c t)
known_found c t u (Some k) is e = inl (record { of = u; equated = e; known = sym is })
known_found c t u None is e = tt

pub known_not_none : (P : Type 0) (u : PureTerm) (o : Option Kind) → o ≡ known_kind u → is_some (known_kind u) ≡ true → IfNone o P
known_not_none P u (Some k) is some = tt
known_not_none P u None is some = absurd (false≢true (ap is_some is ∙ some))

pub none_either : {P : Type 0} (o : Option Kind) → P → IfNone o P
none_either (Some k) p = tt
none_either None p = p

pub any_sort : (s : Sort) → kind_of_sort s ≡ None → s ≡ Sort.Any
any_sort Sort.Any h = refl
any_sort Sort.Int h = cc
any_sort Sort.Bool h = cc
any_sort Sort.Str h = cc
any_sort Sort.Sym h = cc
any_sort Sort.Fresh h = cc
any_sort Sort.List h = cc

pub none_then : {P Q : Type 0} (o : Option Kind) → (P → Q) → IfNone o P → IfNone o Q
none_then (Some k) f h = tt
none_then None f h = f h

-- one more item at the end
module _ (vars : List Sort) {X : Type 0} (us vs : List X) (u : X) (n : ℕ) (P : Var → X → Type 0) (pushed : us ≡ vs ++ u ∷ []) (size : length vs ≡ n) where
  pub longer_by_one : length us ≡ n + 1
  longer_by_one = ap length pushed ∙ length-append vs (u ∷ []) ∙ ap (λ m. m + 1) size

  pub each_longer : ((x : Var) (w : X) → x.number < n → IsInTable vars x → slice_get vs x.number ≡ Some w → P x w) → ((x : Var) → x.number ≡ n → IsInTable vars x → P x u)
      → (x : Var) (w : X) → x.number < n + 1 → IsInTable vars x → slice_get us x.number ≡ Some w → P x w
  each_longer before here x w below there at = ⊎_elim (λ e. last e) (λ other. earlier other) (cases_eq x.number n) where
    at_longer : slice_get (vs ++ u ∷ []) x.number ≡ Some w
    at_longer = subst (λ (ws : List X). slice_get ws x.number ≡ Some w) pushed at

    last : x.number ≡ n → P x w
    last e =
        let place : x.number ≡ length vs + 0 = omega (arith, e, size) in
        let found : slice_get (vs ++ u ∷ []) x.number ≡ Some u = found_right vs (u ∷ []) x.number 0 place in
        subst (P x) (same_Some u w (sym found ∙ at_longer)) (here x e there)

    earlier : (x.number ≡ n → ⊥) → P x w
    earlier other = before x w (less x.number other below) there (sym (slice_get-append vs (u ∷ []) x.number (in_old x.number other below)) ∙ at_longer) where
      less : (a : ℕ) → (a ≡ n → ⊥) → a < n + 1 → a < n
      less a other below = omega (arith, other, below)

      in_old : (a : ℕ) → (a ≡ n → ⊥) → a < n + 1 → a < length vs
      in_old a other below = omega (arith, other, below, size)
