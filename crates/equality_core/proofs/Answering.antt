-- What classes without a clash show, and what a chain between two nodes shows.
use Rattle.std.proofs.Common.{◌≡◌, ⊎_elim, ℕ, zero, suc, ◌+◌, ◌-◌, ◌≤◌, List, [], ◌∷◌, ◌++◌, length, reverse, Bool, true, false, ◌||◌, if◌then◌else◌, Option, Some, None, slice_get, eqb, refl, sym, ap, ◌∙◌, subst, arith}
use Rattle.std.specs.Option.{option_and_then, is_some}
use Rattle.std.proofs.lemmas.Bool.{false≢true, or_from, or_parts, or_left, or_right, and_from, and_right, and_left, cases_lt, eqb-true, eq-eqb, le-ltb, not_from_true, not-false}
use Rattle.std.proofs.lemmas.Option.{option_and_then_some, same_Some, slice_get_within}
use Rattle.gil_values.specs.declared.kinds.Kind.{Kind}
use Rattle.gil_values.specs.Equality.{same_kind}
use Rattle.pure_terms.specs.declared.variables.Sort.{Sort}
use Rattle.pure_terms.specs.Equality.{same_term}
use Rattle.pure_terms.specs.EqualityLaws.{same_literal-refl, same_term-same, same_term-refl}
use Rattle.pure_terms.specs.Fragment.{has_fragment_form}
use Rattle.pure_terms.specs.Kinds.{known_kind}
use Rattle.pure_terms.specs.Pure.{PureTerm, literal, variable, list_of, unary_of, binary_of, PureTerms, to_list, PureAtom, negative}
use Rattle.pure_terms.proofs.VariableLaws.{slice_get-append}
use Rattle.solver_proof.specs.declared.proofs.ChainEnd.{ChainEnd}
use Rattle.solver_proof.specs.Chains.{equals, Sides, equality_of, equality_at, disequality_of, disequality_at, are_sides, Leads, are_different_literals, are_other_kinds, is_fresh_over, end_closes}
use Rattle.solver_proof.specs.Closing.{Closes, HaveOneLength}
use Rattle.solver_proof.specs.Pure.{PureProof, chain}
use Rattle.solver_proof.proofs.Growing.{found_right}
use Rattle.equality_core.specs.declared.clashes.Clash.{Clash}
use Rattle.equality_core.specs.Equating.{Equates, itself, by_atom, turned, joined, by_elements, have_other_lengths, clash, EquatesNoClash, HaveFragmentForms}
use Rattle.equality_core.specs.Nodes.{PureNode, AreNodes, root_of, IsUnited, end_between, clash_end, ClashesWithNone, IsClash}
use Rattle.equality_core.specs.Classes.{PureClasses, given_list, under_parts, IsTaken, EquatesApart}
use Rattle.equality_core.specs.Classified.{IsChained}
use Rattle.equality_core.specs.Linking.{both_sides, IsLinkedIn}
use Rattle.equality_core.specs.Solved.{IsLinked}
use Rattle.equality_core.proofs.Exact.{given_atom, leads_equates, leads_united, equated_leads, one_length}
use Rattle.equality_core.proofs.Leading.{leads_append, leads_reverse, equality_longer}
use Rattle.equality_core.proofs.Taking.{under-closes}

-- ---- ends

module _ (s t : PureTerm) where
  abbrev chosen_end : Bool → Bool → Bool → Bool → Option ChainEnd
  chosen_end a b f g = if a then Some ChainEnd.Literals else (if b then Some ChainEnd.Kinds else (if f then Some ChainEnd.Fresh else (if g then Some ChainEnd.Fresh else None)))

  ends_by : (list : List PureAtom) (end : ChainEnd) (a b f g : Bool) → are_different_literals s t ≡ a → are_other_kinds (known_kind s) (known_kind t) ≡ b → is_fresh_over s t ≡ f → is_fresh_over t s ≡ g → chosen_end a b f g ≡ Some end → end_closes list end s t ≡ true
  ends_by list end true b f g is_a is_b is_f is_g is = subst (λ e. end_closes list e s t ≡ true) (same_Some ChainEnd.Literals end is) is_a
  ends_by list end false true f g is_a is_b is_f is_g is = subst (λ e. end_closes list e s t ≡ true) (same_Some ChainEnd.Kinds end is) is_b
  ends_by list end false false true g is_a is_b is_f is_g is = subst (λ e. end_closes list e s t ≡ true) (same_Some ChainEnd.Fresh end is) (or_left _ _ is_f)
  ends_by list end false false false true is_a is_b is_f is_g is = subst (λ e. end_closes list e s t ≡ true) (same_Some ChainEnd.Fresh end is) (or_right _ _ is_g)
  ends_by list end false false false false is_a is_b is_f is_g is = cc

  pub end_is : (list : List PureAtom) (end : ChainEnd) → end_between s t ≡ Some end → end_closes list end s t ≡ true
  end_is list end is = ends_by list end _ _ _ _ refl refl refl refl is

  pub record NoEnd : Type 0 where
    pub literals : are_different_literals s t ≡ false
    pub kinds : are_other_kinds (known_kind s) (known_kind t) ≡ false
    pub fresh : is_fresh_over s t ≡ false
    pub fresh_back : is_fresh_over t s ≡ false

  none_by : (a b f g : Bool) → are_different_literals s t ≡ a → are_other_kinds (known_kind s) (known_kind t) ≡ b → is_fresh_over s t ≡ f → is_fresh_over t s ≡ g → chosen_end a b f g ≡ None → NoEnd
  none_by true b f g is_a is_b is_f is_g is = cc
  none_by false true f g is_a is_b is_f is_g is = cc
  none_by false false true g is_a is_b is_f is_g is = cc
  none_by false false false true is_a is_b is_f is_g is = cc
  none_by false false false false is_a is_b is_f is_g is = record { literals = is_a; kinds = is_b; fresh = is_f; fresh_back = is_g }

  pub no_end : end_between s t ≡ None → NoEnd
  no_end is = none_by _ _ _ _ refl refl refl refl is

-- ---- a term doesn't clash with itself

same_kinds : (k : Kind) → same_kind k k ≡ true
same_kinds Kind.Int = refl
same_kinds Kind.Bool = refl
same_kinds Kind.Str = refl
same_kinds Kind.Sym = refl
same_kinds Kind.Kind = refl
same_kinds Kind.Proc = refl
same_kinds Kind.List = refl
same_kinds Kind.Undef = refl
same_kinds Kind.Null = refl

own_kind : (o : Option Kind) → are_other_kinds o o ≡ false
own_kind (Some k) = not_from_true _ (same_kinds k)
own_kind None = refl

own_fresh : (t : PureTerm) → is_fresh_over t t ≡ false
own_fresh (variable x) = and_right _ _ (and_left _ _ (le-ltb x.number x.number (same x.number))) where
  same : (n : ℕ) → n ≤ n
  same n = omega arith
own_fresh (literal l) = refl
own_fresh (list_of ts) = refl
own_fresh (unary_of op t) = refl
own_fresh (binary_of op s t) = refl

own_literal : (t : PureTerm) → are_different_literals t t ≡ false
own_literal (literal l) = not_from_true _ (same_literal-refl l)
own_literal (variable x) = refl
own_literal (list_of ts) = refl
own_literal (unary_of op t) = refl
own_literal (binary_of op s t) = refl

lengths_by : (s t : PureTerm) → ((ts us : PureTerms) → s ≡ list_of ts → t ≡ list_of us → HaveOneLength ts us) → have_other_lengths s t ≡ false
lengths_by (list_of ts) (list_of us) h = not_from_true _ (eq-eqb _ _ (h ts us refl refl))
lengths_by (list_of ts) (literal l) h = refl
lengths_by (list_of ts) (variable x) h = refl
lengths_by (list_of ts) (unary_of op t) h = refl
lengths_by (list_of ts) (binary_of op s t) h = refl
lengths_by (literal l) t h = refl
lengths_by (variable x) t h = refl
lengths_by (unary_of op s) t h = refl
lengths_by (binary_of op s u) t h = refl

no_clash_by : (s t : PureTerm) → NoEnd s t → have_other_lengths s t ≡ false → clash s t ≡ false
no_clash_by s t none lengths = or_from _ _ none.literals (or_from _ _ none.kinds (or_from _ _ none.fresh (or_from _ _ none.fresh_back lengths)))

no_own_end : (t : PureTerm) → NoEnd t t
no_own_end t = record { literals = own_literal t; kinds = own_kind (known_kind t); fresh = own_fresh t; fresh_back = own_fresh t }

-- what there is where there is no clash
other_kinds : (s t : PureTerm) → clash s t ≡ false → are_other_kinds (known_kind s) (known_kind t) ≡ false
other_kinds s t h =
    let one = or_parts (are_different_literals s t) (are_other_kinds (known_kind s) (known_kind t) || (is_fresh_over s t || (is_fresh_over t s || have_other_lengths s t))) h in
    (or_parts (are_other_kinds (known_kind s) (known_kind t)) (is_fresh_over s t || (is_fresh_over t s || have_other_lengths s t)) one.1).0

other_lengths : (s t : PureTerm) → clash s t ≡ false → have_other_lengths s t ≡ false
other_lengths s t h =
    let one = or_parts (are_different_literals s t) (are_other_kinds (known_kind s) (known_kind t) || (is_fresh_over s t || (is_fresh_over t s || have_other_lengths s t))) h in
    let two = or_parts (are_other_kinds (known_kind s) (known_kind t)) (is_fresh_over s t || (is_fresh_over t s || have_other_lengths s t)) one.1 in
    let three = or_parts (is_fresh_over s t) (is_fresh_over t s || have_other_lengths s t) two.1 in
    (or_parts (is_fresh_over t s) (have_other_lengths s t) three.1).1

-- ---- chains between nodes

pub two_lead : (list : List PureAtom) (nodes : List PureNode) (i j : ℕ) (m n : PureNode) → AreNodes list nodes → slice_get nodes i ≡ Some m → slice_get nodes j ≡ Some n → m.root ≡ n.root → Leads list (m.chain ++ reverse n.chain) m.term n.term
two_lead list nodes i j m n are at_m at_n one =
    let up = are i m at_m in
    let down = are j n at_n in
    let same : down.first ≡ up.first = same_Some down.first up.first (sym down.there ∙ subst (λ r. slice_get nodes r ≡ Some up.first) one up.there) in
    leads_append list m.chain (reverse n.chain) m.term up.first.term n.term up.leads (subst (λ f. Leads list (reverse n.chain) f.term n.term) same (leads_reverse list n.chain n.term down.first.term down.leads))

clash_parts : (b : Bool) (m n : PureNode) (end : ChainEnd) → eqb m.root n.root ≡ b → (if b then end_between m.term n.term else None) ≡ Some end → (m.root ≡ n.root) × (end_between m.term n.term ≡ Some end)
clash_parts true m n end same is = (eqb-true m.root n.root same, is)
clash_parts false m n end same is = cc

pub clash_closes : (c : PureClasses) (place : ℕ) (vars : List Sort) (found : Clash) → IsTaken c place → (is : IsClash c.nodes found) → Closes vars (given_list c) (under_parts c.opened (chain (is.first.chain ++ reverse is.second.chain) found.end))
clash_closes c place vars found taken is =
    let parts = clash_parts (eqb is.first.root is.second.root) is.first is.second found.end refl is.clashes in
    under-closes vars (given_list c) c.opened c.list (chain (is.first.chain ++ reverse is.second.chain) found.end) taken.opened
    (is.first.term, (is.second.term, (two_lead c.list c.nodes found.first found.second is.first is.second taken.nodes is.at_first is.at_second parts.0, end_is is.first.term is.second.term c.list found.end parts.1)))

-- the same for nodes that are those of the classes
pub clash_closes_in : (c : PureClasses) (place : ℕ) (vars : List Sort) (found : Clash) (nodes : List PureNode) → nodes ≡ c.nodes → IsTaken c place → (is : IsClash nodes found) → Closes vars (given_list c) (under_parts c.opened (chain (is.first.chain ++ reverse is.second.chain) found.end))
clash_closes_in c place vars found nodes same taken =
    let P : List PureNode → Type 0 = λ ns. (is : IsClash ns found) → Closes vars (given_list c) (under_parts c.opened (chain (is.first.chain ++ reverse is.second.chain) found.end)) in
    subst P (sym same) (λ is. clash_closes c place vars found taken is)

-- ---- classes without a clash

pub record Found (nodes : List PureNode) (t : PureTerm) (r : ℕ) : Type 0 where
  pub place : ℕ
  pub node : PureNode
  pub at : slice_get nodes place ≡ Some node
  pub term : node.term ≡ t
  pub root : node.root ≡ r

pub root_found : (nodes : List PureNode) (t : PureTerm) (r : ℕ) → root_of nodes t ≡ Some r → Found nodes t r
root_found [] t r is = cc
root_found (n ∷ ns) t r is = by_test (same_term n.term t) refl is (root_found ns t r) where
  by_test : (b : Bool) → same_term n.term t ≡ b → (if b then Some n.root else root_of ns t) ≡ Some r → (root_of ns t ≡ Some r → Found ns t r) → Found (n ∷ ns) t r
  by_test true same is again = record { place = 0; node = n; at = refl; term = same_term-same n.term t same; root = same_Some n.root r is }
  by_test false same is again = let rest = again is in record { place = suc rest.place; node = rest.node; at = rest.at; term = rest.term; root = rest.root }

united_end : (nodes : List PureNode) → ((i : ℕ) (n : PureNode) → slice_get nodes i ≡ Some n → ClashesWithNone n nodes) → (s t : PureTerm) → IsUnited nodes s t → end_between s t ≡ None
united_end nodes clear s t is =
    let left = root_found nodes s is.root is.left in
    let right = root_found nodes t is.root is.right in
    let none = clear left.place left.node left.at right.place right.node right.at in
    (λ i. end_between (sym left.term i) (sym right.term i)) ∙ opened left.node right.node (eq-eqb left.node.root right.node.root (left.root ∙ sym right.root)) none where
      opened : (m n : PureNode) → eqb m.root n.root ≡ true → clash_end m n ≡ None → end_between m.term n.term ≡ None
      opened m n same none = sym (ap (λ (b : Bool). if b then end_between m.term n.term else None) same) ∙ none

module _ (c : PureClasses) (taken : IsTaken c (length c.list)) where
  pub cleared : ((i : ℕ) (n : PureNode) → slice_get c.nodes i ≡ Some n → ClashesWithNone n c.nodes) → HaveFragmentForms (given_list c) → EquatesNoClash (given_list c)
  cleared clear forms s t e = from (equated_leads c taken forms kinds s t e) where
    kinds : (i : ℕ) (sides : Sides) → equality_at c.list i ≡ Some sides → are_other_kinds (known_kind sides.left) (known_kind sides.right) ≡ false
    kinds i sides is = (no_end sides.left sides.right (united_end c.nodes clear sides.left sides.right (taken.united i sides (option_and_then_some equality_of (slice_get c.list i) sides is (λ a at said. slice_get_within c.list i a at)) is))).kinds

    from : (path : List ℕ) × Leads c.list path s t → clash s t ≡ false
    from (p, leads) = no_clash_by s t
        (⊎_elim (λ same. subst (NoEnd s) same (no_own_end s)) (λ united. no_end s t (united_end c.nodes clear s t united)) (leads_united c taken p s t leads))
        (lengths_by s t (λ ts us is_s is_t. one_length c taken forms kinds s t ts us e is_s is_t))

  -- ---- two terms, whose disequality stands in the list

  differ_there : (s t : PureTerm) (place : ℕ) → disequality_at (given_list c) place ≡ Some (both_sides s t) → disequality_at c.list place ≡ Some (both_sides s t)
  differ_there s t place is = option_and_then_some disequality_of (slice_get (given_list c) place) (both_sides s t) is (λ a at said. ap (option_and_then disequality_of) (given_atom c place a at) ∙ said)

  pub chain_links : (s t : PureTerm) (place : ℕ) (is : List ℕ) → disequality_at (given_list c) place ≡ Some (both_sides s t) → Leads c.list is s t → IsLinkedIn c s t (Some (under_parts c.opened (chain is (ChainEnd.Not place))))
  chain_links s t place is differ leads =
      (λ vars. under-closes vars (given_list c) c.opened c.list (chain is (ChainEnd.Not place)) taken.opened (s, (t, (leads, ends))), leads_equates c taken is s t leads) where
        ends : end_closes c.list (ChainEnd.Not place) s t ≡ true
        ends = ap (λ o. are_sides o s t) (differ_there s t place differ) ∙ or_left _ _ (and_from _ _ (same_term-refl s) (same_term-refl t))

  pub pair_leads : (s t : PureTerm) (m n : PureNode) (i j : ℕ) → slice_get c.nodes i ≡ Some m → slice_get c.nodes j ≡ Some n → m.term ≡ s → n.term ≡ t → m.root ≡ n.root → Leads c.list (m.chain ++ reverse n.chain) s t
  pair_leads s t m n i j at_m at_n is_s is_t one = subst (λ x. Leads c.list (m.chain ++ reverse n.chain) x t) is_s (subst (λ x. Leads c.list (m.chain ++ reverse n.chain) m.term x) is_t (two_lead c.list c.nodes i j m n taken.nodes at_m at_n one))

  pub not_linked : (s t : PureTerm) → (s ≡ t → ⊥) → (IsUnited c.nodes s t → ⊥) → IsLinkedIn c s t None
  not_linked s t other apart forms clear e = from (equated_leads c taken forms kinds s t e) where
    kinds : (i : ℕ) (sides : Sides) → equality_at c.list i ≡ Some sides → are_other_kinds (known_kind sides.left) (known_kind sides.right) ≡ false
    kinds i sides is = other_kinds sides.left sides.right (clear sides.left sides.right (taken.equated i sides is))

    from : (path : List ℕ) × Leads c.list path s t → ⊥
    from (p, leads) = ⊎_elim other apart (leads_united c taken p s t leads)

-- ---- a list with a disequality appended equates what the list equates

module _ (atoms : List PureAtom) (s t : PureTerm) where
  abbrev pub differing : List PureAtom
  differing = atoms ++ negative (equals s t) ∷ []

  last_says_nothing : (k : ℕ) (a : PureAtom) → slice_get (negative (equals s t) ∷ []) k ≡ Some a → equality_of a ≡ None
  last_says_nothing zero a at = ap equality_of (sym (same_Some (negative (equals s t)) a at))
  last_says_nothing (suc k) a at = cc

  atom_back : (i : ℕ) (a : PureAtom) (sides : Sides) → slice_get differing i ≡ Some a → equality_of a ≡ Some sides → slice_get atoms i ≡ Some a
  atom_back i a sides at said = ⊎_elim (λ h. sym (slice_get-append atoms (negative (equals s t) ∷ []) i h) ∙ at) (λ h. past h) (cases_lt i (length atoms)) where
    apart : length atoms ≤ i → i ≡ length atoms + (i - length atoms)
    apart h = omega (arith, h)

    past : length atoms ≤ i → slice_get atoms i ≡ Some a
    past h =
        let nothing : equality_of a ≡ None = last_says_nothing (i - length atoms) a (sym (found_right atoms (negative (equals s t) ∷ []) i (i - length atoms) (apart h)) ∙ at) in
        cc

  equality_back : (i : ℕ) (sides : Sides) → equality_at differing i ≡ Some sides → equality_at atoms i ≡ Some sides
  equality_back i sides is = option_and_then_some equality_of (slice_get differing i) sides is (λ a at said. ap (option_and_then equality_of) (atom_back i a sides at said) ∙ said)

  pub equates_back : (u w : PureTerm) → Equates differing u w → Equates atoms u w
  equates_back u w itself = itself
  equates_back u w (by_atom i e) = by_atom i (equality_back i (record { left = u; right = w }) e)
  equates_back u w (turned e) = turned (equates_back w u e)
  equates_back u w (joined {t = x} e f) = joined (equates_back u x e) (equates_back x w f)
  equates_back u w (by_elements {ts = ts} {us = us} i e at_u at_w) = by_elements i (equates_back (list_of ts) (list_of us) e) at_u at_w

  pub equates_on : (u w : PureTerm) → Equates atoms u w → Equates differing u w
  equates_on u w itself = itself
  equates_on u w (by_atom i e) = by_atom i (equality_longer atoms (negative (equals s t) ∷ []) i (record { left = u; right = w }) e)
  equates_on u w (turned e) = turned (equates_on w u e)
  equates_on u w (joined {t = x} e f) = joined (equates_on u x e) (equates_on x w f)
  equates_on u w (by_elements {ts = ts} {us = us} i e at_u at_w) = by_elements i (equates_on (list_of ts) (list_of us) e) at_u at_w

  some_there : (o : Option Sides) → is_some o ≡ true → (sides : Sides) × (o ≡ Some sides)
  some_there (Some sides) is = (sides, refl)
  some_there None is = absurd (false≢true is)

  pub forms_on : HaveFragmentForms atoms → HaveFragmentForms differing
  forms_on forms i a at is = from (some_there (equality_of a) is) where
    from : (sides : Sides) × (equality_of a ≡ Some sides) → has_fragment_form a ≡ true
    from (sides, said) = forms i a (atom_back i a sides at said) is

  pub differ_at_end : disequality_at differing (length atoms) ≡ Some (both_sides s t)
  differ_at_end = ap (option_and_then disequality_of) (found_right atoms (negative (equals s t) ∷ []) (length atoms) 0 (plus_zero (length atoms))) where
    plus_zero : (n : ℕ) → n ≡ n + 0
    plus_zero n = omega arith

  -- lists that equate terms of different length have a clash
  pub apart_not_clear : EquatesNoClash atoms → EquatesApart differing → ⊥
  apart_not_clear clear apart =
      let none = clear (list_of apart.left) (list_of apart.right) (equates_back (list_of apart.left) (list_of apart.right) apart.equated) in
      let lengths : have_other_lengths (list_of apart.left) (list_of apart.right) ≡ false = other_lengths (list_of apart.left) (list_of apart.right) none in
      apart.apart (eqb-true (length (to_list apart.left)) (length (to_list apart.right)) (not-false _ lengths))

pub link_from : (c : PureClasses) (atoms : List PureAtom) (s t : PureTerm) → given_list c ≡ differing atoms s t → (HaveFragmentForms atoms → EquatesNoClash atoms) → (o : Option PureProof) → IsLinkedIn c s t o → IsLinked atoms s t o
link_from c atoms s t same clear (Some p) (closes, e) = (equates_back atoms s t s t (subst (λ l. Equates l s t) same e), λ vars. subst (λ l. Closes vars l p) same (closes vars))
link_from c atoms s t same clear None h = λ forms e.
    let never : HaveFragmentForms (differing atoms s t) → EquatesNoClash (differing atoms s t) → Equates (differing atoms s t) s t → ⊥ = subst (λ l. HaveFragmentForms l → EquatesNoClash l → Equates l s t → ⊥) same h in
    never (forms_on atoms s t forms) (λ u w f. clear forms u w (equates_back atoms s t u w f)) (equates_on atoms s t s t e)

-- a list without a clash doesn't equate terms of different length
pub not_apart : (atoms : List PureAtom) → EquatesNoClash atoms → EquatesApart atoms → ⊥
not_apart atoms clear apart =
    let none = clear (list_of apart.left) (list_of apart.right) apart.equated in
    let lengths : have_other_lengths (list_of apart.left) (list_of apart.right) ≡ false = other_lengths (list_of apart.left) (list_of apart.right) none in
    apart.apart (eqb-true (length (to_list apart.left)) (length (to_list apart.right)) (not-false _ lengths))

-- a chain between two terms, with an end
module _ (c : PureClasses) (taken : IsTaken c (length c.list)) (s t : PureTerm) (end : ChainEnd) where
  pub chain_closes : (is : List ℕ) → Leads c.list is s t → IsChained c s t end (Some (under_parts c.opened (chain is end)))
  chain_closes is leads = (leads_equates c taken is s t leads, λ ends vars. under-closes vars (given_list c) c.opened c.list (chain is end) taken.opened (s, (t, (leads, ends))))

  pub not_chained : (s ≡ t → ⊥) → (IsUnited c.nodes s t → ⊥) → IsChained c s t end None
  not_chained other apart = not_linked c taken s t other apart
