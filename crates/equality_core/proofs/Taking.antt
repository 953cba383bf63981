-- What holds once an equality was taken in.
use Rattle.std.proofs.Common.{◌≡◌, ⊎_elim, ◌⊎◌, inl, inr, ℕ, zero, suc, ◌+◌, ◌-◌, ◌<◌, ◌≤◌, List, [], ◌∷◌, ◌++◌, length, take, drop, true, Option, Some, None, slice_get, refl, sym, ap, ◌∙◌, subst, add-one, arith, length-append}
use Rattle.std.specs.Prelude.{IsSomeAnd}
use Rattle.std.specs.Option.{option_and_then, is_some}
use Rattle.std.proofs.lemmas.Bool.{cases_eq, cases_lt}
use Rattle.std.proofs.lemmas.List.{take-append-le, take_all}
use Rattle.std.proofs.lemmas.Option.{same_Some, option_and_then_some}
use Rattle.pure_terms.specs.declared.variables.Sort.{Sort}
use Rattle.pure_terms.specs.Pure.{PureTerm, literal, variable, list_of, unary_of, binary_of, PureTerms, no_terms, term_and, to_list, PureAtom, positive, negative, term_of, size, sizes}
use Rattle.pure_terms.proofs.VariableLaws.{slice_get-append}
use Rattle.solver_proof.specs.Chains.{equals, Sides, equality_of, equality_at}
use Rattle.solver_proof.specs.Closing.{Closes, HaveOneLength, Lists, element_equalities, equal_lists_at}
use Rattle.solver_proof.specs.Pure.{PureProof, parts_apart}
use Rattle.solver_proof.proofs.Growing.{found_left, found_right, past_end}
use Rattle.equality_core.specs.Equating.{Equates, by_atom, by_elements, HaveFragmentForms}
use Rattle.equality_core.specs.Nodes.{PureNode, AreNodes, IsUnited, IsUnitedBy}
use Rattle.equality_core.specs.Classes.{PureClasses, given_list, IsOpened, under_parts, AreListed, are_plain, IsTakenTo, IsTaken, term_weight, weight, weight_from, EquatesApart}
use Rattle.equality_core.proofs.Leading.{leads_longer}
use Rattle.equality_core.proofs.Noding.{united_nodes, united_still, united_sides}
use Rattle.equality_core.proofs.Saying.{SaysEqual, SaysTruth, says, list_pair, lists_at, plain, plain_element}

-- ---- parts

pub some_map : {A : Type 0} (o : Option A) (P Q : A → Type 0) → ((x : A) → P x → Q x) → IsSomeAnd o P → IsSomeAnd o Q
some_map (Some x) P Q each h = each x h
some_map None P Q each h = h

pub some_from : {A : Type 0} (o : Option A) (x : A) (P : A → Type 0) → o ≡ Some x → P x → IsSomeAnd o P
some_from o x P is h = subst (λ p. IsSomeAnd p P) (sym is) h

pub under-closes : (vars : List Sort) (atoms : List PureAtom) (ps : List ℕ) (list : List PureAtom) (p : PureProof) → IsOpened atoms ps list → Closes vars list p → Closes vars atoms (under_parts ps p)
under-closes vars atoms [] list p same closes = subst (λ l. Closes vars l p) (sym same) closes
under-closes vars atoms (q ∷ ps) list p opened closes =
    some_map (equal_lists_at atoms q) _ (λ (lists : Lists). HaveOneLength lists.left lists.right × Closes vars (atoms ++ element_equalities lists.left lists.right) (under_parts ps p))
    (λ lists both. (both.0, under-closes vars (atoms ++ element_equalities lists.left lists.right) ps list p both.1 closes)) opened

pub opened-append : (atoms : List PureAtom) (ps : List ℕ) (list : List PureAtom) (p : ℕ) (ts us : PureTerms) → IsOpened atoms ps list → equal_lists_at list p ≡ Some (record { left = ts; right = us }) → HaveOneLength ts us → IsOpened atoms (ps ++ p ∷ []) (list ++ element_equalities ts us)
opened-append atoms [] list p ts us same is one =
    some_from (equal_lists_at atoms p) (record { left = ts; right = us }) (λ (lists : Lists). HaveOneLength lists.left lists.right × (atoms ++ element_equalities lists.left lists.right ≡ list ++ element_equalities ts us)) (ap (λ l. equal_lists_at l p) same ∙ is) (one, ap (λ l. l ++ element_equalities ts us) same)
opened-append atoms (q ∷ ps) list p ts us opened is one =
    some_map (equal_lists_at atoms q) _ (λ (lists : Lists). HaveOneLength lists.left lists.right × IsOpened (atoms ++ element_equalities lists.left lists.right) (ps ++ p ∷ []) (list ++ element_equalities ts us))
    (λ lists both. (both.0, opened-append (atoms ++ element_equalities lists.left lists.right) ps list p ts us both.1 is one)) opened

-- ---- the equalities of elements

pub record IsElement (ts us : PureTerms) (k : ℕ) (a : PureAtom) : Type 0 where
  pub left : PureTerm
  pub right : PureTerm
  pub at_left : slice_get (to_list ts) k ≡ Some left
  pub at_right : slice_get (to_list us) k ≡ Some right
  pub is : a ≡ positive (equals left right)

element_at : (ts us : PureTerms) (k : ℕ) (a : PureAtom) → slice_get (element_equalities ts us) k ≡ Some a → IsElement ts us k a
element_at no_terms us k a at = cc
element_at (term_and t ts) no_terms k a at = cc
element_at (term_and t ts) (term_and u us) zero a at = record { left = t; right = u; at_left = refl; at_right = refl; is = sym (same_Some (positive (equals t u)) a at) }
element_at (term_and t ts) (term_and u us) (suc k) a at =
    let rest = element_at ts us k a at in
    record { left = rest.left; right = rest.right; at_left = rest.at_left; at_right = rest.at_right; is = rest.is }

element_there : (ts us : PureTerms) (k : ℕ) (s t : PureTerm) → slice_get (to_list ts) k ≡ Some s → slice_get (to_list us) k ≡ Some t → slice_get (element_equalities ts us) k ≡ Some (positive (equals s t))
element_there no_terms us k s t at_s at_t = cc
element_there (term_and x ts) no_terms k s t at_s at_t = cc
element_there (term_and x ts) (term_and y us) zero s t at_s at_t = λ i. Some (positive (equals (same_Some x s at_s i) (same_Some y t at_t i)))
element_there (term_and x ts) (term_and y us) (suc k) s t at_s at_t = element_there ts us k s t at_s at_t

same_equality : (s t u w : PureTerm) → positive (equals s t) ≡ positive (equals u w) → (s ≡ u) × (t ≡ w)
same_equality s t u w e = (cc, cc)

-- the sides of an element's equality are the elements
element_sides : (ts us : PureTerms) (k : ℕ) (a : PureAtom) (sides : Sides) → IsElement ts us k a → equality_of a ≡ Some sides → (slice_get (to_list ts) k ≡ Some sides.left) × (slice_get (to_list us) k ≡ Some sides.right)
element_sides ts us k a sides element is = ⊎_elim equal truth (says a sides is) where
  equal : SaysEqual a sides → (slice_get (to_list ts) k ≡ Some sides.left) × (slice_get (to_list us) k ≡ Some sides.right)
  equal e =
      let both = same_equality element.left element.right sides.left sides.right (sym element.is ∙ e.is) in
      (element.at_left ∙ ap Some both.0, element.at_right ∙ ap Some both.1)

  truth : SaysTruth a sides → (slice_get (to_list ts) k ≡ Some sides.left) × (slice_get (to_list us) k ≡ Some sides.right)
  truth e = absurd (⊎_elim (λ f. clash (sym element.is ∙ f)) (λ f. clash_negative (sym element.is ∙ f)) e.of) where
    clash : positive (equals element.left element.right) ≡ positive (variable e.x) → ⊥
    clash f = cc

    clash_negative : positive (equals element.left element.right) ≡ negative (variable e.x) → ⊥
    clash_negative f = cc

-- ---- weights

pub weight-append : (xs ys : List PureAtom) → weight (xs ++ ys) ≡ weight xs + weight ys
weight-append [] ys = zero_plus (weight ys) where
  zero_plus : (n : ℕ) → n ≡ 0 + n
  zero_plus n = omega arith
weight-append (x ∷ xs) ys = ap (λ n. term_weight (term_of x) + n) (weight-append xs ys) ∙ regroup (term_weight (term_of x)) (weight xs) (weight ys) where
  regroup : (a b c : ℕ) → a + (b + c) ≡ (a + b) + c
  regroup a b c = omega arith

weight-longer : (xs ys : List PureAtom) (p : ℕ) → p ≤ length xs → weight (drop p (xs ++ ys)) ≡ weight (drop p xs) + weight ys
weight-longer xs ys zero h = weight-append xs ys
weight-longer [] ys (suc p) h = absurd (omega (arith, h))
weight-longer (x ∷ xs) ys (suc p) h = weight-longer xs ys p (omega (arith, h))

pub weight-at : (xs : List PureAtom) (p : ℕ) (a : PureAtom) → slice_get xs p ≡ Some a → weight (drop p xs) ≡ term_weight (term_of a) + weight (drop (suc p) xs)
weight-at [] p a at = cc
weight-at (x ∷ xs) zero a at = ap (λ b. term_weight (term_of b) + weight xs) (same_Some x a at)
weight-at (x ∷ xs) (suc p) a at = weight-at xs p a at

size-positive : (t : PureTerm) → 1 ≤ size t
size-positive (literal l) = omega arith
size-positive (variable x) = omega arith
size-positive (list_of ts) = omega arith
size-positive (unary_of op t) = omega arith
size-positive (binary_of op s t) = omega arith

weight-positive : (t : PureTerm) → 1 ≤ term_weight t
weight-positive (literal l) = omega arith
weight-positive (variable x) = omega arith
weight-positive (list_of ts) = omega arith
weight-positive (unary_of op t) = omega arith
weight-positive (binary_of op s t) = let h : 1 ≤ size s = size-positive s in omega (arith, h)

pub falls : (c : PureClasses) (place : ℕ) → place < length c.list → weight_from (place + 1) c < weight_from place c
falls c place below = by_cases (slice_get c.list place) refl where
  less : (w r n : ℕ) → 1 ≤ w → n ≡ w + r → r < n
  less w r n h e = omega (arith, h, e)

  by_cases : (o : Option PureAtom) → slice_get c.list place ≡ o → weight (drop (place + 1) c.list) < weight (drop place c.list)
  by_cases (Some a) at = rw add-one (less (term_weight (term_of a)) (weight (drop (suc place) c.list)) (weight (drop place c.list)) (weight-positive (term_of a)) (weight-at c.list place a at))
  by_cases None at = let past : length c.list ≤ place = past_end c.list place at in absurd (omega (arith, below, past))

element-weight : (ts us : PureTerms) → weight (element_equalities ts us) ≤ sizes ts + sizes us
element-weight no_terms us = omega arith
element-weight (term_and t ts) no_terms = omega arith
element-weight (term_and t ts) (term_and u us) = let rest : weight (element_equalities ts us) ≤ sizes ts + sizes us = element-weight ts us in add (size t) (size u) (weight (element_equalities ts us)) (sizes ts) (sizes us) rest where
  add : (a b w m n : ℕ) → w ≤ m + n → (a + b) + w ≤ (a + m) + (b + n)
  add a b w m n h = omega arith

-- ---- one equality more

less_or_last : (i p : ℕ) → i < p + 1 → (i < p) ⊎ (i ≡ p)
less_or_last i p h = ⊎_elim (λ e. inr e) (λ n. inl (less n)) (cases_eq i p) where
  less : (i ≡ p → ⊥) → i < p
  less n = omega arith

says_at : (list : List PureAtom) (i p : ℕ) (sides : Sides) → i ≡ p → equality_at list i ≡ Some sides → equality_at list p ≡ Some sides
says_at list i p sides e is = ap (equality_at list) (sym e) ∙ is

-- what an answer says of the classes
abbrev pub GoesOn : PureClasses → ℕ → PureClasses → Type 0
GoesOn old place new = (given_list new ≡ given_list old) × (IsTaken new (place + 1) × weight_from (place + 1) new < weight_from place old)

pub after_flat : (c : PureClasses) (p : ℕ) → p < length c.list → IsTakenTo c (p + 1) p → ((ts us : PureTerms) → equality_at c.list p ≡ Some (list_pair ts us) → ⊥) → GoesOn c p c
after_flat c p below taken flat = (refl, (record { within = taken.within; opened = taken.opened; nodes = taken.nodes; united = taken.united; listed = listed; equated = taken.equated; plain = taken.plain }, falls c p below)) where
  listed : (i : ℕ) (ts us : PureTerms) → i < p + 1 → equality_at c.list i ≡ Some (list_pair ts us) → AreListed c.list ts us
  listed i ts us h is = ⊎_elim (λ less. taken.listed i ts us less is) (λ e. absurd (flat ts us (says_at c.list i p (list_pair ts us) e is))) (less_or_last i p h)

pub after_none : (c : PureClasses) (p : ℕ) → p < length c.list → IsTaken c p → equality_at c.list p ≡ None → GoesOn c p c
after_none c p below taken none = after_flat c p below (record { within = taken.within; opened = taken.opened; nodes = taken.nodes; united = united; listed = taken.listed; equated = taken.equated; plain = taken.plain }) (λ ts us is. nothing (list_pair ts us) is) where
  nothing : (sides : Sides) → equality_at c.list p ≡ Some sides → ⊥
  nothing sides is = cc

  united : (i : ℕ) (sides : Sides) → i < p + 1 → equality_at c.list i ≡ Some sides → IsUnited c.nodes sides.left sides.right
  united i sides h is = ⊎_elim (λ less. taken.united i sides less is) (λ e. absurd (nothing sides (says_at c.list i p sides e is))) (less_or_last i p h)

abbrev pub with_nodes : PureClasses → List PureNode → PureClasses
with_nodes c nodes = record { given = c.given; list = c.list; opened = c.opened; nodes = nodes }

pub after_united : (c : PureClasses) (p : ℕ) (sides : Sides) (nodes : List PureNode) → IsTaken c p → equality_at c.list p ≡ Some sides → IsUnitedBy c.nodes sides p nodes → IsTakenTo (with_nodes c nodes) (p + 1) p
after_united c p sides nodes taken says by =
    record { within = taken.within; opened = taken.opened; nodes = united_nodes c.list c.nodes sides p nodes taken.nodes by says; united = united; listed = taken.listed; equated = taken.equated; plain = taken.plain } where
      united : (i : ℕ) (others : Sides) → i < p + 1 → equality_at c.list i ≡ Some others → IsUnited nodes others.left others.right
      united i others h is = ⊎_elim
          (λ less. united_still c.list c.nodes sides p nodes taken.nodes by others.left others.right (taken.united i others less is))
          (λ e. subst (λ (s : Sides). IsUnited nodes s.left s.right) (same_Some sides others (sym says ∙ says_at c.list i p others e is)) (united_sides c.list c.nodes sides p nodes taken.nodes by))
          (less_or_last i p h)

abbrev pub with_elements : PureClasses → ℕ → PureTerms → PureTerms → PureClasses
with_elements c p ts us = record { given = c.given; list = c.list ++ element_equalities ts us; opened = c.opened ++ p ∷ []; nodes = c.nodes }

-- the atom of an equality of list terms
list_atom : (list : List PureAtom) (p : ℕ) (ts us : PureTerms) → equality_at list p ≡ Some (list_pair ts us) → slice_get list p ≡ Some (positive (equals (list_of ts) (list_of us)))
list_atom list p ts us is = option_and_then_some equality_of (slice_get list p) (list_pair ts us) is (λ a at said. at ∙ ap Some (from a (says a (list_pair ts us) said))) where
  from : (a : PureAtom) → SaysEqual a (list_pair ts us) ⊎ SaysTruth a (list_pair ts us) → a ≡ positive (equals (list_of ts) (list_of us))
  from a (inl equal) = equal.is
  from a (inr truth) = let e : list_of ts ≡ variable truth.x = ap (λ (p : Sides). p.left) truth.are in cc

module _ (c : PureClasses) (p : ℕ) (ts us : PureTerms) (below : p < length c.list) (says : equality_at c.list p ≡ Some (list_pair ts us)) (one : HaveOneLength ts us) (taken : IsTakenTo c (p + 1) p) where
  abbrev longer : List PureAtom
  longer = c.list ++ element_equalities ts us

  given_same : given_list (with_elements c p ts us) ≡ given_list c
  given_same = take-append-le c.given c.list (element_equalities ts us) taken.within

  before : (i : ℕ) (sides : Sides) → i < length c.list → equality_at longer i ≡ Some sides → equality_at c.list i ≡ Some sides
  before i sides h is = ap (option_and_then equality_of) (sym (slice_get-append c.list (element_equalities ts us) i h)) ∙ is

  -- an equality of the longer list is one of the list, or of elements
  sides_at : (P : Sides → Type 0) (i : ℕ) (sides : Sides) → equality_at longer i ≡ Some sides → ((i : ℕ) → equality_at c.list i ≡ Some sides → P sides)
      → ((k : ℕ) → slice_get (to_list ts) k ≡ Some sides.left → slice_get (to_list us) k ≡ Some sides.right → P sides) → P sides
  sides_at P i sides is old element = ⊎_elim (λ h. old i (before i sides h is)) (λ h. new h) (cases_lt i (length c.list)) where
    apart : length c.list ≤ i → i ≡ length c.list + (i - length c.list)
    apart h = omega (arith, h)

    new : length c.list ≤ i → P sides
    new h = option_and_then_some equality_of (slice_get longer i) sides is (λ a at said.
        let there : slice_get (element_equalities ts us) (i - length c.list) ≡ Some a = sym (found_right c.list (element_equalities ts us) i (i - length c.list) (apart h)) ∙ at in
        let both = element_sides ts us (i - length c.list) a sides (element_at ts us (i - length c.list) a there) said in
        element (i - length c.list) both.0 both.1)

  longer_nodes : AreNodes longer c.nodes
  longer_nodes i node at =
      let is = taken.nodes i node at in
      record { first = is.first; there = is.there; own = is.own; leads = leads_longer c.list (element_equalities ts us) node.chain node.term is.first.term is.leads }

  still_listed : (xs ys : PureTerms) → AreListed c.list xs ys → AreListed longer xs ys
  still_listed xs ys is = record { one_length = is.one_length; each = λ j s t at_s at_t. later (is.each j s t at_s at_t) } where
    later : {a : PureAtom} → (m : ℕ) × (slice_get c.list m ≡ Some a) → (m : ℕ) × (slice_get longer m ≡ Some a)
    later {a} (m, at) = (m, found_left c.list (element_equalities ts us) m a at)

  now_listed : AreListed longer ts us
  now_listed = record { one_length = one; each = λ j s t at_s at_t. (length c.list + j, found_right c.list (element_equalities ts us) (length c.list + j) j refl ∙ element_there ts us j s t at_s at_t) }

  listed_by : (i : ℕ) (xs ys : PureTerms) → i < p + 1 → equality_at longer i ≡ Some (list_pair xs ys) → AreListed longer xs ys
  listed_by i xs ys h is = ⊎_elim earlier last (less_or_last i p h) where
    within : i < p + 1 → i < length c.list
    within h = omega (arith, h, below)

    here : equality_at c.list i ≡ Some (list_pair xs ys)
    here = before i (list_pair xs ys) (within h) is

    earlier : i < p → AreListed longer xs ys
    earlier less = still_listed xs ys (taken.listed i xs ys less here)

    last : i ≡ p → AreListed longer xs ys
    last e =
        let same : list_pair ts us ≡ list_pair xs ys = same_Some (list_pair ts us) (list_pair xs ys) (sym says ∙ says_at c.list i p (list_pair xs ys) e here) in
        let left : list_of ts ≡ list_of xs = ap (λ (s : Sides). s.left) same in
        let right : list_of us ≡ list_of ys = ap (λ (s : Sides). s.right) same in
        let first : ts ≡ xs = cc in
        let second : us ≡ ys = cc in
        subst (λ zs. AreListed longer zs ys) first (subst (λ zs. AreListed longer ts zs) second now_listed)

  lighter : weight_from (p + 1) (with_elements c p ts us) < weight_from p c
  lighter = rw add-one (less (weight (drop (suc p) c.list)) (weight (element_equalities ts us)) (sizes ts) (sizes us) _ _ (weight-longer c.list (element_equalities ts us) (suc p) below) (weight-at c.list p _ (list_atom c.list p ts us says)) (element-weight ts us)) where
    less : (r e m n x y : ℕ) → x ≡ r + e → y ≡ (suc m + suc n) + r → e ≤ m + n → x < y
    less r e m n x y f g h = omega (arith, f, g, h)

  pub after_elements : GoesOn c p (with_elements c p ts us)
  after_elements = (
    given_same,
    (
      record {
        within = within (length c.list) (length (element_equalities ts us)) _ taken.within (length-append c.list (element_equalities ts us));
        opened = subst (λ l. IsOpened l (c.opened ++ p ∷ []) longer) (sym given_same) (opened-append (given_list c) c.opened c.list p ts us taken.opened (lists_at c.list p ts us says) one);
        nodes = longer_nodes;
        united = λ i sides h is. taken.united i sides h (before i sides (inside i h) is);
        listed = listed_by;
        equated = λ i sides is. subst (λ l. Equates l sides.left sides.right) (sym given_same) (sides_at (λ s. Equates (given_list c) s.left s.right) i sides is (λ k old. taken.equated k sides old) (λ k at_s at_t. by_elements k (taken.equated p (list_pair ts us) says) at_s at_t));
        plain = λ forms i sides is. sides_at (λ s. are_plain s.left s.right ≡ true) i sides is (λ k old. taken.plain (subst HaveFragmentForms given_same forms) k sides old) (λ k at_s at_t. plain_element ts us k sides.left sides.right (taken.plain (subst HaveFragmentForms given_same forms) p (list_pair ts us) says) at_s at_t);
      },
      lighter,
    ),
  ) where
    within : (m n k : ℕ) → c.given ≤ m → k ≡ m + n → c.given ≤ k
    within m n k h e = omega (arith, h, e)

    inside : (i : ℕ) → i < p + 1 → i < length c.list
    inside i h = omega (arith, h, below)

pub apart_clash : (c : PureClasses) (u l p : ℕ) (ts us : PureTerms) → equality_at c.list p ≡ Some (list_pair ts us) → (HaveOneLength ts us → ⊥) → IsTakenTo c u l → ((vars : List Sort) → Closes vars (given_list c) (under_parts c.opened (parts_apart p))) × EquatesApart (given_list c)
apart_clash c u l p ts us says apart taken = (
  λ vars. under-closes vars (given_list c) c.opened c.list (parts_apart p) taken.opened (some_from (equal_lists_at c.list p) (record { left = ts; right = us }) (λ (lists : Lists). HaveOneLength lists.left lists.right → ⊥) (lists_at c.list p ts us says) apart),
  record { left = ts; right = us; equated = taken.equated p (list_pair ts us) says; apart = apart },
)

abbrev pub at_start_of : List PureAtom → PureClasses
at_start_of list = record { given = length list; list = list; opened = []; nodes = [] }

pub at_start : (list : List PureAtom) → (given_list (at_start_of list) ≡ list) × IsTaken (at_start_of list) 0
at_start list = (
  whole,
  record {
    within = same (length list);
    opened = whole;
    nodes = λ i node at. cc;
    united = λ i sides h is. absurd (omega (arith, h));
    listed = λ i ts us h is. absurd (omega (arith, h));
    equated = λ i sides is. subst (λ l. Equates l sides.left sides.right) (sym whole) (by_atom i is);
    plain = λ forms i sides is. option_and_then_some equality_of (slice_get list i) sides is (λ a at said. plain a sides said (subst HaveFragmentForms whole forms i a at (ap is_some said)));
  },
) where
  same : (n : ℕ) → n ≤ n
  same n = omega arith

  whole : take (length list) list ≡ list
  whole = take_all (length list) list (same (length list))

pub whole_taken : (c : PureClasses) (place : ℕ) → length c.list ≤ place → IsTaken c place → IsTaken c (length c.list)
whole_taken c place past taken = record { within = taken.within; opened = taken.opened; nodes = taken.nodes; united = λ i sides h is. taken.united i sides (less i h) is; listed = λ i ts us h is. taken.listed i ts us (less i h) is; equated = taken.equated; plain = taken.plain } where
  less : (i : ℕ) → i < length c.list → i < place
  less i h = omega (arith, h, past)
