-- What a list equates, its chains lead to, where its equalities have forms of the fragment and no kinds clash.
use Rattle.std.proofs.Common.{◌≡◌, ⊎_elim, ◌⊎◌, inl, inr, ℕ, zero, suc, ◌<◌, List, [], ◌∷◌, ◌++◌, length, take, reverse, Bool, true, false, not, ◌&&◌, ◌||◌, Some, slice_get, refl, sym, ap, ◌∙◌, subst, arith}
use Rattle.std.specs.Option.{option_and_then}
use Rattle.std.proofs.lemmas.Bool.{false≢true, true≢false, and_parts, and_right, not-true}
use Rattle.std.proofs.lemmas.Option.{option_and_then_some, same_Some, slice_get_within}
use Rattle.gil_values.specs.declared.kinds.Kind.{Kind}
use Rattle.gil_values.specs.declared.operators.BinOp.{BinOp}
use Rattle.pure_terms.specs.declared.literals.Literal.{Literal}
use Rattle.pure_terms.specs.declared.variables.Sort.{Sort}
use Rattle.pure_terms.specs.declared.variables.Var.{Var}
use Rattle.pure_terms.specs.Fragment.{is_simple, is_flat, names_sort}
use Rattle.pure_terms.specs.Kinds.{same_sort, kind_of_sort, known_kind}
use Rattle.pure_terms.specs.Pure.{PureTerm, literal, variable, list_of, unary_of, binary_of, PureTerms, to_list, PureAtom, positive}
use Rattle.solver_proof.specs.Chains.{equals, Sides, equality_of, equality_at, AreEqualAt, Leads, are_other_kinds}
use Rattle.solver_proof.specs.Closing.{HaveOneLength}
use Rattle.equality_core.specs.Equating.{Equates, itself, by_atom, turned, joined, by_elements, HaveFragmentForms}
use Rattle.equality_core.specs.Nodes.{IsUnited}
use Rattle.equality_core.specs.Classes.{PureClasses, given_list, are_plain, IsTaken}
use Rattle.equality_core.proofs.Leading.{leads_append, leads_one, leads_reverse}
use Rattle.equality_core.proofs.Saying.{list_pair, plain_element, equality_said}

-- ---- plain terms that are list terms

pub record IsListTerm (w : PureTerm) : Type 0 where
  pub terms : PureTerms
  pub is : w ≡ list_of terms

abbrev MayBeList : PureTerm → Type 0
MayBeList w = (are_other_kinds (Some Kind.List) (known_kind w) ≡ false) ⊎ (are_other_kinds (known_kind w) (Some Kind.List) ≡ false)

never : {P : Type 0} → (true ≡ false) ⊎ (true ≡ false) → P
never (inl e) = absurd (true≢false e)
never (inr e) = absurd (true≢false e)

variable_list : (x : Var) (s : Sort) → x.sort ≡ s → same_sort x.sort Sort.List ≡ false → same_sort x.sort Sort.Any ≡ false → MayBeList (variable x) → IsListTerm (variable x)
variable_list x Sort.Int is no_list no_any may = never (subst (λ s. (are_other_kinds (Some Kind.List) (kind_of_sort s) ≡ false) ⊎ (are_other_kinds (kind_of_sort s) (Some Kind.List) ≡ false)) is may)
variable_list x Sort.Bool is no_list no_any may = never (subst (λ s. (are_other_kinds (Some Kind.List) (kind_of_sort s) ≡ false) ⊎ (are_other_kinds (kind_of_sort s) (Some Kind.List) ≡ false)) is may)
variable_list x Sort.Str is no_list no_any may = never (subst (λ s. (are_other_kinds (Some Kind.List) (kind_of_sort s) ≡ false) ⊎ (are_other_kinds (kind_of_sort s) (Some Kind.List) ≡ false)) is may)
variable_list x Sort.Sym is no_list no_any may = never (subst (λ s. (are_other_kinds (Some Kind.List) (kind_of_sort s) ≡ false) ⊎ (are_other_kinds (kind_of_sort s) (Some Kind.List) ≡ false)) is may)
variable_list x Sort.Fresh is no_list no_any may = never (subst (λ s. (are_other_kinds (Some Kind.List) (kind_of_sort s) ≡ false) ⊎ (are_other_kinds (kind_of_sort s) (Some Kind.List) ≡ false)) is may)
variable_list x Sort.List is no_list no_any may = absurd (true≢false (ap (λ s. same_sort s Sort.List) (sym is) ∙ no_list))
variable_list x Sort.Any is no_list no_any may = absurd (true≢false (ap (λ s. same_sort s Sort.Any) (sym is) ∙ no_any))

pub list_term : (w : PureTerm) → is_simple w ≡ true → names_sort Sort.List w ≡ false → names_sort Sort.Any w ≡ false → MayBeList w → IsListTerm w
list_term (list_of ts) simple no_list no_any may = record { terms = ts; is = refl }
list_term (literal (Literal.Int n)) simple no_list no_any may = never may
list_term (literal (Literal.Bool n)) simple no_list no_any may = never may
list_term (literal (Literal.Str n)) simple no_list no_any may = never may
list_term (literal (Literal.Kind n)) simple no_list no_any may = never may
list_term (literal (Literal.Proc n)) simple no_list no_any may = never may
list_term (variable x) simple no_list no_any may = variable_list x x.sort refl no_list no_any may
list_term (unary_of op t) simple no_list no_any may = absurd (false≢true simple)
list_term (binary_of BinOp.Add s t) simple no_list no_any may = never may
list_term (binary_of BinOp.Subtract s t) simple no_list no_any may = never may
list_term (binary_of op s t) simple no_list no_any may = absurd (false≢true simple)

-- what a plain equality says of its sides
pub record PlainSides (s t : PureTerm) : Type 0 where
  pub simple_left : is_simple s ≡ true
  pub simple_right : is_simple t ≡ true
  pub no_list_left : names_sort Sort.List s ≡ false
  pub no_list_right : names_sort Sort.List t ≡ false
  pub any : ((is_flat s && is_flat t) || (not (names_sort Sort.Any s) && not (names_sort Sort.Any t))) ≡ true

pub plain_sides : (s t : PureTerm) → are_plain s t ≡ true → PlainSides s t
plain_sides s t h =
    let parts = and_parts (is_simple s && is_simple t) _ h in
    let simple = and_parts (is_simple s) (is_simple t) parts.0 in
    let more = and_parts (not (names_sort Sort.List s) && not (names_sort Sort.List t)) _ parts.1 in
    let lists = and_parts (not (names_sort Sort.List s)) (not (names_sort Sort.List t)) more.0 in
    record { simple_left = simple.0; simple_right = simple.1; no_list_left = not-true _ lists.0; no_list_right = not-true _ lists.1; any = more.1 }

pub no_any_there : (a b : Bool) (s t : PureTerm) → (a && b) ≡ false → ((a && b) || (not (names_sort Sort.Any s) && not (names_sort Sort.Any t))) ≡ true → (names_sort Sort.Any s ≡ false) × (names_sort Sort.Any t ≡ false)
no_any_there a b s t flat h =
    let both = and_parts (not (names_sort Sort.Any s)) (not (names_sort Sort.Any t)) (ap (λ e. e || (not (names_sort Sort.Any s) && not (names_sort Sort.Any t))) (sym flat) ∙ h) in
    (not-true _ both.0, not-true _ both.1)

slice_get-take : {A : Type 0} (n : ℕ) (xs : List A) (i : ℕ) (x : A) → slice_get (take n xs) i ≡ Some x → slice_get xs i ≡ Some x
slice_get-take zero xs i x is = cc
slice_get-take (suc n) [] i x is = is
slice_get-take (suc n) (y ∷ ys) zero x is = is
slice_get-take (suc n) (y ∷ ys) (suc i) x is = slice_get-take n ys i x is

record Exists (xs : List PureTerm) (j : ℕ) : Type 0 where
  value : PureTerm
  at : slice_get xs j ≡ Some value

exists : (xs : List PureTerm) (j : ℕ) → j < length xs → Exists xs j
exists [] j h = absurd (omega (arith, h))
exists (x ∷ xs) zero h = record { value = x; at = refl }
exists (x ∷ xs) (suc j) h = let rest = exists xs j (omega (arith, h)) in record { value = rest.value; at = rest.at }

module _ (c : PureClasses) where
  pub given_equality : (i : ℕ) (sides : Sides) → equality_at (given_list c) i ≡ Some sides → equality_at c.list i ≡ Some sides
  given_equality i sides is = option_and_then_some equality_of (slice_get (given_list c) i) sides is (λ a at said. ap (option_and_then equality_of) (slice_get-take c.given c.list i a at) ∙ said)

  pub given_atom : (i : ℕ) (a : PureAtom) → slice_get (given_list c) i ≡ Some a → slice_get c.list i ≡ Some a
  given_atom i a is = slice_get-take c.given c.list i a is

  module _ (taken : IsTaken c (length c.list)) where
    -- chains lead to what is equated
    step_equates : (i : ℕ) (s t : PureTerm) → AreEqualAt c.list i s t → Equates (given_list c) s t
    step_equates i s t (inl e) = taken.equated i (record { left = s; right = t }) e
    step_equates i s t (inr e) = turned (taken.equated i (record { left = t; right = s }) e)

    pub leads_equates : (is : List ℕ) (s t : PureTerm) → Leads c.list is s t → Equates (given_list c) s t
    leads_equates [] s t same = subst (Equates (given_list c) s) same itself
    leads_equates (i ∷ is) s t (w, (step, more)) = joined (step_equates i s w step) (leads_equates is w t more)

    -- and to terms of one class
    within : (i : ℕ) (sides : Sides) → equality_at c.list i ≡ Some sides → i < length c.list
    within i sides is = option_and_then_some equality_of (slice_get c.list i) sides is (λ a at said. slice_get_within c.list i a at)

    step_united : (i : ℕ) (s t : PureTerm) → AreEqualAt c.list i s t → IsUnited c.nodes s t
    step_united i s t (inl e) = taken.united i (record { left = s; right = t }) (within i (record { left = s; right = t }) e) e
    step_united i s t (inr e) = let is = taken.united i (record { left = t; right = s }) (within i (record { left = t; right = s }) e) e in record { root = is.root; left = is.right; right = is.left }

    both_united : (s t u : PureTerm) → IsUnited c.nodes s t → IsUnited c.nodes t u → IsUnited c.nodes s u
    both_united s t u one two = record { root = one.root; left = one.left; right = two.right ∙ ap Some (same_Some two.root one.root (sym two.left ∙ one.right)) }

    pub leads_united : (is : List ℕ) (s t : PureTerm) → Leads c.list is s t → (s ≡ t) ⊎ IsUnited c.nodes s t
    leads_united [] s t same = inl same
    leads_united (i ∷ is) s t (w, (step, more)) = inr (⊎_elim (λ e. subst (IsUnited c.nodes s) e (step_united i s w step)) (λ rest. both_united s w t (step_united i s w step) rest) (leads_united is w t more))

    module _ (forms : HaveFragmentForms (given_list c)) (kinds : (i : ℕ) (sides : Sides) → equality_at c.list i ≡ Some sides → are_other_kinds (known_kind sides.left) (known_kind sides.right) ≡ false) where
      -- an equality of a list term and another term, whichever way round
      record ListStep (ts : PureTerms) (w : PureTerm) : Type 0 where
        terms : PureTerms
        is : w ≡ list_of terms
        one : HaveOneLength ts terms
        each : (j : ℕ) (s t : PureTerm) → slice_get (to_list ts) j ≡ Some s → slice_get (to_list terms) j ≡ Some t → (path : List ℕ) × Leads c.list path s t

      element_step : (m : ℕ) (s t : PureTerm) → is_simple s ≡ true → slice_get c.list m ≡ Some (positive (equals s t)) → equality_at c.list m ≡ Some (record { left = s; right = t })
      element_step m s t simple at = ap (option_and_then equality_of) at ∙ equality_said s t simple

      forward : (i : ℕ) (ts : PureTerms) (w : PureTerm) → equality_at c.list i ≡ Some (record { left = list_of ts; right = w }) → ListStep ts w
      forward i ts w e =
          let plain = taken.plain forms i (record { left = list_of ts; right = w }) e in
          let sides = plain_sides (list_of ts) w plain in
          let any = no_any_there false (is_flat w) (list_of ts) w refl sides.any in
          let found = list_term w sides.simple_right sides.no_list_right any.1 (inl (kinds i (record { left = list_of ts; right = w }) e)) in
          let says : equality_at c.list i ≡ Some (list_pair ts found.terms) = e ∙ ap (λ x. Some (record { left = list_of ts; right = x })) found.is in
          let listed = taken.listed i ts found.terms (within i (list_pair ts found.terms) says) says in
          record { terms = found.terms; is = found.is; one = listed.one_length; each = λ j s t at_s at_t. on j s t (plain_sides s t (plain_element ts found.terms j s t (taken.plain forms i (list_pair ts found.terms) says) at_s at_t)).simple_left (listed.each j s t at_s at_t) } where
            on : (j : ℕ) (s t : PureTerm) → is_simple s ≡ true → (m : ℕ) × (slice_get c.list m ≡ Some (positive (equals s t))) → (path : List ℕ) × Leads c.list path s t
            on j s t simple (m, at) = (m ∷ [], leads_one c.list m s t (inl (element_step m s t simple at)))

      backward : (i : ℕ) (ts : PureTerms) (w : PureTerm) → equality_at c.list i ≡ Some (record { left = w; right = list_of ts }) → ListStep ts w
      backward i ts w e =
          let plain = taken.plain forms i (record { left = w; right = list_of ts }) e in
          let sides = plain_sides w (list_of ts) plain in
          let any = no_any_there (is_flat w) false w (list_of ts) (and_right (is_flat w) false refl) sides.any in
          let found = list_term w sides.simple_left sides.no_list_left any.0 (inr (kinds i (record { left = w; right = list_of ts }) e)) in
          let says : equality_at c.list i ≡ Some (list_pair found.terms ts) = e ∙ ap (λ x. Some (record { left = x; right = list_of ts })) found.is in
          let listed = taken.listed i found.terms ts (within i (list_pair found.terms ts) says) says in
          record { terms = found.terms; is = found.is; one = sym listed.one_length; each = λ j s t at_s at_t. on j s t (plain_sides t s (plain_element found.terms ts j t s (taken.plain forms i (list_pair found.terms ts) says) at_t at_s)).simple_left (listed.each j t s at_t at_s) } where
            on : (j : ℕ) (s t : PureTerm) → is_simple t ≡ true → (m : ℕ) × (slice_get c.list m ≡ Some (positive (equals t s))) → (path : List ℕ) × Leads c.list path s t
            on j s t simple (m, at) = (m ∷ [], leads_one c.list m s t (inr (element_step m t s simple at)))

      list_step : (i : ℕ) (ts : PureTerms) (w : PureTerm) → AreEqualAt c.list i (list_of ts) w → ListStep ts w
      list_step i ts w (inl e) = forward i ts w e
      list_step i ts w (inr e) = backward i ts w e

      -- a chain from a list term leads to list terms of its length, and there are chains between the elements
      from_lists : (is : List ℕ) (ts : PureTerms) (u : PureTerm) → Leads c.list is (list_of ts) u → ListStep ts u
      from_lists [] ts u same = record { terms = ts; is = sym same; one = refl; each = λ j s t at_s at_t. ([], same_Some s t (sym at_s ∙ at_t)) }
      from_lists (i ∷ is) ts u (w, (step, more)) =
          let first = list_step i ts w step in
          let rest = from_lists is first.terms u (subst (λ x. Leads c.list is x u) first.is more) in
          record { terms = rest.terms; is = rest.is; one = first.one ∙ rest.one; each = λ j s t at_s at_t. through first rest j s t at_s at_t } where
            through : (first : ListStep ts w) (rest : ListStep first.terms u) (j : ℕ) (s t : PureTerm) → slice_get (to_list ts) j ≡ Some s → slice_get (to_list rest.terms) j ≡ Some t → (path : List ℕ) × Leads c.list path s t
            through first rest j s t at_s at_t =
                let middle = exists (to_list first.terms) j (subst (λ n. j < n) first.one (slice_get_within (to_list ts) j s at_s)) in
                along (first.each j s middle.value at_s middle.at) (rest.each j middle.value t middle.at at_t) where
                  along : {x : PureTerm} → (path : List ℕ) × Leads c.list path s x → (path : List ℕ) × Leads c.list path x t → (path : List ℕ) × Leads c.list path s t
                  along {x} (p, up) (q, on) = (p ++ q, leads_append c.list p q s x t up on)

      same_terms : (ts us : PureTerms) → list_of ts ≡ list_of us → ts ≡ us
      same_terms ts us e = cc

      -- what is equated, chains lead to
      pub equated_leads : (s t : PureTerm) → Equates (given_list c) s t → (path : List ℕ) × Leads c.list path s t
      equated_leads s t itself = ([], refl)
      equated_leads s t (by_atom i e) = (i ∷ [], leads_one c.list i s t (inl (given_equality i (record { left = s; right = t }) e)))
      equated_leads s t (turned e) = back (equated_leads t s e) where
        back : (path : List ℕ) × Leads c.list path t s → (path : List ℕ) × Leads c.list path s t
        back (p, leads) = (reverse p, leads_reverse c.list p t s leads)
      equated_leads s t (joined {t = u} e f) = along (equated_leads s u e) (equated_leads u t f) where
        along : (path : List ℕ) × Leads c.list path s u → (path : List ℕ) × Leads c.list path u t → (path : List ℕ) × Leads c.list path s t
        along (p, up) (q, on) = (p ++ q, leads_append c.list p q s u t up on)
      equated_leads s t (by_elements {ts = ts} {us = us} i e at_s at_t) = inside (equated_leads (list_of ts) (list_of us) e) where
        inside : (path : List ℕ) × Leads c.list path (list_of ts) (list_of us) → (path : List ℕ) × Leads c.list path s t
        inside (p, leads) =
            let all = from_lists p ts (list_of us) leads in
            all.each i s t at_s (subst (λ xs. slice_get (to_list xs) i ≡ Some t) (same_terms us all.terms all.is) at_t)

      pub one_length : (s t : PureTerm) (ts us : PureTerms) → Equates (given_list c) s t → s ≡ list_of ts → t ≡ list_of us → HaveOneLength ts us
      one_length s t ts us e is_s is_t = inside (equated_leads s t e) where
        inside : (path : List ℕ) × Leads c.list path s t → HaveOneLength ts us
        inside (p, leads) =
            let all = from_lists p ts t (subst (λ x. Leads c.list p x t) is_s leads) in
            all.one ∙ ap (λ xs. length (to_list xs)) (same_terms all.terms us (sym all.is ∙ is_t))
