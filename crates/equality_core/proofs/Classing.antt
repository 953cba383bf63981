-- Roots and nodes tell what is equated with a variable.
use Rattle.std.proofs.Common.{◌≡◌, ⊎_elim, ◌⊎◌, inl, inr, ℕ, zero, suc, ◌+◌, ◌<◌, ◌≤◌, List, [], ◌∷◌, ◌++◌, length, false, Option, Some, None, slice_get, refl, sym, ap, ◌∙◌, subst, arith, length-append}
use Rattle.std.specs.Option.{option_map, IsSome}
use Rattle.std.proofs.lemmas.Bool.{cases_eq}
use Rattle.std.proofs.lemmas.Option.{same_Some, slice_get_within}
use Rattle.gil_values.specs.declared.kinds.Kind.{Kind}
use Rattle.gil_values.specs.Pure.{PureValue}
use Rattle.pure_terms.specs.declared.literals.Literal.{Literal}
use Rattle.pure_terms.specs.declared.variables.Sort.{Sort}
use Rattle.pure_terms.specs.declared.variables.Var.{Var}
use Rattle.pure_terms.specs.Kinds.{known_kind}
use Rattle.pure_terms.specs.Meaning.{literal_value}
use Rattle.pure_terms.specs.Pure.{PureTerm, literal, variable, PureAtom}
use Rattle.pure_terms.proofs.VariableLaws.{slice_get-append}
use Rattle.solver_proof.specs.Chains.{Sides, equality_at, are_other_kinds, Leads}
use Rattle.solver_proof.proofs.Growing.{found_right}
use Rattle.equality_core.specs.Classes.{PureClasses, given_list}
use Rattle.equality_core.specs.Equating.{Equates, itself}
use Rattle.equality_core.specs.Nodes.{PureNode, root_of, IsUnited}
use Rattle.equality_core.specs.Valued.{FitNumbers}
use Rattle.equality_core.specs.Values.{IsInTable, letters_of_term, new_value, IsKey, HasNoLiteral, HasNoIntVariable, IsValueOf, roots_from, HasRoot, IsFirstWith, IsIntWith, HasNoIntWith, IsLiteralIn, HasNoLiteralIn, HaveFewLetters, IsClassed}
use Rattle.equality_core.proofs.Answering.{root_found, two_lead}
use Rattle.equality_core.proofs.Exact.{leads_equates, leads_united, equated_leads}
use Rattle.equality_core.proofs.Valuing.{no_clash}

pub roots-at : (nodes : List PureNode) (x : ℕ) (vars : List Sort) (i : ℕ) → slice_get (roots_from nodes x vars) i ≡ option_map (λ s. root_of nodes (variable (record { number = x + i; sort = s }))) (slice_get vars i)
roots-at nodes x [] i = refl
roots-at nodes x (s ∷ ss) zero = ap (λ n. Some (root_of nodes (variable (record { number = n; sort = s })))) (same x) where
  same : (x : ℕ) → x ≡ x + 0
  same x = omega arith
roots-at nodes x (s ∷ ss) (suc i) = roots-at nodes (x + 1) ss i ∙ ap (λ n. option_map (λ s. root_of nodes (variable (record { number = n; sort = s }))) (slice_get ss i)) (same x i) where
  same : (x i : ℕ) → (x + 1) + i ≡ x + suc i
  same x i = omega arith

pub length-roots : (nodes : List PureNode) (x : ℕ) (vars : List Sort) → length (roots_from nodes x vars) ≡ length vars
length-roots nodes x [] = refl
length-roots nodes x (s ∷ ss) = ap suc (length-roots nodes (x + 1) ss)

module _ (vars : List Sort) (c : PureClasses) (roots : List (Option ℕ)) (h : IsClassed vars c roots) where
  abbrev pub list : List PureAtom
  list = given_list c

  kinds : (i : ℕ) (sides : Sides) → equality_at c.list i ≡ Some sides → are_other_kinds (known_kind sides.left) (known_kind sides.right) ≡ false
  kinds i sides is = (no_clash sides.left sides.right (h.clear sides.left sides.right (h.taken.equated i sides is))).kinds

  united : (s t : PureTerm) → Equates (given_list c) s t → (s ≡ t) ⊎ IsUnited c.nodes s t
  united s t e = inside (equated_leads c h.taken h.forms kinds s t e) where
    inside : (path : List ℕ) × Leads c.list path s t → (s ≡ t) ⊎ IsUnited c.nodes s t
    inside (p, leads) = leads_united c h.taken p s t leads

  nodes_equate : (i j : ℕ) (m n : PureNode) → slice_get c.nodes i ≡ Some m → slice_get c.nodes j ≡ Some n → m.root ≡ n.root → Equates (given_list c) m.term n.term
  nodes_equate i j m n at_m at_n one = leads_equates c h.taken _ m.term n.term (two_lead c.list c.nodes i j m n h.taken.nodes at_m at_n one)

  roots_equate : (s t : PureTerm) (r : ℕ) → root_of c.nodes s ≡ Some r → root_of c.nodes t ≡ Some r → Equates (given_list c) s t
  roots_equate s t r at_s at_t =
      let left = root_found c.nodes s r at_s in
      let right = root_found c.nodes t r at_t in
      subst (λ x. Equates (given_list c) x t) left.term (subst (λ x. Equates (given_list c) left.node.term x) right.term
      (nodes_equate left.place right.place left.node right.node left.at right.at (left.root ∙ sym right.root)))

  pub root_there : (x : Var) → IsInTable vars x → slice_get roots x.number ≡ Some (root_of c.nodes (variable x))
  root_there x there =
      ap (λ (rs : List (Option ℕ)). slice_get rs x.number) h.rooted ∙ roots-at c.nodes 0 vars x.number ∙ ap (option_map (λ s. root_of c.nodes (variable (record { number = 0 + x.number; sort = s })))) there
      ∙ ap (λ n. Some (root_of c.nodes (variable (record { number = n; sort = x.sort })))) (same x.number) where
        same : (n : ℕ) → 0 + n ≡ n
        same n = omega arith

  root_is : (x : Var) (r : ℕ) → IsInTable vars x → HasRoot roots r x.number → root_of c.nodes (variable x) ≡ Some r
  root_is x r there has = same_Some (root_of c.nodes (variable x)) (Some r) (sym (root_there x there) ∙ has)

  share : (x y : Var) (r : ℕ) → IsInTable vars x → IsInTable vars y → HasRoot roots r x.number → HasRoot roots r y.number → Equates (given_list c) (variable x) (variable y)
  share x y r there also has_x has_y = roots_equate (variable x) (variable y) r (root_is x r there has_x) (root_is y r also has_y)

  same_number : (x y : Var) → variable x ≡ variable y → x.number ≡ y.number
  same_number x y e = let same : x ≡ y = cc in ap (λ (z : Var). z.number) same

  shared : (x y : Var) (r : ℕ) → IsInTable vars x → IsInTable vars y → HasRoot roots r x.number → Equates (given_list c) (variable x) (variable y) → HasRoot roots r y.number
  shared x y r there also has e = ⊎_elim
      (λ same. subst (HasRoot roots r) (same_number x y same) has)
      (λ one. root_there y also ∙ ap Some (one.right ∙ sym one.left ∙ root_is x r there has))
      (united (variable x) (variable y) e)

  -- ---- a variable with a node

  module _ (x : Var) (r : ℕ) (there : IsInTable vars x) (has : HasRoot roots r x.number) where
    pub literal_equated : (l : Literal) → IsLiteralIn c.nodes r l → Equates (given_list c) (variable x) (literal l)
    literal_equated l is =
        let left = root_found c.nodes (variable x) r (root_is x r there has) in
        subst (λ t. Equates (given_list c) t (literal l)) left.term (subst (λ t. Equates (given_list c) left.node.term t) is.is
        (nodes_equate left.place is.place left.node is.node left.at is.at (left.root ∙ sym is.one)))

    pub no_literal : HasNoLiteralIn c.nodes r → HasNoLiteral (given_list c) x
    no_literal none l e = ⊎_elim (λ same. other same) (λ one. found one) (united (variable x) (literal l) e) where
      other : variable x ≡ literal l → ⊥
      other same = cc

      found : IsUnited c.nodes (variable x) (literal l) → ⊥
      found one =
          let right = root_found c.nodes (literal l) one.root one.right in
          none right.place right.node l right.at (right.root ∙ same_Some one.root r (sym one.left ∙ root_is x r there has)) right.term

    pub int_equated : (y : ℕ) → IsIntWith vars roots r y → Equates (given_list c) (variable x) (variable (record { number = y; sort = Sort.Int }))
    int_equated y is = share x (record { number = y; sort = Sort.Int }) r there is.whole has is.has

    pub no_int : HasNoIntWith vars roots r → HasNoIntVariable vars (given_list c) x
    no_int none y also whole e = none y.number (also ∙ ap Some whole) (shared x y r there also has e)

    pub first_key : (k : ℕ) → IsFirstWith roots r x.number k → IsKey vars (given_list c) x k
    first_key k first = at_sort (slice_get vars k) refl where
      within : k < length vars
      within = less (slice_get_within vars x.number x.sort there) first.within where
        less : x.number < length vars → k ≤ x.number → k < length vars
        less h g = omega (arith, h, g)

      at_sort : (o : Option Sort) → slice_get vars k ≡ o → IsKey vars (given_list c) x k
      at_sort (Some s) at = record {
        within = first.within;
        sort = s;
        there = at;
        equated = share x (record { number = k; sort = s }) r there at has (first.has has);
        least = λ y also less e. first.least y.number less (shared x y r there also has e);
      }
      at_sort None at = absurd (past vars k at within) where
        past : {X : Type 0} (xs : List X) (i : ℕ) → slice_get xs i ≡ None → i < length xs → ⊥
        past [] i e below = omega (arith, below)
        past (y ∷ ys) zero e below = cc
        past (y ∷ ys) (suc i) e below = past ys i e (omega (arith, below))

  -- ---- a variable without one

  module _ (x : Var) (there : IsInTable vars x) (none : slice_get roots x.number ≡ Some None) where
    itself_alone : (t : PureTerm) → Equates (given_list c) (variable x) t → variable x ≡ t
    itself_alone t e = ⊎_elim (λ same. same) (λ one. absurd (nothing one)) (united (variable x) t e) where
      nothing : IsUnited c.nodes (variable x) t → ⊥
      nothing one = let e : None ≡ Some one.root = same_Some None (Some one.root) (sym none ∙ root_there x there ∙ ap Some one.left) in cc

    pub alone_no_literal : HasNoLiteral (given_list c) x
    alone_no_literal l e = let same : variable x ≡ literal l = itself_alone (literal l) e in cc

    pub alone_no_int : (x.sort ≡ Sort.Int → ⊥) → HasNoIntVariable vars (given_list c) x
    alone_no_int other y also whole e = other (sort_same x y (itself_alone (variable y) e) ∙ whole) where
      sort_same : (x y : Var) → variable x ≡ variable y → x.sort ≡ y.sort
      sort_same x y e = let same : x ≡ y = cc in ap (λ (z : Var). z.sort) same

    pub alone_key : IsKey vars (given_list c) x x.number
    alone_key = record {
      within = at_most x.number;
      sort = x.sort;
      there = there;
      equated = itself;
      least = λ y also less e. lower y less (same_number x y (itself_alone (variable y) e));
    } where
      at_most : (n : ℕ) → n ≤ n
      at_most n = omega arith

      lower : (y : Var) → y.number < x.number → x.number ≡ y.number → ⊥
      lower y less e = omega (arith, less, e)

-- ---- values

module _ (vars : List Sort) (c : PureClasses) (roots : List (Option ℕ)) (h : IsClassed vars c roots) (numbers : List PureValue) (kinds : List Kind) (long : ℕ) (x : Var) (there : IsInTable vars x) where
  abbrev Has : PureValue → Type 0
  Has w = IsValueOf vars (given_list c) numbers kinds long x w

  pub by_literal : (r : ℕ) (l : Literal) (w : PureValue) → HasRoot roots r x.number → HaveFewLetters long c.nodes → IsLiteralIn c.nodes r l → w ≡ literal_value l → Has w
  by_literal r l w has few is same = inl (record {
    of = l;
    equated = literal_equated vars c roots h x r there has l is;
    short = subst (λ t. letters_of_term t ≤ long) is.is (few is.place is.node is.at);
    is = same;
  })

  pub by_number : (r y : ℕ) (w : PureValue) → HasRoot roots r x.number → HasNoLiteralIn c.nodes r → IsIntWith vars roots r y → slice_get numbers y ≡ Some w → Has w
  by_number r y w has none is at = inr (
    no_literal vars c roots h x r there has none,
    inl (record {
      of = record { number = y; sort = Sort.Int };
      there = is.whole;
      whole = refl;
      equated = int_equated vars c roots h x r there has y is;
      is = at;
    }),
  )

  pub by_new : (r k : ℕ) (kind : Kind) (w : PureValue) → HasRoot roots r x.number → HasNoLiteralIn c.nodes r → HasNoIntWith vars roots r → IsFirstWith roots r x.number k → slice_get kinds x.number ≡ Some kind → w ≡ new_value long kind k → Has w
  by_new r k kind w has none no_whole first at same = inr (
    no_literal vars c roots h x r there has none,
    inr (record {
      none = no_int vars c roots h x r there has no_whole;
      key = k;
      is_key = first_key vars c roots h x r there has k first;
      of = kind;
      there = at;
      is = same;
    }),
  )

  pub alone_number : (w : PureValue) → slice_get roots x.number ≡ Some None → x.sort ≡ Sort.Int → slice_get numbers x.number ≡ Some w → Has w
  alone_number w none whole at = inr (alone_no_literal vars c roots h x there none, inl (record { of = x; there = there; whole = whole; equated = itself; is = at }))

  pub alone_new : (kind : Kind) (w : PureValue) → slice_get roots x.number ≡ Some None → (x.sort ≡ Sort.Int → ⊥) → slice_get kinds x.number ≡ Some kind → w ≡ new_value long kind x.number → Has w
  alone_new kind w none other at same = inr (
    alone_no_literal vars c roots h x there none,
    inr (record {
      none = alone_no_int vars c roots h x there none other;
      key = x.number;
      is_key = alone_key vars c roots h x there none;
      of = kind;
      there = at;
      is = same;
    }),
  )

pub rooted_length : (vars : List Sort) (c : PureClasses) (roots : List (Option ℕ)) → IsClassed vars c roots → length roots ≡ length vars
rooted_length vars c roots h = ap length h.rooted ∙ length-roots c.nodes 0 vars

pub in_roots : (vars : List Sort) (c : PureClasses) (roots : List (Option ℕ)) (x : Var) → IsClassed vars c roots → IsInTable vars x → x.number < length roots
in_roots vars c roots x h there = subst (λ n. x.number < n) (sym (rooted_length vars c roots h)) (slice_get_within vars x.number x.sort there)

-- Int variables have numbers
pub has_number : (vars : List Sort) (atoms : List PureAtom) (numbers : List PureValue) (n : ℕ) → FitNumbers vars atoms numbers → slice_get vars n ≡ Some Sort.Int → IsSome (slice_get numbers n)
has_number vars atoms numbers n fit at = let given = fit.each n at in subst IsSome (sym given.is) refl

-- one more value at the end
module _ (vars : List Sort) (us vs : List PureValue) (u : PureValue) (n : ℕ) (P : Var → PureValue → Type 0) (pushed : us ≡ vs ++ u ∷ []) (size : length vs ≡ n) where
  pub longer_size : length us ≡ n + 1
  longer_size = ap length pushed ∙ length-append vs (u ∷ []) ∙ ap (λ m. m + 1) size

  pub one_more : ((x : Var) (w : PureValue) → x.number < n → IsInTable vars x → slice_get vs x.number ≡ Some w → P x w) → ((x : Var) → x.number ≡ n → IsInTable vars x → P x u)
      → (x : Var) (w : PureValue) → x.number < n + 1 → IsInTable vars x → slice_get us x.number ≡ Some w → P x w
  one_more before here x w below there at = ⊎_elim (λ e. last e) (λ other. earlier other) (cases_eq x.number n) where
    at_longer : slice_get (vs ++ u ∷ []) x.number ≡ Some w
    at_longer = subst (λ (ws : List PureValue). slice_get ws x.number ≡ Some w) pushed at

    last : x.number ≡ n → P x w
    last e =
        let place : x.number ≡ length vs + 0 = omega (arith, e, size) in
        let found : slice_get (vs ++ u ∷ []) x.number ≡ Some u = found_right vs (u ∷ []) x.number 0 place in
        subst (P x) (same_Some u w (sym found ∙ at_longer)) (here x e there)

    earlier : (x.number ≡ n → ⊥) → P x w
    earlier other = before x w (less x.number other below) there (sym (slice_get-append vs (u ∷ []) x.number (in_old x.number other below)) ∙ at_longer) where
      less : (a : ℕ) → (a ≡ n → ⊥) → a < n + 1 → a < n
      less a other below = omega (arith, other, below)

      in_old : (a : ℕ) → (a ≡ n → ⊥) → a < n + 1 → a < length vs
      in_old a other below = omega (arith, other, below, size)

-- the variable with this number in the table
pub in_table : (vars : List Sort) (x y : Var) → IsInTable vars x → IsInTable vars y → x.number ≡ y.number → x ≡ y
in_table vars x y there also e =
    let sorts : x.sort ≡ y.sort = same_Some x.sort y.sort (sym there ∙ ap (slice_get vars) e ∙ also) in
    λ i. record { number = e i; sort = sorts i }
