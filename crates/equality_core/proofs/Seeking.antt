-- The first term of a class that is sought is equated with each term of the class, and is the same for all of them.
use Rattle.std.proofs.Common.{◌≡◌, ⊎_elim, ◌⊎◌, ℕ, zero, suc, List, [], ◌∷◌, length, Bool, true, false, ◌&&◌, if◌then◌else◌, Option, Some, None, slice_get, eqb, refl, sym, ap, ◌∙◌, subst}
use Rattle.std.proofs.lemmas.Bool.{true≢false, and_parts, and_from, eqb-true, eq-eqb, false_from_ne_true}
use Rattle.std.proofs.lemmas.Option.{same_Some}
use Rattle.pure_terms.specs.Kinds.{known_kind}
use Rattle.pure_terms.specs.Pure.{PureTerm}
use Rattle.solver_proof.specs.Chains.{Sides, equality_at, are_other_kinds, Leads}
use Rattle.equality_core.specs.declared.classes.Wanted.{Wanted}
use Rattle.equality_core.specs.Classes.{PureClasses, given_list, IsTaken}
use Rattle.equality_core.specs.Classified.{is_wanted, first_of, itself_if, first_at, first_in_class}
use Rattle.equality_core.specs.Equating.{Equates, itself, EquatesNoClash, HaveFragmentForms}
use Rattle.equality_core.specs.Nodes.{PureNode, root_of, IsUnited}
use Rattle.equality_core.proofs.Answering.{root_found, two_lead}
use Rattle.equality_core.proofs.Exact.{leads_equates, leads_united, equated_leads}
use Rattle.equality_core.proofs.Valuing.{no_clash}

record FoundOf (nodes : List PureNode) (root : ℕ) (w : Wanted) (t : PureTerm) : Type 0 where
  place : ℕ
  node : PureNode
  at : slice_get nodes place ≡ Some node
  one : node.root ≡ root
  is : node.term ≡ t
  wanted : is_wanted w t ≡ true

first_of-some : (nodes : List PureNode) (root : ℕ) (w : Wanted) (t : PureTerm) → first_of nodes root w ≡ Some t → FoundOf nodes root w t
first_of-some [] root w t is = cc
first_of-some (n ∷ ns) root w t is = by_test (eqb n.root root && is_wanted w n.term) refl is (λ found. first_of-some ns root w t found) where
  by_test : (b : Bool) → (eqb n.root root && is_wanted w n.term) ≡ b → (if b then Some n.term else first_of ns root w) ≡ Some t → (first_of ns root w ≡ Some t → FoundOf ns root w t) → FoundOf (n ∷ ns) root w t
  by_test true same found again =
      let both = and_parts (eqb n.root root) (is_wanted w n.term) same in
      let term : n.term ≡ t = same_Some n.term t found in
      record { place = 0; node = n; at = refl; one = eqb-true n.root root both.0; is = term; wanted = subst (λ u. is_wanted w u ≡ true) term both.1 }
  by_test false same found again = let rest = again found in record { place = suc rest.place; node = rest.node; at = rest.at; one = rest.one; is = rest.is; wanted = rest.wanted }

first_of-none : (nodes : List PureNode) (root : ℕ) (w : Wanted) → first_of nodes root w ≡ None → (i : ℕ) (n : PureNode) → slice_get nodes i ≡ Some n → n.root ≡ root → is_wanted w n.term ≡ true → ⊥
first_of-none [] root w none i n at one wanted = cc
first_of-none (m ∷ ms) root w none i n at one wanted = by_test (eqb m.root root && is_wanted w m.term) refl none (λ never k there. first_of-none ms root w never k n there one wanted) i at where
  by_test : (b : Bool) → (eqb m.root root && is_wanted w m.term) ≡ b → (if b then Some m.term else first_of ms root w) ≡ None
      → (first_of ms root w ≡ None → (k : ℕ) → slice_get ms k ≡ Some n → ⊥) → (i : ℕ) → slice_get (m ∷ ms) i ≡ Some n → ⊥
  by_test true same never again k there = let e : Some m.term ≡ None = never in cc
  by_test false same never again zero there =
      let which : m ≡ n = same_Some m n there in
      true≢false (sym (and_from (eqb m.root root) (is_wanted w m.term) (eq-eqb m.root root (ap (λ (x : PureNode). x.root) which ∙ one)) (ap (λ (x : PureNode). is_wanted w x.term) which ∙ wanted)) ∙ same)
  by_test false same never again (suc k) there = again never k there

module _ (c : PureClasses) (taken : IsTaken c (length c.list)) (forms : HaveFragmentForms (given_list c)) (clear : EquatesNoClash (given_list c)) where
  kinds : (i : ℕ) (sides : Sides) → equality_at c.list i ≡ Some sides → are_other_kinds (known_kind sides.left) (known_kind sides.right) ≡ false
  kinds i sides is = (no_clash sides.left sides.right (clear sides.left sides.right (taken.equated i sides is))).kinds

  pub paths : (s t : PureTerm) → Equates (given_list c) s t → (path : List ℕ) × Leads c.list path s t
  paths s t e = equated_leads c taken forms kinds s t e

  pub united : (s t : PureTerm) → Equates (given_list c) s t → (s ≡ t) ⊎ IsUnited c.nodes s t
  united s t e = inside (paths s t e) where
    inside : (path : List ℕ) × Leads c.list path s t → (s ≡ t) ⊎ IsUnited c.nodes s t
    inside (p, leads) = leads_united c taken p s t leads

  nodes_equate : (i j : ℕ) (m n : PureNode) → slice_get c.nodes i ≡ Some m → slice_get c.nodes j ≡ Some n → m.root ≡ n.root → Equates (given_list c) m.term n.term
  nodes_equate i j m n at_m at_n one = leads_equates c taken _ m.term n.term (two_lead c.list c.nodes i j m n taken.nodes at_m at_n one)

  pub record IsFirst (w : Wanted) (t u : PureTerm) : Type 0 where
    pub equated : Equates (given_list c) t u
    pub wanted : is_wanted w u ≡ true

  pub first-found : (w : Wanted) (t u : PureTerm) → first_in_class c.nodes w t ≡ Some u → IsFirst w t u
  first-found w t u is = by_root (root_of c.nodes t) refl is where
    own : (b : Bool) → is_wanted w t ≡ b → itself_if b t ≡ Some u → IsFirst w t u
    own true wanted found = let same : t ≡ u = same_Some t u found in record { equated = subst (Equates (given_list c) t) same itself; wanted = subst (λ x. is_wanted w x ≡ true) same wanted }
    own false wanted found = let e : None ≡ Some u = found in cc

    by_root : (o : Option ℕ) → root_of c.nodes t ≡ o → first_at c.nodes w t o ≡ Some u → IsFirst w t u
    by_root (Some r) root found =
        let here = root_found c.nodes t r root in
        let there = first_of-some c.nodes r w u found in
        record {
          equated = subst (λ x. Equates (given_list c) x u) here.term (subst (Equates (given_list c) here.node.term) there.is (nodes_equate here.place there.place here.node there.node here.at there.at (here.root ∙ sym there.one)));
          wanted = there.wanted;
        }
    by_root None root found = own (is_wanted w t) refl found

  pub first-none : (w : Wanted) (t : PureTerm) → first_in_class c.nodes w t ≡ None → (u : PureTerm) → Equates (given_list c) t u → is_wanted w u ≡ false
  first-none w t is u e = false_from_ne_true (is_wanted w u) (λ wanted. by_root (root_of c.nodes t) refl is wanted) where
    own : (b : Bool) → is_wanted w t ≡ b → itself_if b t ≡ None → is_wanted w t ≡ true → ⊥
    own true same none wanted = let e : Some t ≡ None = none in cc
    own false same none wanted = true≢false (sym wanted ∙ same)

    by_root : (o : Option ℕ) → root_of c.nodes t ≡ o → first_at c.nodes w t o ≡ None → is_wanted w u ≡ true → ⊥
    by_root (Some r) root none wanted = ⊎_elim same one (united t u e) where
      same : t ≡ u → ⊥
      same is = let here = root_found c.nodes t r root in first_of-none c.nodes r w none here.place here.node here.at here.root (ap (is_wanted w) (here.term ∙ is) ∙ wanted)

      one : IsUnited c.nodes t u → ⊥
      one both =
          let there = root_found c.nodes u both.root both.right in
          first_of-none c.nodes r w none there.place there.node there.at (there.root ∙ same_Some both.root r (sym both.left ∙ root)) (ap (is_wanted w) there.term ∙ wanted)
    by_root None root none wanted = ⊎_elim same one (united t u e) where
      same : t ≡ u → ⊥
      same is = own (is_wanted w t) refl none (ap (is_wanted w) is ∙ wanted)

      one : IsUnited c.nodes t u → ⊥
      one both = let never : None ≡ Some both.root = sym root ∙ both.left in cc

  pub first-same : (w : Wanted) (s t : PureTerm) → Equates (given_list c) s t → first_in_class c.nodes w s ≡ first_in_class c.nodes w t
  first-same w s t e = ⊎_elim same one (united s t e) where
    same : s ≡ t → first_in_class c.nodes w s ≡ first_in_class c.nodes w t
    same is = ap (first_in_class c.nodes w) is

    one : IsUnited c.nodes s t → first_in_class c.nodes w s ≡ first_in_class c.nodes w t
    one both = ap (first_at c.nodes w s) both.left ∙ ap (first_at c.nodes w t) (sym both.right)
