-- The terms of a list, and the elements of list terms among them.
use Rattle.std.proofs.Common.{◌≡◌, ◌⊎◌, ⊎_elim, inl, inr, List, [], ◌∷◌, ◌++◌}
use Rattle.pure_terms.specs.Pure.{PureTerm, list_of, PureTerms, to_list}
use Rattle.sym_model.specs.Lists.{Each, OneOf, IsAmong}
use Rattle.sym_model.specs.Terms.{IsListed, is_given, is_element, LocatedTerms, Asked, compared_terms, IsNear, IsSide}
use Rattle.sym_model.proofs.ListLaws.{each_to, each_is_among, one_left}

pub listed_itself : (ts : List PureTerm) → Each (IsListed ts) ts
listed_itself ts = each_to (λ t. IsAmong t ts) (IsListed ts) ts (λ t among. is_given among) (each_is_among ts)

pub listed_elements : (ts : List PureTerm) (us : PureTerms) → IsListed ts (list_of us) → Each (IsListed ts) (to_list us)
listed_elements ts us listed =
    each_to (λ t. IsAmong t (to_list us)) (IsListed ts) (to_list us) (λ t among. is_element listed among) (each_is_among (to_list us))

-- what is listed is so beside others
pub listed_left : (ts us : List PureTerm) (t : PureTerm) → IsListed ts t → IsListed (ts ++ us) t
listed_left ts us t (is_given among) = is_given (one_left (λ y. y ≡ t) ts us among)
listed_left ts us t (is_element {us = ws} listed among) = is_element (listed_left ts us (list_of ws) listed) among

-- ---- sides of comparisons

module _ (g : Asked) where
  elements_there : (us : PureTerms) (ps : List LocatedTerms) → OneOf (λ p. IsNear g p.loc × IsListed (p.loc ∷ p.terms) (list_of us)) ps
      → Each (λ t. OneOf (λ p. IsNear g p.loc × IsListed (p.loc ∷ p.terms) t) ps) (to_list us)
  elements_there us [] one = absurd one
  elements_there us (p ∷ ps) one =
      ⊎_elim (λ (near, listed). each_to (IsListed (p.loc ∷ p.terms)) _ (to_list us) (λ t is. inl (near, is)) (listed_elements (p.loc ∷ p.terms) us listed))
      (λ later. each_to _ _ (to_list us) (λ t is. inr is) (elements_there us ps later)) one

  both_sides : (ts : List PureTerm) → Each (IsListed (compared_terms g)) ts
      → Each (λ t. IsListed g.about t ⊎ OneOf (λ p. IsNear g p.loc × IsListed (p.loc ∷ p.terms) t) g.state.located) ts
      → Each (IsSide g) ts
  both_sides [] listed near = tt
  both_sides (t ∷ ts) listed near = (record { compared = listed.0; near = near.0 }, both_sides ts listed.1 near.1)

  pub side_elements : (us : PureTerms) → IsSide g (list_of us) → Each (IsSide g) (to_list us)
  side_elements us side =
      both_sides (to_list us) (listed_elements (compared_terms g) us side.compared)
      (⊎_elim
      (λ listed. each_to _ _ (to_list us) (λ t is. inl is) (listed_elements g.about us listed))
      (λ there. each_to _ _ (to_list us) (λ t is. inr is) (elements_there us g.state.located there))
      side.near)

  pub asked_side : (t : PureTerm) → IsListed g.about t → IsSide g t
  asked_side t listed = record { compared = listed_left g.about (g.state.placed ++ g.state.described) t listed; near = inl listed }
