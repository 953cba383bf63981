-- Where nothing is asked about, nothing is near, and so no condition has one of the forms that a memory may give.
use Rattle.std.proofs.Common.{⊎_elim, List, [], ◌∷◌}
use Rattle.gil_values.specs.declared.operators.UnOp.{UnOp}
use Rattle.gil_values.specs.declared.operators.BinOp.{BinOp}
use Rattle.pure_terms.specs.Pure.{PureTerm, literal, variable, list_of, unary_of, binary_of, PureAtom, positive, negative, opening}
use Rattle.sym_model.specs.Lists.{OneOf, IsAmong}
use Rattle.sym_model.specs.Terms.{IsListed, is_given, is_element, LocatedTerms, StateTerms, asked_of, nothing_asked, IsNear, is_asked, is_next, IsSide, IsLimit, IsNextToLimit, AreOrdered, AreSides, IsKindQuestion, IsQuestion, IsOwnCondition}

none_listed : (t : PureTerm) → ¬ IsListed [] t
none_listed t (is_given among) = among
none_listed t (is_element {us = us} listed among) = none_listed (list_of us) listed

module _ (s : StateTerms) where
  none_near : (t : PureTerm) → ¬ IsNear (asked_of nothing_asked s) t
  none_near t (is_asked listed) = none_listed t listed
  none_near t (is_next {s = u} near among same) = none_near u near

  none_there : (P : LocatedTerms → Type 0) (ps : List LocatedTerms) → ¬ OneOf (λ p. IsNear (asked_of nothing_asked s) p.loc × P p) ps
  none_there P [] one = one
  none_there P (p ∷ ps) one = ⊎_elim (λ (near, holds). none_near p.loc near) (none_there P ps) one

  no_side : (t : PureTerm) → ¬ IsSide (asked_of nothing_asked s) t
  no_side t side = ⊎_elim (none_listed t) (none_there (λ p. IsListed (p.loc ∷ p.terms) t) s.located) side.near

  no_limit : (t : PureTerm) → ¬ IsLimit (asked_of nothing_asked s) t
  no_limit t limit = ⊎_elim (λ (among, there). none_there (λ p. IsAmong t p.terms) s.located there) (λ (among, is). among) limit

  no_next : (x y : PureTerm) → ¬ IsNextToLimit (asked_of nothing_asked s) x y
  no_next x y next = ⊎_elim (λ (first, limit). no_limit y limit) (λ (limit, second). no_limit x limit) next

  no_order : (x y : PureTerm) → ¬ AreOrdered (asked_of nothing_asked s) x y
  no_order x y ordered =
      ⊎_elim (λ (first, limit). no_limit y limit) (λ later. ⊎_elim (λ (limit, listed). no_limit x limit) (no_next x y) later) ordered

  no_sides : (op : BinOp) (x y : PureTerm) → ¬ AreSides (asked_of nothing_asked s) op x y
  no_sides BinOp.Equal x y sides =
      ⊎_elim (λ (first, second). no_side x first)
      (⊎_elim (no_next x y) (λ (is_literal, (among, there)). none_there (λ p. IsAmong y p.terms) s.located there)) sides
  no_sides BinOp.Less x y (may, ordered) = no_order x y ordered
  no_sides BinOp.LessOrEqual x y (may, ordered) = no_order x y ordered
  no_sides op x y sides = sides

  no_kind_question : (x y : PureTerm) → ¬ IsKindQuestion (asked_of nothing_asked s) x y
  no_kind_question (unary_of UnOp.Kind u) y (listed, unknown, own) = none_listed u listed
  no_kind_question (unary_of UnOp.Not u) y question = question
  no_kind_question (unary_of UnOp.Neg u) y question = question
  no_kind_question (unary_of UnOp.Len u) y question = question
  no_kind_question (literal k) y question = question
  no_kind_question (variable x) y question = question
  no_kind_question (list_of ts) y question = question
  no_kind_question (binary_of op t u) y question = question

  no_question : (t : PureTerm) → ¬ IsQuestion (asked_of nothing_asked s) t
  no_question (binary_of op x y) question = ⊎_elim (λ (differ, apart, sides). no_sides op x y sides) (λ (is, kind). no_kind_question x y kind) question
  no_question t question = question

-- there is no condition of such a form
pub no_own_condition : (s : StateTerms) (a : PureAtom) → ¬ IsOwnCondition (asked_of nothing_asked s) a
no_own_condition s (positive t) own = no_question s t own
no_own_condition s (negative t) own = no_question s t own
no_own_condition s (opening t) (form, no_list, no_literal) = ⊎_elim (λ among. among) (λ (described, there). none_there s (λ p. IsAmong t p.terms) s.located there) form
