-- Branches that need the literal form of a term only where D holds of it.
use Rattle.std.proofs.Common.{◌≡◌, ⊎_elim, inl, inr, List, [], ◌∷◌, ◌++◌, map, Bool, true, false, if◌then◌else◌, Option, Some, None, IsTrue, sym, subst, ◌∙◌}
use Rattle.std.specs.List.{list_any, flat_map}
use Rattle.std.proofs.lemmas.Bool.{and_parts}
use Rattle.std.proofs.lemmas.List.Folds.{list_all-append}
use Rattle.gil_values.specs.Pure.{PureValue}
use Rattle.pure_terms.specs.Meaning.{truth, all_true}
use Rattle.pure_terms.specs.Pure.{PureTerm, literal, variable, list_of, unary_of, binary_of, PureAtom, opening}
use Rattle.sym_chunks.specs.Cases.{PureCase, case_of, branches_of, case_branches, sure_case, choose_by, choose}
use Rattle.sym_chunks.specs.Forms.{form_of}
use Rattle.sym_model.specs.Alternatives.{Alternatives, Hold, always, both, is_empty, settled, with_form}
use Rattle.sym_model.specs.Forms.{OpensOnly}
use Rattle.sym_model.specs.Lists.{Each, OneOf}
use Rattle.sym_model.specs.Pure.{PureChunk, PureResult}
use Rattle.sym_model.proofs.ListLaws.{each_append, each_map, each_to}
use Rattle.sym_chunks.proofs.CaseLaws.{Branch}
use Rattle.sym_chunks.proofs.Readings.{NoOpen}
use Rattle.sym_chunks.proofs.Shapes.{EachAtom}

same_opening : {s t : PureTerm} → opening s ≡ opening t → s ≡ t
same_opening e = cc

module _ (v : List PureValue) (D : PureTerm → Type 0) where
  -- the alternatives that are true need forms only where D holds
  abbrev pub OpenFor : Alternatives → Type 0
  OpenFor x = Each (λ conds. IsTrue (all_true v conds) → Each (OpensOnly D) conds) x

  -- and a branch
  abbrev pub Opens : Branch → Type 0
  Opens b = IsTrue (all_true v b.conds) → Each (OpensOnly D) b.conds

  pub closed_open : (x : Alternatives) → EachAtom NoOpen x → OpenFor x
  closed_open x closed = each_to (Each NoOpen) (λ conds. IsTrue (all_true v conds) → Each (OpensOnly D) conds) x (λ conds none taken. each_to NoOpen (OpensOnly D) conds (λ a no t e. absurd (no t e)) none) closed

  first_true : (a b : List PureAtom) → IsTrue (all_true v (a ++ b)) → IsTrue (all_true v a) × IsTrue (all_true v b)
  first_true a b whole = and_parts (all_true v a) (all_true v b) (sym (list_all-append (truth v) a b) ∙ whole)

  before_open : (a : List PureAtom) (y : Alternatives) → (IsTrue (all_true v a) → Each (OpensOnly D) a) → (IsTrue (all_true v a) → OpenFor y) → OpenFor (map (λ b. a ++ b) y)
  before_open a [] first second = tt
  before_open a (b ∷ y) first second = (
    (λ taken. let parts = first_true a b taken in each_append (OpensOnly D) a b (first parts.0) ((second parts.0).0 parts.1)),
    before_open a y first (λ taken. (second taken).1),
  )

  -- the second ones where the first hold
  pub both_open : (x y : Alternatives) → OpenFor x → (Hold v x → OpenFor y) → OpenFor (both x y)
  both_open [] y first second = tt
  both_open (a ∷ x) y first second =
      each_append (λ conds. IsTrue (all_true v conds) → Each (OpensOnly D) conds) (map (λ b. a ++ b) y) (both x y)
      (before_open a y first.0 (λ taken. second (inl taken))) (both_open x y first.1 (λ holds. second (inr holds)))

  with_form_open : (t : PureTerm) (x : Alternatives) → (Hold v x → D t) → EachAtom NoOpen x → OpenFor (with_form t x)
  with_form_open t [] is closed = tt
  with_form_open t (conds ∷ x) is closed = (
    (λ taken. (
      (λ u e. subst D (same_opening e) (is (inl (and_parts (truth v (opening t)) (all_true v conds) taken).1))),
      each_to NoOpen (OpensOnly D) conds (λ a no u e. absurd (no u e)) closed.0,
    )),
    with_form_open t x (λ holds. is (inr holds)) closed.1,
  )

  pub form_open : (t : PureTerm) (x : Alternatives) → (Hold v x → D t) → EachAtom NoOpen x → OpenFor (form_of t x)
  form_open (list_of ts) x is closed = tt
  form_open (literal k) x is closed = tt
  form_open (variable y) x is closed = with_form_open (variable y) x is closed
  form_open (unary_of op t) x is closed = with_form_open (unary_of op t) x is closed
  form_open (binary_of op s t) x is closed = with_form_open (binary_of op s t) x is closed

  settled_open : (b : Bool) (x : Alternatives) → OpenFor x → OpenFor (if b then always else x)
  settled_open true x opens = ((λ taken. tt), tt)
  settled_open false x opens = opens

  pub branches_open : (when : Alternatives) (cs : List PureChunk) (r : PureResult) → OpenFor when → Each Opens (branches_of when cs r)
  branches_open when cs r opens = each_map Opens (λ conds. record { conds = conds; state = cs; result = r }) (settled when) (settled_open (list_any is_empty when) when opens)

  pub case_open : (when : Alternatives) (cs : List PureChunk) (r : PureResult) → OpenFor when → Each (λ c. OpenFor c.when) (case_of when cs r)
  case_open [] cs r opens = tt
  case_open (a ∷ x) cs r opens = (opens, tt)

  -- the cases where `when` holds
  module _ (when : Alternatives) (opens : OpenFor when) where
    each_open : (cases : List PureCase) → (Hold v when → Each (λ c. OpenFor c.when) cases) → Each Opens (flat_map (case_branches when) cases)
    each_open [] is = tt
    each_open (c ∷ cases) is =
        each_append Opens (case_branches when c) (flat_map (case_branches when) cases)
        (branches_open (both when c.when) c.after c.result (both_open when c.when opens (λ holds. (is holds).0)))
        (each_open cases (λ holds. (is holds).1))

    open_by : (cases : List PureCase) → (Hold v when → Each (λ c. OpenFor c.when) cases) → (o : Option PureCase) → Each Opens (choose_by when cases o)
    open_by cases is None = each_open cases is
    open_by cases is (Some c) = branches_open when c.after c.result opens

    pub chosen_open : (cases : List PureCase) → (Hold v when → Each (λ c. OpenFor c.when) cases) → Each Opens (choose when cases)
    chosen_open cases is = open_by cases is (sure_case cases)

-- where the alternatives hold, D gives D'
pub open_to : (v : List PureValue) (D D' : PureTerm → Type 0) (x : Alternatives) → (Hold v x → (t : PureTerm) → D t → D' t) → OpenFor v D x → OpenFor v D' x
open_to v D D' [] f opens = tt
open_to v D D' (conds ∷ x) f opens = (
  (λ taken. each_to (OpensOnly D) (OpensOnly D') conds (λ a only t e. f (inl taken) t (only t e)) (opens.0 taken)),
  open_to v D D' x (λ holds. f (inr holds)) opens.1,
)

pub each_own : {A B : Type 0} (F : A → B → Type 0) (xs : List A) → Each (λ x. (t : B) → F x t → OneOf (λ y. F y t) xs) xs
each_own F [] = tt
each_own F (x ∷ xs) = ((λ t is. inl is), each_to _ _ xs (λ y f t is. inr (f t is)) (each_own F xs))

pub one_with_each : {A : Type 0} (P Q R : A → Type 0) (xs : List A) → Each P xs → OneOf Q xs → ((x : A) → P x → Q x → R x) → OneOf R xs
one_with_each P Q R [] every one f = absurd one
one_with_each P Q R (x ∷ xs) every one f = ⊎_elim (λ here. inl (f x every.0 here)) (λ later. inr (one_with_each P Q R xs every.1 later f)) one
