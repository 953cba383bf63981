-- Where no rule has anything to add, numbers, kinds and disequalities are such that values can be given.
use Rattle.std.proofs.Common.{◌≡◌, ⊎_elim, ◌⊎◌, inl, inr, ℕ, ◌^◌, ◌<◌, pos, neg_ℤ, List, Bool, true, false, ◌&&◌, ◌||◌, Option, Some, None, slice_get, refl, sym, ap, ◌∙◌, subst}
use Rattle.std.specs.Option.{is_some}
use Rattle.std.proofs.lemmas.Bool.{false≢true, true≢false, or_parts, and_parts}
use Rattle.std.proofs.lemmas.Option.{same_Some, option_and_then_some, slice_get_within}
use Rattle.gil_values.specs.declared.kinds.Kind.{Kind}
use Rattle.gil_values.specs.declared.operators.BinOp.{BinOp}
use Rattle.gil_values.specs.declared.operators.UnOp.{UnOp}
use Rattle.gil_values.specs.Pure.{PureValue}
use Rattle.pure_terms.specs.declared.literals.Literal.{Literal}
use Rattle.pure_terms.specs.declared.variables.Sort.{Sort}
use Rattle.pure_terms.specs.declared.variables.Var.{Var}
use Rattle.pure_terms.specs.Deciding.{has_numbers_between}
use Rattle.pure_terms.specs.EqualityLaws.{same_sorts}
use Rattle.pure_terms.specs.Fragment.{is_simple, is_flat, is_variable_of, is_integer_literal, has_form, is_fragment_term}
use Rattle.pure_terms.specs.Kinds.{same_sort, known_kind, kind_of_sort}
use Rattle.pure_terms.specs.Pure.{PureTerm, literal, variable, list_of, unary_of, binary_of, PureAtom, positive, negative, opening}
use Rattle.pure_terms.proofs.FragmentLaws.{passes_at}
use Rattle.pure_terms.proofs.SimpleLaws.{found}
use Rattle.solver_proof.specs.Chains.{equals, kind_is, KindFact, kind_fact_of, kind_fact_of_term}
use Rattle.linear_core.specs.Answers.{IsSolution}
use Rattle.equality_core.specs.declared.classes.Wanted.{Wanted}
use Rattle.equality_core.specs.Classes.{PureClasses, given_list}
use Rattle.equality_core.specs.Classified.{is_literal, first_in_class}
use Rattle.equality_core.specs.Equating.{Equates, joined}
use Rattle.equality_core.specs.Valued.{AreFragmentEqualities, IsModerateNumber, FitNumbers, kind_with, is_small_kind, HasNoNumber, MayDiffer}
use Rattle.equality_core.proofs.Seeking.{first-none}
use Rattle.solver_rules.specs.declared.rules.Rule.{Rule}
use Rattle.solver_rules.specs.Rules.{AreDone, HasKindTerm, HasKindFact, AreKinds}
use Rattle.solver_rules.specs.Rows.{rows_from}
use Rattle.solver_rules.specs.Sides.{IsTableSide}
use Rattle.solver_rules.specs.Steps.{IsPlainAtom, IsNode}
use Rattle.solver_rules.proofs.KindsApart.{forms_given, clear_given, first_found, first_side, kind_beside, no_kind_beside}
use Rattle.solver_rules.proofs.KindsFit.{side_kind}
use Rattle.solver_rules.proofs.Meeting.{integers_same}
use Rattle.solver_rules.proofs.Opened.{plain_there, all_met}
use Rattle.solver_rules.proofs.Plain.{flat_sides}
use Rattle.solver_rules.proofs.RowTruths.{integer_of_sort}
use Rattle.solver_rules.proofs.RowsMet.{rows_are_met}

-- ---- what plain atoms say of kinds is said of variables of sort any

pub record SaysKind (a : PureAtom) (f : KindFact) : Type 0 where
  pub x : Var
  pub any : x.sort ≡ Sort.Any
  pub subject : f.subject ≡ variable x
  pub so : f.is_so ≡ true → a ≡ positive (kind_is (variable x) f.kind)
  pub not_so : f.is_so ≡ false → a ≡ negative (kind_is (variable x) f.kind)

any_variable : (t : PureTerm) → is_variable_of Sort.Any t ≡ true → (x : Var) × ((t ≡ variable x) × (x.sort ≡ Sort.Any))
any_variable (variable x) is = (x, (refl, same_sorts x.sort Sort.Any is))
any_variable (literal l) is = absurd (false≢true is)
any_variable (list_of ts) is = absurd (false≢true is)
any_variable (unary_of op t) is = absurd (false≢true is)
any_variable (binary_of op s t) is = absurd (false≢true is)

kind_form : (t : PureTerm) (k : Kind) → has_form (kind_is t k) ≡ true → is_variable_of Sort.Any t ≡ true
kind_form t k h = any (is_variable_of Sort.Any t) h where
  any : (b : Bool) → (false || (b && true)) ≡ true → b ≡ true
  any true e = refl
  any false e = absurd (false≢true e)

says_kind_of : (b : Bool) (a : PureAtom) (t : PureTerm) (f : KindFact) → (b ≡ true → a ≡ positive t) → (b ≡ false → a ≡ negative t) → has_form t ≡ true → kind_fact_of_term b t ≡ Some f → SaysKind a f
says_kind_of b a (binary_of BinOp.Equal (unary_of UnOp.Kind s) (literal (Literal.Kind k))) f holds denied form is =
    let fact : record { subject = s; kind = k; is_so = b } ≡ f = same_Some (record { subject = s; kind = k; is_so = b }) f is in
    let (x, (same, any)) = any_variable s (kind_form s k form) in
    record {
      x = x;
      any = any;
      subject = ap (λ (g : KindFact). g.subject) (sym fact) ∙ same;
      so = λ so. holds (ap (λ (g : KindFact). g.is_so) fact ∙ so) ∙ (λ i. positive (kind_is (same i) ((fact i).kind)));
      not_so = λ so. denied (ap (λ (g : KindFact). g.is_so) fact ∙ so) ∙ (λ i. negative (kind_is (same i) ((fact i).kind)));
    }
says_kind_of b a t f holds denied form is = cc

fragment_has_form : (t : PureTerm) → is_fragment_term t ≡ true → has_form t ≡ true
fragment_has_form t h = (and_parts (has_form t) _ h).0

pub says_kind : (vars : List Sort) (a : PureAtom) (f : KindFact) → IsPlainAtom vars a → kind_fact_of a ≡ Some f → SaysKind a f
says_kind vars (positive t) f h is = says_kind_of true (positive t) t f (λ e. refl) (λ e. absurd (true≢false e)) (fragment_has_form t h.form) is
says_kind vars (negative t) f h is = says_kind_of false (negative t) t f (λ e. absurd (false≢true e)) (λ e. refl) (fragment_has_form t h.form) is
says_kind vars (opening t) f h is = cc

literal_of : (t : PureTerm) → is_literal t ≡ true → (l : Literal) × (t ≡ literal l)
literal_of (literal l) is = (l, refl)
literal_of (variable x) is = absurd (false≢true is)
literal_of (list_of ts) is = absurd (false≢true is)
literal_of (unary_of op t) is = absurd (false≢true is)
literal_of (binary_of op s t) is = absurd (false≢true is)

some_there : {X : Type 0} (o : Option X) → is_some o ≡ true → (x : X) × (o ≡ Some x)
some_there (Some x) is = (x, refl)
some_there None is = absurd (false≢true is)

-- a side of a kind with few values is a literal or a Bool variable
small_side_form : (u : PureTerm) (k : Kind) → is_simple u ≡ true → known_kind u ≡ Some k → is_small_kind k ≡ true → (is_literal u ≡ true) ⊎ (is_variable_of Sort.Bool u ≡ true)
small_side_form (literal l) k simple is small = inl refl
small_side_form (variable x) k simple is small = inr (by_sort x.sort is) where
  by_sort : (s : Sort) → kind_of_sort s ≡ Some k → same_sort s Sort.Bool ≡ true
  by_sort Sort.Bool is = refl
  by_sort Sort.Int is = absurd (false≢true (ap is_small_kind (same_Some Kind.Int k is) ∙ small))
  by_sort Sort.Str is = absurd (false≢true (ap is_small_kind (same_Some Kind.Str k is) ∙ small))
  by_sort Sort.Sym is = absurd (false≢true (ap is_small_kind (same_Some Kind.Sym k is) ∙ small))
  by_sort Sort.Fresh is = absurd (false≢true (ap is_small_kind (same_Some Kind.Sym k is) ∙ small))
  by_sort Sort.List is = absurd (false≢true (ap is_small_kind (same_Some Kind.List k is) ∙ small))
  by_sort Sort.Any is = cc
small_side_form (list_of ts) k simple is small = absurd (false≢true (ap is_small_kind (same_Some Kind.List k is) ∙ small))
small_side_form (unary_of op t) k simple is small = absurd (false≢true simple)
small_side_form (binary_of BinOp.Add s t) k simple is small = absurd (false≢true (ap is_small_kind (same_Some Kind.Int k is) ∙ small))
small_side_form (binary_of BinOp.Subtract s t) k simple is small = absurd (false≢true (ap is_small_kind (same_Some Kind.Int k is) ∙ small))
small_side_form (binary_of op s t) k simple is small = absurd (false≢true simple)

module _ (vars : List Sort) (list : List PureAtom) (c : PureClasses) (node : IsNode vars list c) (v : List PureValue) (kinds : List Kind) (are : AreKinds vars c kinds)
    (one : AreDone Rule.OneKind c v) (two : AreDone Rule.TwoKinds c v) (facts : AreDone Rule.SmallFact c v) (sides : AreDone Rule.SmallSide c v) (linked : AreDone Rule.Linked c v) where
  pub plain_given : (i : ℕ) (a : PureAtom) → slice_get (given_list c) i ≡ Some a → IsPlainAtom vars a
  plain_given i a at = node.plain i a (ap (λ l. slice_get l i) (sym node.given) ∙ at)

  pub fragment : AreFragmentEqualities vars (given_list c)
  fragment = record { forms = forms_given vars list c node; literals = λ i a at some. (plain_given i a at).literals; over = λ i a at some. (plain_given i a at).over }

  first_literal : (t : PureTerm) → is_some (first_in_class c.nodes Wanted.Literal t) ≡ true → (l : Literal) × Equates (given_list c) t (literal l)
  first_literal t some =
      let (u, first) = some_there (first_in_class c.nodes Wanted.Literal t) some in
      let found = first_found vars list c node Wanted.Literal t u first in
      let (l, is) = literal_of u found.wanted in
      (l, subst (Equates (given_list c) t) is found.equated)

  -- a side of a kind with few values is equated with a literal
  by_term : (i : ℕ) (a : PureAtom) (t other : PureTerm) → IsTableSide vars t → ((u : PureTerm) → first_in_class c.nodes Wanted.KnownKind t ≡ Some u → is_variable_of Sort.Bool u ≡ true → is_some (first_in_class c.nodes Wanted.Literal t) ≡ true)
      → (k : Kind) → is_small_kind k ≡ true → HasKindTerm c t k → (l : Literal) × Equates (given_list c) t (literal l)
  by_term i a t other side settled k small has = by_first (first_in_class c.nodes Wanted.KnownKind t) refl where
    by_first : (o : Option PureTerm) → first_in_class c.nodes Wanted.KnownKind t ≡ o → (l : Literal) × Equates (given_list c) t (literal l)
    by_first None first =
        let none : known_kind has.of ≡ None = no_kind_beside vars list c node t has.of first has.equated in
        let e : None ≡ Some k = sym none ∙ has.known in cc
    by_first (Some u) first = ⊎_elim (λ none. absurd (never none)) (λ same. here same) (kind_beside vars list c node t has.of u first has.equated) where
      never : known_kind has.of ≡ None → ⊥
      never none = let e : None ≡ Some k = sym none ∙ has.known in cc

      here : known_kind has.of ≡ known_kind u → (l : Literal) × Equates (given_list c) t (literal l)
      here same =
          let found = first_found vars list c node Wanted.KnownKind t u first in
          let side_u = first_side vars list c node Wanted.KnownKind t u side first in
          ⊎_elim (λ lit. let (l, is) = literal_of u lit in (l, subst (Equates (given_list c) t) is found.equated)) (λ bool. first_literal t (settled u first bool))
          (small_side_form u k side_u.simple (sym same ∙ has.known) small)

  by_fact : (t : PureTerm) (k : Kind) → is_small_kind k ≡ true → HasKindFact c t k → (l : Literal) × Equates (given_list c) t (literal l)
  by_fact t k small has = option_and_then_some kind_fact_of (slice_get (given_list c) has.place) has.fact has.at (λ a at said. from a at said) where
    from : (a : PureAtom) → slice_get (given_list c) has.place ≡ Some a → kind_fact_of a ≡ Some has.fact → (l : Literal) × Equates (given_list c) t (literal l)
    from a at said =
        let says = says_kind vars a has.fact (plain_given has.place a at) said in
        let (l, e) = first_literal (variable says.x) (facts has.place a at says.x has.fact.kind (says.so has.so) (ap is_small_kind has.kind ∙ small)) in
        (l, joined has.equated (subst (λ s. Equates (given_list c) s (literal l)) (sym says.subject) e))

  settled_side : (t : PureTerm) → IsTableSide vars t → ((u : PureTerm) → first_in_class c.nodes Wanted.KnownKind t ≡ Some u → is_variable_of Sort.Bool u ≡ true → is_some (first_in_class c.nodes Wanted.Literal t) ≡ true)
      → (k : Kind) → kind_with kinds t ≡ Some k → is_small_kind k ≡ true → (l : Literal) × Equates (given_list c) t (literal l)
  settled_side t side settled k is small =
      let there = side_kind vars list c node v one two kinds are t side in
      let same : there.kind ≡ k = same_Some there.kind k (sym there.is ∙ is) in
      ⊎_elim (λ has. by_term 0 (positive t) t t side settled there.kind (ap is_small_kind same ∙ small) has) (λ has. by_fact t there.kind (ap is_small_kind same ∙ small) has) there.has

  has_no_number : (t : PureTerm) → first_in_class c.nodes Wanted.Number t ≡ None → HasNoNumber (given_list c) t
  has_no_number t none u e = or_parts (is_variable_of Sort.Int u) (is_integer_literal u) (first-none c node.whole (forms_given vars list c node) (clear_given vars list c node) Wanted.Number t none u e)

  -- a disequality of which one side is equated with no number
  pub may_differ : (i : ℕ) (a : PureAtom) (s t : PureTerm) → slice_get (given_list c) i ≡ Some a → a ≡ negative (equals s t) → is_flat s ≡ true → is_flat t ≡ true
      → (first_in_class c.nodes Wanted.Number s ≡ None) ⊎ (first_in_class c.nodes Wanted.Number t ≡ None) → MayDiffer vars (given_list c) kinds a
  may_differ i a s t at is flat_s flat_t free =
      let both = flat_sides vars s t (subst (IsPlainAtom vars) is (plain_given i a at)) flat_s flat_t in
      let settled = sides i a at s t is flat_s flat_t in
      record {
        left = s;
        right = t;
        is = is;
        left_side = record { flat = flat_s; over = both.0.over; narrow = both.0.narrow; settled = settled_side s both.0 settled.0 };
        right_side = record { flat = flat_t; over = both.1.over; narrow = both.1.narrow; settled = settled_side t both.1 settled.1 };
        apart = linked i a at s t is;
        open_side = ⊎_elim (λ none. inl (has_no_number s none)) (λ none. inr (has_no_number t none)) free;
      }

-- ---- numbers

module _ (vars : List Sort) (list : List PureAtom) (c : PureClasses) (node : IsNode vars list c) (v : List PureValue) (solved : IsSolution vars (rows_from c.list) v) (meeting : AreDone Rule.Meeting c v) where
  moderate_number : (x : ℕ) → slice_get vars x ≡ Some Sort.Int → IsModerateNumber (slice_get v x)
  moderate_number x at =
      let (w, there) = found v x (subst (λ n. x < n) (sym solved.proper.one_each) (slice_get_within vars x Sort.Int at)) in
      let (n, is) = integer_of_sort w (solved.proper.sorts x Sort.Int w at there) in
      record { number = n; is = there ∙ ap Some is; between = ap (has_numbers_between (neg_ℤ (pos (2 ^ 124))) (pos (2 ^ 124))) (sym is) ∙ passes_at (has_numbers_between (neg_ℤ (pos (2 ^ 124))) (pos (2 ^ 124))) v x w solved.moderate there }

  pub numbers_fit : FitNumbers vars (given_list c) v
  numbers_fit = record {
    each = moderate_number;
    equated = integers_same vars list c node v (rows_are_met vars c.list (plain_there vars list c node) v solved.proper solved.met c refl) (all_met vars list c node v meeting);
  }
