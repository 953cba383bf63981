-- Narrow lists of chunks: the conditions that are asked of them have forms of the fragment, and what comes of them is narrow.
use Rattle.std.proofs.Common.{◌≡◌, ◌⊎◌, ⊎_elim, inl, inr, ℕ, zero, suc, ◌+◌, ℤ, ◌-ℤ◌, ◌+ℤ◌, List, [], ◌∷◌, ◌++◌, map, Bool, true, false, not, ◌&&◌, ◌||◌, if◌then◌else◌, Option, Some, None, IsTrue, slice_get, refl, sym, ap, subst, ◌∙◌, true≢false, arith}
use Rattle.std.specs.List.{flat_map, list_any}
use Rattle.std.specs.Prelude.{⊤}
use Rattle.std.proofs.lemmas.Bool.{and_parts, and_from, false≢true}
use Rattle.gil_values.specs.declared.kinds.Kind.{Kind}
use Rattle.mem_model.specs.declared.failures.Failure.{Failure}
use Rattle.pure_terms.specs.declared.literals.Literal.{Literal}
use Rattle.pure_terms.specs.declared.variables.Sort.{Sort}
use Rattle.pure_terms.specs.Equality.{same_term}
use Rattle.pure_terms.specs.Fragment.{is_simple, is_flat, is_kind_test, names_sort, has_literals_between, has_fragment_form}
use Rattle.pure_terms.specs.Kinds.{same_sort, kind_of_sort, known_kind}
use Rattle.pure_terms.specs.Pure.{PureTerm, literal, variable, list_of, unary_of, binary_of, PureTerms, no_terms, term_and, to_list, PureAtom, positive, negative, term_of}
use Rattle.sym_chunks.specs.Arguments.{wrong_number, checked, no_property, is_property, unknown_action}
use Rattle.sym_chunks.specs.ByPlace.{places_of, all_at, all_there, all_by_place, any_at}
use Rattle.sym_chunks.specs.Cases.{ChunkBranches, PureCase, case_of, branches_of, case_branches, sure_case, choose_by, choose, PureAccess, accessed, given_back, found_from, found, gone_case, failure}
use Rattle.sym_chunks.specs.Forms.{form_of}
use Rattle.sym_chunks.specs.Keys.{same_sub, other_sub, at_key}
use Rattle.sym_chunks.specs.NameTerms.{listed, unlisted, holds_name, unheld_name, unheld}
use Rattle.sym_model.specs.Alternatives.{Alternatives, never, always, both, any, is_empty, equal, same, other, kind_is, of_kind, not_of_kind}
use Rattle.sym_model.specs.Chunks.{with_held, placed_in, value_where_described, value_where_held, terms_of}
use Rattle.sym_model.specs.Laws.{IsPlainWithin, IsDecidedWithin, growth}
use Rattle.sym_model.specs.Lists.{Each}
use Rattle.sym_model.specs.Plain.{is_list_of_texts, are_text_literals, is_text_literal, IsNarrowWithin, IsNarrowState, IsNarrowResult}
use Rattle.sym_model.specs.Pure.{PureSub, named, cell, shape, bound, dom, proto, gone, PureChunk, PureResult, PureBranch, sub_terms}
use Rattle.sym_model.specs.Terms.{StateTerms}
use Rattle.sym_model.proofs.ListLaws.{same_some, not_none, each_append, each_flat, each_flattened, each_map, each_to}
use Rattle.sym_model.proofs.PlainLaws.{plain_wider}
use Rattle.sym_chunks.proofs.CaseLaws.{Branch, sure_one}
use Rattle.sym_chunks.proofs.PlaceLaws.{each_place}
use Rattle.sym_chunks.proofs.Shapes.{EachAtom, Reading, both_shaped, or_shaped, same_shaped, other_shaped, kind_shaped, not_kind_shaped, any_shaped, all_shaped, same_each, both_never, elsewhere_shaped}

-- ---- narrow terms

not_true : (b : Bool) → not b ≡ true → b ≡ false
not_true true e = absurd (true≢false (sym e))
not_true false e = refl

pub record NarrowParts (low high : ℤ) (t : PureTerm) : Type 0 where
  pub simple : is_simple t ≡ true
  pub flat : is_flat t ≡ true
  pub no_list : names_sort Sort.List t ≡ false
  pub literals : has_literals_between low high t ≡ true

narrow_parts : (low high : ℤ) (t : PureTerm) → IsNarrowWithin low high t → NarrowParts low high t
narrow_parts low high (literal k) is = record { simple = refl; flat = refl; no_list = refl; literals = is.1 }
narrow_parts low high (variable x) is = record { simple = refl; flat = refl; no_list = not_true (same_sort x.sort Sort.List) is.0; literals = refl }
narrow_parts low high (list_of ts) is = absurd (false≢true is.0)
narrow_parts low high (unary_of op t) is = absurd (false≢true is.0)
narrow_parts low high (binary_of op s t) is = absurd (false≢true is.0)

pub narrow_list : {X : Type 0} (low high : ℤ) (ts : PureTerms) → IsNarrowWithin low high (list_of ts) → X
narrow_list low high ts is = absurd (false≢true is.0)

-- it is narrow within wider bounds
pub narrow_wider : (low high : ℤ) (t : PureTerm) → IsNarrowWithin low high t → IsNarrowWithin (low -ℤ growth) (high +ℤ growth) t
narrow_wider low high (literal k) is = (refl, (plain_wider low high (literal k) (refl, is.1)).1)
narrow_wider low high (variable x) is = (is.0, refl)
narrow_wider low high (list_of ts) is = narrow_list low high ts is
narrow_wider low high (unary_of op t) is = absurd (false≢true is.0)
narrow_wider low high (binary_of op s t) is = absurd (false≢true is.0)

pub state_wider : (low high : ℤ) (s : StateTerms) → IsNarrowState s low high → IsNarrowState s (low -ℤ growth) (high +ℤ growth)
state_wider low high s is = record {
  placed = each_to (IsNarrowWithin low high) (IsNarrowWithin (low -ℤ growth) (high +ℤ growth)) s.placed (narrow_wider low high) is.placed;
  described = is.described;
  held = each_to (IsNarrowWithin low high) (IsNarrowWithin (low -ℤ growth) (high +ℤ growth)) s.held (narrow_wider low high) is.held;
}

-- ---- conditions of narrow terms

or_true : (a b : Bool) → (a || (true || b)) ≡ true
or_true true b = refl
or_true false b = refl

fragment_of : (low high : ℤ) (s t : PureTerm) → NarrowParts low high s → NarrowParts low high t → (kt rest more : Bool)
    → (((is_simple s && is_simple t) || rest) && (not (names_sort Sort.List s || names_sort Sort.List t) && (kt || ((is_flat s && is_flat t) || more)))) ≡ true
fragment_of low high s t p q kt rest more =
    (λ i. ((p.simple i && q.simple i) || rest) && (not (p.no_list i || q.no_list i) && (kt || ((p.flat i && q.flat i) || more))))
    ∙ or_true kt more

pub decided_equality : (low high : ℤ) (s t : PureTerm) → IsNarrowWithin low high s → IsNarrowWithin low high t → IsDecidedWithin low high (positive (equal s t))
decided_equality low high s t first second =
    let p = narrow_parts low high s first in
    let q = narrow_parts low high t second in
    (fragment_of low high s t p q (is_kind_test (equal s t)) _ (not (names_sort Sort.Any s) && not (names_sort Sort.Any t)), and_from _ _ p.literals q.literals)

sort_unknown : (s : Sort) → kind_of_sort s ≡ None → s ≡ Sort.Any
sort_unknown Sort.Any is = refl
sort_unknown Sort.Int is = not_none (sym is)
sort_unknown Sort.Bool is = not_none (sym is)
sort_unknown Sort.Str is = not_none (sym is)
sort_unknown Sort.Sym is = not_none (sym is)
sort_unknown Sort.Fresh is = not_none (sym is)
sort_unknown Sort.List is = not_none (sym is)

-- the kind of a narrow term is known, or it is a variable of sort any
pub decided_kind : (low high : ℤ) (t : PureTerm) (k : Kind) → IsNarrowWithin low high t → known_kind t ≡ None → IsDecidedWithin low high (positive (kind_is t k))
decided_kind low high (variable x) k is unknown = (
  ap (λ s. (same_sort s Sort.Any && true) && (not (same_sort s Sort.List || false) && ((same_sort s Sort.Any && true) || (not (same_sort s Sort.Any) && not false)))) (sort_unknown x.sort unknown),
  refl,
)
decided_kind low high (literal l) k is unknown = not_none (sym unknown)
decided_kind low high (list_of ts) k is unknown = narrow_list low high ts is
decided_kind low high (unary_of op t) k is unknown = absurd (false≢true is.0)
decided_kind low high (binary_of op s t) k is unknown = absurd (false≢true is.0)

-- The reading of narrow terms. None of them is compared by `<`, and of states and results nothing is said.
abbrev pub narrow_reading : ℤ → ℤ → Reading
narrow_reading low high = record {
  Q = IsDecidedWithin low high;
  Comparable = λ s t. IsNarrowWithin low high s × IsNarrowWithin low high t;
  Ordered = λ s t. ⊥;
  Side = IsNarrowWithin low high;
  Given = IsNarrowWithin low high;
  Near = λ t. ⊤;
  R = λ t. ⊤;
  N = λ s t. ⊤;
  Missed = λ s. ⊤;
  are_equal = λ s t narrow is. decided_equality low high s t narrow.0 narrow.1;
  are_other = λ s t narrow is. decided_equality low high s t narrow.0 narrow.1;
  are_less = λ s t ordered may is. absurd ordered;
  are_at_most = λ s t ordered may is. absurd ordered;
  is_kind = λ t k narrow own unknown. decided_kind low high t k narrow unknown;
  isnt_kind = λ t k narrow own unknown. decided_kind low high t k narrow unknown;
  sides = λ s t first second. (first, second);
  side_elements = λ ts is. narrow_list low high ts is;
  given_elements = λ ts is. narrow_list low high ts is;
  given_side = λ t is. is;
  given_near = λ t is. tt;
  r_text = λ k. tt;
  r_true = tt;
}

module _ (low high : ℤ) where
  abbrev pub reading : Reading
  reading = narrow_reading low high

  abbrev pub IsNarrow : PureTerm → Type 0
  IsNarrow t = IsNarrowWithin low high t

  abbrev pub AreDecided : Alternatives → Type 0
  AreDecided x = EachAtom (IsDecidedWithin low high) x

  -- ---- chunks

  pub record IsNarrowChunk (c : PureChunk) : Type 0 where
    pub places : Each IsNarrow (placed_in c)
    pub described : Each (λ t. IsTrue (is_list_of_texts t)) (value_where_described c.sub c.val)
    pub held : Each IsNarrow (value_where_held c.sub c.val)

  zipped : (cs : List PureChunk) → Each (λ c. Each IsNarrow (placed_in c)) cs → Each (λ c. Each (λ t. IsTrue (is_list_of_texts t)) (value_where_described c.sub c.val)) cs → Each (λ c. Each IsNarrow (value_where_held c.sub c.val)) cs → Each IsNarrowChunk cs
  zipped [] places described held = tt
  zipped (c ∷ cs) places described held = (record { places = places.0; described = described.0; held = held.0 }, zipped cs places.1 described.1 held.1)

  pub narrow_chunks : (cs : List PureChunk) → IsNarrowState (terms_of cs) low high → Each IsNarrowChunk cs
  narrow_chunks cs is =
      zipped cs (each_flattened IsNarrow placed_in cs is.placed)
      (each_flattened (λ t. IsTrue (is_list_of_texts t)) (λ (c : PureChunk). value_where_described c.sub c.val) cs is.described)
      (each_flattened IsNarrow (λ (c : PureChunk). value_where_held c.sub c.val) cs is.held)

  pub narrow_state : (cs : List PureChunk) → Each IsNarrowChunk cs → IsNarrowState (terms_of cs) low high
  narrow_state cs all = record {
    placed = each_flat IsNarrow placed_in cs (each_to IsNarrowChunk (λ c. Each IsNarrow (placed_in c)) cs (λ c is. is.places) all);
    described = each_flat (λ t. IsTrue (is_list_of_texts t)) (λ (c : PureChunk). value_where_described c.sub c.val) cs (each_to IsNarrowChunk (λ c. Each (λ t. IsTrue (is_list_of_texts t)) (value_where_described c.sub c.val)) cs (λ c is. is.described) all);
    held = each_flat IsNarrow (λ (c : PureChunk). value_where_held c.sub c.val) cs (each_to IsNarrowChunk (λ c. Each IsNarrow (value_where_held c.sub c.val)) cs (λ c is. is.held) all);
  }

  -- what a chunk of a name holds, and the list that a chunk of names holds
  pub held_at_name : (c : PureChunk) (q : PureTerm) → c.sub ≡ named q → IsNarrowChunk c → IsNarrow c.val
  held_at_name c q e is = (subst (λ s. Each IsNarrow (value_where_held s c.val)) e is.held).0

  pub name_at : (c : PureChunk) (q : PureTerm) → c.sub ≡ named q → IsNarrowChunk c → IsNarrow q
  name_at c q e is = (subst (λ s. Each IsNarrow (sub_terms s)) e is.places.1).0

  pub texts_at_shape : (c : PureChunk) → c.sub ≡ shape → IsNarrowChunk c → IsTrue (is_list_of_texts c.val)
  texts_at_shape c e is = (subst (λ s. Each (λ t. IsTrue (is_list_of_texts t)) (value_where_described s c.val)) e is.described).0

  pub texts_at_dom : (c : PureChunk) → c.sub ≡ dom → IsNarrowChunk c → IsTrue (is_list_of_texts c.val)
  texts_at_dom c e is = (subst (λ s. Each (λ t. IsTrue (is_list_of_texts t)) (value_where_described s c.val)) e is.described).0

  -- the chunk of a name holds another narrow term
  pub narrow_held : (cs : List PureChunk) (i : ℕ) (t : PureTerm) (c : PureChunk) (q : PureTerm) → slice_get cs i ≡ Some c → c.sub ≡ named q → IsNarrow t → Each IsNarrowChunk cs → Each IsNarrowChunk (with_held cs i t)
  narrow_held [] i t c q there e is all = tt
  narrow_held (d ∷ cs) zero t c q there e is all =
      let named_q : d.sub ≡ named q = ap (λ (x : PureChunk). x.sub) (same_some there) ∙ e in (
        record {
          places = all.0.places;
          described = subst (λ s. Each (λ u. IsTrue (is_list_of_texts u)) (value_where_described s t)) (sym named_q) tt;
          held = subst (λ s. Each IsNarrow (value_where_held s t)) (sym named_q) (is, tt);
        },
        all.1,
      )
  narrow_held (d ∷ cs) (suc i) t c q there e is all = (all.0, narrow_held cs i t c q there e is all.1)

  -- ---- text literals

  text_narrow : (t : PureTerm) → is_text_literal t ≡ true → IsNarrow t
  text_narrow (literal (Literal.Str p)) is = (refl, refl)
  text_narrow (literal (Literal.Int n)) is = absurd (false≢true is)
  text_narrow (literal (Literal.Bool b)) is = absurd (false≢true is)
  text_narrow (literal (Literal.Kind k)) is = absurd (false≢true is)
  text_narrow (literal (Literal.Proc f)) is = absurd (false≢true is)
  text_narrow (variable x) is = absurd (false≢true is)
  text_narrow (list_of ts) is = absurd (false≢true is)
  text_narrow (unary_of op t) is = absurd (false≢true is)
  text_narrow (binary_of op s t) is = absurd (false≢true is)

  pub texts_narrow : (ts : PureTerms) → are_text_literals ts ≡ true → Each IsNarrow (to_list ts)
  texts_narrow no_terms is = tt
  texts_narrow (term_and t ts) is =
      let parts = and_parts (is_text_literal t) (are_text_literals ts) is in (text_narrow t parts.0, texts_narrow ts parts.1)

  -- ---- conditions

  pub same_decided : (s t : PureTerm) → IsNarrow s → IsNarrow t → AreDecided (same s t)
  same_decided s t first second = same_shaped reading s t (first, second)

  pub other_decided : (s t : PureTerm) → IsNarrow s → IsNarrow t → AreDecided (other s t)
  other_decided s t first second = other_shaped reading s t (first, second)

  sub_decided : (s u : PureSub) → Each IsNarrow (sub_terms s) → Each IsNarrow (sub_terms u) → AreDecided (same_sub s u) × AreDecided (other_sub s u)
  sub_decided (named p) (named q) first second = (same_decided p q first.0 second.0, other_decided p q first.0 second.0)
  sub_decided (cell p) (cell q) first second = (same_decided p q first.0 second.0, other_decided p q first.0 second.0)
  sub_decided shape shape first second = ((tt, tt), tt)
  sub_decided bound bound first second = ((tt, tt), tt)
  sub_decided dom dom first second = ((tt, tt), tt)
  sub_decided proto proto first second = ((tt, tt), tt)
  sub_decided gone gone first second = ((tt, tt), tt)
  sub_decided s u first second = (tt, (tt, tt))

  pub other_sub_decided : (s : PureSub) → Each IsNarrow (sub_terms s) → (c : PureChunk) → IsNarrowChunk c → AreDecided (other_sub s c.sub)
  other_sub_decided s narrow c is = (sub_decided s c.sub narrow is.places.1).1

  pub key_decided : (l : PureTerm) (s : PureSub) → IsNarrow l → Each IsNarrow (sub_terms s) → (c : PureChunk) → IsNarrowChunk c → AreDecided (at_key l s c)
  key_decided l s narrow_l narrow_s c is = both_shaped reading (same l c.loc) (same_sub s c.sub) (same_decided l c.loc narrow_l is.places.0) (sub_decided s c.sub narrow_s is.places.1).0

  pub listed_decided : (p t : PureTerm) → IsNarrow p → IsTrue (is_list_of_texts t) → AreDecided (listed p t)
  listed_decided p (list_of ts) narrow_p are = same_each reading p (to_list ts) narrow_p (texts_narrow ts are)
  listed_decided p (literal k) narrow_p are = tt
  listed_decided p (variable x) narrow_p are = tt
  listed_decided p (unary_of op t) narrow_p are = tt
  listed_decided p (binary_of op s t) narrow_p are = tt

  pub unlisted_decided : (p t : PureTerm) → IsNarrow p → IsTrue (is_list_of_texts t) → AreDecided (unlisted p t)
  unlisted_decided p (list_of ts) narrow_p are =
      all_shaped reading always (other p) (to_list ts) (tt, tt) (each_to IsNarrow (λ t. AreDecided (other p t)) (to_list ts) (λ t is. other_decided p t narrow_p is) (texts_narrow ts are))
  unlisted_decided p (literal k) narrow_p are = tt
  unlisted_decided p (variable x) narrow_p are = tt
  unlisted_decided p (unary_of op t) narrow_p are = tt
  unlisted_decided p (binary_of op s t) narrow_p are = tt

  unless_decided : (b : Bool) (x : Alternatives) → AreDecided x → AreDecided (if b then never else x)
  unless_decided true x decided = tt
  unless_decided false x decided = decided

  pub unheld_decided : (p m : PureTerm) (cs : List PureChunk) (t : PureTerm) → IsNarrow p → IsTrue (is_list_of_texts t) → AreDecided (unheld p m cs t)
  unheld_decided p m cs (list_of ts) narrow_p are =
      any_shaped reading (unheld_name p m cs) (to_list ts)
      (each_to IsNarrow (λ e. AreDecided (unheld_name p m cs e)) (to_list ts) (λ e is. unless_decided (holds_name m cs e) (same p e) (same_decided p e narrow_p is)) (texts_narrow ts are))
  unheld_decided p m cs (literal k) narrow_p are = tt
  unheld_decided p m cs (variable x) narrow_p are = tt
  unheld_decided p m cs (unary_of op t) narrow_p are = tt
  unheld_decided p m cs (binary_of op s t) narrow_p are = tt

  -- the literal form of a list of texts is known
  pub form_decided : (t : PureTerm) (x : Alternatives) → IsTrue (is_list_of_texts t) → AreDecided (form_of t x)
  form_decided (list_of ts) x are = tt
  form_decided (literal k) x are = tt
  form_decided (variable y) x are = absurd (false≢true are)
  form_decided (unary_of op t) x are = absurd (false≢true are)
  form_decided (binary_of op s t) x are = absurd (false≢true are)

  -- ---- conditions on the chunks of a location

  module _ (l : PureTerm) (narrow_l : IsNarrow l) (f : PureChunk → Alternatives) (decided : (c : PureChunk) → IsNarrowChunk c → AreDecided (f c)) where
    at_by : (b : Bool) (x y : Alternatives) → AreDecided x → AreDecided y → AreDecided (if b then both x y else x)
    at_by true x y first second = both_shaped reading x y first second
    at_by false x y first second = first

    at_decided : (m : PureTerm) (x : Alternatives) (cs : List PureChunk) → AreDecided x → Each IsNarrowChunk cs → AreDecided (all_at x f m cs)
    at_decided m x [] first all = first
    at_decided m x (c ∷ cs) first all = at_decided m (if same_term c.loc m then both x (f c) else x) cs (at_by (same_term c.loc m) x (f c) first (decided c all.0)) all.1

    pub by_place_decided : (cs : List PureChunk) → Each IsNarrowChunk cs → AreDecided (all_by_place l f cs)
    by_place_decided cs all =
        all_shaped reading always (all_there l f cs) (places_of cs) (tt, tt)
        (each_to IsNarrow (λ m. AreDecided (all_there l f cs m)) (places_of cs)
        (λ m narrow_m. elsewhere_shaped reading l narrow_l tt m (λ may. tt) (all_at always f m cs) (λ near. narrow_m) (λ near. at_decided m always cs (tt, tt) all))
        (each_place IsNarrow [] cs tt (each_to IsNarrowChunk (λ c. IsNarrow c.loc) cs (λ c is. is.places.0) all)))

    pub any_at_decided : (cs : List PureChunk) → Each IsNarrowChunk cs → AreDecided (any_at l f cs)
    any_at_decided cs all =
        any_shaped reading (λ (c : PureChunk). both (same l c.loc) (f c)) cs
        (each_to IsNarrowChunk (λ c. AreDecided (both (same l c.loc) (f c))) cs (λ c is. both_shaped reading (same l c.loc) (f c) (same_decided l c.loc narrow_l is.places.0) (decided c is)) all)

  -- ---- cases and branches, whose results have a property

  module _ (P : PureResult → Type 0) where
    pub record IsNarrowCase (c : PureCase) : Type 0 where
      pub when : AreDecided c.when
      pub after : Each IsNarrowChunk c.after
      pub result : P c.result

    abbrev pub IsNarrowBranch : Branch → Type 0
    IsNarrowBranch b = Each (IsDecidedWithin low high) b.conds × (IsNarrowState (terms_of b.state) low high × P b.result)

    pub narrow_case : (when : Alternatives) (cs : List PureChunk) (r : PureResult) → AreDecided when → Each IsNarrowChunk cs → P r → Each IsNarrowCase (case_of when cs r)
    narrow_case [] cs r decided all is = tt
    narrow_case (conds ∷ x) cs r decided all is = (record { when = decided; after = all; result = is }, tt)

    settled_decided : (b : Bool) (x : Alternatives) → AreDecided x → AreDecided (if b then always else x)
    settled_decided true x decided = (tt, tt)
    settled_decided false x decided = decided

    pub narrow_branches : (when : Alternatives) (cs : List PureChunk) (r : PureResult) → AreDecided when → Each IsNarrowChunk cs → P r → Each IsNarrowBranch (branches_of when cs r)
    narrow_branches when cs r decided all is =
        each_map IsNarrowBranch (λ conds. record { conds = conds; state = cs; result = r }) (if list_any is_empty when then always else when)
        (each_to (Each (IsDecidedWithin low high)) (λ conds. IsNarrowBranch (record { conds = conds; state = cs; result = r })) (if list_any is_empty when then always else when)
        (λ conds each. (each, (narrow_state cs all, is))) (settled_decided (list_any is_empty when) when decided))

    module _ (when : Alternatives) (decided : AreDecided when) (cases : List PureCase) (narrow : Each IsNarrowCase cases) where
      chosen_by : (o : Option PureCase) → sure_case cases ≡ o → Each IsNarrowBranch (choose_by when cases o)
      chosen_by None is =
          each_flat IsNarrowBranch (case_branches when) cases
          (each_to IsNarrowCase (λ c. Each IsNarrowBranch (case_branches when c)) cases (λ c fine. narrow_branches (both when c.when) c.after c.result (both_shaped reading when c.when decided fine.when) fine.after fine.result) narrow)
      chosen_by (Some c) is =
          let fine = sure_one [] IsNarrowCase cases c is (each_to IsNarrowCase (λ d. list_any is_empty d.when ≡ true → IsNarrowCase d) cases (λ d of_d sure. of_d) narrow) in
          narrow_branches when c.after c.result decided fine.after fine.result

      pub narrow_chosen : Each IsNarrowBranch (choose when cases)
      narrow_chosen = chosen_by (sure_case cases) refl

    -- the chunks that are found by a name
    module _ (a : PureAccess) (l p : PureTerm) (narrow_l : IsNarrow l) (narrow_p : IsNarrow p) (cs : List PureChunk) (gives : (i : ℕ) (c : PureChunk) (q : PureTerm) → slice_get cs i ≡ Some c → c.sub ≡ named q → IsNarrowChunk c → Each IsNarrowChunk (accessed a cs i) × P (given_back a c)) where
      -- a chunk of another form
      no_case : (i : ℕ) (c : PureChunk) → same_sub (named p) c.sub ≡ never → Each IsNarrowCase (case_of (at_key l (named p) c) (accessed a cs i) (given_back a c))
      no_case i c e = subst (λ x. Each IsNarrowCase (case_of x (accessed a cs i) (given_back a c))) (sym (ap (both (same l c.loc)) e ∙ both_never reading (same l c.loc))) tt

      found_by : (i : ℕ) (c : PureChunk) → slice_get cs i ≡ Some c → IsNarrowChunk c → (s : PureSub) → c.sub ≡ s → Each IsNarrowCase (case_of (at_key l (named p) c) (accessed a cs i) (given_back a c))
      found_by i c there is (named q) e =
          let given = gives i c q there e is in
          narrow_case (at_key l (named p) c) (accessed a cs i) (given_back a c) (key_decided l (named p) narrow_l (narrow_p, tt) c is) given.0 given.1
      found_by i c there is (cell q) e = no_case i c (ap (same_sub (named p)) e)
      found_by i c there is shape e = no_case i c (ap (same_sub (named p)) e)
      found_by i c there is bound e = no_case i c (ap (same_sub (named p)) e)
      found_by i c there is dom e = no_case i c (ap (same_sub (named p)) e)
      found_by i c there is proto e = no_case i c (ap (same_sub (named p)) e)
      found_by i c there is gone e = no_case i c (ap (same_sub (named p)) e)

      from_narrow : (i : ℕ) (ds : List PureChunk) → Each IsNarrowChunk ds → ((j : ℕ) (c : PureChunk) → slice_get ds j ≡ Some c → slice_get cs (i + j) ≡ Some c) → Each IsNarrowCase (found_from a l (named p) cs i ds)
      from_narrow i [] all places = tt
      from_narrow i (c ∷ ds) all places =
          each_append IsNarrowCase (case_of (at_key l (named p) c) (accessed a cs i) (given_back a c)) (found_from a l (named p) cs (i + 1) ds)
          (found_by i c (ap (slice_get cs) (omega arith) ∙ places 0 c refl) all.0 c.sub refl)
          (from_narrow (i + 1) ds all.1 (λ j d at. ap (slice_get cs) (omega arith) ∙ places (suc j) d at))

      pub found_narrow : Each IsNarrowChunk cs → Each IsNarrowCase (found a l (named p) cs)
      found_narrow all = from_narrow 0 cs all (λ j c at. ap (slice_get cs) (omega arith) ∙ at)

  -- ---- what every action of a narrow state may come to

  failure_narrow : (why : Failure) → IsNarrowResult low high (failure why)
  failure_narrow why = (refl, refl)

  module _ (cs : List PureChunk) (all : Each IsNarrowChunk cs) where
    abbrev NarrowBranch : Branch → Type 0
    NarrowBranch b = IsNarrowBranch (IsNarrowResult low high) b

    pub narrow_failure_case : (when : Alternatives) (why : Failure) → AreDecided when → Each (IsNarrowCase (IsNarrowResult low high)) (case_of when cs (failure why))
    narrow_failure_case when why decided = narrow_case (IsNarrowResult low high) when cs (failure why) decided all (failure_narrow why)

    pub narrow_failure : (when : Alternatives) (why : Failure) → AreDecided when → Each NarrowBranch (branches_of when cs (failure why))
    narrow_failure when why decided = narrow_branches (IsNarrowResult low high) when cs (failure why) decided all (failure_narrow why)

    pub narrow_number : Each NarrowBranch (wrong_number cs)
    narrow_number = narrow_failure always Failure.Arity (tt, tt)

    pub narrow_unknown : Each NarrowBranch (unknown_action cs)
    narrow_unknown = narrow_failure always Failure.Action (tt, tt)

    pub narrow_gone : (l : PureTerm) → IsNarrow l → Each (IsNarrowCase (IsNarrowResult low high)) (gone_case l cs)
    narrow_gone l narrow_l =
        narrow_failure_case (any (at_key l gone) cs) Failure.Gone
        (any_shaped reading (at_key l gone) cs (each_to IsNarrowChunk (λ c. AreDecided (at_key l gone c)) cs (λ c is. key_decided l gone narrow_l tt c is) all))

    -- of a location and a name
    pub narrow_property : (l p : PureTerm) → IsNarrow l → IsNarrow p → (cases : List PureCase) → Each (IsNarrowCase (IsNarrowResult low high)) cases → Each NarrowBranch (checked (no_property l p) (is_property l p) cs cases)
    narrow_property l p narrow_l narrow_p cases narrow =
        each_append NarrowBranch (branches_of (no_property l p) cs (failure Failure.Kind)) (choose (is_property l p) cases)
        (narrow_failure (no_property l p) Failure.Kind
        (or_shaped reading (not_of_kind l Kind.Sym) (not_of_kind p Kind.Str) (not_kind_shaped reading l Kind.Sym narrow_l refl) (not_kind_shaped reading p Kind.Str narrow_p refl)))
        (narrow_chosen (IsNarrowResult low high) (is_property l p)
        (both_shaped reading (of_kind l Kind.Sym) (of_kind p Kind.Str) (kind_shaped reading l Kind.Sym narrow_l refl) (kind_shaped reading p Kind.Str narrow_p refl)) cases narrow)
