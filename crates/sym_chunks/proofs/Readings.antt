-- The readings of conditions and terms from which the laws on them follow: they are own and made of what is given; they name no
-- other variables; they are plain; they are kept; no form is needed.
use Rattle.std.proofs.Common.{◌≡◌, ⊎_elim, inl, inr, ℤ, List, [], ◌∷◌, ◌++◌, map, Bool, true, false, not, ◌&&◌, ◌||◌, Option, Some, None, IsTrue, is_some, refl, sym, ap, subst, ◌∙◌, true≢false}
use Rattle.std.specs.Prelude.{⊤}
use Rattle.std.proofs.lemmas.Bool.{and_parts, and_from, false≢true}
use Rattle.std.proofs.lemmas.List.Elements.{Contains-append_cases}
use Rattle.gil_values.proofs.OperatorSymbols.{none_contained}
use Rattle.gil_values.specs.declared.kinds.Kind.{Kind}
use Rattle.gil_values.specs.declared.operators.BinOp.{BinOp}
use Rattle.mem_model.specs.declared.keys.MemoryName.{MemoryName}
use Rattle.mem_model.specs.declared.keys.MemoryName.TheVariants.{Record, Block, Object}
use Rattle.pure_terms.specs.declared.literals.Literal.{Literal}
use Rattle.pure_terms.specs.declared.variables.Sort.{Sort}
use Rattle.pure_terms.specs.declared.variables.Var.{Var}
use Rattle.pure_terms.specs.Equality.{same_term}
use Rattle.pure_terms.specs.EqualityLaws.{same_term-refl}
use Rattle.pure_terms.specs.Fragment.{is_simple, are_simple, names_sort, name_sort, is_kind_test, is_flat, is_shift, is_integer_side, has_literals_between, have_literals_between, has_fragment_form}
use Rattle.pure_terms.specs.Kinds.{same_sort, kind_of_sort, allows, is_of_kind, known_kind}
use Rattle.pure_terms.specs.Meaning.{IsOver, AreVariablesOf}
use Rattle.pure_terms.specs.Pure.{PureTerm, literal, variable, list_of, unary_of, binary_of, PureTerms, no_terms, term_and, to_list, PureAtom, positive, negative, opening, term_of, variables, variables_of_all}
use Rattle.pure_terms.proofs.KindLaws.{over_left, over_right}
use Rattle.pure_terms.proofs.SimpleLaws.{simple_terms_have_kinds}
use Rattle.sym_chunks.specs.Cases.{ChunkBranches, true_term}
use Rattle.sym_chunks.specs.Ordering.{less_than, not_above}
use Rattle.sym_model.specs.declared.comparing.Comparison.{Comparison}
use Rattle.sym_model.specs.Alternatives.{equal, kind_is}
use Rattle.sym_model.specs.Comparing.{compared}
use Rattle.sym_model.proofs.Telling.{Compared, are_same, are_different, are_unsure, comparison_of}
use Rattle.sym_model.specs.Chunks.{placed_in, value_where_described, value_where_held, offset_of, located_in, terms_of}
use Rattle.sym_model.specs.Cores.{IsSubOf, MissesItsOwn}
use Rattle.sym_model.specs.Laws.{IsPlainWithin, IsDecidedWithin, EachTerm}
use Rattle.sym_model.specs.Lists.{Each, OneOf, IsAmong}
use Rattle.sym_model.specs.Plain.{is_plain_description, IsPlainState}
use Rattle.sym_model.specs.Pure.{PureSub, named, cell, shape, bound, dom, proto, gone, PureChunk, PureResult, done, failed, missed, sub_terms}
use Rattle.sym_model.specs.Terms.{is_literal, is_list_term, may_be_ordered, are_apart, all_of, LocatedTerms, Asked, asked_of, compared_terms, IsMadeOf, IsListed, IsNear, is_asked, is_next, IsSide, IsLimit, AreOrdered, AreSides, StandsNear, IsOwnCondition}
use Rattle.sym_model.proofs.ChunkMeaning.{ChunkTerms, chunk_val, chunk_by_chunk, from_chunks}
use Rattle.sym_model.proofs.Listed.{listed_itself, listed_elements, side_elements, asked_side}
use Rattle.sym_model.proofs.ListLaws.{each_to, each_at, each_by_place, each_left, each_right, each_flat, each_flattened, each_is_among, one_at, one_left, one_right}
use Rattle.sym_model.proofs.MadeLaws.{made_of_given}
use Rattle.sym_chunks.proofs.CaseLaws.{each_every}
use Rattle.sym_chunks.proofs.Shapes.{Reading, ChunkSides, ChunkForms, IsFine, IsFineState, IsFineResult, Shaped, fine_terms, limits_of, number}

-- ---- comparisons that aren't sure

unsure_by : (s t : PureTerm) (c : Comparison) → Compared s t c → c ≡ Comparison.Unsure → (¬ (s ≡ t)) × (are_apart s t ≡ false)
unsure_by s t Comparison.Same (are_same e) is = absurd (cc)
unsure_by s t Comparison.Different (are_different a b) is = absurd (cc)
unsure_by s t Comparison.Unsure (are_unsure differ apart) is =
    ((λ e. true≢false (sym (same_term-refl s) ∙ ap (same_term s) e ∙ differ)), apart)

pub unsure : (s t : PureTerm) → compared s t ≡ Comparison.Unsure → (¬ (s ≡ t)) × (are_apart s t ≡ false)
unsure s t is = unsure_by s t (compared s t) (comparison_of s t) is

-- ---- own conditions, and what terms are made of

module _ (asked : List PureTerm × List PureTerm) (given : List PureTerm) (fresh : Option Var) (cs : List PureChunk) where
  abbrev pub asks : Asked
  asks = asked_of asked (terms_of cs)

  abbrev pub own_reading : Reading
  own_reading = record {
    Q = IsOwnCondition (asked_of asked (terms_of cs));
    Comparable = AreSides (asked_of asked (terms_of cs)) BinOp.Equal;
    Ordered = AreOrdered (asked_of asked (terms_of cs));
    Side = IsSide (asked_of asked (terms_of cs));
    Given = IsListed asked.0;
    Near = IsNear (asked_of asked (terms_of cs));
    R = IsMadeOf given fresh;
    N = λ s t. ⊤;
    Missed = λ s. ⊤;
    are_equal = λ s t may is. let parts = unsure s t is in inl (parts.0, parts.1, may);
    are_other = λ s t may is. let parts = unsure s t is in inl (parts.0, parts.1, may);
    are_less = λ s t may ordered is. let parts = unsure s t is in inl (parts.0, parts.1, (ordered, may));
    are_at_most = λ s t may ordered is. let parts = unsure s t is in inl (parts.0, parts.1, (ordered, may));
    is_kind = λ t k asked_t own known. inr (refl, (asked_t, known, own));
    isnt_kind = λ t k asked_t own known. inr (refl, (asked_t, known, own));
    sides = λ s t first second. inl (first, second);
    side_elements = side_elements (asked_of asked (terms_of cs));
    given_elements = listed_elements asked.0;
    given_side = asked_side (asked_of asked (terms_of cs));
    given_near = λ t is. is_asked is;
    r_text = λ k. tt;
    r_true = tt;
  }

  made_all : Each (IsMadeOf given fresh) given
  made_all = each_to (IsListed given) (IsMadeOf given fresh) given (made_of_given given fresh) (listed_itself given)

  pub made_state : Each (λ t. IsAmong t given) (all_of (terms_of cs)) → IsFineState own_reading cs
  made_state among =
      each_to (ChunkTerms (IsMadeOf given fresh)) (IsFine own_reading) cs (λ c is. record { terms = is; holds = tt })
      (chunk_by_chunk (IsMadeOf given fresh) cs (each_to (λ t. IsAmong t given) (IsMadeOf given fresh) (all_of (terms_of cs)) (λ t is. made_of_given given fresh t (IsListed.is_given is)) among))

  listed_chunks : Each (IsListed (compared_terms asks)) ((terms_of cs).placed ++ (terms_of cs).described)
  listed_chunks = each_right (IsListed (compared_terms asks)) asked.0 ((terms_of cs).placed ++ (terms_of cs).described) (listed_itself (compared_terms asks))

  -- what holds of a chunk's location and of what stands there holds of one of those of the state
  located_one : (P : LocatedTerms → Type 0) (ds : List PureChunk) (c : PureChunk) → IsAmong c ds → P (located_in c) → OneOf P (map located_in ds)
  located_one P [] c one holds = absurd one
  located_one P (d ∷ ds) c one holds = ⊎_elim (λ e. inl (subst (λ b. P (located_in b)) (sym e) holds)) (λ later. inr (located_one P ds c later holds)) one

  location_among : (ds : List PureChunk) (c : PureChunk) → IsAmong c ds → IsAmong c.loc (map (λ p. p.loc) (map located_in ds))
  location_among [] c one = absurd one
  location_among (d ∷ ds) c one = ⊎_elim (λ e. inl (ap (λ (b : PureChunk). b.loc) e)) (λ later. inr (location_among ds c later)) one

  module _ (c : PureChunk) (there : IsAmong c cs) where
    sides_there : (ts : List PureTerm) → Each (IsListed (compared_terms asks)) ts → Each (IsListed (c.loc ∷ (located_in c).terms)) ts → IsNear asks c.loc → Each (IsSide asks) ts
    sides_there [] listed at near = tt
    sides_there (t ∷ ts) listed at near = (
      record { compared = listed.0; near = inr (located_one (λ p. IsNear asks p.loc × IsListed (p.loc ∷ p.terms) t) cs c there (near, at.0)) },
      sides_there ts listed.1 at.1 near,
    )

    listed_there : Each (IsListed (c.loc ∷ (located_in c).terms)) (c.loc ∷ (located_in c).terms)
    listed_there = listed_itself (c.loc ∷ (located_in c).terms)

    stands_near : (t : PureTerm) → IsNear asks c.loc → IsAmong t (located_in c).terms → StandsNear asks t
    stands_near t near among = located_one (λ p. IsNear asks p.loc × IsAmong t p.terms) cs c there (near, among)

    among_subs : Each (λ t. IsAmong t (located_in c).terms) (sub_terms c.sub) × Each (λ t. IsAmong t (located_in c).terms) (value_where_described c.sub c.val)
    among_subs =
        let all = each_is_among (located_in c).terms in
        (each_left (λ t. IsAmong t (located_in c).terms) (sub_terms c.sub) (value_where_described c.sub c.val) all, each_right (λ t. IsAmong t (located_in c).terms) (sub_terms c.sub) (value_where_described c.sub c.val) all)

    limit_there : (u : PureTerm) → IsAmong u ((terms_of cs).offsets ++ (terms_of cs).described) → IsAmong u (located_in c).terms → IsNear asks c.loc → (t : PureTerm) → IsListed asked.0 t → AreOrdered asks t u × AreOrdered asks u t
    limit_there u among stands near t listed =
        let limit : IsLimit asks u = inl (among, stands_near u near stands) in
        (inl (inl listed, limit), inr (inl (limit, listed)))

    limits_by : (s : PureSub) (w : PureTerm) → Each (λ u. IsAmong u (located_in c).terms) (sub_terms s) → Each (λ u. IsAmong u (located_in c).terms) (value_where_described s w) → Each (λ u. IsAmong u (terms_of cs).offsets) (offset_of s) → Each (λ u. IsAmong u (terms_of cs).described) (value_where_described s w) → IsNear asks c.loc → Each (λ u. (t : PureTerm) → IsListed asked.0 t → AreOrdered asks t u × AreOrdered asks u t) (limits_of s w)
    limits_by (cell i) w subs vals offsets described near = (limit_there i (one_left (λ y. y ≡ i) (terms_of cs).offsets (terms_of cs).described offsets.0) subs.0 near, tt)
    limits_by bound w subs vals offsets described near = (limit_there w (one_right (λ y. y ≡ w) (terms_of cs).offsets (terms_of cs).described described.0) vals.0 near, tt)
    limits_by (named p) w subs vals offsets described near = tt
    limits_by shape w subs vals offsets described near = tt
    limits_by dom w subs vals offsets described near = tt
    limits_by proto w subs vals offsets described near = tt
    limits_by gone w subs vals offsets described near = tt

    cells_by : (s : PureSub) → Each (λ u. IsAmong u (located_in c).terms) (sub_terms s) → Each (λ u. IsAmong u (terms_of cs).offsets) (offset_of s) → IsNear asks c.loc → Each (λ i. (k : ℤ) → IsMadeOf given fresh (number k) → AreSides asks BinOp.Equal (number k) i) (offset_of s)
    cells_by (cell i) subs offsets near = ((λ k made. inr (inr (refl, (offsets.0, stands_near i near subs.0)))), tt)
    cells_by (named p) subs offsets near = tt
    cells_by bound subs offsets near = tt
    cells_by shape subs offsets near = tt
    cells_by dom subs offsets near = tt
    cells_by proto subs offsets near = tt
    cells_by gone subs offsets near = tt

    own_chunk : Each (IsListed (compared_terms asks)) (placed_in c) → Each (IsListed (compared_terms asks)) (value_where_described c.sub c.val) → Each (λ t. IsAmong t (terms_of cs).described) (value_where_described c.sub c.val) → Each (λ t. IsAmong t (terms_of cs).offsets) (offset_of c.sub) → ChunkSides own_reading c
    own_chunk places described forms offsets = record {
      loc = λ near. (sides_there (c.loc ∷ []) (places.0, tt) (listed_there.0, tt) near).0;
      near = λ l near same. is_next near (location_among cs c there) same;
      places = sides_there (sub_terms c.sub) places.1 (each_left (IsListed (c.loc ∷ (located_in c).terms)) (sub_terms c.sub) (value_where_described c.sub c.val) listed_there.1);
      described = sides_there (value_where_described c.sub c.val) described (each_right (IsListed (c.loc ∷ (located_in c).terms)) (sub_terms c.sub) (value_where_described c.sub c.val) listed_there.1);
      cells = cells_by c.sub among_subs.0 offsets;
      limits = limits_by c.sub c.val among_subs.0 among_subs.1 offsets forms;
    }

    own_form : Each (λ t. IsAmong t (terms_of cs).described) (value_where_described c.sub c.val) → ChunkForms own_reading c
    own_form forms near = both_form (value_where_described c.sub c.val) forms among_subs.1
      where
        both_form : (ts : List PureTerm) → Each (λ t. IsAmong t (terms_of cs).described) ts → Each (λ t. IsAmong t (located_in c).terms) ts → Each (λ t. is_list_term t ≡ false → is_literal t ≡ false → IsOwnCondition asks (opening t)) ts
        both_form [] first second = tt
        both_form (t ∷ ts) first second = ((λ no_list no_literal. (inr (first.0, stands_near t near second.0), no_list, no_literal)), both_form ts first.1 second.1)

  placed_each : Each (λ c. Each (IsListed (compared_terms asks)) (placed_in c)) cs
  placed_each = each_flattened (IsListed (compared_terms asks)) placed_in cs (each_left (IsListed (compared_terms asks)) (terms_of cs).placed (terms_of cs).described listed_chunks)

  described_each : Each (λ c. Each (IsListed (compared_terms asks)) (value_where_described c.sub c.val)) cs
  described_each = each_flattened (IsListed (compared_terms asks)) (λ (c : PureChunk). value_where_described c.sub c.val) cs (each_right (IsListed (compared_terms asks)) (terms_of cs).placed (terms_of cs).described listed_chunks)

  forms_each : Each (λ c. Each (λ t. IsAmong t (terms_of cs).described) (value_where_described c.sub c.val)) cs
  forms_each = each_flattened (λ t. IsAmong t (terms_of cs).described) (λ (c : PureChunk). value_where_described c.sub c.val) cs (each_is_among (terms_of cs).described)

  offsets_each : Each (λ c. Each (λ t. IsAmong t (terms_of cs).offsets) (offset_of c.sub)) cs
  offsets_each = each_flattened (λ t. IsAmong t (terms_of cs).offsets) (λ (c : PureChunk). offset_of c.sub) cs (each_is_among (terms_of cs).offsets)

  pub own_sides : Each (ChunkSides own_reading) cs
  own_sides = each_by_place (ChunkSides own_reading) cs (λ i c at.
      own_chunk c (one_at (λ d. d ≡ c) cs i c at refl)
      (each_at (λ d. Each (IsListed (compared_terms asks)) (placed_in d)) cs i c placed_each at)
      (each_at (λ d. Each (IsListed (compared_terms asks)) (value_where_described d.sub d.val)) cs i c described_each at)
      (each_at (λ d. Each (λ t. IsAmong t (terms_of cs).described) (value_where_described d.sub d.val)) cs i c forms_each at)
      (each_at (λ d. Each (λ t. IsAmong t (terms_of cs).offsets) (offset_of d.sub)) cs i c offsets_each at))

  pub own_forms : Each (ChunkForms own_reading) cs
  own_forms = each_by_place (ChunkForms own_reading) cs (λ i c at.
      own_form c (one_at (λ d. d ≡ c) cs i c at refl)
      (each_at (λ d. Each (λ t. IsAmong t (terms_of cs).described) (value_where_described d.sub d.val)) cs i c forms_each at))

-- ---- readings in which terms alone count

-- the sides of chunks whose terms are fine, where R is all that is asked
module _ (g : Reading) (side : (t : PureTerm) → g.R t → g.Side t) (near : (t : PureTerm) → g.R t → g.Near t) (may : (s t : PureTerm) → g.R s → g.R t → g.Comparable s t) (ordered : (s t : PureTerm) → g.Given s → g.R t → g.Ordered s t × g.Ordered t s) where
  limits_hold : (s : PureSub) (t : PureTerm) → Each g.R (sub_terms s) → g.R t → Each (λ u. (w : PureTerm) → g.Given w → g.Ordered w u × g.Ordered u w) (limits_of s t)
  limits_hold (cell i) t subs r = ((λ w given. ordered w i given subs.0), tt)
  limits_hold bound t subs r = ((λ w given. ordered w t given r), tt)
  limits_hold (named p) t subs r = tt
  limits_hold shape t subs r = tt
  limits_hold dom t subs r = tt
  limits_hold proto t subs r = tt
  limits_hold gone t subs r = tt

  cells_hold : (s : PureSub) → Each g.R (sub_terms s) → Each (λ i. (k : ℤ) → g.R (number k) → g.Comparable (number k) i) (offset_of s)
  cells_hold (cell i) subs = ((λ k r. may (number k) i r subs.0), tt)
  cells_hold (named p) subs = tt
  cells_hold bound subs = tt
  cells_hold shape subs = tt
  cells_hold dom subs = tt
  cells_hold proto subs = tt
  cells_hold gone subs = tt

  pub term_sides : (cs : List PureChunk) → IsFineState g cs → Each (ChunkSides g) cs
  term_sides cs state = each_to (IsFine g) (ChunkSides g) cs (λ c fine. record {
    loc = λ n. side c.loc fine.terms.places.0;
    near = λ l n same. near c.loc fine.terms.places.0;
    places = λ n. each_to g.R g.Side (sub_terms c.sub) side fine.terms.places.1;
    described = λ n. each_to g.R g.Side (value_where_described c.sub c.val) side fine.terms.described;
    cells = λ n. cells_hold c.sub fine.terms.places.1;
    limits = λ n. limits_hold c.sub c.val fine.terms.places.1 (chunk_val g.R c fine.terms);
  }) state

-- ---- variables

pub over_two : (vars : List Sort) (op : BinOp) (s t : PureTerm) → IsOver vars s × IsOver vars t → IsOver vars (binary_of op s t)
over_two vars op s t over x has = ⊎_elim (over.0 x) (over.1 x) (Contains-append_cases (variables s) (variables t) x has)

pub over_kind : (vars : List Sort) (t : PureTerm) (k : Kind) → IsOver vars t → IsOver vars (kind_is t k)
over_kind vars t k over x has = ⊎_elim (over x) (λ none. absurd (none_contained x none)) (Contains-append_cases (variables t) [] x has)

pub over_literal : (vars : List Sort) (k : Literal) → IsOver vars (literal k)
over_literal vars k x has = absurd (none_contained x has)

pub over_elements : (vars : List Sort) (ts : PureTerms) → AreVariablesOf vars (variables_of_all ts) → Each (IsOver vars) (to_list ts)
over_elements vars no_terms over = tt
over_elements vars (term_and t ts) over = (over_left vars (variables t) (variables_of_all ts) over, over_elements vars ts (over_right vars (variables t) (variables_of_all ts) over))

abbrev pub over_reading : List Sort → Reading
over_reading vars = record {
  Q = λ a. IsOver vars (term_of a);
  Comparable = λ s t. IsOver vars s × IsOver vars t;
  Ordered = λ s t. IsOver vars s × IsOver vars t;
  Side = IsOver vars;
  Given = IsOver vars;
  Near = IsOver vars;
  R = IsOver vars;
  N = λ s t. ⊤;
  Missed = λ s. ⊤;
  are_equal = λ s t over is. over_two vars BinOp.Equal s t over;
  are_other = λ s t over is. over_two vars BinOp.Equal s t over;
  are_less = λ s t over ordered is. over_two vars BinOp.Less s t over;
  are_at_most = λ s t over ordered is. over_two vars BinOp.LessOrEqual s t over;
  is_kind = λ t k over own known. over_kind vars t k over;
  isnt_kind = λ t k over own known. over_kind vars t k over;
  sides = λ s t first second. (first, second);
  side_elements = over_elements vars;
  given_elements = over_elements vars;
  given_side = λ t over. over;
  given_near = λ t over. over;
  r_text = λ k. over_literal vars (Literal.Str k);
  r_true = over_literal vars (Literal.Bool true);
}

module _ (vars : List Sort) (cs : List PureChunk) (over : Each (IsOver vars) (all_of (terms_of cs))) where
  pub over_state : IsFineState (over_reading vars) cs
  over_state = each_to (ChunkTerms (IsOver vars)) (IsFine (over_reading vars)) cs (λ c is. record { terms = is; holds = tt }) (chunk_by_chunk (IsOver vars) cs over)

  pub over_sides : Each (ChunkSides (over_reading vars)) cs
  over_sides = term_sides (over_reading vars) (λ t is. is) (λ t is. is) (λ s t first second. (first, second)) (λ s t first second. ((first, second), (second, first))) cs over_state

  pub over_forms : Each (ChunkForms (over_reading vars)) cs
  over_forms = each_to (IsFine (over_reading vars)) (ChunkForms (over_reading vars)) cs (λ c fine near. each_to (IsOver vars) _ (value_where_described c.sub c.val) (λ t is no_list no_literal. is) fine.terms.described) over_state

-- ---- plain

not_true : (b : Bool) → not b ≡ true → b ≡ false
not_true true e = absurd (true≢false (sym e))
not_true false e = refl

pub record PlainParts (low high : ℤ) (t : PureTerm) : Type 0 where
  pub simple : is_simple t ≡ true
  pub no_any : names_sort Sort.Any t ≡ false
  pub no_list : names_sort Sort.List t ≡ false
  pub literals : has_literals_between low high t ≡ true

pub plain_parts : (low high : ℤ) (t : PureTerm) → IsPlainWithin low high t → PlainParts low high t
plain_parts low high t (plain, literals) =
    let parts = and_parts (is_simple t) (not (names_sort Sort.Any t) && not (names_sort Sort.List t)) plain in
    let sorts = and_parts (not (names_sort Sort.Any t)) (not (names_sort Sort.List t)) parts.1 in
    record { simple = parts.0; no_any = not_true _ sorts.0; no_list = not_true _ sorts.1; literals = literals }

or_ends : (a b : Bool) → (a || (b || true)) ≡ true
or_ends true b = refl
or_ends false true = refl
or_ends false false = refl

fragment_of : (low high : ℤ) (s t : PureTerm) → PlainParts low high s → PlainParts low high t → (kt ff rest : Bool)
    → (((is_simple s && is_simple t) || rest) && (not (names_sort Sort.List s || names_sort Sort.List t) && (kt || (ff || (not (names_sort Sort.Any s) && not (names_sort Sort.Any t)))))) ≡ true
fragment_of low high s t p q kt ff rest =
    (λ i. ((p.simple i && q.simple i) || rest) && (not (p.no_list i || q.no_list i) && (kt || (ff || (not (p.no_any i) && not (q.no_any i))))))
    ∙ or_ends kt ff

pub decided_equality : (low high : ℤ) (s t : PureTerm) → IsPlainWithin low high s → IsPlainWithin low high t → IsTrue (has_fragment_form (positive (equal s t))) × IsTrue (has_literals_between low high (equal s t))
decided_equality low high s t first second =
    let p = plain_parts low high s first in
    let q = plain_parts low high t second in
    (fragment_of low high s t p q (is_kind_test (equal s t)) (is_flat s && is_flat t) _, and_from _ _ p.literals q.literals)

known_integer : (o : Option Kind) (k : Kind) → o ≡ Some k → allows o Kind.Int ≡ true → is_of_kind o Kind.Int ≡ true
known_integer (Some j) k is allowed = allowed
known_integer None k is allowed = absurd (true≢false (ap is_some (sym is)))

integer_side : (low high : ℤ) (t : PureTerm) → PlainParts low high t → allows (known_kind t) Kind.Int ≡ true → is_integer_side t ≡ true
integer_side low high t p allowed =
    let (k, known) = simple_terms_have_kinds t p.simple p.no_any in
    and_from (is_simple t) (is_of_kind (known_kind t) Kind.Int) p.simple (known_integer (known_kind t) k known allowed)

order_of : (low high : ℤ) (s t : PureTerm) → PlainParts low high s → PlainParts low high t → may_be_ordered s t ≡ true
    → (((is_integer_side s && is_integer_side t) || false) && (not (names_sort Sort.List s || names_sort Sort.List t) && not (names_sort Sort.Any s || names_sort Sort.Any t))) ≡ true
order_of low high s t p q may =
    let kinds = and_parts (allows (known_kind s) Kind.Int) (allows (known_kind t) Kind.Int) may in
    let first = integer_side low high s p kinds.0 in
    let second = integer_side low high t q kinds.1 in
    (λ i. ((first i && second i) || false) && (not (p.no_list i || q.no_list i) && not (p.no_any i || q.no_any i)))

pub decided_order : (low high : ℤ) (s t : PureTerm) → IsPlainWithin low high s × IsPlainWithin low high t → may_be_ordered s t ≡ true
    → (IsTrue (has_fragment_form (positive (less_than s t))) × IsTrue (has_literals_between low high (less_than s t))) × (IsTrue (has_fragment_form (positive (not_above s t))) × IsTrue (has_literals_between low high (not_above s t)))
decided_order low high s t plain may =
    let p = plain_parts low high s plain.0 in
    let q = plain_parts low high t plain.1 in
    let literals = and_from (has_literals_between low high s) (has_literals_between low high t) p.literals q.literals in
    ((order_of low high s t p q may, literals), (order_of low high s t p q may, literals))

pub never_unknown : {X : Type 0} (low high : ℤ) (t : PureTerm) → IsPlainWithin low high t → known_kind t ≡ None → X
never_unknown low high t plain unknown =
    let p = plain_parts low high t plain in
    let (k, known) = simple_terms_have_kinds t p.simple p.no_any in
    absurd (true≢false (ap is_some (sym known ∙ unknown)))

plain_elements : (low high : ℤ) (ts : PureTerms) → are_simple ts ≡ true → name_sort Sort.Any ts ≡ false → name_sort Sort.List ts ≡ false → have_literals_between low high ts ≡ true → Each (IsPlainWithin low high) (to_list ts)
plain_elements low high no_terms simple no_any no_list literals = tt
plain_elements low high (term_and t ts) simple no_any no_list literals =
    let s = and_parts (is_simple t) (are_simple ts) simple in
    let a = or_false (names_sort Sort.Any t) (name_sort Sort.Any ts) no_any in
    let l = or_false (names_sort Sort.List t) (name_sort Sort.List ts) no_list in
    let n = and_parts (has_literals_between low high t) (have_literals_between low high ts) literals in
    ((and_from (is_simple t) _ s.0 (and_from (not (names_sort Sort.Any t)) (not (names_sort Sort.List t)) (ap not a.0) (ap not l.0)), n.0), plain_elements low high ts s.1 a.1 l.1 n.1)
  where
    or_false : (b c : Bool) → (b || c) ≡ false → (b ≡ false) × (c ≡ false)
    or_false true c e = absurd (true≢false e)
    or_false false c e = (refl, e)

pub elements_plain : (low high : ℤ) (ts : PureTerms) → IsPlainWithin low high (list_of ts) → Each (IsPlainWithin low high) (to_list ts)
elements_plain low high ts plain = let p = plain_parts low high (list_of ts) plain in plain_elements low high ts p.simple p.no_any p.no_list p.literals

by_sort : (s : Sort) → same_sort s Sort.Any ≡ false → same_sort s Sort.List ≡ false → allows (kind_of_sort s) Kind.List ≡ false
by_sort Sort.Int no_any no_list = refl
by_sort Sort.Bool no_any no_list = refl
by_sort Sort.Str no_any no_list = refl
by_sort Sort.Sym no_any no_list = refl
by_sort Sort.Fresh no_any no_list = refl
by_sort Sort.List no_any no_list = absurd (true≢false no_list)
by_sort Sort.Any no_any no_list = absurd (true≢false no_any)

shift_kind : (op : BinOp) (s t : PureTerm) → is_shift op ≡ true → allows (known_kind (binary_of op s t)) Kind.List ≡ false
shift_kind BinOp.Add s t is = refl
shift_kind BinOp.Subtract s t is = refl
shift_kind op s t is = absurd (false≢true is)

-- a plain term that is no list term is surely no list
pub no_list_kind : (low high : ℤ) (d : PureTerm) → IsPlainWithin low high d → is_list_term d ≡ false → allows (known_kind d) Kind.List ≡ false
no_list_kind low high (literal (Literal.Int n)) is no_list = refl
no_list_kind low high (literal (Literal.Bool n)) is no_list = refl
no_list_kind low high (literal (Literal.Str n)) is no_list = refl
no_list_kind low high (literal (Literal.Kind n)) is no_list = refl
no_list_kind low high (literal (Literal.Proc n)) is no_list = refl
no_list_kind low high (variable x) is no_list = let p = plain_parts low high (variable x) is in by_sort x.sort p.no_any p.no_list
no_list_kind low high (list_of ts) is no_list = absurd (true≢false no_list)
no_list_kind low high (unary_of op t) is no_list = let p = plain_parts low high (unary_of op t) is in absurd (false≢true p.simple)
no_list_kind low high (binary_of op s t) is no_list = let p = plain_parts low high (binary_of op s t) is in shift_kind op s t (and_parts (is_shift op) _ p.simple).0

pub plain_fresh : (low high : ℤ) (x : Var) → x.sort ≡ Sort.Fresh → IsPlainWithin low high (variable x)
plain_fresh low high x of_sort = (ap (λ s. true && (not (same_sort s Sort.Any) && not (same_sort s Sort.List))) of_sort, refl)

abbrev pub plain_reading : MemoryName → ℤ → ℤ → Reading
plain_reading memory low high = record {
  Q = IsDecidedWithin low high;
  Comparable = λ s t. IsPlainWithin low high s × IsPlainWithin low high t;
  Ordered = λ s t. IsPlainWithin low high s × IsPlainWithin low high t;
  Side = IsPlainWithin low high;
  Given = IsPlainWithin low high;
  Near = IsPlainWithin low high;
  R = IsPlainWithin low high;
  N = λ s t. Each (λ u. IsTrue (is_plain_description memory u)) (value_where_described s t);
  Missed = λ s. ⊤;
  are_equal = λ s t plain is. decided_equality low high s t plain.0 plain.1;
  are_other = λ s t plain is. decided_equality low high s t plain.0 plain.1;
  are_less = λ s t plain ordered is. (decided_order low high s t plain ordered).0;
  are_at_most = λ s t plain ordered is. (decided_order low high s t plain ordered).1;
  is_kind = λ t k plain own known. never_unknown low high t plain known;
  isnt_kind = λ t k plain own known. never_unknown low high t plain known;
  sides = λ s t first second. (first, second);
  side_elements = elements_plain low high;
  given_elements = elements_plain low high;
  given_side = λ t plain. plain;
  given_near = λ t plain. plain;
  r_text = λ k. (refl, refl);
  r_true = (refl, refl);
}

no_form : (memory : MemoryName) (t : PureTerm) → IsTrue (is_plain_description memory t) → is_list_term t ≡ false → is_literal t ≡ false → ⊥
no_form Record t is no_list no_literal = true≢false (sym is ∙ no_list)
no_form Block t is no_list no_literal = true≢false (sym is ∙ no_literal)
no_form Object t is no_list no_literal = true≢false (sym is ∙ no_list)

module _ (memory : MemoryName) (low high : ℤ) (cs : List PureChunk) (plain : IsPlainState memory (terms_of cs) low high) where
  plain_zipped : (ds : List PureChunk) → Each (ChunkTerms (IsPlainWithin low high)) ds → Each (λ c. Each (λ u. IsTrue (is_plain_description memory u)) (value_where_described c.sub c.val)) ds → IsFineState (plain_reading memory low high) ds
  plain_zipped [] terms lists = tt
  plain_zipped (c ∷ ds) terms lists = (record { terms = terms.0; holds = lists.0 }, plain_zipped ds terms.1 lists.1)

  pub plain_state : IsFineState (plain_reading memory low high) cs
  plain_state = plain_zipped cs (chunk_by_chunk (IsPlainWithin low high) cs plain.plain) (each_flattened (λ u. IsTrue (is_plain_description memory u)) (λ (c : PureChunk). value_where_described c.sub c.val) cs plain.described)

  pub plain_sides : Each (ChunkSides (plain_reading memory low high)) cs
  plain_sides = term_sides (plain_reading memory low high) (λ t is. is) (λ t is. is) (λ s t first second. (first, second)) (λ s t first second. ((first, second), (second, first))) cs plain_state

  pub plain_forms : Each (ChunkForms (plain_reading memory low high)) cs
  plain_forms = each_to (IsFine (plain_reading memory low high)) (ChunkForms (plain_reading memory low high)) cs (λ c fine near. each_to (λ u. IsTrue (is_plain_description memory u)) _ (value_where_described c.sub c.val) (λ t is no_list no_literal. absurd (no_form memory t is no_list no_literal)) fine.holds) plain_state

-- a fine state is plain
pub state_plain : (memory : MemoryName) (low high : ℤ) (cs : List PureChunk) → IsFineState (plain_reading memory low high) cs → IsPlainState memory (terms_of cs) low high
state_plain memory low high cs state = record {
  plain = from_chunks (IsPlainWithin low high) cs (each_to (IsFine (plain_reading memory low high)) (ChunkTerms (IsPlainWithin low high)) cs (λ c fine. fine.terms) state);
  described = each_flat (λ u. IsTrue (is_plain_description memory u)) (λ (c : PureChunk). value_where_described c.sub c.val) cs (each_to (IsFine (plain_reading memory low high)) (λ c. Each (λ u. IsTrue (is_plain_description memory u)) (value_where_described c.sub c.val)) cs (λ c fine. fine.holds) state);
}

-- ---- what is kept, and what is missed

pub any_term : (ts : List PureTerm) → Each (λ t. ⊤) ts
any_term ts = each_every (λ t. ⊤) (λ t. tt) ts

-- N of what chunks hold, Missed of what is missed, and Q of conditions, where nothing is asked of terms
abbrev pub loose_reading : (Q : PureAtom → Type 0) → ((t : PureTerm) → Q (positive t)) → ((t : PureTerm) → Q (negative t)) → (PureSub → PureTerm → Type 0) → (PureSub → Type 0) → Reading
loose_reading Q holds denies N Missed = record {
  Q = Q;
  Comparable = λ s t. ⊤;
  Ordered = λ s t. ⊤;
  Side = λ t. ⊤;
  Given = λ t. ⊤;
  Near = λ t. ⊤;
  R = λ t. ⊤;
  N = N;
  Missed = Missed;
  are_equal = λ s t may is. holds (equal s t);
  are_other = λ s t may is. denies (equal s t);
  are_less = λ s t may ordered is. holds (less_than s t);
  are_at_most = λ s t may ordered is. holds (not_above s t);
  is_kind = λ t k asked own known. holds (kind_is t k);
  isnt_kind = λ t k asked own known. denies (kind_is t k);
  sides = λ s t first second. tt;
  side_elements = λ ts side. any_term (to_list ts);
  given_elements = λ ts given. any_term (to_list ts);
  given_side = λ t given. tt;
  given_near = λ t given. tt;
  r_text = λ k. tt;
  r_true = tt;
}

module _ (Q : PureAtom → Type 0) (holds : (t : PureTerm) → Q (positive t)) (denies : (t : PureTerm) → Q (negative t)) (N : PureSub → PureTerm → Type 0) (Missed : PureSub → Type 0) where
  any_terms : (c : PureChunk) → ChunkTerms (λ t. ⊤) c
  any_terms c = record { places = any_term (placed_in c); described = any_term (value_where_described c.sub c.val); held = any_term (value_where_held c.sub c.val) }

  pub loose_state : (cs : List PureChunk) → Each (λ c. N c.sub c.val) cs → IsFineState (loose_reading Q holds denies N Missed) cs
  loose_state cs all = each_to (λ c. N c.sub c.val) (IsFine (loose_reading Q holds denies N Missed)) cs (λ c n. record { terms = any_terms c; holds = n }) all

  pub loose_sides : (cs : List PureChunk) → Each (ChunkSides (loose_reading Q holds denies N Missed)) cs
  loose_sides cs = each_every (ChunkSides (loose_reading Q holds denies N Missed)) (λ c. record {
    loc = λ n. tt;
    near = λ l n same. tt;
    places = λ n. any_term (sub_terms c.sub);
    described = λ n. any_term (value_where_described c.sub c.val);
    cells = λ n. each_every _ (λ i k r. tt) (offset_of c.sub);
    limits = λ n. each_every _ (λ u t given. (tt, tt)) (limits_of c.sub c.val);
  }) cs

  pub loose_forms : ((t : PureTerm) → Q (opening t)) → (cs : List PureChunk) → Each (ChunkForms (loose_reading Q holds denies N Missed)) cs
  loose_forms opens cs = each_every (ChunkForms (loose_reading Q holds denies N Missed)) (λ c near. each_every _ (λ t no_list no_literal. opens t) (value_where_described c.sub c.val)) cs

abbrev pub AnyAtom : PureAtom → Type 0
AnyAtom a = ⊤

abbrev pub KeptAt : MemoryName → PureSub → PureTerm → Type 0
KeptAt memory s t = IsSubOf memory s × (s ≡ gone → t ≡ true_term)

-- what lists of chunks keep
abbrev pub kept_reading : MemoryName → Reading
kept_reading memory = loose_reading AnyAtom (λ t. tt) (λ t. tt) (KeptAt memory) (IsSubOf memory)

-- what is missed, whatever the chunks hold
abbrev pub missed_reading : MemoryName → Reading
missed_reading memory = loose_reading AnyAtom (λ t. tt) (λ t. tt) (λ s t. ⊤) (IsSubOf memory)

pub missed_own : (memory : MemoryName) (r : PureResult) → IsFineResult (missed_reading memory) r → MissesItsOwn memory r
missed_own memory (done t) fine = tt
missed_own memory (failed t) fine = tt
missed_own memory (missed k) fine = fine.1.1

-- no literal form is needed
abbrev pub NoOpen : PureAtom → Type 0
NoOpen a = (t : PureTerm) → ¬ (a ≡ opening t)

pub positive_closed : (s : PureTerm) → NoOpen (positive s)
positive_closed s t e = cc

pub negative_closed : (s : PureTerm) → NoOpen (negative s)
negative_closed s t e = cc

abbrev pub closed_reading : Reading
closed_reading = loose_reading NoOpen positive_closed negative_closed (λ s t. ⊤) (λ s. ⊤)

pub closed_sides : (cs : List PureChunk) → Each (ChunkSides closed_reading) cs
closed_sides cs = loose_sides NoOpen positive_closed negative_closed (λ s t. ⊤) (λ s. ⊤) cs

-- ---- from shapes to the laws

module _ (bs : ChunkBranches) where
  each_term : (g : Reading) → Each (Shaped g) bs → Each (EachTerm terms_of g.R) bs
  each_term g shaped = each_to (Shaped g) (EachTerm terms_of g.R) bs (λ b is. (from_chunks g.R b.state (each_to (IsFine g) (ChunkTerms g.R) b.state (λ c fine. fine.terms) is.state), fine_terms g b.result is.result)) shaped

  pub shaped_terms : (g : Reading) → Each (Shaped g) bs → Each (EachTerm terms_of g.R) bs
  shaped_terms g shaped = each_term g shaped

  pub shaped_conds : (g : Reading) → Each (Shaped g) bs → Each (λ b. Each g.Q b.conds) bs
  shaped_conds g shaped = each_to (Shaped g) (λ b. Each g.Q b.conds) bs (λ b is. is.conds) shaped

  pub shaped_named : (vars : List Sort) → Each (Shaped (over_reading vars)) bs → Each (λ b. Each (λ a. IsOver vars (term_of a)) b.conds × EachTerm terms_of (IsOver vars) b) bs
  shaped_named vars shaped = each_to (Shaped (over_reading vars)) _ bs (λ b is. (is.conds, (from_chunks (IsOver vars) b.state (each_to (IsFine (over_reading vars)) (ChunkTerms (IsOver vars)) b.state (λ c fine. fine.terms) is.state), fine_terms (over_reading vars) b.result is.result))) shaped
