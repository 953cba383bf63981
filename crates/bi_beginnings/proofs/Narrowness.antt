-- What comes of narrow beginnings: states with narrow memories, of which a decider leaves nothing undecided.
use Rattle.std.proofs.Common.{◌≡◌, ◌⊎◌, ⊎_elim, ℕ, ◌+◌, ◌*◌, ◌^◌, ◌≤◌, pos, neg_ℤ, List, [], ◌∷◌, ◌++◌, map, length, slice_get, Bool, true, false, not, if◌then◌else◌, Option, Some, None, IsSome, refl, sym, ap, subst, ◌∙◌, true≢false, append-nil, arith}
use Rattle.std.specs.Option.{option_map, option_and_then, option_or}
use Rattle.std.proofs.lemmas.List.{length-map}
use Rattle.gil_values.specs.Pure.{PureValue}
use Rattle.gil_syntax.specs.Pure.{PureExpr, uses, from_list as exprs_from}
use Rattle.gil_syntax.specs.Pure as expr
use Rattle.gil_syntax.specs.WellMade.{has_hash}
use Rattle.mem_model.specs.declared.keys.MemoryName.TheVariants.{Record}
use Rattle.mem_model.specs.Heaps.{Heap}
use Rattle.assertion_terms.specs.Named.{expr_of, named, name_or_none, use_item, assertion_of}
use Rattle.pure_terms.specs.declared.literals.Literal.{Literal}
use Rattle.pure_terms.specs.declared.variables.Sort.{Sort}
use Rattle.pure_terms.specs.declared.variables.Var.{Var}
use Rattle.pure_terms.specs.Fragment.{InFragment}
use Rattle.pure_terms.specs.Kinds.{same_sort}
use Rattle.pure_terms.specs.Meaning.{literal_value}
use Rattle.pure_terms.specs.Pure.{PureTerm, literal, variable, list_of, unary_of, binary_of, PureAtom}
use Rattle.sym_model.proofs.Fragments.{decided_in_fragment}
use Rattle.sym_evaluation.specs.Pure.{PureStore}
use Rattle.sym_evaluation.specs.Questions.{IsAsked, substituted, all_substituted, IsTermOf, AreTermsOf}
use Rattle.sym_model.specs.Laws.{IsDecidedWithin}
use Rattle.sym_model.specs.Lists.{Each, OneOf}
use Rattle.sym_model.specs.Plain.{IsNarrowWithin, IsNarrowState}
use Rattle.sym_model.specs.Pure.{PureUse}
use Rattle.sym_model.specs.Terms.{StateTerms}
use Rattle.sym_model.proofs.ListLaws.{same_some, not_none, each_append, each_to, each_at, each_left, each_right}
use Rattle.sym_paths.specs.Beginning.{Begins}
use Rattle.sym_paths.specs.Pure.{PurePath}
use Rattle.sym_paths.specs.Steps.{narrow_bound}
use Rattle.sym_states.specs.Meaning.{IsOverTable}
use Rattle.sym_states.specs.Narrowly.{IsNarrowWith, IsNarrowItem, StayNarrow}
use Rattle.sym_states.specs.Plainly.{item_growth}
use Rattle.sym_states.specs.Pure.{PureState}
use Rattle.sym_states.proofs.Plainness.{decided_up}
use Rattle.sym_engine.proofs.Fragments.{each_over_all}
use Rattle.bi_beginnings.specs.Beginnings.{PureBeginning}
use Rattle.bi_beginnings.specs.Narrowly.{IsAny, IsNarrowCoreUse, IsNarrowBeginning, begun_bound, IsNarrowStart, StartNarrow, BeginsNarrow, OpensNarrow}
use Rattle.bi_beginnings.specs.Opening.{IsVariableOf, HasVariables, IsFirstState, carrying}
use Rattle.bi_beginnings.proofs.Entering.{of_carrying}
use Rattle.bi_beginnings.proofs.Openings.{each_further, of_either}

-- narrow, with numbers from -n to n
abbrev IsNarrow : ℕ → PureTerm → Type 0
IsNarrow n t = IsNarrowWithin (neg_ℤ (pos n)) (pos n) t

-- ---- variables of sort any

any_is_narrow : (n : ℕ) (x : Var) → IsAny x.sort → IsNarrow n (variable x)
any_is_narrow n x any = (ap (λ s. not (same_sort s Sort.List)) any, refl)

-- each variable of the table is narrow
of_table : (n : ℕ) (vars : List Sort) → Each IsAny vars → (t : PureTerm) → IsVariableOf vars t → IsNarrow n t
of_table n vars any t (x, (is, in_table)) = subst (IsNarrow n) (sym is) (any_is_narrow n x (each_at IsAny vars x.number x.sort any in_table))

-- ---- uses

module _ (n : ℕ) (vars : List Sort) (any : Each IsAny vars) (bs : PureStore) (has : HasVariables vars bs) (names : List (List ℕ)) where
  abbrev asks_nothing : PureExpr → Type 0
  asks_nothing e = (a : PureAtom) → ¬ IsAsked bs e a

  abbrev is_narrow_term : PureExpr → Type 0
  is_narrow_term e = (u : PureTerm) → IsTermOf bs e u → IsNarrow n u

  name_narrow : (x : List ℕ) → is_narrow_term (named x)
  name_narrow x = by (has_hash x)
    where
      by : (b : Bool) → is_narrow_term (if b then expr.logical x else expr.name x)
      by true u is = of_table n vars any u (has x u is)
      by false u is = of_table n vars any u (has x u is)

  name_asks : (x : List ℕ) → asks_nothing (named x)
  name_asks x = by (has_hash x)
    where
      by : (b : Bool) → asks_nothing (if b then expr.logical x else expr.name x)
      by true a one = ⊎_elim (λ here. here) (λ later. later) one
      by false a one = ⊎_elim (λ here. here) (λ later. later) one

  -- a literal is its own term
  literal_narrow : (l : Literal) → IsNarrow n (literal l) → is_narrow_term (expr.literal (literal_value l))
  literal_narrow (Literal.Int i) narrow u is = subst (IsNarrow n) (same_some is) narrow
  literal_narrow (Literal.Bool b) narrow u is = subst (IsNarrow n) (same_some is) narrow
  literal_narrow (Literal.Str cs) narrow u is = subst (IsNarrow n) (same_some is) narrow
  literal_narrow (Literal.Kind k) narrow u is = subst (IsNarrow n) (same_some is) narrow
  literal_narrow (Literal.Proc p) narrow u is = subst (IsNarrow n) (same_some is) narrow

  term_narrow : (t : PureTerm) → IsNarrow n t → is_narrow_term (expr_of names t)
  term_narrow (literal l) narrow = literal_narrow l narrow
  term_narrow (variable x) narrow = name_narrow (name_or_none (slice_get names x.number))
  term_narrow (list_of ts) narrow = absurd (true≢false (sym narrow.0))
  term_narrow (unary_of op t) narrow = absurd (true≢false (sym narrow.0))
  term_narrow (binary_of op s t) narrow = absurd (true≢false (sym narrow.0))

  term_asks : (t : PureTerm) → IsNarrow n t → asks_nothing (expr_of names t)
  term_asks (literal l) narrow a one = ⊎_elim (λ here. here) (λ later. later) one
  term_asks (variable x) narrow a one = name_asks (name_or_none (slice_get names x.number)) a one
  term_asks (list_of ts) narrow a one = absurd (true≢false (sym narrow.0))
  term_asks (unary_of op t) narrow a one = absurd (true≢false (sym narrow.0))
  term_asks (binary_of op s t) narrow a one = absurd (true≢false (sym narrow.0))

  all_ask : (ts : List PureTerm) → Each (IsNarrow n) ts → (a : PureAtom) → ¬ OneOf (λ e. IsAsked bs e a) (map (expr_of names) ts)
  all_ask [] narrow a one = one
  all_ask (t ∷ ts) narrow a one = ⊎_elim (λ here. term_asks t narrow.0 a here) (λ later. all_ask ts narrow.1 a later) one

  both_ask : (ts us : List PureTerm) → Each (IsNarrow n) (ts ++ us) → (a : PureAtom) → ¬ OneOf (λ e. IsAsked bs e a) (map (expr_of names) ts ++ map (expr_of names) us)
  both_ask [] us narrow a one = all_ask us narrow a one
  both_ask (t ∷ ts) us narrow a one = ⊎_elim (λ here. term_asks t narrow.0 a here) (λ later. both_ask ts us narrow.1 a later) one

  -- the terms of several, one after another
  more_narrow : (o : Option PureTerm) (p : Option (List PureTerm)) (us : List PureTerm) → option_and_then (λ t. option_map (λ ts. t ∷ ts) p) o ≡ Some us
      → ((u : PureTerm) → o ≡ Some u → IsNarrow n u) → ((later : List PureTerm) → p ≡ Some later → Each (IsNarrow n) later) → Each (IsNarrow n) us
  more_narrow (Some u) (Some later) us is first rest = subst (Each (IsNarrow n)) (same_some is) (first u refl, rest later refl)
  more_narrow (Some u) None us is first rest = not_none is
  more_narrow None p us is first rest = not_none is

  all_terms_narrow : (ts : List PureTerm) → Each (IsNarrow n) ts → (us : List PureTerm) → AreTermsOf bs (map (expr_of names) ts) us → Each (IsNarrow n) us
  all_terms_narrow [] narrow us is = subst (Each (IsNarrow n)) (same_some is) tt
  all_terms_narrow (t ∷ ts) narrow us is =
      more_narrow (substituted bs (expr_of names t)) (all_substituted bs (exprs_from (map (expr_of names) ts))) us is (term_narrow t narrow.0) (all_terms_narrow ts narrow.1)

  use_narrow : (u : PureUse) → IsNarrowCoreUse n u → IsNarrowItem bs n (use_item names u)
  use_narrow u is = record {
    of_name = is.of_name;
    nothing_asked = both_ask u.ins u.outs is.terms;
    narrow_ins = all_terms_narrow u.ins (each_left (IsNarrow n) u.ins u.outs is.terms);
    narrow_outs = all_terms_narrow u.outs (each_right (IsNarrow n) u.ins u.outs is.terms);
  }

  pub uses_narrow : (us : List PureUse) → Each (IsNarrowCoreUse n) us → Each (IsNarrowItem bs n) (assertion_of names us [])
  uses_narrow [] all = tt
  uses_narrow (u ∷ us) all = (use_narrow u all.0, uses_narrow us all.1)

-- ---- states

as_many_items : (names : List (List ℕ)) (us : List PureUse) → length (assertion_of names us []) ≡ length us
as_many_items names us = ap length (append-nil (map (use_item names) us)) ∙ length-map us (use_item names)

module _ {S : Type 0} (stands : S → List PureValue → Heap → Type 0) (terms : S → StateTerms) (kept : S → Type 0) where
  first_narrow : (n : ℕ) (vars : List Sort) (s : PureState S) → IsFirstState stands terms kept vars s → IsNarrowWith terms n s
  first_narrow n vars s first = record {
    decided = subst (λ (cs : List PureAtom). Each (IsDecidedWithin (neg_ℤ (pos n)) (pos n)) cs) (sym first.conds) tt;
    narrow_memory = subst (λ (ts : StateTerms). IsNarrowState ts (neg_ℤ (pos n)) (pos n)) (sym first.no_terms) (record { placed = tt; described = tt; held = tt });
  }

  each_start : (n : ℕ) (vars : List Sort) → Each IsAny vars → length vars ≤ 2 ^ 39 → (rs : List (PureState S)) → Each (λ r. r.vars ≡ vars) rs → Each (IsNarrowWith terms n) rs → Each (IsNarrowStart terms n) rs
  each_start n vars any few [] same all = tt
  each_start n vars any few (r ∷ rs) same all = (
    record { sorts = subst (Each IsAny) (sym same.0) any; few = subst (λ (xs : List Sort). length xs ≤ 2 ^ 39) (sym same.0) few; narrow = all.0 },
    each_start n vars any few rs same.1 all.1,
  )

  -- the states that producing the uses gives
  pub starts_narrow : (b : PureBeginning) (names : List (List ℕ)) (bs : PureStore) → HasVariables b.vars bs → (s : PureState S) → IsFirstState stands terms kept b.vars s
      → (rs : List (PureState S)) → Each (λ r. r.vars ≡ b.vars) rs → StayNarrow terms bs (assertion_of names b.uses []) s rs → StartNarrow terms b rs
  starts_narrow b names bs has s first rs same stay n is =
      each_start (begun_bound n b) b.vars is.sorts is.few rs same
      (subst (λ (k : ℕ). Each (IsNarrowWith terms (n + k * item_growth)) rs) (as_many_items names b.uses)
      (stay n (uses_narrow n b.vars is.sorts bs has names b.uses is.uses) (first_narrow n b.vars s first)))

  within : (n : ℕ) (b : PureBeginning) → n ≤ begun_bound n b
  within n b = omega arith

  -- with the conditions that are carried
  carried_narrow : (b : PureBeginning) (n : ℕ) → IsNarrowBeginning n b → (s : PureState S) → IsNarrowStart terms (begun_bound n b) s → IsNarrowStart terms (begun_bound n b) (carrying b.conds s)
  carried_narrow b n is s start = of_carrying Record stands terms kept [] b.conds (IsNarrowStart terms (begun_bound n b)) s start (record {
    sorts = start.sorts;
    few = start.few;
    narrow = record {
      decided = each_append (IsDecidedWithin (neg_ℤ (pos (begun_bound n b))) (pos (begun_bound n b))) s.conds b.conds start.narrow.decided
          (each_to (IsDecidedWithin (neg_ℤ (pos n)) (pos n)) (IsDecidedWithin (neg_ℤ (pos (begun_bound n b))) (pos (begun_bound n b))) b.conds (decided_up n (begun_bound n b) (within n b)) is.decided);
      narrow_memory = start.narrow.narrow_memory;
    };
  })

  pub all_carried_narrow : (b : PureBeginning) (ss : List (PureState S)) → StartNarrow terms b ss → StartNarrow terms b (map (carrying b.conds) ss)
  all_carried_narrow b [] all n is = tt
  all_carried_narrow b (s ∷ ss) all n is = (carried_narrow b n is s (all n is).0, all_carried_narrow b ss (λ k narrow. (all k narrow).1) n is)

-- ---- what comes of them

-- the conditions of such a state are in the fragment
pub start_inside : {S : Type 0} (terms : S → StateTerms) (n : ℕ) → n ≤ narrow_bound → (s : PureState S) → IsOverTable terms s → IsNarrowStart terms n s → InFragment s.conds
start_inside terms n narrow s over start =
    let few : length s.vars ≤ 2 ^ 39 = start.few in
    decided_in_fragment n narrow s.vars s.conds (omega (arith, few)) (each_over_all s.vars s.conds over.conds) start.narrow.decided

pub begins_narrow : {S : Type 0} (terms : S → StateTerms) (n : ℕ) (q : _) (args : List PureTerm) (s : PureState S) (path : PurePath S) → IsNarrowStart terms n s → Begins q args s.vars s.conds s.memory path → BeginsNarrow terms n path
begins_narrow {S} terms n q args s path start begins =
    let vars : path.vars ≡ s.vars = ap (λ (x : PurePath S). x.vars) begins.is in
    record {
      sorts = subst (Each IsAny) (sym vars) start.sorts;
      few = subst (λ (xs : List Sort). length xs ≤ 2 ^ 39) (sym vars) start.few;
      decided = subst (λ (cs : List PureAtom). Each (IsDecidedWithin (neg_ℤ (pos n)) (pos n)) cs) (sym (ap (λ (x : PurePath S). x.conds) begins.is)) start.narrow.decided;
      narrow_memory = subst (λ m. IsNarrowState (terms m) (neg_ℤ (pos n)) (pos n)) (sym (ap (λ (x : PurePath S). x.memory) begins.is)) start.narrow.narrow_memory;
    }

pub narrow_further : {S A : Type 0} (terms : S → StateTerms) (n : ℕ) (o p after : Option A) (before more all : List (PurePath S)) → after ≡ option_or o p → all ≡ before ++ more
    → OpensNarrow terms n (IsSome o) before → OpensNarrow terms n (IsSome p) more → OpensNarrow terms n (IsSome after) all
narrow_further terms n o p after before more all is are first second = record {
  decided = λ there. ⊎_elim first.decided second.decided (of_either o p (subst IsSome is there));
  each_start = each_further (BeginsNarrow terms n) before more all are first.each_start second.each_start;
}
