-- Records keep the law of narrow memories: from narrow states and arguments the actions other than `dispose` ask conditions that have
-- forms of the fragment, and come to what is narrow.
use Rattle.std.proofs.Common.{◌≡◌, ◌⊎◌, ⊎_elim, inl, inr, ℕ, ℤ, ◌-ℤ◌, ◌+ℤ◌, List, [], ◌∷◌, ◌++◌, map, Bool, true, false, not, if◌then◌else◌, Option, Some, None, IsTrue, codes, refl, sym, ap, subst, ◌∙◌}
use Rattle.std.specs.Str.{bytes_eq}
use Rattle.std.proofs.lemmas.Bool.{and_parts, and_from, false≢true}
use Rattle.gil_values.specs.declared.kinds.Kind.{Kind}
use Rattle.mem_model.specs.declared.failures.Failure.{Failure}
use Rattle.pure_terms.specs.declared.literals.Literal.{Literal}
use Rattle.pure_terms.specs.declared.variables.Sort.{Sort}
use Rattle.pure_terms.specs.declared.variables.Var.{Var}
use Rattle.pure_terms.specs.Fragment.{has_literals_between, have_literals_between}
use Rattle.pure_terms.specs.Kinds.{same_sort}
use Rattle.pure_terms.specs.Pure.{PureTerm, literal, variable, list_of, unary_of, binary_of, PureTerms, no_terms, term_and, to_list}
use Rattle.record_heap.specs.declared.actions.RecordAction.{RecordAction}
use Rattle.record_heap.specs.Names.{action_of}
use Rattle.record_heap.specs.Table.{record_actions}
use Rattle.record_sym.specs.Places.{unlisted_there, lists_not, opened_there, opened_at, opened, tells_not, lacks}
use Rattle.record_sym.specs.Table.{without_name, name_cases, faulty, name_chunk, created, make, act_new, act_lookup, act_mutate, table}
use Rattle.sym_chunks.specs.ByPlace.{all_by_place, any_at}
use Rattle.sym_chunks.specs.Cases.{ChunkBranches, PureCase, reads, writes, case_of, branches_of, found, gone_case, failure, missed_name}
use Rattle.sym_chunks.specs.Keys.{other_sub}
use Rattle.sym_chunks.specs.NameTerms.{distinct_from}
use Rattle.sym_chunks.proofs.Loops.{nothing_left}
use Rattle.sym_chunks.proofs.Narrow.{reading, IsNarrow, AreDecided, IsNarrowChunk, IsNarrowCase, IsNarrowBranch, narrow_wider, state_wider, narrow_chunks, held_at_name, name_at, texts_at_shape, narrow_held, other_decided, unlisted_decided, unheld_decided, form_decided, other_sub_decided, by_place_decided, any_at_decided, narrow_case, narrow_branches, found_narrow, narrow_failure_case, narrow_failure, narrow_number, narrow_unknown, narrow_gone, narrow_property}
use Rattle.sym_chunks.proofs.Shapes.{both_shaped, or_shaped, any_shaped, not_kind_shaped, same_each, distinct_shaped}
use Rattle.sym_model.specs.Alternatives.{Alternatives, never, always, both, any, all_from, same, other, of_kind, not_of_kind}
use Rattle.sym_model.specs.Chunks.{terms_of}
use Rattle.sym_model.specs.Laws.{MayBeAsked, growth}
use Rattle.sym_model.specs.Lists.{Each}
use Rattle.sym_model.specs.Plain.{are_literals, is_text_literal, are_text_literals, is_list_of_literals, IsNarrowWithin, IsNarrowResult, ActsNarrowly}
use Rattle.sym_model.specs.Pure.{PureSub, named, cell, shape, bound, dom, proto, gone, PureChunk, PureResult, done}
use Rattle.sym_model.specs.Terms.{is_literal}
use Rattle.sym_model.proofs.ListLaws.{each_append, each_to}

-- the action of the name, where it isn't `new`
abbrev other_action : List ℕ → Option RecordAction
other_action name =
    if bytes_eq name (codes "lookup") then Some RecordAction.Lookup
    else if bytes_eq name (codes "mutate") then Some RecordAction.Mutate
    else if bytes_eq name (codes "dispose") then Some RecordAction.Dispose
    else None

-- ---- lists of literals

literal_narrow : (low high : ℤ) (t : PureTerm) → is_literal t ≡ true → has_literals_between low high t ≡ true → IsNarrowWithin low high t
literal_narrow low high (literal k) is between = (refl, between)
literal_narrow low high (variable x) is between = absurd (false≢true is)
literal_narrow low high (list_of ts) is between = absurd (false≢true is)
literal_narrow low high (unary_of op t) is between = absurd (false≢true is)
literal_narrow low high (binary_of op s t) is between = absurd (false≢true is)

literals_narrow : (low high : ℤ) (ts : PureTerms) → are_literals ts ≡ true → have_literals_between low high ts ≡ true → Each (IsNarrowWithin low high) (to_list ts)
literals_narrow low high no_terms are between = tt
literals_narrow low high (term_and t ts) are between =
    let literal_parts = and_parts (is_literal t) (are_literals ts) are in
    let between_parts = and_parts (has_literals_between low high t) (have_literals_between low high ts) between in
    (literal_narrow low high t literal_parts.0 between_parts.0, literals_narrow low high ts literal_parts.1 between_parts.1)

-- the term is a list term of literals, which are narrow
record IsGivenList (low high : ℤ) (t : PureTerm) : Type 0 where
  names : PureTerms
  is : t ≡ list_of names
  are : are_literals names ≡ true
  narrow : Each (IsNarrowWithin low high) (to_list names)

given_list : (low high : ℤ) (t : PureTerm) → IsTrue (is_list_of_literals t) → IsTrue (has_literals_between low high t) → IsGivenList (low -ℤ growth) (high +ℤ growth) t
given_list low high (list_of ts) are between = record {
  names = ts;
  is = refl;
  are = are;
  narrow = each_to (IsNarrowWithin low high) (IsNarrowWithin (low -ℤ growth) (high +ℤ growth)) (to_list ts) (narrow_wider low high) (literals_narrow low high ts are between);
}
given_list low high (literal k) are between = absurd (false≢true are)
given_list low high (variable x) are between = absurd (false≢true are)
given_list low high (unary_of op t) are between = absurd (false≢true are)
given_list low high (binary_of op s t) are between = absurd (false≢true are)

-- a literal is a text, or surely none
text_or_not : (t : PureTerm) → is_literal t ≡ true → (is_text_literal t ≡ true) ⊎ (of_kind t Kind.Str ≡ never)
text_or_not (literal (Literal.Str p)) is = inl refl
text_or_not (literal (Literal.Int n)) is = inr refl
text_or_not (literal (Literal.Bool b)) is = inr refl
text_or_not (literal (Literal.Kind k)) is = inr refl
text_or_not (literal (Literal.Proc f)) is = inr refl
text_or_not (variable x) is = absurd (false≢true is)
text_or_not (list_of ts) is = absurd (false≢true is)
text_or_not (unary_of op t) is = absurd (false≢true is)
text_or_not (binary_of op s t) is = absurd (false≢true is)

never_all : (f : PureTerm → Alternatives) (ds : List PureTerm) → all_from never f ds ≡ never
never_all f [] = refl
never_all f (d ∷ ds) = never_all f ds

never_distinct : (ds : List PureTerm) → distinct_from never ds ≡ never
never_distinct [] = refl
never_distinct (d ∷ ds) = ap (λ x. distinct_from x ds) (never_all (other d) ds) ∙ never_distinct ds

-- literals are texts, or surely no distinct texts
texts_or_never : (x : Alternatives) (ts : PureTerms) → are_literals ts ≡ true → (are_text_literals ts ≡ true) ⊎ (distinct_from x (to_list ts) ≡ never)
texts_or_never x no_terms are = inl refl
texts_or_never x (term_and t ts) are =
    let parts = and_parts (is_literal t) (are_literals ts) are in
    ⊎_elim
    (λ text. ⊎_elim (λ texts. inl (and_from (is_text_literal t) (are_text_literals ts) text texts)) inr (texts_or_never (all_from (both x (of_kind t Kind.Str)) (other t) (to_list ts)) ts parts.1))
    (λ none. inr
    (ap (λ y. distinct_from (all_from y (other t) (to_list ts)) (to_list ts)) (ap (both x) none ∙ nothing_left x)
    ∙ ap (λ y. distinct_from y (to_list ts)) (never_all (other t) (to_list ts))
    ∙ never_distinct (to_list ts)))
    (text_or_not t parts.0)

-- ---- the branches

module _ (low high : ℤ) (cs : List PureChunk) (all : Each (IsNarrowChunk low high) cs) where
  abbrev Narrow : PureTerm → Type 0
  Narrow t = IsNarrow low high t

  abbrev Decided : Alternatives → Type 0
  Decided x = AreDecided low high x

  abbrev NarrowCase : PureCase → Type 0
  NarrowCase c = IsNarrowCase low high (IsNarrowResult low high) c

  abbrev NarrowBranches : ChunkBranches → Type 0
  NarrowBranches bs = Each (IsNarrowBranch low high (IsNarrowResult low high)) bs

  -- ---- `lookup` and `mutate`

  module _ (l p : PureTerm) (narrow_l : Narrow l) (narrow_p : Narrow p) where
    lists_not_by : (c : PureChunk) → IsNarrowChunk low high c → (s : PureSub) → c.sub ≡ s → Decided (unlisted_there p s c.val)
    lists_not_by c is shape e = unlisted_decided low high p c.val narrow_p (texts_at_shape low high c e is)
    lists_not_by c is s e = tt

    lacks_by : (c : PureChunk) → IsNarrowChunk low high c → (s : PureSub) → c.sub ≡ s → Decided (tells_not p cs c.loc s c.val)
    lacks_by c is (named q) e = other_decided low high p q narrow_p (name_at low high c q e is)
    lacks_by c is gone e = tt
    lacks_by c is shape e = unheld_decided low high p c.loc cs c.val narrow_p (texts_at_shape low high c e is)
    lacks_by c is (cell q) e = (tt, tt)
    lacks_by c is bound e = (tt, tt)
    lacks_by c is dom e = (tt, tt)
    lacks_by c is proto e = (tt, tt)

    opened_by : (c : PureChunk) → IsNarrowChunk low high c → (s : PureSub) → c.sub ≡ s → Decided (opened_there l c.loc s c.val)
    opened_by c is shape e = form_decided low high c.val (same l c.loc) (texts_at_shape low high c e is)
    opened_by c is s e = tt

    opened_decided : Decided (opened l p cs)
    opened_decided =
        both_shaped (reading low high) (any (opened_at l) cs) (all_by_place l (λ c. other_sub (named p) c.sub) cs)
        (any_shaped (reading low high) (opened_at l) cs (each_to (IsNarrowChunk low high) (λ c. Decided (opened_at l c)) cs (λ c is. opened_by c is c.sub refl) all))
        (by_place_decided low high l narrow_l (λ c. other_sub (named p) c.sub) (other_sub_decided low high (named p) (narrow_p, tt)) cs all)

    misses : (when : Alternatives) → Decided when → Each NarrowCase (case_of when cs (missed_name l p))
    misses when decided = narrow_case low high (IsNarrowResult low high) when cs (missed_name l p) decided all (narrow_l, narrow_p)

    without_narrow : Each NarrowCase (without_name l p cs)
    without_narrow =
        each_append NarrowCase (gone_case l cs) _ (narrow_gone low high cs all l narrow_l)
        (each_append NarrowCase (case_of (any_at l (lists_not p) cs) cs (failure Failure.Absent)) _
        (narrow_failure_case low high cs all (any_at l (lists_not p) cs) Failure.Absent (any_at_decided low high l narrow_l (lists_not p) (λ c is. lists_not_by c is c.sub refl) cs all))
        (each_append NarrowCase (case_of (opened l p cs) cs (missed_name l p)) (case_of (all_by_place l (lacks p cs) cs) cs (missed_name l p))
        (misses (opened l p cs) opened_decided)
        (misses (all_by_place l (lacks p cs) cs) (by_place_decided low high l narrow_l (lacks p cs) (λ c is. lacks_by c is c.sub refl) cs all))))

    lookup_narrow : NarrowBranches (act_lookup (l ∷ p ∷ []) cs)
    lookup_narrow =
        narrow_property low high cs all l p narrow_l narrow_p (name_cases reads l p cs)
        (each_append NarrowCase (found reads l (named p) cs) (without_name l p cs)
        (found_narrow low high (IsNarrowResult low high) reads l p narrow_l narrow_p cs (λ i c q there e is. (all, held_at_name low high c q e is)) all) without_narrow)

    mutate_narrow : (t : PureTerm) → Narrow t → NarrowBranches (act_mutate (l ∷ p ∷ t ∷ []) cs)
    mutate_narrow t narrow_t =
        narrow_property low high cs all l p narrow_l narrow_p (name_cases (writes t) l p cs)
        (each_append NarrowCase (found (writes t) l (named p) cs) (without_name l p cs)
        (found_narrow low high (IsNarrowResult low high) (writes t) l p narrow_l narrow_p cs (λ i c q there e is. (narrow_held low high cs i t c q there e narrow_t all, narrow_t)) all) without_narrow)

  -- ---- `new`

  faulty_decided : (ds : List PureTerm) → Each Narrow ds → Decided (faulty ds)
  faulty_decided [] narrow = tt
  faulty_decided (d ∷ ds) narrow =
      or_shaped (reading low high) (not_of_kind d Kind.Str) (any (same d) ds ++ faulty ds) (not_kind_shaped (reading low high) d Kind.Str narrow.0 refl)
      (or_shaped (reading low high) (any (same d) ds) (faulty ds) (same_each (reading low high) d ds narrow.0 narrow.1) (faulty_decided ds narrow.1))

  module _ (x : Var) (narrow_x : Narrow (variable x)) where
    names_narrow : (ds : List PureTerm) → Each Narrow ds → Each (IsNarrowChunk low high) (map (name_chunk x) ds)
    names_narrow [] narrow = tt
    names_narrow (d ∷ ds) narrow = (record { places = (narrow_x, (narrow.0, tt)); described = tt; held = ((refl, refl), tt) }, names_narrow ds narrow.1)

    created_narrow : (ts : PureTerms) → are_text_literals ts ≡ true → Each Narrow (to_list ts) → Each (IsNarrowChunk low high) (created x (list_of ts) (to_list ts) cs)
    created_narrow ts texts narrow =
        each_append (IsNarrowChunk low high) (cs ++ map (name_chunk x) (to_list ts)) (record { loc = variable x; sub = shape; val = list_of ts } ∷ [])
        (each_append (IsNarrowChunk low high) cs (map (name_chunk x) (to_list ts)) all (names_narrow (to_list ts) narrow))
        (record { places = (narrow_x, tt); described = (texts, tt); held = tt }, tt)

    make_narrow : (ts : PureTerms) → are_literals ts ≡ true → Each Narrow (to_list ts) → NarrowBranches (make x (list_of ts) cs)
    make_narrow ts are narrow =
        each_append (IsNarrowBranch low high (IsNarrowResult low high)) (branches_of (faulty (to_list ts)) cs (failure Failure.Kind)) (branches_of (distinct_from always (to_list ts)) (created x (list_of ts) (to_list ts) cs) (done (variable x)))
        (narrow_failure low high cs all (faulty (to_list ts)) Failure.Kind (faulty_decided (to_list ts) narrow))
        (⊎_elim
        (λ texts. narrow_branches low high (IsNarrowResult low high) (distinct_from always (to_list ts)) (created x (list_of ts) (to_list ts) cs) (done (variable x))
        (distinct_shaped (reading low high) always (to_list ts) (tt, tt) narrow) (created_narrow ts texts narrow) narrow_x)
        (λ none. subst (λ y. NarrowBranches (branches_of y (created x (list_of ts) (to_list ts) cs) (done (variable x)))) (sym none) tt)
        (texts_or_never always ts are))

  new_narrow : (fresh : Option Var) (args : List PureTerm) → ((x : Var) → fresh ≡ Some x → Narrow (variable x)) → Each (IsGivenList low high) args → NarrowBranches (act_new fresh args cs)
  new_narrow (Some x) (d ∷ []) narrow_x given = subst (λ t. NarrowBranches (make x t cs)) (sym given.0.is) (make_narrow x (narrow_x x refl) given.0.names given.0.are given.0.narrow)
  new_narrow None (d ∷ []) narrow_x given = tt
  new_narrow (Some x) [] narrow_x given = narrow_number low high cs all
  new_narrow None [] narrow_x given = narrow_number low high cs all
  new_narrow (Some x) (d ∷ e ∷ more) narrow_x given = narrow_number low high cs all
  new_narrow None (d ∷ e ∷ more) narrow_x given = narrow_number low high cs all

  -- ---- every action but `dispose`

  lookups : (args : List PureTerm) → Each Narrow args → NarrowBranches (act_lookup args cs)
  lookups (l ∷ p ∷ []) narrow = lookup_narrow l p narrow.0 narrow.1.0
  lookups [] narrow = narrow_number low high cs all
  lookups (l ∷ []) narrow = narrow_number low high cs all
  lookups (l ∷ p ∷ t ∷ more) narrow = narrow_number low high cs all

  mutates : (args : List PureTerm) → Each Narrow args → NarrowBranches (act_mutate args cs)
  mutates (l ∷ p ∷ t ∷ []) narrow = mutate_narrow l p narrow.0 narrow.1.0 t narrow.1.1.0
  mutates [] narrow = narrow_number low high cs all
  mutates (l ∷ []) narrow = narrow_number low high cs all
  mutates (l ∷ p ∷ []) narrow = narrow_number low high cs all
  mutates (l ∷ p ∷ t ∷ s ∷ more) narrow = narrow_number low high cs all

  module _ (fresh : Option Var) (args : List PureTerm) where
    abbrev ComesNarrowly : Option RecordAction → Type 0
    ComesNarrowly o = NarrowBranches (table o fresh args cs)

    others : (is_lookup is_mutate is_dispose : Bool) → is_dispose ≡ false → Each Narrow args → ComesNarrowly (if is_lookup then Some RecordAction.Lookup else if is_mutate then Some RecordAction.Mutate else if is_dispose then Some RecordAction.Dispose else None)
    others true is_mutate is_dispose none narrow = lookups args narrow
    others false true is_dispose none narrow = mutates args narrow
    others false false is_dispose none narrow = subst (λ b. ComesNarrowly (if b then Some RecordAction.Dispose else None)) (sym none) (narrow_unknown low high cs all)

    first_or : (is_new : Bool) (o : Option RecordAction) → (is_new ≡ true → ComesNarrowly (Some RecordAction.New)) → (is_new ≡ false → ComesNarrowly o) → ComesNarrowly (if is_new then Some RecordAction.New else o)
    first_or true o new rest = new refl
    first_or false o new rest = rest refl

pub table_narrow : (action : List ℕ) (fresh : Option Var) (args : List PureTerm) (cs : List PureChunk) → MayBeAsked record_actions action fresh args (terms_of cs) → ActsNarrowly terms_of action args cs (table (action_of action) fresh args cs)
table_narrow action fresh args cs asked low high state arguments =
    let all = narrow_chunks (low -ℤ growth) (high +ℤ growth) cs (state_wider low high (terms_of cs) state) in
    first_or (low -ℤ growth) (high +ℤ growth) cs all fresh args (bytes_eq action (codes "new")) (other_action action)
    (λ is_new. new_narrow (low -ℤ growth) (high +ℤ growth) cs all fresh args (λ x e. (ap (λ s. not (same_sort s Sort.List)) (asked.of_sort x e), refl))
    (each_to (λ t. IsTrue (is_list_of_literals t) × IsTrue (has_literals_between low high t)) (IsGivenList (low -ℤ growth) (high +ℤ growth)) args (λ t given. given_list low high t given.0 given.1) (arguments.literals is_new)))
    (λ no_new. others (low -ℤ growth) (high +ℤ growth) cs all fresh args (bytes_eq action (codes "lookup")) (bytes_eq action (codes "mutate")) (bytes_eq action (codes "dispose")) arguments.no_dispose
    (each_to (IsNarrowWithin low high) (IsNarrowWithin (low -ℤ growth) (high +ℤ growth)) args (narrow_wider low high) (arguments.narrow no_new)))
