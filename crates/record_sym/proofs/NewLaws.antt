-- The branches of `new` are right.
use Rattle.std.proofs.Common.{◌≡◌, ◌⊎◌, ⊎_elim, inl, inr, ℕ, List, [], ◌∷◌, ◌++◌, map, Bool, true, false, not, ◌&&◌, cond, ◌||◌, if◌then◌else◌, Option, Some, IsTrue, Ok, Err, refl, sym, ap, subst, ◌∙◌, true≢false, arith}
use Rattle.std.specs.FinMap.{get, insert, get-insert}
use Rattle.std.specs.List.{list_any}
use Rattle.std.specs.Option.{option_map}
use Rattle.std.proofs.lemmas.List.{append_assoc, append-nil}
use Rattle.gil_values.specs.declared.kinds.Kind.{Kind}
use Rattle.gil_values.specs.Equality.{same_value}
use Rattle.gil_values.specs.EqualityLaws.{same_value-Decides}
use Rattle.gil_values.specs.Pure.{PureValue, integer, boolean, text, symbol, kind, procedure, list, kind_of, from_list as list_values, to_list-from_list as values_back}
use Rattle.mem_model.specs.declared.failures.Failure.{Failure}
use Rattle.mem_model.specs.declared.keys.Key.{Key}
use Rattle.mem_model.specs.declared.keys.Sub.{Sub}
use Rattle.mem_model.specs.declared.keys.Sub.TheVariants.{Name, Shape}
use Rattle.mem_model.specs.declared.keys.MemoryName.TheVariants.{Record}
use Rattle.mem_model.specs.Actions.{ActionResult}
use Rattle.mem_model.specs.Heaps.{Heap, HasKey, IsHeapOf}
use Rattle.mem_model.specs.Keys.{key}
use Rattle.mem_model.specs.KeyOrder.{key_cmp-total, key_eq, variant_number}
use Rattle.mem_model.specs.Names.{are_distinct_texts, is_name_list, is_text}
use Rattle.mem_model.specs.Tables.{fails, read_or_fail, names_of, texts_of, name_keys, is_among, with_all, created as created_heap}
use Rattle.mem_model.proofs.Changes.{get-with_all, with_none}
use Rattle.mem_model.proofs.Joins.{same_heap, value_at, has_key}
use Rattle.mem_model.proofs.Holding.{same_key, held_inserted, held_with_all}
use Rattle.mem_model.proofs.NameKeys.{or_of}
use Rattle.pure_terms.specs.declared.literals.Literal.{Literal}
use Rattle.pure_terms.specs.declared.variables.Sort.{Sort}
use Rattle.pure_terms.specs.declared.variables.Var.{Var}
use Rattle.pure_terms.specs.Meaning.{literal_value, value, values, all_true, IsProper, IsOver}
use Rattle.pure_terms.specs.Pure.{PureTerm, literal, variable, list_of, unary_of, binary_of, PureTerms, no_terms, term_and, to_list, from_list}
use Rattle.record_heap.specs.Table.{name_list_in, new}
use Rattle.record_sym.specs.Table.{faulty, name_chunk, created, make, act_new}
use Rattle.sym_chunks.specs.Cases.{branches_of, failure}
use Rattle.sym_chunks.specs.Forms.{form_of}
use Rattle.sym_chunks.specs.NameTerms.{distinct_from}
use Rattle.sym_model.specs.Alternatives.{Hold, always, any, same, of_kind, not_of_kind}
use Rattle.sym_model.proofs.Combined.{always_true}
use Rattle.sym_model.proofs.Telling.{of_kind_tells, not_of_kind_tells}
use Rattle.sym_model.specs.Chunks.{IsUnion, StandFor}
use Rattle.sym_model.specs.Lists.{Each}
use Rattle.sym_model.specs.Meaning.{location_of, name_of, key_of, key_value}
use Rattle.sym_model.specs.Pure.{named, shape, PureChunk, done}
use Rattle.sym_model.specs.Terms.{is_list_term}
use Rattle.sym_model.proofs.Asking.{both_parts as value_parts}
use Rattle.sym_model.proofs.ListLaws.{same_some, each_append, one_left, one_right, one_parts}
use Rattle.sym_model.proofs.Unions.{put_last}
use Rattle.sym_chunks.proofs.ArgumentLaws.{values_one, fails_always, failure_for}
use Rattle.sym_chunks.proofs.CaseLaws.{IsRight, Exact, IsFor, IsTaken, exact_cases, open_cases, taken_case, needed_open, form_holds}
use Rattle.sym_chunks.proofs.Facts.{same_names}
use Rattle.sym_chunks.proofs.NameLists.{elements_over, list_value, one_equal, equal_one, some_equal, equal_some, text_of_kind, no_text, not_distinct, why_not, distinct_holds, holds_distinct}

-- ---- names put one after another

or_cond : {X : Type 0} (b c : Bool) (x : X) (o : Option X) → cond (b || c) (Some x) o ≡ cond c (Some x) (cond b (Some x) o)
or_cond true true x o = refl
or_cond true false x o = refl
or_cond false c x o = refl

-- the first of the keys put first
with_all_first : (k : Key) (ks : List Key) (w : PureValue) (h : Heap) → with_all (k ∷ ks) w h ≡ with_all ks w (insert h k w)
with_all_first k ks w h = same_heap _ _ (λ q.
    get-with_all (k ∷ ks) w h q
    ∙ or_cond (key_eq q k) (is_among q ks) w (get h q)
    ∙ ap (cond (is_among q ks) (Some w)) (sym (get-insert key_cmp-total h k w q))
    ∙ sym (get-with_all ks w (insert h k w) q))

-- the texts of values, which are distinct
pub and_parts3 : (b c d : Bool) → (b && not c && d) ≡ true → (b ≡ true) × (c ≡ false) × (d ≡ true)
and_parts3 true true d e = absurd (true≢false (sym e))
and_parts3 true false d e = (refl, refl, e)
and_parts3 false c d e = absurd (true≢false (sym e))

pub text_value : (w : PureValue) → is_text w ≡ true → (p : List ℕ) × (w ≡ text p)
text_value (text p) e = (p, refl)
text_value w e = absurd (true≢false (sym e))

or_here : (b c : Bool) → b ≡ true → (b || c) ≡ true
or_here true c e = refl
or_here false c e = absurd (true≢false (sym e))

or_there : (b c : Bool) → c ≡ true → (b || c) ≡ true
or_there true c e = refl
or_there false c e = e

sub_of_key : (q r : Key) → q ≡ r → q.sub ≡ r.sub
sub_of_key q r e = ap (λ (m : Key). m.sub) e

module _ (v : List PureValue) (x : Var) (n : ℕ) (is_x : value v (variable x) ≡ Some (symbol n)) where
  name_key : (t : PureTerm) (p : List ℕ) → value v t ≡ Some (text p) → key_value v (variable x) (named t) ≡ Some (key n (Name p))
  name_key t p is = λ i. key_of (location_of (is_x i)) (name_of (is i))

  -- the chunks of the names added at the end put the names into the heap
  names_added : (ts : PureTerms) (ws : List PureValue) (cs : List PureChunk) (h : Heap) → values v ts ≡ Some ws → are_distinct_texts ws ≡ true → IsUnion v cs h → ((p : List ℕ) → list_any (same_value (text p)) ws ≡ true → ¬ HasKey h (key n (Name p))) → IsUnion v (cs ++ map (name_chunk x) (to_list ts)) (with_all (name_keys n (texts_of ws)) (kind Kind.Null) h)
  names_added no_terms ws cs h have distinct union lacks =
      let e : [] ≡ ws = same_some have in
      subst (λ us. IsUnion v (cs ++ []) (with_all (name_keys n (texts_of us)) (kind Kind.Null) h)) e
      (subst (λ ds. IsUnion v ds (with_all [] (kind Kind.Null) h)) (sym (append-nil cs)) (subst (IsUnion v cs) (with_none (kind Kind.Null) h) union))
  names_added (term_and t ts) ws cs h have distinct union lacks =
      let (w, (us, (first, rest, whole))) = value_parts (value v t) (values v ts) ws have in
      let parts = and_parts3 (is_text w) (list_any (same_value w) us) (are_distinct_texts us) (sym (ap are_distinct_texts whole) ∙ distinct) in
      let (p, is_p) = text_value w parts.0 in
      let k : Key = key n (Name p) in
      let here : ¬ HasKey h k = lacks p (ap (list_any (same_value (text p))) whole ∙ or_here (same_value (text p) w) (list_any (same_value (text p)) us) ((same_value-Decides (text p) w).1 (sym is_p))) in
      let added : IsUnion v (cs ++ name_chunk x t ∷ []) (insert h k (kind Kind.Null)) = put_last v cs h (name_chunk x t) k (kind Kind.Null) union (record { at = name_key t p (first ∙ ap Some is_p); holds = refl }) here in
      let more : IsUnion v ((cs ++ name_chunk x t ∷ []) ++ map (name_chunk x) (to_list ts)) (with_all (name_keys n (texts_of us)) (kind Kind.Null) (insert h k (kind Kind.Null))) =
      names_added ts us (cs ++ name_chunk x t ∷ []) (insert h k (kind Kind.Null)) rest parts.2 added
      (λ q named has. ⊎_elim
      (λ put. true≢false (sym named ∙ ap (λ z. list_any (same_value z) us) (ap text (same_names (sub_of_key (key n (Name q)) k put.0)) ∙ sym is_p) ∙ parts.1))
      (λ kept. lacks q (ap (list_any (same_value (text q))) whole ∙ or_there (same_value (text q) w) (list_any (same_value (text q)) us) named) (has_key h (key n (Name q)) (value_at (insert h k (kind Kind.Null)) (key n (Name q)) has).0 kept.1))
      (held_inserted h k (key n (Name q)) (kind Kind.Null) (value_at (insert h k (kind Kind.Null)) (key n (Name q)) has).0 (value_at (insert h k (kind Kind.Null)) (key n (Name q)) has).1)) in
      let joined : IsUnion v (cs ++ (name_chunk x t ∷ map (name_chunk x) (to_list ts))) (with_all (name_keys n (texts_of us)) (kind Kind.Null) (insert h k (kind Kind.Null))) = subst (λ ds. IsUnion v ds (with_all (name_keys n (texts_of us)) (kind Kind.Null) (insert h k (kind Kind.Null)))) (append_assoc cs (name_chunk x t ∷ []) (map (name_chunk x) (to_list ts))) more in
      subst (λ g. IsUnion v (cs ++ (name_chunk x t ∷ map (name_chunk x) (to_list ts))) g)
      (sym (with_all_first k (name_keys n (texts_of us)) (kind Kind.Null) h) ∙ ap (λ zs. with_all (name_keys n (texts_of zs)) (kind Kind.Null) h) ((λ i. sym is_p i ∷ us) ∙ sym whole))
      joined

  no_shape : (ps : List (List ℕ)) → IsTrue (is_among (key n Shape) (name_keys n ps)) → ⊥
  no_shape [] among = true≢false (sym among)
  no_shape (p ∷ ps) among = ⊎_elim
      (λ here. let e : ◌≡◌ {A = Sub} Shape (Name p) = sub_of_key (key n Shape) (key n (Name p)) (same_key (key n Shape) (key n (Name p)) here) in absurd (omega (arith, ap variant_number e)))
      (no_shape ps)
      (or_of (key_eq (key n Shape) (key n (Name p))) (is_among (key n Shape) (name_keys n ps)) among)

  -- the new record's chunks stand for the heap with the new record
  record_added : (ts : PureTerms) (ws : List PureValue) (cs : List PureChunk) (h : Heap) → values v ts ≡ Some ws → are_distinct_texts ws ≡ true → IsUnion v cs h → ((s : Sub) → ¬ HasKey h (key n s)) → IsUnion v (created x (list_of ts) (to_list ts) cs) (created_heap (key n Shape) (list (list_values ws)) (name_keys n (names_of (list (list_values ws)))) (kind Kind.Null) h)
  record_added ts ws cs h have distinct union lacks =
      let named_union = names_added ts ws cs h have distinct union (λ p is. lacks (Name p)) in
      let keys : names_of (list (list_values ws)) ≡ texts_of ws = ap texts_of (values_back ws) in
      subst (λ ns. IsUnion v (created x (list_of ts) (to_list ts) cs) (created_heap (key n Shape) (list (list_values ws)) (name_keys n ns) (kind Kind.Null) h)) (sym keys)
      (put_last v (cs ++ map (name_chunk x) (to_list ts)) (with_all (name_keys n (texts_of ws)) (kind Kind.Null) h) (record { loc = variable x; sub = shape; val = list_of ts }) (key n Shape) (list (list_values ws)) named_union
      (record { at = ap (λ o. key_of (location_of o) (Some Shape)) is_x; holds = ap (option_map (λ us. list (list_values us))) have })
      (λ has. let (w, held) = value_at (with_all (name_keys n (texts_of ws)) (kind Kind.Null) h) (key n Shape) has in
      ⊎_elim
      (λ put. no_shape (texts_of ws) put.0)
      (λ kept. lacks Shape (has_key h (key n Shape) w kept))
      (held_with_all (name_keys n (texts_of ws)) h (key n Shape) (kind Kind.Null) w held)))

-- ---- names that are refused

module _ (vars : List Sort) (v : List PureValue) (proper : IsProper vars v) where
  faulty_holds : (ts : PureTerms) (ws : List PureValue) → values v ts ≡ Some ws → Each (IsOver vars) (to_list ts) → Hold v (faulty (to_list ts)) → are_distinct_texts ws ≡ false
  faulty_holds no_terms ws have over holds = absurd holds
  faulty_holds (term_and t ts) ws have over holds =
      let (w, (us, (first, rest, whole))) = value_parts (value v t) (values v ts) ws have in
      ap are_distinct_texts whole
      ∙ not_distinct vars v proper (is_text w) (list_any (same_value w) us) (are_distinct_texts us)
      (⊎_elim
      (λ kinds. inl (no_text vars v proper w ((not_of_kind_tells vars v t Kind.Str w proper over.0 first).0 kinds)))
      (λ more. inr (⊎_elim
      (λ twice. inl (one_equal vars v proper t w over.0 first ts us rest over.1 (some_equal vars v proper t w over.0 first ts twice)))
      (λ later. inr (faulty_holds ts us rest over.1 later))
      (one_parts (λ conds. IsTrue (all_true v conds)) (any (same t) (to_list ts)) (faulty (to_list ts)) more)))
      (one_parts (λ conds. IsTrue (all_true v conds)) (not_of_kind t Kind.Str) (any (same t) (to_list ts) ++ faulty (to_list ts)) holds))

  holds_faulty : (ts : PureTerms) (ws : List PureValue) → values v ts ≡ Some ws → Each (IsOver vars) (to_list ts) → are_distinct_texts ws ≡ false → Hold v (faulty (to_list ts))
  holds_faulty no_terms ws have over none = absurd (true≢false (sym (ap are_distinct_texts (sym (same_some have))) ∙ none))
  holds_faulty (term_and t ts) ws have over none =
      let (w, (us, (first, rest, whole))) = value_parts (value v t) (values v ts) ws have in
      ⊎_elim
      (λ kinds. one_left (λ conds. IsTrue (all_true v conds)) (not_of_kind t Kind.Str) (any (same t) (to_list ts) ++ faulty (to_list ts))
      ((not_of_kind_tells vars v t Kind.Str w proper over.0 first).1 (λ e. true≢false (sym (text_of_kind vars v proper w e) ∙ kinds))))
      (λ more. one_right (λ conds. IsTrue (all_true v conds)) (not_of_kind t Kind.Str) (any (same t) (to_list ts) ++ faulty (to_list ts)) (⊎_elim
      (λ twice. one_left (λ conds. IsTrue (all_true v conds)) (any (same t) (to_list ts)) (faulty (to_list ts)) (equal_some vars v proper t w over.0 first ts (equal_one vars v proper t w over.0 first ts us rest over.1 twice)))
      (λ later. one_right (λ conds. IsTrue (all_true v conds)) (any (same t) (to_list ts)) (faulty (to_list ts)) (holds_faulty ts us rest over.1 later))
      more))
      (why_not vars v proper (is_text w) (list_any (same_value w) us) (are_distinct_texts us) (sym (ap are_distinct_texts whole) ∙ none))

-- the concrete `new`, by its argument
module _ (n : ℕ) (h : Heap) where
  abbrev makes : List PureValue → ActionResult
  makes args' = read_or_fail (name_list_in args') (λ d. new (Some n) d h) h

  refused_by : (w : PureValue) (b : Bool) → is_name_list w ≡ b → b ≡ false → makes (w ∷ []) ≡ fails Failure.Kind h
  refused_by w b is isnt = ap (λ c. read_or_fail (if c then Ok w else Err Failure.Kind) (λ d. new (Some n) d h) h) (is ∙ isnt)

  made_by : (w : PureValue) → is_name_list w ≡ true → makes (w ∷ []) ≡ new (Some n) w h
  made_by w is = ap (λ c. read_or_fail (if c then Ok w else Err Failure.Kind) (λ d. new (Some n) d h) h) is

no_list : (w : PureValue) → ¬ (kind_of w ≡ Kind.List) → is_name_list w ≡ false
no_list (list vs) differ = absurd (differ refl)
no_list (integer i) differ = refl
no_list (boolean b) differ = refl
no_list (text cs) differ = refl
no_list (symbol m) differ = refl
no_list (kind k) differ = refl
no_list (procedure f) differ = refl

list_or_not : (w : PureValue) → (kind_of w ≡ Kind.List) ⊎ (¬ (kind_of w ≡ Kind.List))
list_or_not (list vs) = inl refl
list_or_not (integer i) = inr (λ e. cc)
list_or_not (boolean b) = inr (λ e. cc)
list_or_not (text cs) = inr (λ e. cc)
list_or_not (symbol m) = inr (λ e. cc)
list_or_not (kind k) = inr (λ e. cc)
list_or_not (procedure f) = inr (λ e. cc)

bool_cases : (b : Bool) → (b ≡ true) ⊎ (b ≡ false)
bool_cases true = inl refl
bool_cases false = inr refl

module _ (vars : List Sort) (v : List PureValue) (h : Heap) (cs : List PureChunk) (proper : IsProper vars v) (stands : StandFor Record cs v h) (x : Var) (n : ℕ) (is_x : value v (variable x) ≡ Some (symbol n)) (lacks : (s : Sub) → ¬ HasKey h (key n s)) where
  listed_right : (ts : PureTerms) (w : PureValue) → IsOver vars (list_of ts) → value v (list_of ts) ≡ Some w → IsHeapOf Record (makes n h (w ∷ [])).heap → IsRight Record v (makes n h (w ∷ [])) (make x (list_of ts) cs)
  listed_right ts w over_list is_list keeps =
      let (ws, (have, whole)) = list_value v ts w is_list in
      let test : is_name_list w ≡ are_distinct_texts ws = ap is_name_list whole ∙ ap are_distinct_texts (values_back ws) in
      let r = makes n h (w ∷ []) in
      let made : are_distinct_texts ws ≡ true → IsFor Record v r (created x (list_of ts) (to_list ts) cs) (done (variable x)) = (λ distinct.
      let e : r ≡ new (Some n) w h = made_by n h w (test ∙ distinct) in
      subst (λ q. IsFor Record v q (created x (list_of ts) (to_list ts) cs) (done (variable x))) (sym e) (
        is_x,
        record {
          union = subst (λ d. IsUnion v (created x (list_of ts) (to_list ts) cs) (created_heap (key n Shape) d (name_keys n (names_of d)) (kind Kind.Null) h)) (sym whole) (record_added v x n is_x ts ws cs h have distinct stands.union lacks);
          is_heap = subst (λ (q : ActionResult). IsHeapOf Record q.heap) e keeps;
        },
      )) in
      record {
        exact = each_append (Exact Record v r) (branches_of (faulty (to_list ts)) cs (failure Failure.Kind)) (branches_of (distinct_from always (to_list ts)) (created x (list_of ts) (to_list ts) cs) (done (variable x)))
            (exact_cases Record v r (faulty (to_list ts)) cs (failure Failure.Kind) (λ holds. failure_for Record vars v h cs proper stands r Failure.Kind (refused_by n h w (are_distinct_texts ws) test (faulty_holds vars v proper ts ws have (elements_over vars ts over_list) holds))))
            (exact_cases Record v r (distinct_from always (to_list ts)) (created x (list_of ts) (to_list ts) cs) (done (variable x)) (λ holds. made (distinct_holds vars v proper ts always ws have (elements_over vars ts over_list) holds).1));
        taken = ⊎_elim
            (λ distinct. one_right (IsTaken v) (branches_of (faulty (to_list ts)) cs (failure Failure.Kind)) (branches_of (distinct_from always (to_list ts)) (created x (list_of ts) (to_list ts) cs) (done (variable x)))
            (taken_case v (distinct_from always (to_list ts)) (created x (list_of ts) (to_list ts) cs) (done (variable x)) (holds_distinct vars v proper ts always ws have (elements_over vars ts over_list) (always_true v) distinct)))
            (λ isnt. one_left (IsTaken v) (branches_of (faulty (to_list ts)) cs (failure Failure.Kind)) (branches_of (distinct_from always (to_list ts)) (created x (list_of ts) (to_list ts) cs) (done (variable x)))
            (taken_case v (faulty (to_list ts)) cs (failure Failure.Kind) (holds_faulty vars v proper ts ws have (elements_over vars ts over_list) isnt)))
            (bool_cases (are_distinct_texts ws));
      }

  -- a list that no list term gives is no literal, so that its form is needed
  form_comes : (t : PureTerm) (w : PureValue) → value v t ≡ Some w → kind_of w ≡ Kind.List → is_list_term t ≡ false → Hold v (of_kind t Kind.List) → Hold v (form_of t (of_kind t Kind.List))
  form_comes (list_of ts) w is_t is no_list holds = absurd (true≢false no_list)
  form_comes (literal k) w is_t is no_list holds = absurd (no_list_literal k w is_t is)
    where
      no_list_literal : (k : Literal) (w : PureValue) → Some (literal_value k) ≡ Some w → kind_of w ≡ Kind.List → ⊥
      no_list_literal (Literal.Int i) w is_t is = let e : Kind.Int ≡ Kind.List = ap kind_of (same_some is_t) ∙ is in cc
      no_list_literal (Literal.Bool i) w is_t is = let e : Kind.Bool ≡ Kind.List = ap kind_of (same_some is_t) ∙ is in cc
      no_list_literal (Literal.Str i) w is_t is = let e : Kind.Str ≡ Kind.List = ap kind_of (same_some is_t) ∙ is in cc
      no_list_literal (Literal.Kind i) w is_t is = let e : Kind.Kind ≡ Kind.List = ap kind_of (same_some is_t) ∙ is in cc
      no_list_literal (Literal.Proc i) w is_t is = let e : Kind.Proc ≡ Kind.List = ap kind_of (same_some is_t) ∙ is in cc
  form_comes (variable y) w is_t is no_list holds = form_holds v (variable y) w (of_kind (variable y) Kind.List) is_t holds
  form_comes (unary_of op t) w is_t is no_list holds = form_holds v (unary_of op t) w (of_kind (unary_of op t) Kind.List) is_t holds
  form_comes (binary_of op s t) w is_t is no_list holds = form_holds v (binary_of op s t) w (of_kind (binary_of op s t) Kind.List) is_t holds

  unlisted_right : (t : PureTerm) (w : PureValue) → is_list_term t ≡ false → IsOver vars t → value v t ≡ Some w → IsRight Record v (makes n h (w ∷ [])) (branches_of (not_of_kind t Kind.List) cs (failure Failure.Kind) ++ branches_of (form_of t (of_kind t Kind.List)) cs (done (variable x)))
  unlisted_right t w no_list_term over_t is_t =
      let r = makes n h (w ∷ []) in
      record {
        exact = each_append (Exact Record v r) (branches_of (not_of_kind t Kind.List) cs (failure Failure.Kind)) (branches_of (form_of t (of_kind t Kind.List)) cs (done (variable x)))
            (exact_cases Record v r (not_of_kind t Kind.List) cs (failure Failure.Kind) (λ holds. failure_for Record vars v h cs proper stands r Failure.Kind (refused_by n h w false (no_list w ((not_of_kind_tells vars v t Kind.List w proper over_t is_t).0 holds)) refl)))
            (open_cases Record v r (form_of t (of_kind t Kind.List)) cs (done (variable x)) (needed_open v t (of_kind t Kind.List)));
        taken = ⊎_elim
            (λ is. one_right (IsTaken v) (branches_of (not_of_kind t Kind.List) cs (failure Failure.Kind)) (branches_of (form_of t (of_kind t Kind.List)) cs (done (variable x)))
            (taken_case v (form_of t (of_kind t Kind.List)) cs (done (variable x)) (form_comes t w is_t is no_list_term ((of_kind_tells vars v t Kind.List w proper over_t is_t).1 is))))
            (λ differ. one_left (IsTaken v) (branches_of (not_of_kind t Kind.List) cs (failure Failure.Kind)) (branches_of (form_of t (of_kind t Kind.List)) cs (done (variable x)))
            (taken_case v (not_of_kind t Kind.List) cs (failure Failure.Kind) ((not_of_kind_tells vars v t Kind.List w proper over_t is_t).1 differ)))
            (list_or_not w);
      }

  make_right : (t : PureTerm) (w : PureValue) → IsOver vars t → value v t ≡ Some w → IsHeapOf Record (makes n h (w ∷ [])).heap → IsRight Record v (makes n h (w ∷ [])) (make x t cs)
  make_right (list_of ts) w over_t is_t keeps = listed_right ts w over_t is_t keeps
  make_right (literal k) w over_t is_t keeps = unlisted_right (literal k) w refl over_t is_t
  make_right (variable y) w over_t is_t keeps = unlisted_right (variable y) w refl over_t is_t
  make_right (unary_of op t) w over_t is_t keeps = unlisted_right (unary_of op t) w refl over_t is_t
  make_right (binary_of op s t) w over_t is_t keeps = unlisted_right (binary_of op s t) w refl over_t is_t

  pub new_right : (args : List PureTerm) (args' : List PureValue) → Each (IsOver vars) args → values v (from_list args) ≡ Some args' → IsHeapOf Record (makes n h args').heap → IsRight Record v (makes n h args') (act_new (Some x) args cs)
  new_right (d ∷ []) args' over_args have keeps =
      let (w, (is_d, whole)) = values_one v d args' have in
      subst (λ us. IsRight Record v (makes n h us) (act_new (Some x) (d ∷ []) cs)) (sym whole) (make_right d w over_args.0 is_d (subst (λ us. IsHeapOf Record (makes n h us).heap) whole keeps))
  new_right [] args' over_args have keeps = fails_always Record vars v h cs proper stands (makes n h args') Failure.Arity (ap (makes n h) (sym (same_some have)))
  new_right (l ∷ p ∷ more) args' over_args have keeps =
      let (a, (us, (first, rest, whole))) = value_parts (value v l) (values v (from_list (p ∷ more))) args' have in
      let (b, (ws, (second, others, next))) = value_parts (value v p) (values v (from_list more)) us rest in
      fails_always Record vars v h cs proper stands (makes n h args') Failure.Arity (ap (makes n h) (whole ∙ ap (λ xs. a ∷ xs) next))
