-- The branches of every action keep the laws of a symbolic memory.
use Rattle.std.proofs.Common.{◌≡◌, ⊎_elim, inr, ℕ, ℤ, ◌-ℤ◌, ◌+ℤ◌, List, [], ◌∷◌, ◌++◌, Bool, true, false, not, ◌||◌, Option, Some, None, refl, ap, subst}
use Rattle.std.specs.Prelude.{⊤}
use Rattle.std.proofs.lemmas.Bool.{and_from}
use Rattle.std.proofs.lemmas.List.Elements.{Contains-append_cases}
use Rattle.core_uses.specs.Kept.{IsKept, AreKept}
use Rattle.gil_values.proofs.OperatorSymbols.{none_contained}
use Rattle.gil_values.specs.declared.kinds.Kind.{Kind}
use Rattle.gil_values.specs.Pure.{PureValue}
use Rattle.mem_model.specs.declared.failures.Failure.{Failure}
use Rattle.mem_model.specs.declared.keys.MemoryName.TheVariants.{Object}
use Rattle.mem_model.specs.Heaps.{Heap}
use Rattle.object_heap.specs.declared.actions.ObjectAction.{ObjectAction}
use Rattle.object_heap.specs.Names.{action_of}
use Rattle.object_heap.specs.Table.{act_of, object_actions}
use Rattle.object_sym.specs.Laws.{AreRight}
use Rattle.object_sym.specs.ObjectMeaning.{each_asked}
use Rattle.object_sym.specs.Table.{asked_by, branches_by, table}
use Rattle.pure_terms.specs.declared.literals.Literal.{Literal}
use Rattle.pure_terms.specs.declared.variables.Sort.{Sort}
use Rattle.pure_terms.specs.declared.variables.Var.{Var}
use Rattle.pure_terms.specs.Fragment.{is_simple, are_simple, names_sort, name_sort, has_literals_between, have_literals_between}
use Rattle.pure_terms.specs.Meaning.{IsOver}
use Rattle.pure_terms.specs.Pure.{PureTerm, variable, list_of, PureTerms, to_list, from_list, variables, variables_of_all}
use Rattle.sym_model.specs.Chunks.{StandFor, terms_of}
use Rattle.sym_model.specs.Cores.{MissesItsOwn}
use Rattle.sym_model.specs.Laws.{MayBeAsked, Serves, ActLaw, ActsPlainly, IsPlainWithin, IsDecidedWithin, growth}
use Rattle.sym_model.specs.Lists.{Each, IsAmong}
use Rattle.sym_model.specs.Meaning.{fresh_symbol}
use Rattle.sym_model.specs.Plain.{IsPlainState}
use Rattle.sym_model.specs.Pure.{named, dom, proto, gone, PureChunk, result_terms}
use Rattle.sym_model.specs.Terms.{all_of, AreEachOver, IsFreshOver, IsMadeOf, AreMadeOf, is_given}
use Rattle.sym_model.proofs.ChunkMeaning.{chunk_by_chunk}
use Rattle.sym_model.proofs.Listed.{listed_itself}
use Rattle.sym_model.proofs.ListLaws.{not_none, each_to, each_left, each_right, each_is_among}
use Rattle.sym_model.proofs.MadeLaws.{made_of_given, elements_made}
use Rattle.sym_model.proofs.PlainLaws.{plain_wider, decided_wider}
use Rattle.sym_chunks.proofs.CaseLaws.{IsRight, covered, each_every}
use Rattle.sym_chunks.proofs.Readings.{own_reading, made_state, own_sides, own_forms, over_reading, over_elements, over_literal, over_state, over_sides, over_forms, plain_parts, plain_reading, elements_plain, plain_fresh, plain_state, plain_sides, plain_forms, state_plain, AnyAtom, KeptAt, kept_reading, missed_reading, missed_own, loose_state, loose_sides, loose_forms, any_term, shaped_terms, shaped_conds, shaped_named}
use Rattle.sym_chunks.proofs.Shapes.{IsFine, Shaped, fine_terms}
use Rattle.sym_chunks.specs.Arguments.{unknown_action}
use Rattle.object_sym.proofs.ObjectShapes.{OfObjects, table_fine}
use Rattle.object_sym.proofs.Right.{fails_always, new_is_right, get_is_right, set_is_right, delete_is_right, has_is_right, getproto_is_right, setproto_is_right}
use Rattle.sym_model.specs.Cores.{IsSubOf}

-- ---- the readings of objects

elements_are_over : (vars : List Sort) (xs : List PureTerm) → Each (IsOver vars) xs → IsOver vars (list_of (from_list xs))
elements_are_over vars [] over x has = absurd (none_contained x has)
elements_are_over vars (t ∷ ts) over x has =
    ⊎_elim (over.0 x) (elements_are_over vars ts over.1 x) (Contains-append_cases (variables t) (variables_of_all (from_list ts)) x has)

over_objects : (vars : List Sort) → OfObjects (over_reading vars)
over_objects vars = record {
  r_list = elements_are_over vars;
  r_elements = over_elements vars;
  r_false = over_literal vars (Literal.Bool false);
  r_undef = over_literal vars (Literal.Kind Kind.Undef);
  n_name = λ q t. tt;
  n_list = λ ts. tt;
  n_proto = λ t. tt;
  m_name = λ q. tt;
  m_dom = tt;
  m_proto = tt;
}

module _ (asked : List PureTerm × List PureTerm) (given : List PureTerm) (fresh : Option Var) (cs : List PureChunk) where
  each_made : (ts : List PureTerm) → Each (IsMadeOf given fresh) ts → AreMadeOf given fresh (from_list ts)
  each_made [] all = tt
  each_made (t ∷ ts) all = (all.0, each_made ts all.1)

  own_objects : OfObjects (own_reading asked given fresh cs)
  own_objects = record {
    r_list = λ ts all. inr (each_made ts all);
    r_elements = elements_made given fresh;
    r_false = tt;
    r_undef = tt;
    n_name = λ q t. tt;
    n_list = λ ts. tt;
    n_proto = λ t. tt;
    m_name = λ q. tt;
    m_dom = tt;
    m_proto = tt;
  }

record ArePlainParts (low high : ℤ) (ts : PureTerms) : Type 0 where
  simple : are_simple ts ≡ true
  no_any : name_sort Sort.Any ts ≡ false
  no_list : name_sort Sort.List ts ≡ false
  literals : have_literals_between low high ts ≡ true

neither : (b c : Bool) → b ≡ false → c ≡ false → (b || c) ≡ false
neither true c first second = first
neither false c first second = second

plain_all : (low high : ℤ) (ts : List PureTerm) → Each (IsPlainWithin low high) ts → ArePlainParts low high (from_list ts)
plain_all low high [] all = record { simple = refl; no_any = refl; no_list = refl; literals = refl }
plain_all low high (t ∷ ts) all =
    let p = plain_parts low high t all.0 in
    let q = plain_all low high ts all.1 in
    record {
      simple = and_from (is_simple t) (are_simple (from_list ts)) p.simple q.simple;
      no_any = neither (names_sort Sort.Any t) (name_sort Sort.Any (from_list ts)) p.no_any q.no_any;
      no_list = neither (names_sort Sort.List t) (name_sort Sort.List (from_list ts)) p.no_list q.no_list;
      literals = and_from (has_literals_between low high t) (have_literals_between low high (from_list ts)) p.literals q.literals;
    }

plain_list : (low high : ℤ) (ts : List PureTerm) → Each (IsPlainWithin low high) ts → IsPlainWithin low high (list_of (from_list ts))
plain_list low high ts all =
    let q = plain_all low high ts all in
    (and_from (are_simple (from_list ts)) _ q.simple (and_from (not (name_sort Sort.Any (from_list ts))) (not (name_sort Sort.List (from_list ts))) (ap not q.no_any) (ap not q.no_list)), q.literals)

plain_objects : (low high : ℤ) → OfObjects (plain_reading Object low high)
plain_objects low high = record {
  r_list = plain_list low high;
  r_elements = elements_plain low high;
  r_false = (refl, refl);
  r_undef = (refl, refl);
  n_name = λ q t. tt;
  n_list = λ ts. (refl, tt);
  n_proto = λ t. tt;
  m_name = λ q. tt;
  m_dom = tt;
  m_proto = tt;
}

name_is_not_gone : {P : Type 0} (q : PureTerm) → named q ≡ gone → P
name_is_not_gone q is = absurd (cc)

dom_is_not_gone : {P : Type 0} → dom ≡ gone → P
dom_is_not_gone is = absurd (cc)

proto_is_not_gone : {P : Type 0} → proto ≡ gone → P
proto_is_not_gone is = absurd (cc)

kept_objects : OfObjects (kept_reading Object)
kept_objects = record {
  r_list = λ ts all. tt;
  r_elements = λ ts is. any_term (to_list ts);
  r_false = tt;
  r_undef = tt;
  n_name = λ q t. (refl, λ is. name_is_not_gone q is);
  n_list = λ ts. (refl, λ is. dom_is_not_gone is);
  n_proto = λ t. (refl, λ is. proto_is_not_gone is);
  m_name = λ q. refl;
  m_dom = refl;
  m_proto = refl;
}

missed_objects : OfObjects (missed_reading Object)
missed_objects = record {
  r_list = λ ts all. tt;
  r_elements = λ ts is. any_term (to_list ts);
  r_false = tt;
  r_undef = tt;
  n_name = λ q t. tt;
  n_list = λ ts. tt;
  n_proto = λ t. tt;
  m_name = λ q. refl;
  m_dom = refl;
  m_proto = refl;
}

-- ---- what is kept, and what is missed

module _ (o : Option ObjectAction) (fresh : Option Var) (args : List PureTerm) (cs : List PureChunk) where
  pub table_keeps : AreKept Object cs → Each (λ b. AreKept Object b.state) (table o fresh args cs)
  table_keeps kept =
      each_to (Shaped (kept_reading Object)) (λ b. AreKept Object b.state) (table o fresh args cs)
      (λ b fine. each_to (IsFine (kept_reading Object)) (IsKept Object) b.state (λ c is. record { of_memory = is.holds.0; gone_is_true = is.holds.1 }) fine.state)
      (table_fine (kept_reading Object) kept_objects cs (loose_sides AnyAtom (λ t. tt) (λ t. tt) (KeptAt Object) (IsSubOf Object) cs)
      (loose_state AnyAtom (λ t. tt) (λ t. tt) (KeptAt Object) (IsSubOf Object) cs (each_to (IsKept Object) (λ c. KeptAt Object c.sub c.val) cs (λ c is. (is.of_memory, is.gone_is_true)) kept))
      (loose_forms AnyAtom (λ t. tt) (λ t. tt) (KeptAt Object) (IsSubOf Object) (λ t. tt) cs) o fresh args (λ x is. tt) (any_term (asked_by o args)) (any_term args))

  pub table_misses : Each (λ b. MissesItsOwn Object b.result) (table o fresh args cs)
  table_misses =
      each_to (Shaped (missed_reading Object)) (λ b. MissesItsOwn Object b.result) (table o fresh args cs) (λ b fine. missed_own Object b.result fine.result)
      (table_fine (missed_reading Object) missed_objects cs (loose_sides AnyAtom (λ t. tt) (λ t. tt) (λ s t. ⊤) (IsSubOf Object) cs)
      (loose_state AnyAtom (λ t. tt) (λ t. tt) (λ s t. ⊤) (IsSubOf Object) cs (each_every (λ c. ⊤) (λ c. tt) cs))
      (loose_forms AnyAtom (λ t. tt) (λ t. tt) (λ s t. ⊤) (IsSubOf Object) (λ t. tt) cs) o fresh args (λ x is. tt) (any_term (asked_by o args)) (any_term args))

-- ---- cover and exactness

-- an action that objects don't have fails
module _ (action : List ℕ) (fresh : Option Var) (args : List PureTerm) (cs : List PureChunk) (is_none : action_of action ≡ None) where
  unknown_is : (vars : List Sort) (v args' : List PureValue) (h : Heap) → Serves (StandFor Object) terms_of vars v fresh args cs args' h → IsRight Object v (object_actions.act action (fresh_symbol v fresh) args' h) (unknown_action cs)
  unknown_is vars v args' h serves =
      fails_always vars v h cs serves.proper (chunk_by_chunk (IsOver vars) cs (each_right (IsOver vars) args (all_of (terms_of cs)) serves.over)) serves.has_heap
      (object_actions.act action (fresh_symbol v fresh) args' h) Failure.Action (ap (λ o. act_of o (fresh_symbol v fresh) args' h) is_none)

  unknown_right : AreRight action fresh args cs (unknown_action cs)
  unknown_right = record {
    cover = λ vars v args' h serves. let right = unknown_is vars v args' h serves in covered Object v (object_actions.act action (fresh_symbol v fresh) args' h) (unknown_action cs) right.exact right.taken;
    exact = λ vars v args' h serves. (unknown_is vars v args' h serves).exact;
  }

right_by : (op : ObjectAction) (action : List ℕ) (fresh : Option Var) (args : List PureTerm) (cs : List PureChunk) → action_of action ≡ Some op → MayBeAsked object_actions action fresh args (terms_of cs) → AreRight action fresh args cs (branches_by op fresh args cs)
right_by ObjectAction.New action fresh args cs is asked = new_is_right action fresh args cs is asked
right_by ObjectAction.Get action fresh args cs is asked = get_is_right action fresh args cs is asked
right_by ObjectAction.Set action fresh args cs is asked = set_is_right action fresh args cs is asked
right_by ObjectAction.Delete action fresh args cs is asked = delete_is_right action fresh args cs is asked
right_by ObjectAction.Has action fresh args cs is asked = has_is_right action fresh args cs is asked
right_by ObjectAction.GetProto action fresh args cs is asked = getproto_is_right action fresh args cs is asked
right_by ObjectAction.SetProto action fresh args cs is asked = setproto_is_right action fresh args cs is asked

table_right : (o : Option ObjectAction) (action : List ℕ) (fresh : Option Var) (args : List PureTerm) (cs : List PureChunk) → action_of action ≡ o → MayBeAsked object_actions action fresh args (terms_of cs) → AreRight action fresh args cs (table o fresh args cs)
table_right None action fresh args cs is asked = unknown_right action fresh args cs is
table_right (Some op) action fresh args cs is asked = right_by op action fresh args cs is asked

-- ---- the laws

module _ (o : Option ObjectAction) (action : List ℕ) (fresh : Option Var) (args : List PureTerm) (cs : List PureChunk) where
  abbrev given_terms : List PureTerm
  given_terms = args ++ all_of (terms_of cs)

  abbrev asks_of : List PureTerm × List PureTerm
  asks_of = (asked_by o args, [])

  -- a fresh variable is over the table
  fresh_over : (vars : List Sort) (f : Option Var) → IsFreshOver vars f → (x : Var) → f ≡ Some x → IsOver vars (variable x)
  fresh_over vars None is x e = not_none e
  fresh_over vars (Some y) is x e = subst (λ z. IsFreshOver vars z) e is

  over_shaped : (vars : List Sort) → AreEachOver vars given_terms → IsFreshOver vars fresh → Each (Shaped (over_reading vars)) (table o fresh args cs)
  over_shaped vars over is_fresh =
      let over_args = each_left (IsOver vars) args (all_of (terms_of cs)) over in
      let over_cs = each_right (IsOver vars) args (all_of (terms_of cs)) over in
      table_fine (over_reading vars) (over_objects vars) cs (over_sides vars cs over_cs) (over_state vars cs over_cs) (over_forms vars cs over_cs) o fresh args (fresh_over vars fresh is_fresh)
      (each_asked (IsOver vars) (over_literal vars (Literal.Kind Kind.Null)) o args over_args) over_args

  own_shaped : Each (Shaped (own_reading asks_of given_terms fresh cs)) (table o fresh args cs)
  own_shaped =
      table_fine (own_reading asks_of given_terms fresh cs) (own_objects asks_of given_terms fresh cs) cs (own_sides asks_of given_terms fresh cs)
      (made_state asks_of given_terms fresh cs (each_right (λ t. IsAmong t given_terms) args (all_of (terms_of cs)) (each_is_among given_terms))) (own_forms asks_of given_terms fresh cs) o fresh args
      (λ x e. inr (inr (x, (e, refl)))) (listed_itself (asked_by o args))
      (each_to (λ t. IsAmong t given_terms) (IsMadeOf given_terms fresh) args (λ t among. made_of_given given_terms fresh t (is_given among)) (each_left (λ t. IsAmong t given_terms) args (all_of (terms_of cs)) (each_is_among given_terms)))

  module _ (is : action_of action ≡ o) (asked : MayBeAsked object_actions action fresh args (terms_of cs)) where
    pub table_law : ActLaw (StandFor Object) terms_of object_actions action fresh args asks_of cs (table o fresh args cs)
    table_law = record {
      cover = (table_right o action fresh args cs is asked).cover;
      exact = (table_right o action fresh args cs is asked).exact;
      variables = λ vars over is_fresh. shaped_named (table o fresh args cs) vars (over_shaped vars over is_fresh);
      own = shaped_conds (table o fresh args cs) (own_reading asks_of given_terms fresh cs) own_shaped;
      made = shaped_terms (table o fresh args cs) (own_reading asks_of given_terms fresh cs) own_shaped;
    }

    plain_shaped : (low high : ℤ) → IsPlainState Object (terms_of cs) low high → Each (IsPlainWithin low high) args → Each (Shaped (plain_reading Object low high)) (table o fresh args cs)
    plain_shaped low high plain plain_args =
        table_fine (plain_reading Object low high) (plain_objects low high) cs (plain_sides Object low high cs plain) (plain_state Object low high cs plain) (plain_forms Object low high cs plain) o fresh args
        (λ x e. plain_fresh low high x (asked.of_sort x e)) (each_asked (IsPlainWithin low high) (refl, refl) o args plain_args) plain_args

    pub table_plain : ActsPlainly (λ ds low high. IsPlainState Object (terms_of ds) low high) action args cs (table o fresh args cs)
    table_plain low high plain arguments =
        each_to (Shaped (plain_reading Object low high)) _ (table o fresh args cs)
        (λ b fine. let state = state_plain Object low high b.state fine.state in (
          each_to (IsDecidedWithin low high) (IsDecidedWithin (low -ℤ growth) (high +ℤ growth)) b.conds (decided_wider low high) fine.conds,
          (
            record { plain = each_to (IsPlainWithin low high) (IsPlainWithin (low -ℤ growth) (high +ℤ growth)) (all_of (terms_of b.state)) (plain_wider low high) state.plain; described = state.described },
            each_to (IsPlainWithin low high) (IsPlainWithin (low -ℤ growth) (high +ℤ growth)) (result_terms b.result) (plain_wider low high) (fine_terms (plain_reading Object low high) b.result fine.result),
          ),
        ))
        (plain_shaped low high plain arguments.plain)
