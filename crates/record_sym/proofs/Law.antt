-- The branches of every action keep the laws of a symbolic memory.
use Rattle.std.proofs.Common.{◌≡◌, ◌⊎◌, ⊎_elim, inl, inr, ℕ, ℤ, ◌-ℤ◌, ◌+ℤ◌, List, [], ◌∷◌, ◌++◌, Bool, true, false, if◌then◌else◌, Option, Some, None, refl, ap, subst}
use Rattle.std.specs.Prelude.{⊤}
use Rattle.core_uses.specs.Kept.{IsKept, AreKept}
use Rattle.gil_values.specs.declared.kinds.Kind.{Kind}
use Rattle.gil_values.specs.Pure.{PureValue}
use Rattle.mem_model.specs.declared.failures.Failure.{Failure}
use Rattle.mem_model.specs.declared.keys.MemoryName.TheVariants.{Record}
use Rattle.mem_model.specs.Heaps.{Heap}
use Rattle.pure_terms.specs.declared.literals.Literal.{Literal}
use Rattle.pure_terms.specs.declared.variables.Sort.{Sort}
use Rattle.pure_terms.specs.declared.variables.Var.{Var}
use Rattle.pure_terms.specs.Kinds.{allows, known_kind}
use Rattle.pure_terms.specs.Meaning.{IsOver}
use Rattle.pure_terms.specs.Pure.{PureTerm, variable, to_list}
use Rattle.record_heap.specs.declared.actions.RecordAction.{RecordAction}
use Rattle.record_heap.specs.Names.{action_of}
use Rattle.record_heap.specs.Table.{act_of, record_actions}
use Rattle.record_sym.specs.Laws.{AreRight}
use Rattle.record_sym.specs.RecordMeaning.{each_asked}
use Rattle.record_sym.specs.Table.{asked_by, formed_by, branches_by, table}
use Rattle.sym_chunks.specs.Arguments.{unknown_action}
use Rattle.sym_model.specs.Chunks.{StandFor, terms_of}
use Rattle.sym_model.specs.Cores.{IsSubOf, MissesItsOwn}
use Rattle.sym_model.specs.Laws.{MayBeAsked, Serves, ActLaw, ActsPlainly, IsPlainWithin, IsDecidedWithin, growth}
use Rattle.sym_model.specs.Lists.{Each, IsAmong}
use Rattle.sym_model.specs.Meaning.{fresh_symbol}
use Rattle.sym_model.specs.Plain.{IsPlainState}
use Rattle.sym_model.specs.Pure.{named, shape, gone, PureChunk, result_terms}
use Rattle.sym_model.specs.Terms.{all_of, AreEachOver, IsFreshOver, IsMadeOf, is_given}
use Rattle.sym_model.proofs.Listed.{listed_itself}
use Rattle.sym_model.proofs.ListLaws.{not_none, each_to, each_left, each_right, each_is_among}
use Rattle.sym_model.proofs.MadeLaws.{made_of_given, elements_made}
use Rattle.sym_model.proofs.PlainLaws.{plain_wider, decided_wider}
use Rattle.sym_chunks.proofs.ArgumentLaws.{fails_always}
use Rattle.sym_chunks.proofs.CaseLaws.{IsRight, covered, each_every}
use Rattle.sym_chunks.proofs.Readings.{own_reading, made_state, own_sides, own_forms, over_reading, over_elements, over_literal, over_state, over_sides, over_forms, plain_reading, elements_plain, no_list_kind, plain_fresh, plain_state, plain_sides, plain_forms, state_plain, AnyAtom, KeptAt, kept_reading, missed_reading, missed_own, loose_state, loose_sides, loose_forms, any_term, shaped_terms, shaped_conds, shaped_named}
use Rattle.sym_chunks.proofs.Shapes.{IsFine, Shaped, fine_terms}
use Rattle.record_sym.proofs.RecordShapes.{OfRecords, FormOf, form_given, table_fine}
use Rattle.record_sym.proofs.Right.{new_is_right, lookup_is_right, mutate_is_right, dispose_is_right}

-- ---- the readings of records

over_records : (vars : List Sort) → OfRecords (over_reading vars)
over_records vars = record {
  r_elements = over_elements vars;
  r_null = over_literal vars (Literal.Kind Kind.Null);
  n_name = λ q t. tt;
  n_list = λ ts. tt;
  n_gone = tt;
  m_name = λ q. tt;
  m_shape = tt;
}

own_records : (asked : List PureTerm × List PureTerm) (given : List PureTerm) (fresh : Option Var) (cs : List PureChunk) → OfRecords (own_reading asked given fresh cs)
own_records asked given fresh cs = record {
  r_elements = elements_made given fresh;
  r_null = tt;
  n_name = λ q t. tt;
  n_list = λ ts. tt;
  n_gone = tt;
  m_name = λ q. tt;
  m_shape = tt;
}

plain_records : (low high : ℤ) → OfRecords (plain_reading Record low high)
plain_records low high = record {
  r_elements = elements_plain low high;
  r_null = (refl, refl);
  n_name = λ q t. tt;
  n_list = λ ts. (refl, tt);
  n_gone = tt;
  m_name = λ q. tt;
  m_shape = tt;
}

name_is_not_gone : {P : Type 0} (q : PureTerm) → named q ≡ gone → P
name_is_not_gone q is = absurd (cc)

shape_is_not_gone : {P : Type 0} → shape ≡ gone → P
shape_is_not_gone is = absurd (cc)

kept_records : OfRecords (kept_reading Record)
kept_records = record {
  r_elements = λ ts is. any_term (to_list ts);
  r_null = tt;
  n_name = λ q t. (refl, λ is. name_is_not_gone q is);
  n_list = λ ts. (refl, λ is. shape_is_not_gone is);
  n_gone = (refl, λ is. refl);
  m_name = λ q. refl;
  m_shape = refl;
}

missed_records : OfRecords (missed_reading Record)
missed_records = record {
  r_elements = λ ts is. any_term (to_list ts);
  r_null = tt;
  n_name = λ q t. tt;
  n_list = λ ts. tt;
  n_gone = tt;
  m_name = λ q. refl;
  m_shape = refl;
}

-- where the names of `new` may be a list, their form is among those that may be needed
formed_if : (d : PureTerm) (b : Bool) → allows (known_kind d) Kind.List ≡ b → (allows (known_kind d) Kind.List ≡ false) ⊎ IsAmong d (if b then d ∷ [] else [])
formed_if d true is = inr (inl refl)
formed_if d false is = inl is

own_form : (given : List PureTerm) (fresh : Option Var) (cs : List PureChunk) (o : Option RecordAction) (args : List PureTerm) → FormOf (own_reading (asked_by o args, formed_by o args) given fresh cs) o args
own_form given fresh cs (Some RecordAction.New) (d ∷ []) = λ no_list no_literal. ⊎_elim inl (λ among. inr (inl among, no_list, no_literal)) (formed_if d _ refl)
own_form given fresh cs (Some RecordAction.New) [] = tt
own_form given fresh cs (Some RecordAction.New) (d ∷ e ∷ more) = tt
own_form given fresh cs (Some RecordAction.Lookup) args = tt
own_form given fresh cs (Some RecordAction.Mutate) args = tt
own_form given fresh cs (Some RecordAction.Dispose) args = tt
own_form given fresh cs None args = tt

-- ---- what is kept, and what is missed

module _ (o : Option RecordAction) (fresh : Option Var) (args : List PureTerm) (cs : List PureChunk) where
  pub table_keeps : AreKept Record cs → Each (λ b. AreKept Record b.state) (table o fresh args cs)
  table_keeps kept =
      each_to (Shaped (kept_reading Record)) (λ b. AreKept Record b.state) (table o fresh args cs)
      (λ b fine. each_to (IsFine (kept_reading Record)) (IsKept Record) b.state (λ c is. record { of_memory = is.holds.0; gone_is_true = is.holds.1 }) fine.state)
      (table_fine (kept_reading Record) kept_records cs (loose_sides AnyAtom (λ t. tt) (λ t. tt) (KeptAt Record) (IsSubOf Record) cs)
      (loose_state AnyAtom (λ t. tt) (λ t. tt) (KeptAt Record) (IsSubOf Record) cs (each_to (IsKept Record) (λ c. KeptAt Record c.sub c.val) cs (λ c is. (is.of_memory, is.gone_is_true)) kept))
      (loose_forms AnyAtom (λ t. tt) (λ t. tt) (KeptAt Record) (IsSubOf Record) (λ t. tt) cs) o fresh args (λ x is. tt) (any_term (asked_by o args)) (any_term args)
      (form_given (kept_reading Record) o args (λ d new e no_list no_literal. inr tt)))

  pub table_misses : Each (λ b. MissesItsOwn Record b.result) (table o fresh args cs)
  table_misses =
      each_to (Shaped (missed_reading Record)) (λ b. MissesItsOwn Record b.result) (table o fresh args cs) (λ b fine. missed_own Record b.result fine.result)
      (table_fine (missed_reading Record) missed_records cs (loose_sides AnyAtom (λ t. tt) (λ t. tt) (λ s t. ⊤) (IsSubOf Record) cs)
      (loose_state AnyAtom (λ t. tt) (λ t. tt) (λ s t. ⊤) (IsSubOf Record) cs (each_every (λ c. ⊤) (λ c. tt) cs))
      (loose_forms AnyAtom (λ t. tt) (λ t. tt) (λ s t. ⊤) (IsSubOf Record) (λ t. tt) cs) o fresh args (λ x is. tt) (any_term (asked_by o args)) (any_term args)
      (form_given (missed_reading Record) o args (λ d new e no_list no_literal. inr tt)))

-- ---- cover and exactness

-- an action that records don't have fails
module _ (action : List ℕ) (fresh : Option Var) (args : List PureTerm) (cs : List PureChunk) (is_none : action_of action ≡ None) where
  unknown_is : (vars : List Sort) (v args' : List PureValue) (h : Heap) → Serves (StandFor Record) terms_of vars v fresh args cs args' h → IsRight Record v (record_actions.act action (fresh_symbol v fresh) args' h) (unknown_action cs)
  unknown_is vars v args' h serves =
      fails_always Record vars v h cs serves.proper serves.has_heap
      (record_actions.act action (fresh_symbol v fresh) args' h) Failure.Action (ap (λ o. act_of o (fresh_symbol v fresh) args' h) is_none)

  unknown_right : AreRight action fresh args cs (unknown_action cs)
  unknown_right = record {
    cover = λ vars v args' h serves. let right = unknown_is vars v args' h serves in covered Record v (record_actions.act action (fresh_symbol v fresh) args' h) (unknown_action cs) right.exact right.taken;
    exact = λ vars v args' h serves. (unknown_is vars v args' h serves).exact;
  }

right_by : (op : RecordAction) (action : List ℕ) (fresh : Option Var) (args : List PureTerm) (cs : List PureChunk) → action_of action ≡ Some op → MayBeAsked record_actions action fresh args (terms_of cs) → AreRight action fresh args cs (branches_by op fresh args cs)
right_by RecordAction.New action fresh args cs is asked = new_is_right action fresh args cs is asked
right_by RecordAction.Lookup action fresh args cs is asked = lookup_is_right action fresh args cs is asked
right_by RecordAction.Mutate action fresh args cs is asked = mutate_is_right action fresh args cs is asked
right_by RecordAction.Dispose action fresh args cs is asked = dispose_is_right action fresh args cs is asked

table_right : (o : Option RecordAction) (action : List ℕ) (fresh : Option Var) (args : List PureTerm) (cs : List PureChunk) → action_of action ≡ o → MayBeAsked record_actions action fresh args (terms_of cs) → AreRight action fresh args cs (table o fresh args cs)
table_right None action fresh args cs is asked = unknown_right action fresh args cs is
table_right (Some op) action fresh args cs is asked = right_by op action fresh args cs is asked

-- ---- the laws

module _ (o : Option RecordAction) (action : List ℕ) (fresh : Option Var) (args : List PureTerm) (cs : List PureChunk) where
  abbrev given_terms : List PureTerm
  given_terms = args ++ all_of (terms_of cs)

  abbrev asks_of : List PureTerm × List PureTerm
  asks_of = (asked_by o args, formed_by o args)

  -- a fresh variable is over the table
  fresh_over : (vars : List Sort) (f : Option Var) → IsFreshOver vars f → (x : Var) → f ≡ Some x → IsOver vars (variable x)
  fresh_over vars None is x e = not_none e
  fresh_over vars (Some y) is x e = subst (λ z. IsFreshOver vars z) e is

  over_shaped : (vars : List Sort) → AreEachOver vars given_terms → IsFreshOver vars fresh → Each (Shaped (over_reading vars)) (table o fresh args cs)
  over_shaped vars over is_fresh =
      let over_args = each_left (IsOver vars) args (all_of (terms_of cs)) over in
      let over_cs = each_right (IsOver vars) args (all_of (terms_of cs)) over in
      table_fine (over_reading vars) (over_records vars) cs (over_sides vars cs over_cs) (over_state vars cs over_cs) (over_forms vars cs over_cs) o fresh args (fresh_over vars fresh is_fresh)
      (each_asked (IsOver vars) o args over_args) over_args
      (form_given (over_reading vars) o args (λ d new e no_list no_literal. inr (subst (Each (IsOver vars)) e over_args).0))

  own_shaped : Each (Shaped (own_reading asks_of given_terms fresh cs)) (table o fresh args cs)
  own_shaped =
      table_fine (own_reading asks_of given_terms fresh cs) (own_records asks_of given_terms fresh cs) cs (own_sides asks_of given_terms fresh cs)
      (made_state asks_of given_terms fresh cs (each_right (λ t. IsAmong t given_terms) args (all_of (terms_of cs)) (each_is_among given_terms))) (own_forms asks_of given_terms fresh cs) o fresh args
      (λ x e. inr (inr (x, (e, refl)))) (listed_itself (asked_by o args))
      (each_to (λ t. IsAmong t given_terms) (IsMadeOf given_terms fresh) args (λ t among. made_of_given given_terms fresh t (is_given among)) (each_left (λ t. IsAmong t given_terms) args (all_of (terms_of cs)) (each_is_among given_terms)))
      (own_form given_terms fresh cs o args)

  module _ (is : action_of action ≡ o) (asked : MayBeAsked record_actions action fresh args (terms_of cs)) where
    pub table_law : ActLaw (StandFor Record) terms_of record_actions action fresh args asks_of cs (table o fresh args cs)
    table_law = record {
      cover = (table_right o action fresh args cs is asked).cover;
      exact = (table_right o action fresh args cs is asked).exact;
      variables = λ vars over is_fresh. shaped_named (table o fresh args cs) vars (over_shaped vars over is_fresh);
      own = shaped_conds (table o fresh args cs) (own_reading asks_of given_terms fresh cs) own_shaped;
      made = shaped_terms (table o fresh args cs) (own_reading asks_of given_terms fresh cs) own_shaped;
    }

    plain_shaped : (low high : ℤ) → IsPlainState Record (terms_of cs) low high → Each (IsPlainWithin low high) args → Each (Shaped (plain_reading Record low high)) (table o fresh args cs)
    plain_shaped low high plain plain_args =
        table_fine (plain_reading Record low high) (plain_records low high) cs (plain_sides Record low high cs plain) (plain_state Record low high cs plain) (plain_forms Record low high cs plain) o fresh args
        (λ x e. plain_fresh low high x (asked.of_sort x e)) (each_asked (IsPlainWithin low high) o args plain_args) plain_args
        (form_given (plain_reading Record low high) o args (λ d new e no_list no_literal. inl (no_list_kind low high d (subst (Each (IsPlainWithin low high)) e plain_args).0 no_list)))

    pub table_plain : ActsPlainly (λ ds low high. IsPlainState Record (terms_of ds) low high) action args cs (table o fresh args cs)
    table_plain low high plain arguments =
        each_to (Shaped (plain_reading Record low high)) _ (table o fresh args cs)
        (λ b fine. let state = state_plain Record low high b.state fine.state in (
          each_to (IsDecidedWithin low high) (IsDecidedWithin (low -ℤ growth) (high +ℤ growth)) b.conds (decided_wider low high) fine.conds,
          (
            record { plain = each_to (IsPlainWithin low high) (IsPlainWithin (low -ℤ growth) (high +ℤ growth)) (all_of (terms_of b.state)) (plain_wider low high) state.plain; described = state.described },
            each_to (IsPlainWithin low high) (IsPlainWithin (low -ℤ growth) (high +ℤ growth)) (result_terms b.result) (plain_wider low high) (fine_terms (plain_reading Record low high) b.result fine.result),
          ),
        ))
        (plain_shaped low high plain arguments.plain)
