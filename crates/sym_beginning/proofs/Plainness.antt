-- Plain beginnings.
use Rattle.std.proofs.Common.{◌≡◌, ◌↔◌, ⊎_elim, inr, ℕ, ◌+◌, ◌^◌, ◌<◌, ◌≤◌, ℤ, pos, neg_ℤ, ◌≤ℤ◌, arith, List, [], ◌∷◌, length, false, Option, Some, None, IsTrue, refl, sym, ap, subst, ◌∙◌, length-append, true≢false}
use Rattle.std.specs.Option.{option_or}
use Rattle.gil_values.specs.Pure.{PureValue, list, no_values}
use Rattle.gil_syntax.specs.declared.assertions.Param.{Param}
use Rattle.gil_syntax.specs.Pure.{PureProc, PureSpec}
use Rattle.gil_syntax.specs.Valid.{param_names, is_among}
use Rattle.mem_model.specs.declared.keys.MemoryName.{MemoryName}
use Rattle.mem_model.specs.Heaps.{Heap}
use Rattle.assert_logic.specs.Modes.{is_variable_of}
use Rattle.checked_runs.proofs.Stores.{undeclared_fits}
use Rattle.pure_terms.specs.declared.variables.Sort.{Sort}
use Rattle.pure_terms.specs.Kinds.{has_sort}
use Rattle.pure_terms.specs.Pure.{PureTerm, PureAtom, variable}
use Rattle.sym_evaluation.specs.Meaning.{IsStoreOver}
use Rattle.sym_evaluation.specs.Plainly.{IsPlain, IsPlainStore, text_bound}
use Rattle.sym_evaluation.specs.Pure.{PureStore, term_at}
use Rattle.sym_model.specs.Laws.{IsDecidedWithin}
use Rattle.sym_model.specs.Lists.{Each}
use Rattle.sym_model.specs.Plain.{IsPlainState}
use Rattle.sym_model.specs.Terms.{StateTerms, all_of}
use Rattle.sym_model.proofs.ListLaws.{not_none, each_to}
use Rattle.sym_model.proofs.Wider.{plain_wider}
use Rattle.sym_states.specs.Naming.{PureNamed, IsVariableFor, IsNaming}
use Rattle.sym_paths.specs.Beginning.{BeginningsStand}
use Rattle.sym_paths.specs.Steps.{IsPlainPath}
use Rattle.sym_paths.specs.PlainLaws.{IsPlainOver}
use Rattle.sym_paths.specs.Plain.{IsPlainItem}
use Rattle.sym_states.specs.Plainly.{IsPlainWith}
use Rattle.sym_states.specs.Pure.{PureState}
use Rattle.sym_states.proofs.Plainness.{plain_up}
use Rattle.sym_beginning.specs.Beginning.{PureStart, PureBeginnings}
use Rattle.sym_beginning.specs.Entering.{AreTermsAt, PureEntryTerms, Enters}
use Rattle.sym_beginning.specs.Plainly.{TakesNoList, HasPlainSorts, IsPlainEntry, first_bound, ArePlainBeginnings, BeginsPlainlyWith}
use Rattle.sym_beginning.specs.Starting.{StartsFrom, no_beginnings}
use Rattle.sym_beginning.proofs.EntryLaws.{is_true_or, names_length}
use Rattle.sym_beginning.proofs.StartLaws.{each_with_pair, each_both, still_table}

-- ---- variables

plain_sort : (number : ℕ) (sort : Sort) → has_sort sort (list no_values) ≡ false → IsPlain 0 (variable (record { number = number; sort = sort }))
plain_sort number Sort.Int none = (refl, refl)
plain_sort number Sort.Bool none = (refl, refl)
plain_sort number Sort.Str none = (refl, refl)
plain_sort number Sort.Sym none = (refl, refl)
plain_sort number Sort.Fresh none = (refl, refl)
plain_sort number Sort.List none = absurd (true≢false none)
plain_sort number Sort.Any none = absurd (true≢false none)

plain_variable : (ps : List Param) (x : List ℕ) (t : PureTerm) → IsVariableFor ps x t → TakesNoList ps x → IsPlain 0 t
plain_variable ps x t is none = subst (IsPlain 0) (sym is.is) (plain_sort is.number is.sort (is.values (list no_values) ∙ none))

-- the names of an empty store
module _ (ps : List Param) (xs : List (List ℕ)) (vars : List Sort) (named : PureNamed) (naming : IsNaming ps xs vars [] named) where
  plain_names : ((x : List ℕ) → IsTrue (is_among xs x) → TakesNoList ps x) → IsPlainStore 0 named.store
  plain_names takes x t at =
      ⊎_elim (λ none. not_none none)
      (λ (is : IsVariableFor ps x t).
      ⊎_elim (λ among. plain_variable ps x t is (takes x among)) (λ other. not_none (sym (naming.others_stay x other) ∙ at)) (is_true_or (is_among xs x)))
      (naming.variables x t at)

-- what takes no list is declared
declared : (ps : List Param) (x : List ℕ) → TakesNoList ps x → IsTrue (is_among (param_names ps) x)
declared ps x none = ⊎_elim (λ among. among) (λ other. absurd (true≢false (sym (undeclared_fits ps x (list no_values) other) ∙ none))) (is_true_or (is_among (param_names ps) x))

plain_terms : (bs : PureStore) (xs : List (List ℕ)) (ts : List PureTerm) → AreTermsAt bs xs ts → IsPlainStore 0 bs → Each (IsPlain 0) ts
plain_terms bs [] [] are plain = tt
plain_terms bs [] (t ∷ ts) are plain = absurd are
plain_terms bs (x ∷ xs) [] are plain = absurd are
plain_terms bs (x ∷ xs) (t ∷ ts) are plain = (plain x t are.0, plain_terms bs xs ts are.1 plain)

plain_beside : (bs cs ds : PureStore) → ((x : List ℕ) → term_at ds x ≡ option_or (term_at bs x) (term_at cs x)) → IsPlainStore 0 bs → IsPlainStore 0 cs → IsPlainStore 0 ds
plain_beside bs cs ds are first second x t at = by (term_at bs x) refl (sym (are x) ∙ at)
  where
    by : (o : Option PureTerm) → term_at bs x ≡ o → option_or o (term_at cs x) ≡ Some t → IsPlain 0 t
    by (Some r) there is = first x t (there ∙ is)
    by None there is = second x t is

module _ (s : PureSpec) (a : PureNamed) (params : IsNaming s.params (param_names s.params) [] [] a) (logical : List (List ℕ)) (are_logical : (x : List ℕ) → is_among logical x ≡ is_variable_of s x)
    (b : PureNamed) (variables_named : IsNaming s.logicals logical a.vars [] b) (ts : List PureTerm) (terms : AreTermsAt a.store (param_names s.params) ts) (store : PureStore)
    (beside : (x : List ℕ) → term_at store x ≡ option_or (term_at a.store x) (term_at b.store x)) (sorts : HasPlainSorts s) where
  few_params : length a.vars ≤ length s.params
  few_params =
      let less = params.few (param_names s.params) (λ x among. inr among) in
      let grown = ap length params.grows in
      let names = names_length s.params in
      omega (arith, less, grown, names)

  few_logicals : length variables_named.more ≤ length s.logicals
  few_logicals =
      let less = variables_named.few (param_names s.logicals) (λ x among. inr (declared s.logicals x (sorts.variables x (sym (are_logical x) ∙ among)))) in
      let names = names_length s.logicals in
      omega (arith, less, names)

  few_both : length b.vars ≤ 2 ^ 39
  few_both =
      let first = few_params in
      let second = few_logicals in
      let few = sorts.few in
      let grown = ap length variables_named.grows ∙ length-append a.vars variables_named.more in
      omega (arith, first, second, few, grown)

  pub plain_entry : IsPlainEntry (record { vars = b.vars; args = ts; variables = b.store; store = store })
  plain_entry =
      let first = plain_names s.params (param_names s.params) [] a params sorts.params in
      let second = plain_names s.logicals logical a.vars b variables_named (λ x among. sorts.variables x (sym (are_logical x) ∙ among)) in
      record {
        args = plain_terms a.store (param_names s.params) ts terms first;
        variables = second;
        store = plain_beside a.store b.store store beside first second;
        few_variables = few_both;
      }

-- ---- beginnings

text_is_small : 0 + text_bound < 2 ^ 127
text_is_small = omega arith

text_is_text : 0 + text_bound ≤ text_bound
text_is_text = omega arith

module _ {S : Type 0} (memory : MemoryName) (stands : S → List PureValue → Heap → Type 0) (terms : S → StateTerms) (kept : S → Type 0) (plain : S → ℤ → ℤ → Type 0)
    (said : (m : S) (low high : ℤ) → plain m low high ↔ IsPlainState memory (terms m) low high) (paths : BeginningsStand stands terms plain) (q : PureProc) (s : PureSpec)
    (e : PureEntryTerms) (enters : Enters s e) (entry : IsPlainEntry e) (items : Each IsPlainItem s.pre) (b : PureBeginnings S) (begins : BeginsPlainlyWith memory stands terms kept q s.pre e b) where
  abbrev bound : ℕ
  bound = first_bound s

  first_plain : IsPlainWith memory terms text_bound begins.first
  first_plain = record {
    decided = subst (λ (cs : List PureAtom). Each (IsDecidedWithin (neg_ℤ (pos text_bound)) (pos text_bound)) cs) (sym begins.is_first.conds) tt;
    plain_memory = subst (λ (ts : StateTerms). IsPlainState memory ts (neg_ℤ (pos text_bound)) (pos text_bound)) (sym begins.is_first.no_terms) (record { plain = tt; described = tt });
    no_facts = begins.is_first.facts;
  }

  store_plain : IsPlainOver begins.first.vars 0 e.store
  store_plain = record {
    over = subst (λ (vars : List Sort). IsStoreOver vars e.store) (sym begins.is_first.table) enters.store_over;
    plain = entry.store;
    small = text_is_small;
  }

  tables : Each (λ r. r.vars ≡ e.vars) begins.states
  tables =
      each_to (λ r. r.vars ≡ begins.first.vars) (λ r. r.vars ≡ e.vars) begins.states (λ r same. same ∙ begins.is_first.table)
      (still_table memory stands terms kept e.store begins.first s.pre begins.states begins.origin)

  abbrev IsFine : PureState S → Type 0
  IsFine r = (r.vars ≡ e.vars) × IsPlainWith memory terms bound r

  states_fine : Each IsFine begins.states
  states_fine =
      each_both (λ r. r.vars ≡ e.vars) (IsPlainWith memory terms bound) IsFine begins.states (λ r table fine. (table, fine)) tables
      (begins.plain text_bound 0 items store_plain text_is_text first_plain)

  memory_plain : (m : S) → IsPlainState memory (terms m) (neg_ℤ (pos bound)) (pos bound) → (low high : ℤ) → low ≤ℤ neg_ℤ (pos bound) → pos bound ≤ℤ high → plain m low high
  memory_plain m is low high below above =
      (said m low high).1 (record {
        plain = each_to (IsPlain bound) _ (all_of (terms m)) (plain_wider (neg_ℤ (pos bound)) (pos bound) low high below above) is.plain;
        described = is.described;
      })

  start_plain : (r : PureState S) (st : PureStart S) → StartsFrom q e.args r st → IsFine r → IsPlainPath plain bound st.path × (st.facts ≡ [])
  start_plain r st from (table, fine) = (
    paths.plain_path q e.args r.vars r.conds r.memory st.path bound from.begins (each_to (IsPlain 0) (IsPlain bound) e.args (plain_up 0 bound (omega arith)) entry.args) fine.decided
        (memory_plain r.memory fine.plain_memory) (subst (λ (vars : List Sort). length vars ≤ 2 ^ 39) (sym table) entry.few_variables),
    from.facts ∙ fine.no_facts,
  )

  pub plain_beginnings : ArePlainBeginnings plain s b
  plain_beginnings = record {
    args = subst (Each (IsPlain 0)) (sym begins.args) entry.args;
    variables = subst (IsPlainStore 0) (sym begins.variables) entry.variables;
    starts = each_with_pair (StartsFrom q e.args) IsFine (λ start. IsPlainPath plain bound start.path × (start.facts ≡ [])) begins.states b.starts begins.starts states_fine start_plain;
  }

-- none begins anywhere
pub none_begin_plainly : {S : Type 0} (plain : S → ℤ → ℤ → Type 0) (s : PureSpec) → ArePlainBeginnings plain s no_beginnings
none_begin_plainly plain s = record { args = tt; variables = λ x t at. not_none at; starts = tt }
